-- The edges between two components, folded into one.
use Rattle.std.specs.Prelude.{◌≡◌, ◌≢◌, ◌⊎◌, ℕ, Option, Some, None, List, [], ◌∷◌, ◌++◌}
use Rattle.std.specs.Borrow.{Bor}
use Rattle.std.specs.List.{concat, flat_map}
use Rattle.daggy_base.specs.Graph.{Graph, Edge, slot, edge_at, out_list}
use Rattle.daggy_components.specs.Condensation.{LeadsBetween}

-- all edges in the order in which they are read: those that leave the members of the first component, then those of the
-- second, and so on, each list from its front
abbrev pub edges_read : {N E : Type 0} → Graph N E → List (List ℕ) → List ℕ
edges_read g cs = flat_map (out_list g) (concat cs)

-- post says what a call of a closure returns, and of is the index with a number
module _ {N E I W : Type 0} (post : Option W → I → Bor E → W → Type 0) (of : ℕ → I) (g : Graph N E)
    (cs : List (List ℕ)) where
  -- the closure was called with what was given, the index e and a `&` to the weight of this edge, and returned w
  pub record IsGiven (given : Option W) (e : ℕ) (w : W) : Type 0 where
    pub edge : Edge E
    pub at : edge_at g e ≡ Some edge
    pub shown : Bor E
    pub shows : shown.now ≡ edge.weight
    pub called : post given (of e) shown w

  -- The closure was called in turn with each edge of a list that leads from the component a to the component b, and each
  -- time with what it had returned before.
  abbrev pub FoldsBetween : (a b : ℕ) → List ℕ → (given result : Option W) → Type 0
  FoldsBetween a b [] given result = result ≡ given
  FoldsBetween a b (e ∷ es) given result =
      (LeadsBetween g cs e a b × (w : W) × IsGiven given e w × FoldsBetween a b es (Some w) result)
      ⊎ ((¬ LeadsBetween g cs e a b) × FoldsBetween a b es given result)

  -- one edge for each two components that edges join, with what the closure returned for the last of these
  pub record IsFolded (slots : List (Option (Edge W))) : Type 0 where
    pub folds : (i : ℕ) (x : Edge W) → slot slots i ≡ Some x
        → (x.parent ≢ x.child) × FoldsBetween x.parent x.child (edges_read g cs) None (Some x.weight)
    pub every : (e j k : ℕ) → LeadsBetween g cs e j k → j ≢ k
        → (i : ℕ) × (x : Edge W) × (slot slots i ≡ Some x) × (x.parent ≡ j) × (x.child ≡ k)
    pub single : (h i : ℕ) (x y : Edge W) → slot slots h ≡ Some x → slot slots i ≡ Some y → x.parent ≡ y.parent
        → x.child ≡ y.child → h ≡ i

  -- the closure may be called in turn with each edge between two components, and with what it returned before for those
  -- between the same two
  abbrev pub CanFold : (pre : Option W → I → Bor E → Type 0) → Type 0
  CanFold pre =
      (a b e : ℕ) (before after : List ℕ) (given : Option W) (x : Edge E) (shown : Bor E)
      → edges_read g cs ≡ before ++ e ∷ after → a ≢ b → LeadsBetween g cs e a b → FoldsBetween a b before None given
      → edge_at g e ≡ Some x → shown.now ≡ x.weight → pre given (of e) shown
