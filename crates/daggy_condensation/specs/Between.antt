-- The edges between components, each of them as an edge of the condensation.
use Rattle.std.specs.Prelude.{◌≡◌, ◌≢◌, ◌⊎◌, ℕ, ◌+◌, Option, Some, None, List, [], ◌∷◌, slice_get, Contains}
use Rattle.std.specs.Borrow.{Bor}
use Rattle.std.specs.Option.{option_map}
use Rattle.daggy_base.specs.Graph.{Graph, Edge, slot, node_weight}
use Rattle.daggy_base.specs.FromSlots.{graph_of_slots}
use Rattle.daggy_base.specs.Mapping.{CalledAt}
use Rattle.daggy_components.specs.Components.{component}
use Rattle.daggy_components.specs.Condensation.{LeadsBetween}

-- one component has both ends of an edge
abbrev pub LiesWithin : {E : Type 0} → List (List ℕ) → Edge E → Type 0
LiesWithin cs x = (k : ℕ) × Contains (component cs k) x.parent × Contains (component cs k) x.child

-- the edge leads from the component j to the component k, which is another
abbrev pub Crosses : {E : Type 0} → List (List ℕ) → Edge E → (j k : ℕ) → Type 0
Crosses cs x j k = (j ≢ k) × Contains (component cs j) x.parent × Contains (component cs k) x.child

-- an edge leads from a component to another if and only if one of the graph does
pub record JoinsComponents {N E X : Type 0} (g : Graph N E) (cs : List (List ℕ)) (slots : List (Option (Edge X)))
    : Type 0 where
  pub lead : (i : ℕ) (x : Edge X) → slot slots i ≡ Some x
      → (x.parent ≢ x.child) × (e : ℕ) × LeadsBetween g cs e x.parent x.child
  pub every : (e j k : ℕ) → LeadsBetween g cs e j k → j ≢ k
      → (i : ℕ) × (x : Edge X) × (slot slots i ≡ Some x) × (x.parent ≡ j) × (x.child ≡ k)

-- step says what a call of a closure may return and leave, and of is the index with a number
module _ {E F I W : Type 0} (step : F → I → Bor E → W → F → Type 0) (of : ℕ → I) (cs : List (List ℕ)) where
  -- f was called for each edge between two components in turn, from the index i on: new has an edge between these
  -- components for each, with what f returned
  abbrev pub KeepsBetween : F → ℕ → List (Option (Edge E)) → List (Option (Edge W)) → Type 0
  KeepsBetween f i [] new = new ≡ []
  KeepsBetween f i (None ∷ xs) new = KeepsBetween f (i + 1) xs new
  KeepsBetween f i (Some x ∷ xs) new =
      (LiesWithin cs x × KeepsBetween f (i + 1) xs new)
      ⊎ ((j k : ℕ) × Crosses cs x j k × (w : W) × (next : F) × CalledAt step of f i x.weight w next
      × (later : List (Option (Edge W))) × (new ≡ Some (record { parent = j; child = k; weight = w }) ∷ later)
      × KeepsBetween next (i + 1) xs later)

-- each component is a node, with its members
abbrev pub HasComponents : {W X : Type 0} → (members : W → List ℕ) → List (List ℕ) → Graph W X → Type 0
HasComponents members cs c = (k : ℕ) → option_map members (node_weight c k) ≡ slice_get cs k

-- each list is in descending index order, and so are the vacant slots
abbrev pub IsAsBuilt : {N E : Type 0} → Graph N E → Type 0
IsAsBuilt g = g ≡ graph_of_slots g.nodes g.edges
