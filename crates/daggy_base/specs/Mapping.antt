-- The graph after its weights are mapped.
use Rattle.std.specs.Prelude.{◌≡◌, ℕ, ◌+◌, Option, Some, None, List, [], ◌∷◌}
use Rattle.std.specs.Borrow.{Bor}
use Rattle.daggy_base.specs.Graph.{Graph, Edge}

-- step says what a call of a closure may return and leave, and of is the index with a number
module _ {F I W V : Type 0} (step : F → I → Bor W → V → F → Type 0) (of : ℕ → I) where
  -- f was called with an index and a `&` to the weight w, returned v, and turned into next
  pub record CalledAt (f : F) (i : ℕ) (w : W) (v : V) (next : F) : Type 0 where
    pub shown : Bor W
    pub shows : shown.now ≡ w
    pub called : step f (of i) shown v next

  -- f was called for each occupied slot in turn, from the index i on, and new has what it returned
  abbrev pub MapsSlots : {A B : Type 0}
      → (weight : A → W) (with : A → V → B) → F → ℕ → List (Option A) → List (Option B) → Type 0
  MapsSlots weight with f i [] new = new ≡ []
  MapsSlots {A} {B} weight with f i (None ∷ xs) new =
      (later : List (Option B)) × (new ≡ None ∷ later) × MapsSlots weight with f (i + 1) xs later
  MapsSlots {A} {B} weight with f i (Some x ∷ xs) new =
      (v : V) × (next : F) × CalledAt f i (weight x) v next × (later : List (Option B))
      × (new ≡ Some (with x v) ∷ later) × MapsSlots weight with next (i + 1) xs later

-- the weight of an edge
abbrev pub weight_in : {E : Type 0} → Edge E → E
weight_in x = x.weight

-- the edge with another weight
abbrev pub with_weight : {E V : Type 0} → Edge E → V → Edge V
with_weight x v = record { parent = x.parent; child = x.child; weight = v }

module _ {N E V W F G I : Type 0} (of : ℕ → I) (step_f : F → I → Bor N → V → F → Type 0)
    (step_g : G → I → Bor E → W → G → Type 0) where
  -- new has the shape of old and the weights that f and g returned, called in ascending index order
  pub record IsMapped (f : F) (g : G) (old : Graph N E) (new : Graph V W) : Type 0 where
    pub nodes : MapsSlots step_f of (λ w. w) (λ w v. v) f 0 old.nodes new.nodes
    pub edges : MapsSlots step_g of weight_in with_weight g 0 old.edges new.edges
    pub out_lists : new.out_lists ≡ old.out_lists
    pub in_lists : new.in_lists ≡ old.in_lists
    pub vacant_nodes : new.vacant_nodes ≡ old.vacant_nodes
    pub vacant_edges : new.vacant_edges ≡ old.vacant_edges
