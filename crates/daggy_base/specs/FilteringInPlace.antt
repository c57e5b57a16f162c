-- The graph of the nodes and edges that are kept, each at its index.
use Rattle.std.specs.Prelude.{◌≡◌, ℕ, ◌+◌, Option, Some, None, is_some, List, [], ◌∷◌, map, take, if◌then◌else◌}
use Rattle.std.specs.Option.{option_map}
use Rattle.std.specs.Borrow.{Bor}
use Rattle.daggy_base.specs.Graph.{Graph, Edge, slot, node_bound, edge_bound}
use Rattle.daggy_base.specs.Mapping.{CalledAt, weight_in, with_weight}
use Rattle.daggy_base.specs.FromSlots.{graph_of_slots}

module _ {F I W V : Type 0} (step : F → I → Bor W → Option V → F → Type 0) (of : ℕ → I) where
  -- f was called for each existing slot in turn, from the index i on, and new has what it returned; a slot for which it
  -- returned nothing is vacant
  abbrev pub KeepsSlots : {A B : Type 0}
      → (weight : A → W) (with : A → V → B) → F → ℕ → List (Option A) → List (Option B) → Type 0
  KeepsSlots weight with f i [] new = new ≡ []
  KeepsSlots {A} {B} weight with f i (None ∷ xs) new =
      (later : List (Option B)) × (new ≡ None ∷ later) × KeepsSlots weight with f (i + 1) xs later
  KeepsSlots {A} {B} weight with f i (Some x ∷ xs) new =
      (r : Option V) × (next : F) × CalledAt step of f i (weight x) r next × (later : List (Option B))
      × (new ≡ option_map (with x) r ∷ later) × KeepsSlots weight with next (i + 1) xs later

-- the edge, if both its endpoints exist
abbrev pub if_ends_exist : {N E : Type 0} → List (Option N) → Option (Edge E) → Option (Edge E)
if_ends_exist nodes None = None
if_ends_exist nodes (Some x) =
    if is_some (slot nodes x.parent) then (if is_some (slot nodes x.child) then Some x else None) else None

module _ {N E V W F G I : Type 0} (of : ℕ → I) (step_f : F → I → Bor N → Option V → F → Type 0)
    (step_g : G → I → Bor E → Option W → G → Type 0) where
  -- new has the nodes that f keeps, and of the edges between them those that g keeps, all in their old slots
  pub record IsFilteredInPlace (f : F) (g : G) (old : Graph N E) (new : Graph V W) : Type 0 where
    pub nodes : List (Option V)
    pub edges : List (Option (Edge W))
    pub keeps_nodes : KeepsSlots step_f of (λ w. w) (λ w v. v) f 0 (take (node_bound old) old.nodes) nodes
    pub keeps_edges : KeepsSlots step_g of weight_in with_weight g 0
        (map (if_ends_exist nodes) (take (edge_bound old) old.edges)) edges
    pub is : new ≡ graph_of_slots nodes edges
