-- What is known while edges are gathered from a graph and from a list of pairs.
use Rattle.std.specs.Prelude.{◌≡◌, ℕ, ◌<◌, Option, Some, List}
use Rattle.daggy_base.specs.Graph.{Graph, HasNode, slot}
use Rattle.daggy_base.specs.FromSlots.{edges_by}
use Rattle.daggy_cycles.specs.CycleEdges.{Leads}

-- some slot holds an edge from u to v
abbrev pub IsLinked : {I F : Type 0} → (number : I → ℕ) → List (Option (I × I × F)) → (u v : ℕ) → Type 0
IsLinked {I} {F} number slots u v =
    (e : ℕ) × (w : F) × (slot (edges_by number slots) e ≡ Some (record { parent = u; child = v; weight = w }))

-- the pair is that of u and v, and both exist
pub record IsPair {N E : Type 0} (g : Graph N E) (a b u v : ℕ) : Type 0 where
  pub parent : HasNode g u
  pub child : HasNode g v
  pub from : a ≡ u
  pub to : b ≡ v

-- an edge with an index below i leads from u to v
abbrev pub AreJoinedBelow : {N E : Type 0} → Graph N E → (i u v : ℕ) → Type 0
AreJoinedBelow g i u v = (e : ℕ) × (e < i) × Leads g e u v
