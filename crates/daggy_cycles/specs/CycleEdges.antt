-- The edges of a cycle.
use Rattle.std.specs.Prelude.{◌≡◌, ℕ, ◌+◌, ◌<◌, List, Some, length, slice_index}
use Rattle.daggy_base.specs.Graph.{Graph, edge_at}

-- the edge e leads from u to v
abbrev pub Leads : {N E : Type 0} → Graph N E → (e u v : ℕ) → Type 0
Leads {N} {E} g e u v = (w : E) × (edge_at g e ≡ Some (record { parent = u; child = v; weight = w }))

-- an edge from each node of a cycle to the next, and one from the last to the first
pub record AreEdgesOf {N E : Type 0} (g : Graph N E) (cycle edges : List ℕ) : Type 0 where
  pub as_many : length edges ≡ length cycle
  pub on : (k : ℕ) → k + 1 < length cycle → Leads g (slice_index edges k) (slice_index cycle k) (slice_index cycle (k + 1))
  pub back : (k : ℕ) → k + 1 ≡ length cycle → Leads g (slice_index edges k) (slice_index cycle k) (slice_index cycle 0)
