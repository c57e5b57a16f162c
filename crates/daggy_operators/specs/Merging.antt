-- Two graphs merged into one: the nodes of both, and first the edges of one, then those of the other.
use Rattle.std.specs.Prelude.{◌≡◌, ℕ, ◌+◌, ◌<◌, Option, Some, None, length, map, option_copied}
use Rattle.std.specs.Option.{option_map}
use Rattle.std.specs.Borrow.{Bor}
use Rattle.daggy_base.specs.Graph.{Graph, node_weight, edge_at, ends_of}
use Rattle.daggy_base.specs.FromSlots.{graph_of_slots}
use Rattle.daggy_components.specs.Cycles.{IsCycle}
use Rattle.daggy_operators.specs.declared.merging.MergeError.{MergeError}
use Rattle.daggy_operators.specs.declared.merging.MergeError.TheVariants.{Cycle, Full, Memory}

-- the first value, or the second if there is no first
abbrev pub either : {A : Type 0} → Option A → Option A → Option A
either (Some x) y = Some x
either None y = y

-- h has the nodes of both, with the weight of a where a has the node; the edges of a at the same indices, and those of b
-- after all edge slots of a; each list is in descending index order
pub record IsMerged {N E F G : Type 0} (a : Graph N E) (b : Graph N F) (h : Graph (Bor N) G) : Type 0 where
  pub nodes : (n : ℕ) → option_copied (node_weight h n) ≡ either (node_weight a n) (node_weight b n)
  pub first : (e : ℕ) → e < length a.edges → option_map ends_of (edge_at h e) ≡ option_map ends_of (edge_at a e)
  pub second : (e : ℕ) → option_map ends_of (edge_at h (length a.edges + e)) ≡ option_map ends_of (edge_at b e)
  pub lists : h ≡ graph_of_slots h.nodes h.edges

-- an error with a cycle has one of the merged graph
abbrev pub HasMergedCycle : {I N E F : Type 0} → (I → ℕ) → Graph N E → Graph N F → MergeError I → Type 0
HasMergedCycle {I} {N} {E} {F} number a b (Cycle cycle) =
    (h : Graph (Bor N) (Unit {0})) × IsMerged a b h × IsCycle h (map number cycle.items)
HasMergedCycle number a b Full = Unit {0}
HasMergedCycle number a b Memory = Unit {0}
