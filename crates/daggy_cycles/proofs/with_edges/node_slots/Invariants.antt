use Rattle.std.proofs.Common.{◌≡◌, ℕ, ◌<◌, ◌↔◌, IsSome, length}
use Rattle.daggy_base.specs.Graph.{HasNode, slot}
use Rattle.daggy_cycles.proofs.with_edges.node_slots.Given as goal

abbrev pub invariant-nodes : goal.invariant-nodes
invariant-nodes g l =
    (length l.slots.items ≡ l.i)
    × ((n : ℕ) → n < l.i → IsSome (slot l.slots.items n) ↔ HasNode (g.S.EdgeSource.graph l.store) n)
