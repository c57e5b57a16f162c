use Rattle.std.proofs.Common.{◌≡◌, ◌⊎◌, ◌++◌, ℕ, List, map, length}
use Rattle.daggy_base.specs.declared.index.Direction.TheVariants.{Outgoing}
use Rattle.daggy_base.proofs.Lists.{Mem}
use Rattle.daggy_dag.specs.Walks.{rest_of_walk}
use Rattle.daggy_computed.specs.Cells.{cells, IsStaleAt}
use Rattle.daggy_computed.specs.Marking.{far_nodes, all_marked, children_of}
use Rattle.daggy_computed.proofs.turn.mark_children.Given as goal

abbrev pub invariant-children : goal.invariant-children
invariant-children g l =
    let graph = g.S.EdgeSource.graph l.store in
    let number = g.Ix.IndexType.number in
    let left = far_nodes Outgoing graph (rest_of_walk Outgoing graph (number l.cursor)) in
    let children = children_of graph (number l.fn.n) in
    record {
      marked : all_marked (cells graph l.entries.items) left ≡ all_marked (cells graph l.fn.entries.items) children;
      among : (m : ℕ) → Mem m left → Mem m children;
      stale : (m : ℕ) → IsStaleAt l.entries.items m → Mem m children ⊎ IsStaleAt l.fn.entries.items m;
      len : l.entries.len ≡ l.fn.entries.len;
      put : (more : List _) × (l.queue.nodes ≡ l.fn.queue.nodes ++ more);
      all : (m : ℕ) → Mem m children → Mem m (map number l.queue.nodes) ⊎ Mem m left;
      slots : l.queue.slots ≡ l.fn.queue.slots;
    }

abbrev pub decreases-children : goal.decreases-children
decreases-children g l = length (rest_of_walk Outgoing (g.S.EdgeSource.graph l.store) (g.Ix.IndexType.number l.cursor))
