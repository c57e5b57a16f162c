use Rattle.std.proofs.Common.{length, ap, ◌∙◌, arith, rules}
use Rattle.daggy_base.specs.Graph.{node_count}
use Rattle.daggy_base.specs.Adding.{with_node}
use Rattle.daggy_graph.specs.Stored.{stored_graph}
use Rattle.daggy_graph.proofs.StoredLemmas.{stored_is, Stores-itself}
use Rattle.daggy_cells.proofs.States.{state_changed}
use Rattle.daggy_base.proofs.MappedSlots.{count-slots}
use Rattle.daggy_graph.proofs.graph.DiGraph.add_node.Goals as goal

pub put_node-n-requires-clause-index_left : goal.put_node-n-requires-clause-index_left
put_node-n-requires-clause-index_left g c =
    omega (
      arith,
      c.requires,
      ap (λ s. node_count s.graph) c.self.view_is,
      count-slots (λ x. x.weight) c.self.inside.nodes.items,
      ap length c.reserve.ensures.items,
    )

pub put_node-n-requires-clause-capacity : goal.put_node-n-requires-clause-capacity
put_node-n-requires-clause-capacity g c = search rules

pub invariant_of-self-2 : goal.invariant_of-self-2
invariant_of-self-2 g c = Stores-itself _ _ _ _ c.put_node-n.ensures.stored

pub returns-clause-added : goal.returns-clause-added
returns-clause-added g c =
    state_changed _ _ _ _ (λ h. with_node h c.args.weight) c.self.view_is
    (stored_is _ _ _ _ c.put_node-n.ensures.stored
    ∙ ap (λ l. with_node (stored_graph l c.self.inside.edges.items) c.args.weight) c.reserve.ensures.items)
