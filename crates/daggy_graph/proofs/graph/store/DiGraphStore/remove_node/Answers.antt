use Rattle.std.proofs.Common.{arith}
use Rattle.daggy_base.proofs.FullSlots.{node_bound_full}
use Rattle.daggy_graph.proofs.graph.store.DiGraphStore.remove_node.Goals as goal

pub returns-clause-bound : goal.returns-clause-bound
returns-clause-bound g c =
    let before = c.node_count-compact.ensures in
    let after = c.node_count-still_compact.ensures in
    omega (
      arith,
      node_bound_full _ _ before.well_formed before.compact.nodes,
      node_bound_full _ _ after.well_formed after.compact.nodes,
      c.remove_node-weight.ensures.no_more_slots,
    )
