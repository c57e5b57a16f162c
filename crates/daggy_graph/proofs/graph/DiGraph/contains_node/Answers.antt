use Rattle.std.proofs.Common.{arith}
use Rattle.daggy_base.proofs.MappedSlots.{holds_iff}
use Rattle.daggy_graph.proofs.graph.DiGraph.contains_node.Goals as goal

pub returns : goal.returns
returns g c =
    rw (← c.self.view_is)
    (holds_iff (λ x. x.weight) c.self.inside.nodes.items _ _ _ c.index.ensures.value (omega (arith, c.len.ensures)))
