use Rattle.std.proofs.Common.{arith}
use Rattle.daggy_cells.specs.Fields.{plain}
use Rattle.daggy_base.proofs.MappedSlots.{holds_iff}
use Rattle.daggy_graph.proofs.graph.DiGraph.contains_edge_index.Goals as goal

pub returns : goal.returns
returns g c =
    rw (← c.self.view_is)
    (holds_iff plain c.self.inside.edges.items _ _ _ c.index.ensures.value (omega (arith, c.len.ensures)))
