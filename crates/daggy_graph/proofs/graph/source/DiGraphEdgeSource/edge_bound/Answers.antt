use Rattle.std.proofs.Common.{ap, arith}
use Rattle.daggy_base.specs.Graph.{edge_bound}
use Rattle.daggy_cells.specs.Fields.{plain}
use Rattle.daggy_base.proofs.MappedSlots.{bound-slots}
use Rattle.daggy_graph.proofs.graph.source.DiGraphEdgeSource.edge_bound.Goals as goal

pub returns : goal.returns
returns g c =
    omega (
      arith,
      c.len.ensures,
      bound-slots (plain) c.self.inside.edges.items,
      ap (λ s. edge_bound s.graph) c.self.view_is,
    )
