use Rattle.std.proofs.Common.{ap, subst, arith}
use Rattle.daggy_base.specs.Graph.{edge_count}
use Rattle.daggy_base.specs.WellFormed.{IsWellFormed}
use Rattle.daggy_cells.specs.Fields.{plain}
use Rattle.daggy_base.proofs.MappedSlots.{count-slots}
use Rattle.daggy_graph.proofs.WellFormedLemmas.{IsWellFormed-stored}
use Rattle.daggy_graph.proofs.graph.DiGraph.edge_count.Goals as goal

pub returns-clause-count : goal.returns-clause-count
returns-clause-count g c =
    omega (
      arith,
      c.len.ensures,
      count-slots plain c.self.inside.edges.items,
      ap (λ s. edge_count s.graph) c.self.view_is,
    )

pub returns-clause-well_formed : goal.returns-clause-well_formed
returns-clause-well_formed g c =
    subst (λ s. IsWellFormed g.Ix.IndexType.greatest s.graph) c.self.view_is
    (IsWellFormed-stored _ _ _ _ c.self.invariant)
