use Rattle.std.proofs.Common.{ap, subst, arith}
use Rattle.daggy_base.specs.Graph.{node_bound}
use Rattle.daggy_base.specs.WellFormed.{IsWellFormed}
use Rattle.daggy_base.proofs.MappedSlots.{bound-slots}
use Rattle.daggy_graph.proofs.WellFormedLemmas.{IsWellFormed-stored}
use Rattle.daggy_graph.proofs.graph.source.DiGraphEdgeSource.node_bound.Goals as goal

pub returns-clause-value : goal.returns-clause-value
returns-clause-value g c =
    omega (
      arith,
      c.len.ensures,
      bound-slots (λ x. x.weight) c.self.inside.nodes.items,
      ap (λ s. node_bound s.graph) c.self.view_is,
    )

pub returns-clause-well_formed : goal.returns-clause-well_formed
returns-clause-well_formed g c =
    subst (λ s. IsWellFormed g.Ix.IndexType.greatest s.graph) c.self.view_is
    (IsWellFormed-stored _ _ _ _ c.self.invariant)
