use Rattle.std.proofs.Common.{ap, arith, ◌∙◌}
use Rattle.daggy_base.specs.Graph.{node_bound}
use Rattle.daggy_base.proofs.PathsWithNode.{bound_low}
use Rattle.daggy_dag.proofs.acyclic.visit.AcyclicNodeIndexable.node_bound.Goals as goal

pub returns-clause-fits : goal.returns-clause-fits
returns-clause-fits g c =
    omega (
      arith,
      bound_low (g.S.EdgeSource.graph c.self-inside.inside.0.0.store).nodes,
      c.node_bound.ensures.well_formed.few_nodes,
      ap (λ s. node_bound s.graph) (ap (λ i. i.guarded) c.self-inside.view_is ∙ c.self.view_is),
    )
