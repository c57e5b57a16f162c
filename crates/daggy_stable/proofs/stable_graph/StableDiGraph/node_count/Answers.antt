use Rattle.std.proofs.Common.{subst}
use Rattle.daggy_base.specs.WellFormed.{IsWellFormed}
use Rattle.daggy_stable.proofs.Stores.{well_formed}
use Rattle.daggy_stable.proofs.stable_graph.StableDiGraph.node_count.Goals as goal

pub returns-clause-well_formed : goal.returns-clause-well_formed
returns-clause-well_formed g c =
    subst (λ s. IsWellFormed g.Ix.IndexType.greatest s.graph) c.self.view_is (well_formed c.self.invariant)
