use Rattle.daggy_base.proofs.Copies.{copies_same}
use Rattle.daggy_stable.proofs.stable_graph.StableDiGraph.try_clone.Goals as goal

pub returns-clause-same_if_clones_equal : goal.returns-clause-same_if_clones_equal
returns-clause-same_if_clones_equal g c =
    copies_same g.N.Clone.is_clone g.E.Clone.is_clone c.args.self.now c.clone.result _ c.clone.ensures.cases
