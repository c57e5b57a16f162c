use Rattle.daggy_walk.specs.Fused.{filter_rests}
use Rattle.daggy_walk.proofs.walker.filter.FilterFusedWalker.rests_over.Goals as goal

pub returns : goal.returns
returns g c = λ t u r a b.
    filter_rests _ (g.met.W.FusedWalker.rests c.args._graph.now) g.P.FnMut c.args._graph.now _ _ _ _ _ _ r a b
