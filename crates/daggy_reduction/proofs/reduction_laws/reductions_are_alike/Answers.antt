use Rattle.daggy_reduction.proofs.RemainingEdges.{reduction_loses}
use Rattle.daggy_redundant.proofs.FlaggedRedundant.{joined_exist}
use Rattle.daggy_reduction.proofs.Canonical.{alike_exactly}
use Rattle.daggy_reduction.proofs.reduction_laws.reductions_are_alike.Goals as goal

pub returns : goal.returns
returns g c a a' b b' x y nodes =
    alike_exactly record {
      roots = x.roots;
      old = a;
      new = a';
      acyclic = x.dag.acyclic;
      loses = reduction_loses x.kind x.roots a a' x.reduced;
      ends = joined_exist x.limit a x.dag.well_formed;
      all = x.all;
    } record {
      roots = y.roots;
      old = b;
      new = b';
      acyclic = y.dag.acyclic;
      loses = reduction_loses y.kind y.roots b b' y.reduced;
      ends = joined_exist y.limit b y.dag.well_formed;
      all = y.all;
    } nodes
