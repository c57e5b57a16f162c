use Rattle.daggy_reduction.proofs.RemainingEdges.{reduction_loses}
use Rattle.daggy_redundant.proofs.FlaggedRedundant.{joined_exist}
use Rattle.daggy_reduction.proofs.Canonical.{least}
use Rattle.daggy_reduction.proofs.reduction_laws.reduction_is_least.Goals as goal

pub returns : goal.returns
returns g c limit kind roots old new h dag r same u v below j =
    least roots old new dag.acyclic (reduction_loses kind roots old new r) (joined_exist limit old dag.well_formed) h
    same u v below j
