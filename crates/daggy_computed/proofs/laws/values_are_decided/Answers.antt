use Rattle.daggy_computed.proofs.Recomputed.{computed_once}
use Rattle.daggy_computed.proofs.laws.values_are_decided.Goals as goal

pub returns : goal.returns
returns g c limit order dag compute = computed_once order dag compute
