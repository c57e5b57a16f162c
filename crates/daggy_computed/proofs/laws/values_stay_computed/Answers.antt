use Rattle.daggy_computed.proofs.Recomputed.{computed_kept}
use Rattle.daggy_computed.proofs.laws.values_stay_computed.Goals as goal

pub returns : goal.returns
returns g c eq compute old new equality = computed_kept eq equality compute old new
