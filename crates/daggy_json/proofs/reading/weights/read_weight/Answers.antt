use Rattle.daggy_json.proofs.reading.weights.read_weight.Goals as goal
use Rattle.std.proofs.Common.{inr, refl}
use Rattle.daggy_json.proofs.FoundParts.{reads_as}

pub returns-in-Ok-Some-clause-ok : goal.returns-in-Ok-Some-clause-ok
returns-in-Ok-Some-clause-ok g c = reads_as _ _ c.args.value _ (rw c.in-Ok-Some.field-0-is at c.in-Ok-Some.ensures)

pub returns-in-Ok-None-clause-err : goal.returns-in-Ok-None-clause-err
returns-in-Ok-None-clause-err g c =
    inr (reads_as _ _ c.args.value _ (rw c.in-Ok-None.field-0-is at c.in-Ok-None.ensures), refl)
