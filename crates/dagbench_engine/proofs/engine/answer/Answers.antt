use Rattle.dagbench_engine.proofs.AnswersAtOnce.{none_answered, no_room_answered}
use Rattle.dagbench_engine.proofs.engine.answer.Goals as goal

pub returns-in-Ok-None : goal.returns-in-Ok-None
returns-in-Ok-None g c =
    let asked = rw c.in-Ok-None.field-0-is at c.in-Ok-None.ensures.asked in
    (none_answered g.D.GuardedDag.KIND _ _ _ _ _ asked c.put.ensures.0, c.put.ensures.1)

pub returns-in-Err : goal.returns-in-Err
returns-in-Err g c =
    let put = c.put-in-Err.ensures in (no_room_answered g.D.GuardedDag.KIND _ _ _ _ _ c.in-Err.ensures.no_room put.0, put.1)
