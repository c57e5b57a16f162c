use Rattle.dagbench_engine.proofs.ServedSoFar.{last_ended, last_unended, nothing_there, something_there}
use Rattle.dagbench_engine.proofs.session.Session.end_last_line.Goals as goal

pub returns-then-is_empty-clause-done : goal.returns-then-is_empty-clause-done
returns-then-is_empty-clause-done g c = last_ended _ _ _ _ (nothing_there _ c.if-is_empty.ensures)

pub returns-clause-done : goal.returns-clause-done
returns-clause-done g c =
    last_unended _ _ _ _ _ _ (something_there _ c.if-is_empty.ensures) c.as_slice.ensures c.answer.ensures.0
