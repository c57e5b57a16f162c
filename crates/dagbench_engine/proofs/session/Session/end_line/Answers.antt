use Rattle.std.proofs.Common.{◌∙◌}
use Rattle.dagbench_engine.proofs.ServedSoFar.{at_once, at_last, nothing_there}
use Rattle.dagbench_engine.proofs.session.Session.end_line.Goals as goal

pub returns-then-is_empty-clause-served : goal.returns-then-is_empty-clause-served
returns-then-is_empty-clause-served g c =
    at_once _ _ _ _ _ _ _ (nothing_there _ c.if-is_empty.ensures) c.answer.ensures.0

pub returns-clause-served : goal.returns-clause-served
returns-clause-served g c =
    at_last _ (c.as_slice.ensures ∙ c.keep.ensures) c.clear.ensures c.in_ok-answer.ensures.0
