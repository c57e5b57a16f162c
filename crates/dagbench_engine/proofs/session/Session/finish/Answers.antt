use Rattle.dagbench_engine.proofs.ServedSoFar.{finished}
use Rattle.dagbench_engine.proofs.session.Session.finish.Goals as goal

pub returns-clause-served : goal.returns-clause-served
returns-clause-served g c =
    finished _ _ _ _ c.in_ok-end_last_line.ensures.done c.in_ok-put_trailer.ensures.0 c.flush.ensures.0
