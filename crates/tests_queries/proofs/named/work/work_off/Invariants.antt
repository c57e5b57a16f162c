use Rattle.daggy_named.specs.Working.{remaining_of}
use Rattle.tests_queries.proofs.named.work.work_off.Given as goal

abbrev pub invariant-ready : goal.invariant-ready
invariant-ready g l = Unit {0}

abbrev pub decreases-ready : goal.decreases-ready
decreases-ready g l = remaining_of l.ready.named.graph l.ready.queue.work
