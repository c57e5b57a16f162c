use Rattle.daggy_schedule.proofs.ready.touch_lists.Given as goal

abbrev pub invariant-loop-k : goal.invariant-loop-k
invariant-loop-k g l = Unit {0}
