use Rattle.tests_queries.proofs.walks.support.steps.Given as goal

abbrev pub invariant-loop-step : goal.invariant-loop-step
invariant-loop-step g l = g.W.Walker.can_walk l.walker l.graph
