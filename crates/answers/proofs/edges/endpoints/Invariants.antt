use Rattle.std.proofs.Common.{◌≡◌}
use Rattle.answers.proofs.Endpoints.{endpoints_before}
use Rattle.answers.proofs.edges.endpoints.Given as goal

abbrev pub invariant-loop-i : goal.invariant-loop-i
invariant-loop-i g l = l.pairs.items ≡ endpoints_before l.dag.graph l.i
