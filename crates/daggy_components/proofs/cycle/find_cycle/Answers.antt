use Rattle.std.proofs.Common.{sym}
use Rattle.std.proofs.lemmas.Bool.{false≢true}
use Rattle.daggy_components.proofs.Rounds.{cyclic}
use Rattle.daggy_components.proofs.cycle.find_cycle.Goals as goal

pub returns-in-Some-clause-decided : goal.returns-in-Some-clause-decided
returns-in-Some-clause-decided g c =
    (λ no. absurd (false≢true (sym no)), λ acyclic. absurd (cyclic (g.S.EdgeSource.graph c.args.source.now) _ c.in-Some.ensures.cycle acyclic))
