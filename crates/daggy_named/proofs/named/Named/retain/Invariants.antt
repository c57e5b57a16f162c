use Rattle.daggy_named.proofs.KeptByKey.{AreAsked}
use Rattle.daggy_named.proofs.named.Named.retain.Given as goal

abbrev pub invariant-nodes : goal.invariant-nodes
invariant-nodes g l = AreAsked (goal.F-pre g) (goal.F-step g) l.initial.keep l.initial.self l.keep l.self l.slot

abbrev pub decreases-nodes : goal.decreases-nodes
decreases-nodes g l = l.slot
