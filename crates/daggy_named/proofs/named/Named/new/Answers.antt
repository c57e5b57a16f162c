use Rattle.std.proofs.Common.{ap}
use Rattle.daggy_named.proofs.Kept.{kept_empty}
use Rattle.daggy_named.proofs.named.Named.new.Goals as goal

pub invariant_of-result : goal.invariant_of-result
invariant_of-result g c = kept_empty (ap (λ d. d.graph.nodes) c.new.ensures) c.new-2.ensures.empty c.new-3.ensures.items
