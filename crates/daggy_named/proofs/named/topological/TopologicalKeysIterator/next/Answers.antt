use Rattle.std.proofs.Common.{IsSome}
use Rattle.daggy_named.specs.Naming.{key_at}
use Rattle.daggy_named.proofs.NamedNodes.{all_rest}
use Rattle.daggy_named.proofs.named.topological.TopologicalKeysIterator.next.Goals as goal

pub invariant_of-self-2 : goal.invariant_of-self-2
invariant_of-self-2 g c =
    all_rest (λ n. IsSome (key_at c.self.inside.named.now.keys n)) _ _ (rw c.in_ok-n.ensures.steps at c.self.invariant)
