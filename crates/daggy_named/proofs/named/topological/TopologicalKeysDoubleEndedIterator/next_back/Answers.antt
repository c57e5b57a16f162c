use Rattle.std.proofs.Common.{IsSome, Some}
use Rattle.std.proofs.lemmas.List.Elements.{All-pop}
use Rattle.daggy_named.specs.Naming.{key_at}
use Rattle.daggy_named.proofs.named.topological.TopologicalKeysDoubleEndedIterator.next_back.Goals as goal

pub invariant_of-self-2 : goal.invariant_of-self-2
invariant_of-self-2 g c =
    (All-pop (λ n. IsSome (key_at c.self.inside.named.now.keys n)) _ _ (Some (g.Ix.IndexType.number c.in_ok-n.n))
    c.in_ok-n.ensures.steps c.self.invariant).0
