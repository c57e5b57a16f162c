use Rattle.daggy_named.proofs.Written.{kept_written}
use Rattle.daggy_named.proofs.named.Named.weight_mut.Goals as goal

pub invariant_of-self-lent : goal.invariant_of-self-lent
invariant_of-self-lent g c =
    let n = g.Ix.IndexType.number c.in_ok-n.n in
    λ _. (λ w. kept_written n w c.in_ok-n.ensures.exists c.self.invariant, c.self.invariant)
