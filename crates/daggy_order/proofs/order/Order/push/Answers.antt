use Rattle.std.proofs.Common.{◌≡◌, ◌+◌, ℕ, List, [], ◌∷◌, ◌++◌, refl, ap, ◌∙◌, arith}
use Rattle.daggy_order.proofs.Tails.{tail_more}
use Rattle.daggy_order.proofs.order.Order.push.Goals as goal

pub returns-then-i-self-2-clause-ok : goal.returns-then-i-self-2-clause-ok
returns-then-i-self-2-clause-ok g c =
    let n : ℕ = g.Ix.IndexType.number c.args.n in
    let at : n ≡ c.self.inside.tail.from + c.self.inside.tail.count =
    omega (arith, c.if-i-self-2.true, c.index-i.ensures.value) in
    tail_more c.self.invariant (c.self.inside.tail.count + 1) n refl at
    ∙ ap (λ (z : List ℕ). z ++ n ∷ []) c.self.view_is
