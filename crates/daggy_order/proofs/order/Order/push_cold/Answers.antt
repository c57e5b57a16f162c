use Rattle.std.proofs.Common.{◌≡◌, ◌+◌, ℕ, List, [], ◌∷◌, ◌++◌, refl, ap, ◌∙◌, arith}
use Rattle.std.specs.List.{range_with_len}
use Rattle.daggy_order.proofs.Tails.{tailed_same, tailed_roomy, tailed_more, tail_more}
use Rattle.daggy_order.proofs.order.Order.push_cold.Goals as goal

pub invariant_of-self : goal.invariant_of-self
invariant_of-self g c =
    tailed_same c.self.invariant c.reserve.new.self.nodes c.reserve.new.self.capacity c.reserve.ensures.same
    c.reserve.ensures.larger

pub invariant_of-self-then-i-self : goal.invariant_of-self-then-i-self
invariant_of-self-then-i-self g c =
    let roomy =
    tailed_roomy c.self.invariant c.reserve.new.self.nodes c.reserve.new.self.capacity c.in_ok-self-inside.field-0
    c.reserve.ensures.same c.in_ok-self-inside.ensures.capacity c.reserve.ensures.larger in
    tailed_more roomy (c.self.inside.tail.count + 1) refl
    (omega (arith, c.if-i-self.true, c.index-i.ensures.value, c.requires.real))
    (omega (arith, c.if-i-self.true, c.in_ok-self-inside.ensures.ok))

pub returns-then-i-self-clause-ok : goal.returns-then-i-self-clause-ok
returns-then-i-self-clause-ok g c =
    let n : ℕ = g.Ix.IndexType.number c.args.n in
    let at : n ≡ c.self.inside.tail.from + c.self.inside.tail.count =
    omega (arith, c.if-i-self.true, c.index-i.ensures.value) in
    ap (λ (z : List ℕ). z ++ range_with_len c.self.inside.tail.from (c.self.inside.tail.count + 1))
    c.reserve.ensures.same
    ∙ (tail_more c.self.invariant (c.self.inside.tail.count + 1) n refl at
    ∙ ap (λ (z : List ℕ). z ++ n ∷ []) c.self.view_is)
