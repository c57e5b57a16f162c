use Rattle.std.proofs.Common.{rules, ◌≡◌, ◌<◌, ◌^◌, ◌-◌, ◌+◌, ℕ, List, sym, ap, subst, inl, ◌∙◌, arith, not, eqb}
use Rattle.daggy_base.proofs.Lists.{Mem, contains_mem}
use Rattle.daggy_base.specs.Removal.{without}
use Rattle.daggy_base.proofs.Sorted.{filter_mem}
use Rattle.daggy_order.proofs.Tails.{high, tailed_after, tail_fewer}
use Rattle.daggy_order.proofs.order.Order.remove.Goals as goal

pub overflow_add-index : goal.overflow_add-index
overflow_add-index g c =
    let n : ℕ = g.Ix.IndexType.number c.args.n in
    let P : List ℕ → Type 0 = λ z. Mem n z in
    let within = high c.self.invariant n (subst P (sym c.self.view_is) (contains_mem c.args.self.now n c.requires)) in
    let low : c.index.result + 1 < 2 ^ 64 =
    omega (arith, within, c.self.invariant.real, c.index.ensures.value, c.index.ensures.fits) in
    search rules

pub invariant_of-self-else-self-gt0 : goal.invariant_of-self-else-self-gt0
invariant_of-self-else-self-gt0 g c =
    let n : ℕ = g.Ix.IndexType.number c.args.n in
    tailed_after c.self.invariant
    c.flush-self-inside.ensures.count
    c.flush-self-inside.ensures.index_bound (omega (arith, c.flush-self-inside.ensures.from))
    (omega (arith, c.flush-self-inside.ensures.from, c.self.invariant.real)) (λ k m.
    let P : List ℕ → Type 0 = λ z. Mem k z in
    inl (subst P c.flush-self-inside.ensures.nodes
    (filter_mem (λ x. not (eqb x n)) c.flush-self-inside.new.self.nodes k (subst P c.remove.ensures m)).0))

pub returns-then-index-self : goal.returns-then-index-self
returns-then-index-self g c =
    let n : ℕ = g.Ix.IndexType.number c.args.n in
    let is : c.self.inside.tail.count - 1 + 1 ≡ c.self.inside.tail.count = omega (arith, c.if-self-gt0.true) in
    tail_fewer c.self.invariant (c.self.inside.tail.count - 1) n is
    (omega (arith, c.if-index-self.true, c.index.ensures.value))
    ∙ ap (without n) c.self.view_is
