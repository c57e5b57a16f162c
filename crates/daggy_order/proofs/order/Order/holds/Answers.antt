use Rattle.std.proofs.Common.{◌<◌, ◌≤◌, ℕ, List, sym, subst, arith}
use Rattle.std.proofs.lemmas.Bool.{lt-ltb, ltb-true}
use Rattle.daggy_base.proofs.Lists.{Mem, mem_left, contains_mem, mem_contains}
use Rattle.daggy_order.proofs.Tails.{high, in_written, in_tail}
use Rattle.daggy_order.proofs.order.Order.holds.Goals as goal

pub returns-then-i-self : goal.returns-then-i-self
returns-then-i-self g c =
    let n : ℕ = g.Ix.IndexType.number c.args.n in
    let P : List ℕ → Type 0 = λ z. Mem n z in
    let low : n < c.self.inside.tail.from = omega (arith, c.if-i-self.true, c.index-i.ensures.value) in (
      λ e.
          mem_contains c.args.self.now n (subst P c.self.view_is (mem_left c.self.inside.list.nodes _ n
          (contains_mem c.self.inside.list.nodes n (c.holds.ensures.0 e)))),
      λ h.
          c.holds.ensures.1 (mem_contains c.self.inside.list.nodes n
          (in_written c.self.invariant n low (subst P (sym c.self.view_is) (contains_mem c.args.self.now n h)))),
    )

pub returns-else-i-self : goal.returns-else-i-self
returns-else-i-self g c =
    let n : ℕ = g.Ix.IndexType.number c.args.n in
    let P : List ℕ → Type 0 = λ z. Mem n z in
    let late : c.self.inside.tail.from ≤ n = omega (arith, c.if-i-self.false, c.index-i.ensures.value) in (
      λ e.
          mem_contains c.args.self.now n (subst P c.self.view_is
          (in_tail c.self.invariant n late (omega (arith, ltb-true _ _ e, c.index-i.ensures.value, late)))),
      λ h. lt-ltb _ _ (omega (
        arith,
        high c.self.invariant n (subst P (sym c.self.view_is) (contains_mem c.args.self.now n h)),
        c.index-i.ensures.value,
        late,
      )),
    )
