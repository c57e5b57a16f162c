use Rattle.std.proofs.Common.{rules, ◌<◌, ◌≤◌, ◌^◌, ◌-◌, ◌+◌, ℕ, List, sym, ap, subst, ◌∙◌, arith}
use Rattle.daggy_base.proofs.Lists.{Mem, contains_mem, mem_contains, unique_from_distinct}
use Rattle.daggy_base.specs.Ordered.{place}
use Rattle.daggy_order.proofs.Tails.{high, in_written, few_written, place_written, place_late}
use Rattle.daggy_order.proofs.order.Order.place.Goals as goal

pub place-requires : goal.place-requires
place-requires g c =
    let n : ℕ = g.Ix.IndexType.number c.args.n in
    let P : List ℕ → Type 0 = λ z. Mem n z in
    let low : n < c.self.inside.tail.from = omega (arith, c.if-i-self.true, c.index-i.ensures.value) in
    mem_contains c.self.inside.list.nodes n
    (in_written c.self.invariant n low (subst P (sym c.self.view_is) (contains_mem c.args.self.now n c.requires)))

pub overflow_add-result : goal.overflow_add-result
overflow_add-result g c =
    let n : ℕ = g.Ix.IndexType.number c.args.n in
    let P : List ℕ → Type 0 = λ z. Mem n z in
    let within = high c.self.invariant n (subst P (sym c.self.view_is) (contains_mem c.args.self.now n c.requires)) in
    let few = few_written c.self.invariant (unique_from_distinct c.self.inside.list.nodes c.len.ensures.distinct) in
    let low : c.len.result + (c.index-i.result - c.self.inside.tail.from) < 2 ^ 64 =
    omega (
      arith,
      few,
      within,
      c.index-i.ensures.value,
      c.if-i-self.false,
      c.len.ensures.value,
      c.self.invariant.real,
      g.met.Ix.IndexType.fits,
    ) in
    search rules

pub returns-then-i-self : goal.returns-then-i-self
returns-then-i-self g c =
    let n : ℕ = g.Ix.IndexType.number c.args.n in
    let P : List ℕ → Type 0 = λ z. Mem n z in
    let low : n < c.self.inside.tail.from = omega (arith, c.if-i-self.true, c.index-i.ensures.value) in
    let held =
    in_written c.self.invariant n low (subst P (sym c.self.view_is) (contains_mem c.args.self.now n c.requires)) in
    c.place.ensures ∙ (sym (place_written c.self.invariant n held) ∙ ap (λ (z : List ℕ). place z n) c.self.view_is)

pub returns-else-i-self : goal.returns-else-i-self
returns-else-i-self g c =
    let n : ℕ = g.Ix.IndexType.number c.args.n in
    let P : List ℕ → Type 0 = λ z. Mem n z in
    let late : c.self.inside.tail.from ≤ n = omega (arith, c.if-i-self.false, c.index-i.ensures.value) in
    let within = high c.self.invariant n (subst P (sym c.self.view_is) (contains_mem c.args.self.now n c.requires)) in
    omega (
      arith,
      place_late c.self.invariant n late within,
      ap (λ (z : List ℕ). place z n) c.self.view_is,
      c.len.ensures.value,
      c.index-i.ensures.value,
      late,
    )
