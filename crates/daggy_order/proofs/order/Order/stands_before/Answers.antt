use Rattle.std.proofs.Common.{◌<◌, ℕ, List, sym, subst, arith}
use Rattle.std.proofs.lemmas.Bool.{lt-ltb, ltb-true}
use Rattle.daggy_base.proofs.Lists.{Mem, contains_mem, mem_contains}
use Rattle.daggy_base.specs.Ordered.{place}
use Rattle.daggy_order.proofs.Tails.{in_written, place_written, before_late, not_before_early}
use Rattle.daggy_order.proofs.order.Order.stands_before.Goals as goal

pub stands_before-requires-clause-first : goal.stands_before-requires-clause-first
stands_before-requires-clause-first g c =
    let a : ℕ = g.Ix.IndexType.number c.args.a in
    let P : List ℕ → Type 0 = λ z. Mem a z in
    mem_contains c.self.inside.list.nodes a
    (in_written c.self.invariant a (omega (arith, c.if-i-self.true, c.index-i.ensures.value))
    (subst P (sym c.self.view_is) (contains_mem c.args.self.now a c.requires.first)))

pub stands_before-requires-clause-second : goal.stands_before-requires-clause-second
stands_before-requires-clause-second g c =
    let b : ℕ = g.Ix.IndexType.number c.args.b in
    let P : List ℕ → Type 0 = λ z. Mem b z in
    mem_contains c.self.inside.list.nodes b
    (in_written c.self.invariant b (omega (arith, c.if-j-self.true, c.index-j.ensures.value))
    (subst P (sym c.self.view_is) (contains_mem c.args.self.now b c.requires.second)))

pub returns-then-i-self : goal.returns-then-i-self
returns-then-i-self g c =
    let a : ℕ = g.Ix.IndexType.number c.args.a in
    let b : ℕ = g.Ix.IndexType.number c.args.b in
    let A : List ℕ → Type 0 = λ z. Mem a z in
    let B : List ℕ → Type 0 = λ z. Mem b z in
    let s = c.self.invariant in
    let at_a =
    place_written s a (in_written s a (omega (arith, c.if-i-self.true, c.index-i.ensures.value))
    (subst A (sym c.self.view_is) (contains_mem c.args.self.now a c.requires.first))) in
    let at_b =
    place_written s b (in_written s b (omega (arith, c.if-j-self.true, c.index-j.ensures.value))
    (subst B (sym c.self.view_is) (contains_mem c.args.self.now b c.requires.second))) in
    let Q : List ℕ → Type 0 = λ z. place z a < place z b in (
      λ e. subst Q c.self.view_is (omega (arith, at_a, at_b, c.stands_before.ensures.0 e)),
      λ h. c.stands_before.ensures.1 (omega (arith, at_a, at_b, subst Q (sym c.self.view_is) h)),
    )

pub returns-else-i-self : goal.returns-else-i-self
returns-else-i-self g c =
    let a : ℕ = g.Ix.IndexType.number c.args.a in
    let b : ℕ = g.Ix.IndexType.number c.args.b in
    let A : List ℕ → Type 0 = λ z. Mem a z in
    let B : List ℕ → Type 0 = λ z. Mem b z in
    let Q : List ℕ → Type 0 = λ z. place z a < place z b in (
      λ e. absurd (omega (arith, ltb-true _ _ e, c.if-i-self.false)),
      λ h.
          absurd (not_before_early c.self.invariant a b
          (subst A (sym c.self.view_is) (contains_mem c.args.self.now a c.requires.first))
          (subst B (sym c.self.view_is) (contains_mem c.args.self.now b c.requires.second)) (omega (
            arith,
            c.if-j-self.true,
            c.index-j.ensures.value,
          )) (omega (arith, c.if-i-self.false, c.index-i.ensures.value)) (subst Q (sym c.self.view_is) h)),
    )

pub returns-else-j-self : goal.returns-else-j-self
returns-else-j-self g c =
    let a : ℕ = g.Ix.IndexType.number c.args.a in
    let b : ℕ = g.Ix.IndexType.number c.args.b in
    let A : List ℕ → Type 0 = λ z. Mem a z in
    let B : List ℕ → Type 0 = λ z. Mem b z in
    let Q : List ℕ → Type 0 = λ z. place z a < place z b in
    let both =
    before_late c.self.invariant a b (subst A (sym c.self.view_is) (contains_mem c.args.self.now a c.requires.first))
    (subst B (sym c.self.view_is) (contains_mem c.args.self.now b c.requires.second))
    (omega (arith, c.if-j-self.false, c.index-j.ensures.value)) in (
      λ e.
          subst Q c.self.view_is
          (both.0 (omega (arith, ltb-true _ _ e, c.index-i.ensures.value, c.index-j.ensures.value))),
      λ h.
          lt-ltb _ _
          (omega (arith, both.1 (subst Q (sym c.self.view_is) h), c.index-i.ensures.value, c.index-j.ensures.value)),
    )
