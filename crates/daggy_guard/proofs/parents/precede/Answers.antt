use Rattle.std.proofs.Common.{sym, ◌∙◌, inl, inr, slice_index_or, arith}
use Rattle.std.proofs.lemmas.Bool.{false≢true, cases_lt}
use Rattle.std.proofs.lemmas.List.{get_or_default}
use Rattle.daggy_base.specs.Ordered.{place}
use Rattle.daggy_guard.proofs.parents.precede.Goals as goal

pub stands_before-requires-clause-first : goal.stands_before-requires-clause-first
stands_before-requires-clause-first g c =
    c.requires.parents c.items.i c.index-items-i.result (omega (arith, c.items-test.true))

pub returns-then-not-stands_before-clause-some : goal.returns-then-not-stands_before-clause-some
returns-then-not-stands_before-clause-some g c f =
    let d = c.index-items-i.result in
    let low = c.items-test.true in
    let x = slice_index_or c.args.items.now c.items.i d in (
      x,
      (c.items.i, omega (arith, low), sym (get_or_default c.args.items.now c.items.i d x (omega (arith, low)))),
      elim (cases_lt (place c.args.order.now (g.Ix.IndexType.number x.0))
          (place c.args.order.now (g.Ix.IndexType.number c.args.n))) [
            | inl l ↦ absurd (false≢true (sym c.if-not-stands_before.true ∙ c.stands_before.ensures.1 l))
            | inr h ↦ h
          ],
    )

pub returns-clause-all : goal.returns-clause-all
returns-clause-all g c t k d h =
    c.items.invariant k d (omega (arith, h, c.items-test.false, c.items.auto.i-end))
