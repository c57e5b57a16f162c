use Rattle.std.proofs.Common.{◌+◌, sym, subst, inl, inr, arith}
use Rattle.daggy_guard.proofs.ParentsInTurn.{IsLastSoFar, last_begun, last_kept, last_passed}
use Rattle.daggy_guard.proofs.parents.last_of.Goals as goal

pub items-init : goal.items-init
items-init g c = last_begun c.requires.node

pub later_of-last-requires-clause-first : goal.later_of-last-requires-clause-first
later_of-last-requires-clause-first g c = c.items.invariant.held

pub later_of-last-requires-clause-second : goal.later_of-last-requires-clause-second
later_of-last-requires-clause-second g c =
    c.requires.parents c.items.i c.index-items-i.result (omega (arith, c.items-test.true))

pub items-preserved : goal.items-preserved
items-preserved g c =
    let number = g.Ix.IndexType.number in
    let d = c.index-items-i.result in
    let low = c.items-test.true in
    let P : g.row.Ix.Denot → Type 0 = λ z.
    IsLastSoFar number c.args.order.now (number c.args.n) c.args.items.now (c.items.i + 1) (number z) in
    elim c.later_of-last.ensures [
      | inl a ↦ subst P (sym a.0) (last_kept c.items.invariant d (omega (arith, low)) a.1)
      | inr b ↦
          subst P (sym b.0)
          (last_passed c.items.invariant d (omega (arith, low)) b.1 (c.requires.parents c.items.i d (omega (arith, low))))
    ]

pub returns-clause-one : goal.returns-clause-one
returns-clause-one g c = c.items.invariant.one

pub returns-clause-behind : goal.returns-clause-behind
returns-clause-behind g c = c.items.invariant.behind

pub returns-clause-last : goal.returns-clause-last
returns-clause-last g c k d h =
    c.items.invariant.passed k d (omega (arith, h, c.items-test.false, c.items.auto.i-end))
