use Rattle.std.proofs.Common.{◌≤◌, ◌<◌, ℕ, inl, inr, refl, sym, subst, arith}
use Rattle.std.proofs.lemmas.Bool.{cases_Bool}
use Rattle.daggy_base.specs.Graph.{HasNode}
use Rattle.daggy_base.specs.Path.{Reaches}
use Rattle.daggy_base.specs.Ordered.{place}
use Rattle.daggy_order.proofs.OrderEdgeResult.{reached_later}
use Rattle.daggy_guard.proofs.ParentsInTurn.{of_item}
use Rattle.daggy_guard.proofs.parents.make_way_for_parents.Goals as goal

pub last_of-last-requires-clause-parents : goal.last_of-last-requires-clause-parents
last_of-last-requires-clause-parents g c k d h =
    (c.order_parents_without_search.ensures.exact _).1 (c.requires.parents k d h)

pub order_up_to-requires-clause-last : goal.order_up_to-requires-clause-last
order_up_to-requires-clause-last g c =
    let P : ℕ → Type 0 = λ z. HasNode (g.S.EdgeSource.graph c.args.store.now) z in
    elim c.last_of-last.ensures.one [
      | inl same ↦ subst P (sym same) c.requires.node
      | inr x ↦ subst P x.2 (of_item g.Ix.IndexType.number c.args.items.now P c.requires.parents x.0 x.1)
    ]

pub returns-then-not-order_up_to-clause-decided : goal.returns-then-not-order_up_to-clause-decided
returns-then-not-order_up_to-clause-decided g c = (
  λ h.
      let P : ℕ → Type 0 = λ z. Reaches (g.S.EdgeSource.graph c.args.store.now) (g.Ix.IndexType.number c.args.n) z in
      let r = c.order_up_to.ensures.refused c.if-not-order_up_to.true in
      elim c.last_of-last.ensures.one [
        | inl same ↦ absurd (r.0 same)
        | inr x ↦ (x.0, x.1, subst P (sym x.2) r.1)
      ],
  λ r. refl,
)

pub precede-requires-clause-parents : goal.precede-requires-clause-parents
precede-requires-clause-parents g c k d h = (c.order_up_to.ensures.ordered.exact _).1 (c.requires.parents k d h)

pub returns-clause-decided : goal.returns-clause-decided
returns-clause-decided g c =
    let of = of_item g.Ix.IndexType.number c.args.items.now in
    let n = g.Ix.IndexType.number c.args.n in
    let old = c.order_parents_without_search.new.order in
    let new = c.order_up_to.new.order in
    let Exists : ℕ → Type 0 = λ z. HasNode (g.S.EdgeSource.graph c.args.store.now) z in
    let Within : ℕ → Type 0 = λ z. place old z ≤ place old (g.Ix.IndexType.number c.last_of-last.result) in
    let First : ℕ → Type 0 = λ z. place new z < place new n in (
      λ h.
          let s = c.precede.ensures.some h in (
            s.0,
            s.1,
            c.order_up_to.ensures.reached c.if-not-order_up_to.false _ (of Exists c.requires.parents s.0 s.1)
                (of Within c.last_of-last.ensures.last s.0 s.1) s.2,
          ),
      λ r. elim (cases_Bool c.precede.result) [
        | inl t ↦
            let first = of First (c.precede.ensures.all t) r.0 r.1 in
            absurd (omega (arith, first, reached_later _ _ c.order_up_to.ensures.ordered _ _ r.2))
        | inr f ↦ f
      ],
    )
