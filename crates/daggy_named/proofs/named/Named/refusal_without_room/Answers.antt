use Rattle.std.proofs.Common.{◌∙◌, ◌↔◌, ◌+◌, IsTrue, List, inl, inr, vec_len, sym, ap, subst, refl, arith}
use Rattle.std.proofs.lemmas.Bool.{false≢true, cases_lt}
use Rattle.daggy_base.specs.Graph.{edge_count}
use Rattle.daggy_guard.specs.Parents.{ReachesParent}
use Rattle.daggy_named.specs.Dependencies.{parents_by}
use Rattle.daggy_named.proofs.named.Named.refusal_without_room.Given.{Over}
use Rattle.daggy_named.proofs.named.Named.refusal_without_room.Goals.{After-reaches_one}
use Rattle.daggy_named.proofs.named.Named.refusal_without_room.Goals as goal

reached : (g : Over) (c : After-reaches_one g) → IsTrue c.reaches_one.result
    ↔ ReachesParent (λ u. u) c.args.self.now.graph (g.Ix.IndexType.number c.args.n)
    (parents_by g.Q.Equivalent.equivalent c.args.self.now.keys c.args.items.items)
reached g c =
    let P : List (g.row.Q.Denot × g.row.E.Denot) → Type 0 = λ z. IsTrue c.reaches_one.result
    ↔ ReachesParent (λ u. u) c.args.self.now.graph (g.Ix.IndexType.number c.args.n)
    (parents_by g.Q.Equivalent.equivalent c.args.self.now.keys z) in
    subst P c.as_slice.ensures.value c.reaches_one.ensures.decided

pub returns-then-reaches_one-clause-cycle : goal.returns-then-reaches_one-clause-cycle
returns-then-reaches_one-clause-cycle g c =
    let at = (goal.at.returns-then-reaches_one-clause-cycle g c).After-reaches_one in
    (λ t. (reached g at).0 c.if-reaches_one.true, λ r. refl)

pub returns-then-reaches_one-clause-full : goal.returns-then-reaches_one-clause-full
returns-then-reaches_one-clause-full g c =
    let at = (goal.at.returns-then-reaches_one-clause-full g c).After-reaches_one in
    (λ t. absurd cc, λ p. absurd (p.0 ((reached g at).0 c.if-reaches_one.true)))

pub returns-then-not-can_add_edges-clause-cycle : goal.returns-then-not-can_add_edges-clause-cycle
returns-then-not-can_add_edges-clause-cycle g c =
    let at = (goal.at.returns-then-not-can_add_edges-clause-cycle g c).After-reaches_one in
    (λ t. absurd cc, λ r. absurd (false≢true (sym c.if-reaches_one.false ∙ (reached g at).1 r)))

pub returns-then-not-can_add_edges-clause-full : goal.returns-then-not-can_add_edges-clause-full
returns-then-not-can_add_edges-clause-full g c =
    let at = (goal.at.returns-then-not-can_add_edges-clause-full g c).After-reaches_one in
    let end = g.Ix.IndexType.greatest in
    let same = ap (λ z. edge_count z.graph) c.reaches_one.ensures.same in (
      λ t. (
        λ r. false≢true (sym c.if-reaches_one.false ∙ (reached g at).1 r),
        elim (cases_lt end (edge_count c.args.self.now.graph + vec_len c.args.items)) [
          | inl below ↦ below
          | inr above ↦
              absurd (false≢true (sym c.if-not-can_add_edges.true ∙ c.can_add_edges.ensures.1 (omega (arith, above, same, c.len.ensures))))
        ],
      ),
      λ p. refl,
    )

pub returns-clause-cycle : goal.returns-clause-cycle
returns-clause-cycle g c =
    let at = (goal.at.returns-clause-cycle g c).After-reaches_one in
    (λ t. absurd cc, λ r. absurd (false≢true (sym c.if-reaches_one.false ∙ (reached g at).1 r)))
