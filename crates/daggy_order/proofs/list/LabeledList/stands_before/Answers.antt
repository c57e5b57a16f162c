use Rattle.std.proofs.Common.{◌≡◌, ◌<◌, ℕ, List, get_or, sym, ap, subst, inl, inr, ◌∙◌, arith}
use Rattle.std.proofs.lemmas.Bool.{lt-ltb, ltb-true}
use Rattle.daggy_base.proofs.Lists.{Mem, contains_mem}
use Rattle.daggy_base.specs.Ordered.{place}
use Rattle.daggy_order.proofs.Labelled.{label_within, label_places}
use Rattle.daggy_order.specs.Links.{Stored}
use Rattle.daggy_order.proofs.list.LabeledList.stands_before.Given.{Over}
use Rattle.daggy_order.proofs.list.LabeledList.stands_before.Goals.{After-self}
use Rattle.daggy_order.proofs.list.LabeledList.stands_before.Goals as goal

-- both are nodes of the list
has_a : (g : Over) (c : After-self g) → Mem (g.Ix.IndexType.number c.args.a) c.self.inside.links.nodes
has_a g c =
    let P : List ℕ → Type 0 = λ z. Mem (g.Ix.IndexType.number c.args.a) z in
    subst P (sym (ap (λ (z : Stored). z.nodes) c.self.view_is))
    (contains_mem c.args.self.now.nodes (g.Ix.IndexType.number c.args.a) c.requires.first)

has_b : (g : Over) (c : After-self g) → Mem (g.Ix.IndexType.number c.args.b) c.self.inside.links.nodes
has_b g c =
    let P : List ℕ → Type 0 = λ z. Mem (g.Ix.IndexType.number c.args.b) z in
    subst P (sym (ap (λ (z : Stored). z.nodes) c.self.view_is))
    (contains_mem c.args.self.now.nodes (g.Ix.IndexType.number c.args.b) c.requires.second)

pub label-requires : goal.label-requires
label-requires g c =
    let at = (goal.at.label-requires g c).After-self in
    omega (arith, c.index.ensures.value, label_within c.self.invariant _ (has_a g at))

pub label-requires-2 : goal.label-requires-2
label-requires-2 g c =
    let at = (goal.at.label-requires-2 g c).After-self in
    omega (arith, c.index-2.ensures.value, label_within c.self.invariant _ (has_b g at))

pub returns : goal.returns
returns g c =
    let a : ℕ = g.Ix.IndexType.number c.args.a in
    let b : ℕ = g.Ix.IndexType.number c.args.b in
    let at = (goal.at.returns g c).After-self in
    let a_is : c.label.result ≡ get_or c.self.inside.links.labels a 0 =
    c.label.ensures ∙ ap (λ z. get_or c.self.inside.links.labels z 0) c.index.ensures.value in
    let b_is : c.label-2.result ≡ get_or c.self.inside.links.labels b 0 =
    c.label-2.ensures ∙ ap (λ z. get_or c.self.inside.links.labels z 0) c.index-2.ensures.value in
    let Q : List ℕ → Type 0 = λ z. place z a < place z b in
    let cases = label_places c.self.invariant a b (has_a g at) (has_b g at) in (
      λ e. subst Q (ap (λ (z : Stored). z.nodes) c.self.view_is) (elim cases [
        | inl same ↦
            absurd (omega (arith, ltb-true _ _ e, a_is, b_is, ap (λ z. get_or c.self.inside.links.labels z 0) same))
        | inr r ↦ elim r [
          | inl before ↦ before.1
          | inr behind ↦ absurd (omega (arith, ltb-true _ _ e, a_is, b_is, behind.0))
        ]
      ]),
      λ h.
          let earlier = subst Q (sym (ap (λ (z : Stored). z.nodes) c.self.view_is)) h in
          lt-ltb _ _ (elim cases [
            | inl same ↦ absurd (omega (arith, earlier, ap (place c.self.inside.links.nodes) same))
            | inr r ↦ elim r [
              | inl before ↦ omega (arith, a_is, b_is, before.0)
              | inr behind ↦ absurd (omega (arith, earlier, behind.1))
            ]
          ]),
    )
