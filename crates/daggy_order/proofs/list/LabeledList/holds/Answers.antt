use Rattle.std.proofs.Common.{◌≡◌, ℕ, List, get_or, sym, ap, subst, ◌∙◌, arith}
use Rattle.std.specs.List.{Contains}
use Rattle.std.proofs.lemmas.Bool.{lt-ltb, ltb-true}
use Rattle.daggy_base.proofs.Lists.{contains_mem}
use Rattle.daggy_order.proofs.Labelled.{label_within, label_some}
use Rattle.daggy_order.specs.Links.{Stored}
use Rattle.daggy_order.proofs.list.LabeledList.holds.Goals as goal

pub returns-then-i-index_bound : goal.returns-then-i-index_bound
returns-then-i-index_bound g c =
    let n : ℕ = g.Ix.IndexType.number c.args.n in
    let label : c.label.result ≡ get_or c.self.inside.links.labels n 0 =
    c.label.ensures ∙ ap (λ z. get_or c.self.inside.links.labels z 0) c.index-i.ensures.value in
    let P : List ℕ → Type 0 = λ z. Contains z n in (
      λ e.
          subst P (ap (λ (z : Stored). z.nodes) c.self.view_is)
          (c.self.invariant.held n (omega (arith, label, ltb-true _ _ e))),
      λ h. lt-ltb _ _ (omega (
        arith,
        label,
        label_some c.self.invariant n
            (contains_mem c.self.inside.links.nodes n (subst P (sym (ap (λ (z : Stored). z.nodes) c.self.view_is)) h)),
      )),
    )

pub returns-else-i-index_bound : goal.returns-else-i-index_bound
returns-else-i-index_bound g c =
    let n : ℕ = g.Ix.IndexType.number c.args.n in
    let P : List ℕ → Type 0 = λ z. Contains z n in (
      λ e. absurd (omega (arith, ltb-true _ _ e, c.if-i-index_bound.false)),
      λ h. absurd (omega (
        arith,
        c.if-i-index_bound.false,
        c.index_bound.ensures,
        c.index-i.ensures.value,
        label_within c.self.invariant n
            (contains_mem c.self.inside.links.nodes n (subst P (sym (ap (λ (z : Stored). z.nodes) c.self.view_is)) h)),
      )),
    )
