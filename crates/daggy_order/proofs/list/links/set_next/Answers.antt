use Rattle.std.proofs.Common.{◌≢◌, ◌<◌, ℕ, List, length, set, inl, inr, refl, sym, ap, subst, ◌∙◌, arith}
use Rattle.std.proofs.lemmas.List.{map-set}
use Rattle.daggy_base.proofs.Lists.{map-set_same}
use Rattle.daggy_order.specs.Links.{LeadsTo, neighbor, nexts_of}
use Rattle.daggy_order.proofs.Items.{nexts_many, leads_set}
use Rattle.daggy_order.proofs.list.links.set_next.Goals as goal

pub returns-else-index-clause-next : goal.returns-else-index-clause-next
returns-else-index-clause-next g c =
    let E : ℕ = g.Ix.IndexType.greatest in
    let nexts : List ℕ = nexts_of c.args.items.now.items in
    let real : c.args.p ≢ E = λ e.
    c.if-index.false (c.index.ensures.value ∙ (e ∙ sym (c.index-2.ensures.value ∙ c.end.ensures.value))) in
    let low : c.args.p < length nexts =
    elim c.requires [
      | inl e ↦ absurd (real e)
      | inr h ↦ omega (arith, h, nexts_many c.args.items.now.items, c.args.items.now.ok.0)
    ] in
    let P : List ℕ → Type 0 = λ z.
    LeadsTo (neighbor E c.args.first.now nexts) (neighbor E c.args.first.now z) c.args.p c.args.q in
    subst P
    (sym (map-set (λ x. x.next) c.args.items.now.items c.index-else-index.result _
    ∙ ap (λ z. set nexts z c.args.q) c.index-else-index.ensures.value))
    (leads_set E c.args.first.now nexts c.args.p c.args.q real low)

pub returns-else-index-clause-previous : goal.returns-else-index-clause-previous
returns-else-index-clause-previous g c =
    map-set_same (λ x. x.previous) c.args.items.now.items c.index-else-index.result c.index_mut.result.now _
    c.index_mut.ensures.value refl

pub returns-else-index-clause-labels : goal.returns-else-index-clause-labels
returns-else-index-clause-labels g c =
    map-set_same (λ x. x.label) c.args.items.now.items c.index-else-index.result c.index_mut.result.now _
    c.index_mut.ensures.value refl
