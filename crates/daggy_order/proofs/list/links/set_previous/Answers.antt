use Rattle.std.proofs.Common.{◌≢◌, ◌<◌, ℕ, List, length, set, inl, inr, refl, sym, ap, subst, ◌∙◌, arith}
use Rattle.std.proofs.lemmas.List.{map-set}
use Rattle.daggy_base.proofs.Lists.{map-set_same}
use Rattle.daggy_order.specs.Links.{LeadsTo, neighbor, previous_of}
use Rattle.daggy_order.proofs.Items.{previous_many, leads_set}
use Rattle.daggy_order.proofs.list.links.set_previous.Goals as goal

pub returns-else-index-clause-previous : goal.returns-else-index-clause-previous
returns-else-index-clause-previous g c =
    let E : ℕ = g.Ix.IndexType.greatest in
    let links : List ℕ = previous_of c.args.items.now.items in
    let real : c.args.q ≢ E = λ e.
    c.if-index.false (c.index.ensures.value ∙ (e ∙ sym (c.index-2.ensures.value ∙ c.end.ensures.value))) in
    let low : c.args.q < length links =
    elim c.requires [
      | inl e ↦ absurd (real e)
      | inr h ↦ omega (arith, h, previous_many c.args.items.now.items, c.args.items.now.ok.0)
    ] in
    let P : List ℕ → Type 0 = λ z.
    LeadsTo (neighbor E c.args.last.now links) (neighbor E c.args.last.now z) c.args.q c.args.p in
    subst P
    (sym (map-set (λ x. x.previous) c.args.items.now.items c.index-else-index.result _
    ∙ ap (λ z. set links z c.args.p) c.index-else-index.ensures.value))
    (leads_set E c.args.last.now links c.args.q c.args.p real low)

pub returns-else-index-clause-next : goal.returns-else-index-clause-next
returns-else-index-clause-next g c =
    map-set_same (λ x. x.next) c.args.items.now.items c.index-else-index.result c.index_mut.result.now _
    c.index_mut.ensures.value refl

pub returns-else-index-clause-labels : goal.returns-else-index-clause-labels
returns-else-index-clause-labels g c =
    map-set_same (λ x. x.label) c.args.items.now.items c.index-else-index.result c.index_mut.result.now _
    c.index_mut.ensures.value refl
