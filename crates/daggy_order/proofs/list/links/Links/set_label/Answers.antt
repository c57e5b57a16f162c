use Rattle.std.proofs.Common.{◌≡◌, ℕ, List, set, refl, sym, ap, subst, ◌∙◌}
use Rattle.std.proofs.lemmas.List.{map-set}
use Rattle.daggy_base.proofs.Lists.{map-set_same}
use Rattle.daggy_order.specs.Links.{Listed, AreLinksOf, nodes_from, nexts_of, previous_of}
use Rattle.daggy_order.proofs.LinkedNodes.{listed}
use Rattle.daggy_order.proofs.list.links.Links.set_label.Given.{Over}
use Rattle.daggy_order.proofs.list.links.Links.set_label.Goals.{After-index_mut}
use Rattle.daggy_order.proofs.list.links.Links.set_label.Goals as goal

-- the links are as they were
same_nexts : (g : Over) (c : After-index_mut g)
    → nexts_of (set c.self.inside.items.items c.args.i (record c.index_mut.result.now { label = c.args.label }))
    ≡ nexts_of c.self.inside.items.items
same_nexts g c =
    map-set_same (λ x. x.next) c.self.inside.items.items c.args.i c.index_mut.result.now _ c.index_mut.ensures.value refl

same_previous : (g : Over) (c : After-index_mut g)
    → previous_of (set c.self.inside.items.items c.args.i (record c.index_mut.result.now { label = c.args.label }))
    ≡ previous_of c.self.inside.items.items
same_previous g c =
    map-set_same (λ x. x.previous) c.self.inside.items.items c.args.i c.index_mut.result.now _
    c.index_mut.ensures.value refl

pub invariant_of-self : goal.invariant_of-self
invariant_of-self g c =
    let at = (goal.at.invariant_of-self g c).After-index_mut in
    let E : ℕ = g.Ix.IndexType.greatest in
    let P : List ℕ → Type 0 = λ z.
    AreLinksOf E z (previous_of c.self.inside.items.items) c.self.inside.first c.self.inside.last
    (nodes_from E z c.self.inside.first c.self.inside.count) in
    let nexts = nexts_of
    (set c.self.inside.items.items c.args.i (record c.index_mut.result.now { label = c.args.label })) in
    let Q : List ℕ → Type 0 = λ z.
    AreLinksOf E nexts z c.self.inside.first c.self.inside.last
    (nodes_from E nexts c.self.inside.first c.self.inside.count) in
    subst Q (sym (same_previous g at)) (subst P (sym (same_nexts g at)) c.self.invariant)

pub returns : goal.returns
returns g c =
    let at = (goal.at.returns g c).After-index_mut in
    listed (ap (λ (z : List ℕ). nodes_from g.Ix.IndexType.greatest z c.self.inside.first c.self.inside.count)
    (same_nexts g at)
    ∙ ap (λ (z : Listed). z.nodes) c.self.view_is)
    (map-set (λ x. x.label) c.self.inside.items.items c.args.i _
    ∙ ap (λ (z : List ℕ). set z c.args.i c.args.label) (ap (λ (z : Listed). z.labels) c.self.view_is))
    (ap (λ (z : Listed). z.capacity) c.self.view_is)
