use Rattle.std.proofs.Common.{rules, ◌≡◌, ℕ, suc, ◌+◌, ◌<◌, inl, inr, List, ◌^◌, ◌∷◌, ◌∙◌, sym, ap, subst, arith}
use Rattle.daggy_order.specs.Links.{Listed, LeadsTo, nodes_from, neighbor, nexts_of, previous_of}
use Rattle.daggy_order.proofs.Chains.{IsPut, neighbor_end}
use Rattle.daggy_order.proofs.Items.{previous_many, as_many}
use Rattle.daggy_order.proofs.LinkedNodes.{Keeps, listed, few, length_walk, is_put, not_led}
use Rattle.daggy_order.proofs.LinkedNodes.{first_leads, leads_within, put_first_kept}
use Rattle.daggy_order.proofs.NodeItems.{linking, can_put}
use Rattle.daggy_order.proofs.list.links.Links.put_first.Given.{Over}
use Rattle.daggy_order.proofs.list.links.Links.put_first.Goals.{After-join-2}
use Rattle.daggy_order.proofs.list.links.Links.put_first.Goals as goal

-- the links after the two joins lead over n too, before the others
put : (g : Over) (c : After-join-2 g)
    → Keeps g.Ix.IndexType.greatest (linking c.join-2.new.items.items c.join-2.new.first c.join-2.new.last)
    (c.self.inside.count + 1) (c.args.n ∷ c.args.self.now.nodes)
put g c =
    let E : ℕ = g.Ix.IndexType.greatest in
    let s = c.self.invariant in
    let items = c.self.inside.items.items in
    let between = c.join.new.items.items in
    let new = c.join-2.new.items.items in
    let xs = nodes_from E (nexts_of items) c.self.inside.first c.self.inside.count in
    let nodes : xs ≡ c.args.self.now.nodes = ap (λ (z : Listed). z.nodes) c.self.view_is in
    let can =
    can_put items between new c.join-2.new.first c.join-2.new.last nodes (ap (λ (z : Listed). z.labels) c.self.view_is)
    c.requires.real c.requires.absent c.requires.numbered c.join.ensures.labels c.join-2.ensures.labels in
    let at_end : c.end.result ≡ E = c.end.ensures.value in
    let N : ℕ → ℕ = neighbor E c.self.inside.first (nexts_of items) in
    let P : ℕ → ℕ = neighbor E c.self.inside.last (previous_of items) in
    let A : ℕ → Type 0 = λ z. LeadsTo N (neighbor E c.join.new.first (nexts_of between)) z c.args.n in
    let B : ℕ → Type 0 = λ z. LeadsTo P (neighbor E c.join.new.last (previous_of between)) c.args.n z in
    let is_first : IsPut N P (neighbor E c.join-2.new.first (nexts_of new))
    (neighbor E c.join-2.new.last (previous_of new)) E c.args.n =
    is_put (neighbor E c.join.new.first (nexts_of between)) (neighbor E c.join.new.last (previous_of between))
    c.requires.real (not_led xs can.fresh c.self.inside.first (first_leads s))
    (sym (neighbor_end E c.self.inside.first (nexts_of items))) (subst A at_end c.join.ensures.next)
    c.join-2.ensures.next (subst B at_end c.join.ensures.previous) c.join-2.ensures.previous in
    let counted = ap suc (length_walk E (nexts_of items) c.self.inside.first c.self.inside.count) in
    let kept = put_first_kept s can is_first (c.self.inside.count + 1) (omega (arith, counted)) in
    record { linked = kept.linked; same = kept.same ∙ ap (λ (z : List ℕ). c.args.n ∷ z) nodes }

pub join-requires-2-clause-after : goal.join-requires-2-clause-after
join-requires-2-clause-after g c =
    let s = c.self.invariant in
    elim (leads_within s c.self.inside.first (first_leads s)) [
      | inl is ↦ inl is
      | inr low ↦ inr (omega (
        arith,
        low,
        previous_many c.self.inside.items.items,
        as_many c.self.inside.items.items c.join.new.items.items c.join.ensures.labels,
        c.join.new.items.ok.0,
      ))
    ]

pub overflow_add-self : goal.overflow_add-self
overflow_add-self g c =
    let count = length_walk g.Ix.IndexType.greatest (nexts_of c.self.inside.items.items) c.self.inside.first
    c.self.inside.count in
    let most = few c.self.invariant in
    let items = c.self.inside.items.items in
    let low : c.self.inside.count < 2 ^ 63 =
    omega (arith, count, most, previous_many items, c.self.inside.items.small, c.self.inside.items.ok) in
    search rules

pub invariant_of-self : goal.invariant_of-self
invariant_of-self g c = (put g (goal.at.invariant_of-self g c).After-join-2).linked

pub returns : goal.returns
returns g c =
    listed (put g (goal.at.returns g c).After-join-2).same
    (c.join-2.ensures.labels ∙ (c.join.ensures.labels ∙ ap (λ (z : Listed). z.labels) c.self.view_is))
    (c.join-2.ensures.capacity ∙ (c.join.ensures.capacity ∙ ap (λ (z : Listed). z.capacity) c.self.view_is))
