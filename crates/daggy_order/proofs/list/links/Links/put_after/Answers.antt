use Rattle.std.proofs.Common.{rules, ◌≡◌, ℕ, suc, ◌+◌, ◌<◌, inl, inr, List, ◌^◌, ◌∷◌, ◌++◌, ◌∙◌, sym, ap, subst, arith}
use Rattle.daggy_base.proofs.Lists.{Mem, split_at}
use Rattle.daggy_order.specs.Links.{Listed, nodes_from, neighbor, nexts_of, previous_of}
use Rattle.daggy_order.proofs.Chains.{IsPut}
use Rattle.daggy_order.proofs.Items.{previous_many, as_many}
use Rattle.daggy_order.proofs.LinkedNodes.{Keeps, few, length_walk, is_put, not_led, put_kept}
use Rattle.daggy_order.proofs.NodeItems.{linking, is_held, item_low, next_here, next_among, next_low, can_put}
use Rattle.daggy_order.proofs.list.links.Links.put_after.Given.{Over}
use Rattle.daggy_order.proofs.list.links.Links.put_after.Goals.{After-join-2}
use Rattle.daggy_order.proofs.list.links.Links.put_after.Goals as goal

-- the links after the two joins lead over n too, behind p
put : (g : Over) (c : After-join-2 g) (us vs : List ℕ)
    → nodes_from g.Ix.IndexType.greatest (nexts_of c.self.inside.items.items) c.self.inside.first c.self.inside.count
    ≡ us ++ c.args.p ∷ vs
    → Keeps g.Ix.IndexType.greatest (linking c.join-2.new.items.items c.join-2.new.first c.join-2.new.last)
    (c.self.inside.count + 1) (us ++ c.args.p ∷ (c.args.n ∷ vs))
put g c =
    let E : ℕ = g.Ix.IndexType.greatest in
    let s = c.self.invariant in
    let items = c.self.inside.items.items in
    let between = c.join.new.items.items in
    let new = c.join-2.new.items.items in
    let xs = nodes_from E (nexts_of items) c.self.inside.first c.self.inside.count in
    let nodes : xs ≡ c.args.self.now.nodes = ap (λ (z : Listed). z.nodes) c.self.view_is in
    let held = is_held nodes c.requires.held in
    let can =
    can_put items between new c.join-2.new.first c.join-2.new.last nodes (ap (λ (z : Listed). z.labels) c.self.view_is)
    c.requires.real c.requires.absent c.requires.numbered c.join.ensures.labels c.join-2.ensures.labels in
    let A : ℕ → Type 0 = λ z. Mem z xs in
    let is_behind : IsPut (neighbor E c.self.inside.first (nexts_of items))
    (neighbor E c.self.inside.last (previous_of items)) (neighbor E c.join-2.new.first (nexts_of new))
    (neighbor E c.join-2.new.last (previous_of new)) c.args.p c.args.n =
    is_put (neighbor E c.join.new.first (nexts_of between)) (neighbor E c.join.new.last (previous_of between))
    (λ e. can.fresh (inr (subst A (sym e) held)))
    (not_led xs can.fresh _ (next_among items s held c.index-2.ensures c.index.ensures.value))
    (next_here items s held c.index-2.ensures c.index.ensures.value) c.join.ensures.next c.join-2.ensures.next
    c.join.ensures.previous c.join-2.ensures.previous in
    let counted = ap suc (length_walk E (nexts_of items) c.self.inside.first c.self.inside.count) in
    put_kept s can is_behind (c.self.inside.count + 1) (omega (arith, counted))

pub index-requires-2 : goal.index-requires-2
index-requires-2 g c =
    let held = is_held (ap (λ (z : Listed). z.nodes) c.self.view_is) c.requires.held in
    omega (
      arith,
      c.index.ensures.value,
      item_low c.self.inside.items.items c.self.invariant held,
      c.self.inside.items.ok.0,
    )

pub join-requires-clause-before : goal.join-requires-clause-before
join-requires-clause-before g c =
    let held = is_held (ap (λ (z : Listed). z.nodes) c.self.view_is) c.requires.held in
    inr (omega (arith, item_low c.self.inside.items.items c.self.invariant held, c.self.inside.items.ok.0))

pub join-requires-2-clause-after : goal.join-requires-2-clause-after
join-requires-2-clause-after g c =
    let items = c.self.inside.items.items in
    let held = is_held (ap (λ (z : Listed). z.nodes) c.self.view_is) c.requires.held in
    elim (next_low items c.self.invariant held c.index-2.ensures c.index.ensures.value) [
      | inl is ↦ inl is
      | inr below ↦
          inr
          (omega (arith, below, as_many items c.join.new.items.items c.join.ensures.labels, c.join.new.items.ok.0))
    ]

pub overflow_add-self : goal.overflow_add-self
overflow_add-self g c =
    let count = length_walk g.Ix.IndexType.greatest (nexts_of c.self.inside.items.items) c.self.inside.first
    c.self.inside.count in
    let most = few c.self.invariant in
    let items = c.self.inside.items.items in
    let low : c.self.inside.count < 2 ^ 63 =
    omega (arith, count, most, previous_many items, c.self.inside.items.small, c.self.inside.items.ok) in
    search rules

pub invariant_of-self : goal.invariant_of-self
invariant_of-self g c =
    let held = is_held (ap (λ (z : Listed). z.nodes) c.self.view_is) c.requires.held in
    let parts = split_at _ c.args.p held in
    (put g (goal.at.invariant_of-self g c).After-join-2 parts.0 parts.1 parts.2).linked

pub returns-clause-nodes : goal.returns-clause-nodes
returns-clause-nodes g c = λ ns ms is.
    (put g (goal.at.returns-clause-nodes g c).After-join-2 ns ms (ap (λ (z : Listed). z.nodes) c.self.view_is ∙ is)).same

pub returns-clause-labels : goal.returns-clause-labels
returns-clause-labels g c =
    c.join-2.ensures.labels ∙ (c.join.ensures.labels ∙ ap (λ (z : Listed). z.labels) c.self.view_is)

pub returns-clause-capacity : goal.returns-clause-capacity
returns-clause-capacity g c =
    c.join-2.ensures.capacity ∙ (c.join.ensures.capacity ∙ ap (λ (z : Listed). z.capacity) c.self.view_is)
