use Rattle.std.proofs.Common.{◌≡◌, ℕ, inl, inr, List, ◌∷◌, ◌∙◌, sym, ap, subst, map, arith}
use Rattle.daggy_base.specs.Removal.{renamed}
use Rattle.daggy_base.proofs.Lists.{Mem, Unique, split_at}
use Rattle.daggy_order.specs.Links.{Listed, nodes_from, neighbor, nexts_of, previous_of}
use Rattle.daggy_order.proofs.Chains.{IsRenamed}
use Rattle.daggy_order.proofs.Items.{as_many}
use Rattle.daggy_order.proofs.LinkedNodes.{Keeps, listed, once, length_walk, is_renamed, not_led, not_before, not_behind}
use Rattle.daggy_order.proofs.LinkedNodes.{renamed_kept}
use Rattle.daggy_order.proofs.NodeItems.{linking, is_held, item_low, next_here, previous_here, next_among, previous_among}
use Rattle.daggy_order.proofs.NodeItems.{next_low, previous_low, can_put}
use Rattle.daggy_order.proofs.Labelled.{renamed_mid}
use Rattle.daggy_order.proofs.list.links.Links.rename.Given.{Over}
use Rattle.daggy_order.proofs.list.links.Links.rename.Goals.{After-join-2}
use Rattle.daggy_order.proofs.list.links.Links.rename.Goals as goal

-- the links after the two joins lead over m in the place of n
kept : (g : Over) (c : After-join-2 g)
    → Keeps g.Ix.IndexType.greatest (linking c.join-2.new.items.items c.join-2.new.first c.join-2.new.last)
    c.self.inside.count (map (renamed c.args.n c.args.m) c.args.self.now.nodes)
kept g c =
    let E : ℕ = g.Ix.IndexType.greatest in
    let s = c.self.invariant in
    let items = c.self.inside.items.items in
    let between = c.join.new.items.items in
    let new = c.join-2.new.items.items in
    let N : ℕ → ℕ = neighbor E c.self.inside.first (nexts_of items) in
    let P : ℕ → ℕ = neighbor E c.self.inside.last (previous_of items) in
    let xs = nodes_from E (nexts_of items) c.self.inside.first c.self.inside.count in
    let nodes : xs ≡ c.args.self.now.nodes = ap (λ (z : Listed). z.nodes) c.self.view_is in
    let held = is_held nodes c.requires.held in
    let is = c.index-2.ensures in
    let at = c.index.ensures.value in
    let can =
    can_put items between new c.join-2.new.first c.join-2.new.last nodes (ap (λ (z : Listed). z.labels) c.self.view_is)
    c.requires.real c.requires.absent c.requires.numbered c.join.ensures.labels c.join-2.ensures.labels in
    let A : ℕ → Type 0 = λ z. Mem z (E ∷ xs) in
    let is_renamed_here : IsRenamed N P (neighbor E c.join-2.new.first (nexts_of new))
    (neighbor E c.join-2.new.last (previous_of new)) c.args.n c.args.m =
    is_renamed (neighbor E c.join.new.first (nexts_of between)) (neighbor E c.join.new.last (previous_of between))
    (previous_here items s held is at) (next_here items s held is at)
    (λ e. can.fresh (subst A (sym e) (previous_among items s held is at)))
    (not_led xs can.fresh _ (next_among items s held is at)) c.join.ensures.next c.join-2.ensures.next
    c.join.ensures.previous c.join-2.ensures.previous in
    let split = split_at xs c.args.n held in
    let whole = length_walk E (nexts_of items) c.self.inside.first c.self.inside.count in
    let is_kept = renamed_kept s can is_renamed_here c.self.inside.count (sym whole) split.0 split.1 split.2 in
    let U : List ℕ → Type 0 = λ z. Unique z in
    let alone = subst U split.2 (once s).1 in
    record {
      linked = is_kept.linked;
      same = is_kept.same
          ∙ (sym (renamed_mid c.args.n c.args.m split.0 split.1 (not_before split.0 c.args.n split.1 alone)
          (not_behind split.0 c.args.n split.1 alone))
          ∙ (ap (map (renamed c.args.n c.args.m)) (sym split.2) ∙ ap (map (renamed c.args.n c.args.m)) nodes));
    }

pub index-requires-2 : goal.index-requires-2
index-requires-2 g c =
    let held = is_held (ap (λ (z : Listed). z.nodes) c.self.view_is) c.requires.held in
    omega (
      arith,
      c.index.ensures.value,
      item_low c.self.inside.items.items c.self.invariant held,
      c.self.inside.items.ok.0,
    )

pub join-requires-clause-before : goal.join-requires-clause-before
join-requires-clause-before g c =
    let items = c.self.inside.items.items in
    let held = is_held (ap (λ (z : Listed). z.nodes) c.self.view_is) c.requires.held in
    elim (previous_low items c.self.invariant held c.index-2.ensures c.index.ensures.value) [
      | inl is ↦ inl is
      | inr below ↦ inr (omega (arith, below, c.self.inside.items.ok.0))
    ]

pub join-requires-2-clause-after : goal.join-requires-2-clause-after
join-requires-2-clause-after g c =
    let items = c.self.inside.items.items in
    let held = is_held (ap (λ (z : Listed). z.nodes) c.self.view_is) c.requires.held in
    elim (next_low items c.self.invariant held c.index-2.ensures c.index.ensures.value) [
      | inl is ↦ inl is
      | inr below ↦
          inr
          (omega (arith, below, as_many items c.join.new.items.items c.join.ensures.labels, c.join.new.items.ok.0))
    ]

pub invariant_of-self : goal.invariant_of-self
invariant_of-self g c = (kept g (goal.at.invariant_of-self g c).After-join-2).linked

pub returns : goal.returns
returns g c =
    listed (kept g (goal.at.returns g c).After-join-2).same
    (c.join-2.ensures.labels ∙ (c.join.ensures.labels ∙ ap (λ (z : Listed). z.labels) c.self.view_is))
    (c.join-2.ensures.capacity ∙ (c.join.ensures.capacity ∙ ap (λ (z : Listed). z.capacity) c.self.view_is))
