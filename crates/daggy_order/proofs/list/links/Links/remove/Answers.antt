use Rattle.std.proofs.Common.{◌≡◌, ℕ, suc, ◌+◌, ◌-◌, ◌≤◌, inl, inr, List, ◌∷◌, ◌∙◌, sym, ap, arith, length}
use Rattle.std.proofs.lemmas.List.{length-append}
use Rattle.daggy_base.proofs.Lists.{split_at}
use Rattle.daggy_base.specs.Removal.{without}
use Rattle.daggy_order.specs.Links.{Listed, nodes_from, neighbor, nexts_of, previous_of}
use Rattle.daggy_order.proofs.Chains.{IsTaken}
use Rattle.daggy_order.proofs.Items.{previous_many, as_many}
use Rattle.daggy_order.proofs.LinkedNodes.{Keeps, listed, length_walk, taken_kept}
use Rattle.daggy_order.proofs.NodeItems.{linking, is_held, item_low, next_here, previous_here, next_low, previous_low}
use Rattle.daggy_order.proofs.list.links.Links.remove.Given.{Over}
use Rattle.daggy_order.proofs.list.links.Links.remove.Goals.{After-join}
use Rattle.daggy_order.proofs.list.links.Links.remove.Goals as goal

-- the links after the join lead over the other nodes
taken : (g : Over) (c : After-join g)
    → Keeps g.Ix.IndexType.greatest (linking c.join.new.items.items c.join.new.first c.join.new.last)
    (c.self.inside.count - 1) (without c.args.n c.args.self.now.nodes)
taken g c =
    let E : ℕ = g.Ix.IndexType.greatest in
    let s = c.self.invariant in
    let items = c.self.inside.items.items in
    let new = c.join.new.items.items in
    let N : ℕ → ℕ = neighbor E c.self.inside.first (nexts_of items) in
    let P : ℕ → ℕ = neighbor E c.self.inside.last (previous_of items) in
    let N' : ℕ → ℕ = neighbor E c.join.new.first (nexts_of new) in
    let P' : ℕ → ℕ = neighbor E c.join.new.last (previous_of new) in
    let xs = nodes_from E (nexts_of items) c.self.inside.first c.self.inside.count in
    let nodes : xs ≡ c.args.self.now.nodes = ap (λ (z : Listed). z.nodes) c.self.view_is in
    let held = is_held nodes c.requires in
    let long : length (previous_of items) ≤ length (previous_of new) =
    omega (arith, as_many items new c.join.ensures.labels, previous_many items, previous_many new) in
    let at = split_at xs c.args.n held in
    let some : length xs ≡ length at.0 + suc (length at.1) =
    ap (λ (z : List ℕ). length z) at.2 ∙ length-append at.0 (c.args.n ∷ at.1) in
    let whole : length xs ≡ c.self.inside.count =
    length_walk E (nexts_of items) c.self.inside.first c.self.inside.count in
    let count : ℕ = c.self.inside.count - 1 in
    let counted : count + 1 ≡ length xs = omega (arith, some, whole) in
    let p_n = previous_here items s held c.index-2.ensures c.index.ensures.value in
    let q_n = next_here items s held c.index-2.ensures c.index.ensures.value in
    let is_taken : IsTaken N P N' P' c.args.n =
    record {
      to = ap N' (sym p_n) ∙ (c.join.ensures.next.led ∙ q_n);
      ahead = λ k d. c.join.ensures.next.others k (λ e. d (e ∙ p_n));
      from = ap P' (sym q_n) ∙ (c.join.ensures.previous.led ∙ p_n);
      back = λ k d. c.join.ensures.previous.others k (λ e. d (e ∙ q_n));
    } in
    let kept =
    taken_kept s (linking new c.join.new.first c.join.new.last) long is_taken count counted at.0 at.1 at.2 in
    record { linked = kept.linked; same = kept.same ∙ ap (without c.args.n) nodes }

pub index-requires-2 : goal.index-requires-2
index-requires-2 g c =
    let held = is_held (ap (λ (z : Listed). z.nodes) c.self.view_is) c.requires in
    omega (
      arith,
      c.index.ensures.value,
      item_low c.self.inside.items.items c.self.invariant held,
      c.self.inside.items.ok.0,
    )

pub join-requires-clause-before : goal.join-requires-clause-before
join-requires-clause-before g c =
    let items = c.self.inside.items.items in
    let held = is_held (ap (λ (z : Listed). z.nodes) c.self.view_is) c.requires in
    elim (previous_low items c.self.invariant held c.index-2.ensures c.index.ensures.value) [
      | inl is ↦ inl is
      | inr below ↦ inr (omega (arith, below, c.self.inside.items.ok.0))
    ]

pub join-requires-clause-after : goal.join-requires-clause-after
join-requires-clause-after g c =
    let items = c.self.inside.items.items in
    let held = is_held (ap (λ (z : Listed). z.nodes) c.self.view_is) c.requires in
    elim (next_low items c.self.invariant held c.index-2.ensures c.index.ensures.value) [
      | inl is ↦ inl is
      | inr below ↦ inr (omega (arith, below, c.self.inside.items.ok.0))
    ]

pub invariant_of-self : goal.invariant_of-self
invariant_of-self g c = (taken g (goal.at.invariant_of-self g c).After-join).linked

pub returns : goal.returns
returns g c =
    listed (taken g (goal.at.returns g c).After-join).same
    (c.join.ensures.labels ∙ ap (λ (z : Listed). z.labels) c.self.view_is)
    (c.join.ensures.capacity ∙ ap (λ (z : Listed). z.capacity) c.self.view_is)
