use Rattle.std.proofs.Common.{◌≡◌, ◌≢◌, ◌<◌, ◌∷◌, false, true, inr, inl, map, length, arith, refl, sym, ap, subst, ◌∙◌}
use Rattle.std.specs.List.Sorted.{IsPermutation}
use Rattle.std.proofs.lemmas.List.{length-set}
use Rattle.daggy_base.proofs.Lists.{contains_mem}
use Rattle.daggy_computed.specs.Cells.{cells, value_of, IsStaleAt}
use Rattle.daggy_computed.specs.Marking.{all_marked, children_of}
use Rattle.daggy_computed.specs.Refreshing.{IsReady}
use Rattle.daggy_computed.specs.Settling.{Gives, is_new, settled_at, kept_value}
use Rattle.daggy_computed.proofs.Joined.{joined, ends}
use Rattle.daggy_computed.proofs.Turned.{stale_settled, turn_same, turn_new, ready_settled, ready_marked}
use Rattle.daggy_computed.proofs.refreshing.refresh_first.Given.{Over}
use Rattle.daggy_computed.proofs.refreshing.refresh_first.Goals.{After-pop}
use Rattle.daggy_computed.proofs.refreshing.refresh_first.Goals as goal

-- once the node was taken out
module _ (g : Over) (c : After-pop g) where
  settled_is : c.settle-is_new.new.entries.items
      ≡ settled_at g.V.PartialEq.eq c.args.entries.now.items (g.Ix.IndexType.number c.args.n) c.in_ok-value.value
  settled_is =
      c.settle-is_new.ensures.settled
      ∙ ap (λ i. settled_at g.V.PartialEq.eq c.args.entries.now.items i c.in_ok-value.value) c.index.ensures.value

  kept_is : c.settle-is_new.result
      ≡ is_new g.V.PartialEq.eq (value_of c.args.entries.now.items (g.Ix.IndexType.number c.args.n)) c.in_ok-value.value
  kept_is =
      c.settle-is_new.ensures.changed
      ∙ ap (λ i. is_new g.V.PartialEq.eq (value_of c.args.entries.now.items i) c.in_ok-value.value) c.index.ensures.value

  low : g.Ix.IndexType.number c.args.n < length c.args.entries.now.items
  low = c.requires.ready.sized _ (c.requires.ready.real _ c.requires.stale)

  left : (m : _) → IsStaleAt c.settle-is_new.new.entries.items m
      → (m ≢ g.Ix.IndexType.number c.args.n) × IsStaleAt c.args.entries.now.items m
  left m s =
      stale_settled g.V.PartialEq.eq c.args.entries.now.items (g.Ix.IndexType.number c.args.n) c.in_ok-value.value low m
      (subst (λ z. IsStaleAt z m) settled_is s)

  moved : IsPermutation c.args.queue.now.nodes (c.args.n ∷ c.pop.new.self.nodes)
  moved = subst (λ z. IsPermutation c.args.queue.now.nodes (z ∷ c.pop.new.self.nodes)) (sym c.requires.first) (c.pop.ensures.taken c.args.n)

  ready_then : IsReady (g.S.EdgeSource.graph c.args.store.now) c.settle-is_new.new.entries.items c.pop.new.self.slots
      (map g.Ix.IndexType.number c.pop.new.self.nodes)
  ready_then =
      ready_settled g.Ix.IndexType.number (g.S.EdgeSource.graph c.args.store.now) c.args.entries.now.items
      c.settle-is_new.new.entries.items c.args.queue.now.slots c.pop.new.self.slots c.args.queue.now.nodes c.pop.new.self.nodes
      c.args.n c.requires.ready moved
      (ap length settled_is
      ∙ length-set c.args.entries.now.items (g.Ix.IndexType.number c.args.n)
      (record { value = kept_value g.V.PartialEq.eq (value_of c.args.entries.now.items (g.Ix.IndexType.number c.args.n)) c.in_ok-value.value; stale = false }))
      c.pop.ensures.slots left

pub returns-then-not-is_new-clause-turn : goal.returns-then-not-is_new-clause-turn
returns-then-not-is_new-clause-turn g c =
    let at = (goal.at.returns-then-not-is_new-clause-turn g c).After-pop in
    let graph = g.S.EdgeSource.graph c.args.store.now in
    let v = (rw c.as_slice.ensures.value at c.in_ok-value.ensures.value) in
    let off : c.settle-is_new.result ≡ false = c.if-not-is_new.true in
    turn_same g.V.PartialEq.eq (Gives (goal.F-post g) c.args.f.now) graph c.args.entries.now.items
    (g.Ix.IndexType.number c.args.n) v.0 (low g at) v.1 c.requires.stale c.in_ok-value.value v.2 false
    (sym off ∙ kept_is g at) refl c.settle-is_new.new.entries.items (settled_is g at)

pub returns-then-not-is_new-clause-stale : goal.returns-then-not-is_new-clause-stale
returns-then-not-is_new-clause-stale g c = λ m s.
    inr (left g (goal.at.returns-then-not-is_new-clause-stale g c).After-pop m s)

pub returns-then-not-is_new-clause-ready : goal.returns-then-not-is_new-clause-ready
returns-then-not-is_new-clause-ready g c = ready_then g (goal.at.returns-then-not-is_new-clause-ready g c).After-pop

pub returns-clause-turn : goal.returns-clause-turn
returns-clause-turn g c =
    let at = (goal.at.returns-clause-turn g c).After-pop in
    let graph = g.S.EdgeSource.graph c.args.store.now in
    let n = g.Ix.IndexType.number c.args.n in
    let v = (rw c.as_slice.ensures.value at c.in_ok-value.ensures.value) in
    let on : c.settle-is_new.result ≡ true = c.if-not-is_new.false in
    turn_new g.V.PartialEq.eq (Gives (goal.F-post g) c.args.f.now) graph c.args.entries.now.items n v.0 (low g at) v.1
    c.requires.stale c.in_ok-value.value v.2 true (sym on ∙ kept_is g at) refl c.mark_children.new.entries.items
    (c.mark_children.ensures.marked ∙ ap (λ z. all_marked (cells graph z) (children_of graph n)) (settled_is g at))

pub returns-clause-stale : goal.returns-clause-stale
returns-clause-stale g c = λ m s. elim (c.mark_children.ensures.stale m s) [
  | inl k ↦ inl k
  | inr t ↦ inr (left g (goal.at.returns-clause-stale g c).After-pop m t)
]

pub returns-clause-ready : goal.returns-clause-ready
returns-clause-ready g c =
    let number = g.Ix.IndexType.number in
    let graph = g.S.EdgeSource.graph c.args.store.now in
    let k = c.mark_children.ensures in
    let kids = children_of graph (number c.args.n) in
    ready_marked number graph c.settle-is_new.new.entries.items c.mark_children.new.entries.items c.pop.new.self.slots
    c.sift_from.new.self.slots c.pop.new.self.nodes c.mark_children.new.queue.nodes c.sift_from.new.self.nodes k.put.0 kids
    (ready_then g (goal.at.returns-clause-ready g c).After-pop)
    (omega (arith, k.len, c.mark_children.new.entries.ok.0, c.settle-is_new.new.entries.ok.0))
    (c.sift_from.ensures.slots ∙ k.slots) k.put.1 c.sift_from.ensures.moved k.all
    (λ m q. (ends c.invariant.ensures.well_formed (number c.args.n) m
    (joined c.invariant.ensures.well_formed (number c.args.n) m (contains_mem kids m q))).1)
    k.stale
