use Rattle.std.proofs.Common.{inr, inl, map, refl, sym, ap, ◌∙◌}
use Rattle.std.proofs.lemmas.List.Sorted.{Contains-permutation, IsPermutation-map}
use Rattle.daggy_base.proofs.Lists.{contains_mem}
use Rattle.daggy_computed.specs.Settling.{Gives}
use Rattle.daggy_computed.proofs.Joined.{joined}
use Rattle.daggy_computed.proofs.UnderWay.{begins, goes_on, nearer, noted, not_noted}
use Rattle.daggy_computed.proofs.refreshing.refresh_nodes.Goals as goal

pub nodes-init : goal.nodes-init
nodes-init g c =
    let number = g.Ix.IndexType.number in
    let h = c.requires.ready in
    record {
      ready = record {
        sized = h.sized;
        slots_are = h.slots_are ∙ sym c.sift_from.ensures.slots;
        real = h.real;
        waits = λ m s. Contains-permutation _ _ m (IsPermutation-map number c.args.queue.now.nodes c.sift_from.new.self.nodes c.sift_from.ensures.moved) (h.waits m s);
      };
      len = refl;
      heap = c.sift_from.ensures.heap;
      so_far = begins g.V.PartialEq.eq (Gives (goal.F-post g) c.args.f.now) c.args.order.now
          (g.S.EdgeSource.graph c.args.store.now) c.args.entries.now.items (map number c.clear.new.self.items)
          (ap (map number) c.clear.ensures.items);
    }

pub nodes-smaller-then-branch : goal.nodes-smaller-then-branch
nodes-smaller-then-branch g c =
    let number = g.Ix.IndexType.number in
    let graph = g.S.EdgeSource.graph c.args.store.now in
    let n = number c.in-Some.n in
    let k = c.in_ok-refresh_first.ensures in
    let some = (rw c.as_slice.ensures.value at c.in-Some.ensures.some) in
    let first = (rw c.as_slice.ensures.value at c.in-Some.ensures.first) in
    nearer g.V.PartialEq.eq (Gives (goal.F-post g) c.args.f.now) c.args.order.now graph c.requires.ordered c.args.entries.now.items
    c.nodes.entries.items c.refresh_first.new.entries.items (map number c.nodes.changed.items) n c.in_ok-refresh_first.field-0
    c.nodes.invariant.so_far k.turn some.2 c.nodes.invariant.ready.real first
    (λ m s. elim (k.stale m s) [
      | inl q ↦ inl (joined c.invariant.ensures.well_formed n m (contains_mem _ m q))
      | inr t ↦ inr t
    ])

pub nodes-preserved-then-branch : goal.nodes-preserved-then-branch
nodes-preserved-then-branch g c =
    let number = g.Ix.IndexType.number in
    let graph = g.S.EdgeSource.graph c.args.store.now in
    let n = number c.in-Some.n in
    let k = c.in_ok-refresh_first.ensures in
    let some = (rw c.as_slice.ensures.value at c.in-Some.ensures.some) in
    let first = (rw c.as_slice.ensures.value at c.in-Some.ensures.first) in
    record {
      ready = k.ready;
      len = k.len ∙ c.nodes.invariant.len;
      heap = k.heap;
      so_far = goes_on g.V.PartialEq.eq (Gives (goal.F-post g) c.args.f.now) c.args.order.now graph c.requires.ordered c.args.entries.now.items
          c.nodes.entries.items c.refresh_first.new.entries.items (map number c.nodes.changed.items) n c.in_ok-refresh_first.field-0
          c.nodes.invariant.so_far k.turn some.2 c.nodes.invariant.ready.real first
          (λ m s. elim (k.stale m s) [
            | inl q ↦ inl (joined c.invariant.ensures.well_formed n m (contains_mem _ m q))
            | inr t ↦ inr t
          ])
          (map number c.push_reserved.new.self.items) (noted number c.nodes.changed.items c.reserve.new.self.items _ c.reserve.ensures.items c.push_reserved.new.self.items c.in-Some.n
          c.push_reserved.ensures.items c.if-branch.true);
    }

pub nodes-smaller : goal.nodes-smaller
nodes-smaller g c =
    let number = g.Ix.IndexType.number in
    let graph = g.S.EdgeSource.graph c.args.store.now in
    let n = number c.in-Some.n in
    let k = c.in_ok-refresh_first.ensures in
    let some = (rw c.as_slice.ensures.value at c.in-Some.ensures.some) in
    let first = (rw c.as_slice.ensures.value at c.in-Some.ensures.first) in
    nearer g.V.PartialEq.eq (Gives (goal.F-post g) c.args.f.now) c.args.order.now graph c.requires.ordered c.args.entries.now.items
    c.nodes.entries.items c.refresh_first.new.entries.items (map number c.nodes.changed.items) n c.in_ok-refresh_first.field-0
    c.nodes.invariant.so_far k.turn some.2 c.nodes.invariant.ready.real first
    (λ m s. elim (k.stale m s) [
      | inl q ↦ inl (joined c.invariant.ensures.well_formed n m (contains_mem _ m q))
      | inr t ↦ inr t
    ])

pub nodes-preserved : goal.nodes-preserved
nodes-preserved g c =
    let number = g.Ix.IndexType.number in
    let graph = g.S.EdgeSource.graph c.args.store.now in
    let n = number c.in-Some.n in
    let k = c.in_ok-refresh_first.ensures in
    let some = (rw c.as_slice.ensures.value at c.in-Some.ensures.some) in
    let first = (rw c.as_slice.ensures.value at c.in-Some.ensures.first) in
    record {
      ready = k.ready;
      len = k.len ∙ c.nodes.invariant.len;
      heap = k.heap;
      so_far = goes_on g.V.PartialEq.eq (Gives (goal.F-post g) c.args.f.now) c.args.order.now graph c.requires.ordered c.args.entries.now.items
          c.nodes.entries.items c.refresh_first.new.entries.items (map number c.nodes.changed.items) n c.in_ok-refresh_first.field-0
          c.nodes.invariant.so_far k.turn some.2 c.nodes.invariant.ready.real first
          (λ m s. elim (k.stale m s) [
            | inl q ↦ inl (joined c.invariant.ensures.well_formed n m (contains_mem _ m q))
            | inr t ↦ inr t
          ])
          (map number c.reserve.new.self.items) (not_noted number c.nodes.changed.items c.reserve.new.self.items _ c.reserve.ensures.items n c.if-branch.false);
    }

pub returns-then-len-many-clause-turns : goal.returns-then-len-many-clause-turns
returns-then-len-many-clause-turns g c =
    let number = g.Ix.IndexType.number in
    let u = c.refresh_along.ensures.under_way c.args.entries.now.items
    (begins g.V.PartialEq.eq (Gives (goal.F-post g) c.args.f.now) c.args.order.now (g.S.EdgeSource.graph c.args.store.now)
    c.args.entries.now.items (map number c.clear.new.self.items) (ap (map number) c.clear.ensures.items)) in
    (u.turns, u.ascending, u.refreshes)

pub returns-then-len-many-2-clause-turns : goal.returns-then-len-many-2-clause-turns
returns-then-len-many-2-clause-turns g c =
    let u = c.refresh_along-then-len-many-2.ensures.under_way c.args.entries.now.items c.nodes.invariant.so_far in
    (u.turns, u.ascending, u.refreshes)
