use Rattle.std.proofs.Common.{rules, ◌≡◌, true, inl, inr, map, refl, sym, ap, subst, ◌∙◌}
use Rattle.daggy_base.proofs.Lists.{contains_mem}
use Rattle.daggy_computed.specs.Cells.{IsStaleAt}
use Rattle.daggy_computed.specs.Refreshing.{IsUnderWay}
use Rattle.daggy_computed.specs.Settling.{Gives}
use Rattle.daggy_computed.proofs.Along.{along_start, along_end, along_passed, along_turned}
use Rattle.daggy_computed.proofs.Joined.{joined}
use Rattle.daggy_computed.proofs.UnderWay.{noted, not_noted}
use Rattle.daggy_computed.proofs.refreshing.refresh_along.Goals as goal

pub nodes-init : goal.nodes-init
nodes-init g c =
    let number = g.Ix.IndexType.number in
    let start : c.into_iter-n-iterator.result ≡ c.args.order.now =
    c.into_iter-n-iterator.ensures.into_iter_gives ∙ c.nodes-n-items.ensures.rest in
    record {
      can = tt;
      ends = tt;
      ready = c.requires.ready;
      len = refl;
      so_far = along_start g.V.PartialEq.eq (Gives (goal.F-post g) c.args.f.now) c.args.order.now
          (g.S.EdgeSource.graph c.args.store.now) c.into_iter-n-iterator.result c.args.entries.now.items
          (map number c.args.changed.now.items) start;
    }

pub nodes-preserved-then-not-is_stale : goal.nodes-preserved-then-not-is_stale
nodes-preserved-then-not-is_stale g c =
    let number = g.Ix.IndexType.number in
    let graph = g.S.EdgeSource.graph c.args.store.now in
    let n = c.in-Some.n in
    let es = c.nodes.entries.items in
    let old = map number c.nodes.changed.items in
    let fresh : IsStaleAt es (number n) → ⊥ = λ s. (
    let there = subst (λ z. IsStaleAt z c.index.result) (sym c.as_slice.ensures.value) (subst (IsStaleAt es) (sym c.index.ensures.value) s) in
    let t = c.is_stale.ensures.1 there in
    cc
    ) in
    record {
      can = search rules;
      ends = search rules;
      ready = c.nodes.invariant.ready;
      len = c.nodes.invariant.len;
      so_far = along_passed g.V.PartialEq.eq (Gives (goal.F-post g) c.args.f.now) c.args.order.now graph c.nodes.n-iterator
          c.next.new.self c.args.entries.now.items es (map number c.args.changed.now.items) old (number n)
          c.nodes.invariant.so_far c.in-Some.ensures.steps old refl fresh;
    }

pub returns-then-is_err-clause-under_way : goal.returns-then-is_err-clause-under_way
returns-then-is_err-clause-under_way g c = λ base u.
    let number = g.Ix.IndexType.number in
    subst (IsUnderWay g.V.PartialEq.eq (Gives (goal.F-post g) c.args.f.now) c.args.order.now
    (g.S.EdgeSource.graph c.args.store.now) base c.nodes.entries.items)
    (sym (ap (map number) c.reserve.ensures.items)) (c.nodes.invariant.so_far.kept base u)

pub nodes-preserved-then-branch : goal.nodes-preserved-then-branch
nodes-preserved-then-branch g c =
    let number = g.Ix.IndexType.number in
    let graph = g.S.EdgeSource.graph c.args.store.now in
    let n = c.in-Some.n in
    let es = c.nodes.entries.items in
    let k = c.in_ok-refresh_one.ensures in
    let b = c.in_ok-refresh_one.field-0 in
    let old = map number c.nodes.changed.items in
    let on : c.is_stale.result ≡ true = c.if-not-is_stale.false in
    let stale : IsStaleAt es (number n) =
    subst (IsStaleAt es) c.index.ensures.value
    (subst (λ z. IsStaleAt z c.index.result) c.as_slice.ensures.value (c.is_stale.ensures.0 on)) in
    record {
      can = search rules;
      ends = search rules;
      ready = k.ready;
      len = k.len ∙ c.nodes.invariant.len;
      so_far = along_turned g.V.PartialEq.eq (Gives (goal.F-post g) c.args.f.now) c.args.order.now graph c.nodes.n-iterator
          c.next.new.self c.args.entries.now.items es (map number c.args.changed.now.items) old (number n)
          c.nodes.invariant.so_far c.in-Some.ensures.steps c.requires.ordered stale c.nodes.invariant.ready.real
          c.refresh_one.new.entries.items b k.turn
          (λ m s. elim (k.stale m s) [
            | inl q ↦ inl (joined c.invariant.ensures.well_formed (number n) m (contains_mem _ m q))
            | inr t ↦ inr t
          ])
          (map number c.push_reserved.new.self.items)
          (noted number c.nodes.changed.items c.reserve.new.self.items b c.reserve.ensures.items c.push_reserved.new.self.items n
          c.push_reserved.ensures.items c.if-branch.true);
    }

pub nodes-preserved : goal.nodes-preserved
nodes-preserved g c =
    let number = g.Ix.IndexType.number in
    let graph = g.S.EdgeSource.graph c.args.store.now in
    let n = c.in-Some.n in
    let es = c.nodes.entries.items in
    let k = c.in_ok-refresh_one.ensures in
    let b = c.in_ok-refresh_one.field-0 in
    let old = map number c.nodes.changed.items in
    let on : c.is_stale.result ≡ true = c.if-not-is_stale.false in
    let stale : IsStaleAt es (number n) =
    subst (IsStaleAt es) c.index.ensures.value
    (subst (λ z. IsStaleAt z c.index.result) c.as_slice.ensures.value (c.is_stale.ensures.0 on)) in
    record {
      can = search rules;
      ends = search rules;
      ready = k.ready;
      len = k.len ∙ c.nodes.invariant.len;
      so_far = along_turned g.V.PartialEq.eq (Gives (goal.F-post g) c.args.f.now) c.args.order.now graph c.nodes.n-iterator
          c.next.new.self c.args.entries.now.items es (map number c.args.changed.now.items) old (number n)
          c.nodes.invariant.so_far c.in-Some.ensures.steps c.requires.ordered stale c.nodes.invariant.ready.real
          c.refresh_one.new.entries.items b k.turn
          (λ m s. elim (k.stale m s) [
            | inl q ↦ inl (joined c.invariant.ensures.well_formed (number n) m (contains_mem _ m q))
            | inr t ↦ inr t
          ])
          (map number c.reserve.new.self.items)
          (not_noted number c.nodes.changed.items c.reserve.new.self.items b c.reserve.ensures.items (number n) c.if-branch.false);
    }

pub returns-clause-fresh : goal.returns-clause-fresh
returns-clause-fresh g c =
    let number = g.Ix.IndexType.number in
    along_end g.V.PartialEq.eq (Gives (goal.F-post g) c.args.f.now) c.args.order.now (g.S.EdgeSource.graph c.args.store.now)
    c.requires.ordered c.nodes.n-iterator c.args.entries.now.items c.nodes.entries.items (map number c.args.changed.now.items)
    (map number c.nodes.changed.items) c.nodes.invariant.so_far c.in-None.ensures.steps.0 c.nodes.invariant.ready.real

pub returns-clause-ready : goal.returns-clause-ready
returns-clause-ready g c =
    let h = c.nodes.invariant.ready in
    record {
      sized = h.sized;
      slots_are = h.slots_are ∙ sym c.clear.ensures.slots;
      real = h.real;
      waits = λ m s. absurd (returns-clause-fresh g c m s);
    }
