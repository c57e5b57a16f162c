use Rattle.std.proofs.Common.{◌≡◌, true, ◌++◌, ◌∷◌, [], inl, inr, map, refl, sym, ap, subst, ◌∙◌, arith, if◌then◌else◌}
use Rattle.std.proofs.lemmas.List.{length-map}
use Rattle.daggy_base.proofs.Lists.{contains_mem}
use Rattle.daggy_computed.specs.Cells.{IsStaleAt}
use Rattle.daggy_computed.specs.Settling.{Gives}
use Rattle.daggy_computed.proofs.Ancestry.{none_done, passed, turned, turns_done, all_fresh, number_at}
use Rattle.daggy_computed.proofs.Joined.{joined, ends}
use Rattle.daggy_computed.proofs.UnderWay.{noted, not_noted}
use Rattle.daggy_computed.proofs.needed.refresh_listed.Goals.{then-branch, else-branch}
use Rattle.daggy_computed.proofs.needed.refresh_listed.Goals as goal

pub nodes-init : goal.nodes-init
nodes-init g c =
    let number = g.Ix.IndexType.number in
    record {
      ready = c.requires.ready;
      len = refl;
      so_far = none_done g.V.PartialEq.eq (Gives (goal.F-post g) c.args.f.now) (map number c.args.nodes.now)
          (g.S.EdgeSource.graph c.args.store.now) c.args.entries.now.items (map number c.clear.new.self.items)
          (ap (map number) c.clear.ensures.items);
    }

pub nodes-preserved-then-not-is_stale : goal.nodes-preserved-then-not-is_stale
nodes-preserved-then-not-is_stale g c =
    let number = g.Ix.IndexType.number in
    let graph = g.S.EdgeSource.graph c.args.store.now in
    let n = c.index-nodes-i.result in
    let at = number_at number c.args.nodes.now c.nodes.i n c.nodes-test.true c.index-nodes-i.is in
    let es = c.nodes.entries.items in
    let fresh : IsStaleAt es (number n) → ⊥ = λ s. (
    let there = subst (λ z. IsStaleAt z c.index.result) (sym c.as_slice.ensures.value) (subst (IsStaleAt es) (sym c.index.ensures.value) s) in
    let t = c.is_stale.ensures.1 there in
    cc
    ) in
    record {
      ready = c.nodes.invariant.ready;
      len = c.nodes.invariant.len;
      so_far = passed g.V.PartialEq.eq (Gives (goal.F-post g) c.args.f.now) (map number c.args.nodes.now) graph c.requires.ordered
          c.nodes.i c.args.entries.now.items es (map number c.nodes.changed.items) (number n) c.nodes.invariant.so_far at.0 at.1
          (map number c.nodes.changed.items) refl fresh;
    }

pub nodes-preserved : goal.nodes-preserved
nodes-preserved g c =
    let number = g.Ix.IndexType.number in
    let graph = g.S.EdgeSource.graph c.args.store.now in
    let n = c.index-nodes-i.result in
    let at = number_at number c.args.nodes.now c.nodes.i n c.nodes-test.true c.index-nodes-i.is in
    let k = c.in_ok-refresh_one.ensures in
    let w = c.invariant.ensures.well_formed in
    let b = c.in_ok-refresh_one.field-0 in
    let old = map number c.nodes.changed.items in
    let es = c.nodes.entries.items in
    let on : c.is_stale.result ≡ true = c.if-not-is_stale.false in
    let stale : IsStaleAt es (number n) =
    subst (IsStaleAt es) c.index.ensures.value
    (subst (λ z. IsStaleAt z c.index.result) c.as_slice.ensures.value (c.is_stale.ensures.0 on)) in
    let more : map number c.if-branch.changed.items ≡ old ++ (if b then number n ∷ [] else []) =
    elim c.if-branch.branch [
      | then-branch v ↦
          ap (λ z. map number z.items) v.changed-is
          ∙ noted number c.nodes.changed.items c.reserve.new.self.items b c.reserve.ensures.items v.push_reserved.new.self.items n
          v.push_reserved.ensures.items v.if-branch.true
      | else-branch v ↦
          ap (λ z. map number z.items) v.changed-is
          ∙ not_noted number c.nodes.changed.items c.reserve.new.self.items b c.reserve.ensures.items (number n) v.if-branch.false
    ] in
    record {
      ready = k.ready;
      len = k.len ∙ c.nodes.invariant.len;
      so_far = turned g.V.PartialEq.eq (Gives (goal.F-post g) c.args.f.now) (map number c.args.nodes.now) graph c.requires.ordered
          c.nodes.i c.args.entries.now.items c.nodes.entries.items old (number n) c.nodes.invariant.so_far at.0 at.1
          c.refresh_one.new.entries.items b k.turn (c.nodes.invariant.ready.real (number n) stale) c.requires.loops
          (λ m s. elim (k.stale m s) [
            | inl q ↦ (
                let j = joined w (number n) m (contains_mem _ m q) in
                let both = ends w (number n) m j in
                inl (j, both.0, both.1)
                )
            | inr t ↦ inr t
          ])
          (map number c.if-branch.changed.items) more;
    }

pub returns-then-is_err-clause-turns : goal.returns-then-is_err-clause-turns
returns-then-is_err-clause-turns g c =
    let number = g.Ix.IndexType.number in
    let es = c.nodes.entries.items in
    let old = map number c.nodes.changed.items in
    turns_done g.V.PartialEq.eq (Gives (goal.F-post g) c.args.f.now) (map number c.args.nodes.now)
    (g.S.EdgeSource.graph c.args.store.now) c.nodes.i c.args.entries.now.items es es old (map number c.reserve.new.self.items)
    c.nodes.invariant.so_far refl (ap (map number) c.reserve.ensures.items)

pub returns-in_err-refresh_one-clause-turns : goal.returns-in_err-refresh_one-clause-turns
returns-in_err-refresh_one-clause-turns g c =
    let number = g.Ix.IndexType.number in
    let es = c.nodes.entries.items in
    let old = map number c.nodes.changed.items in
    turns_done g.V.PartialEq.eq (Gives (goal.F-post g) c.args.f.now) (map number c.args.nodes.now)
    (g.S.EdgeSource.graph c.args.store.now) c.nodes.i c.args.entries.now.items es c.refresh_one.new.entries.items old
    (map number c.reserve.new.self.items) c.nodes.invariant.so_far c.in_err-refresh_one.ensures.unchanged
    (ap (map number) c.reserve.ensures.items)

pub returns-clause-turns : goal.returns-clause-turns
returns-clause-turns g c =
    let number = g.Ix.IndexType.number in
    let es = c.nodes.entries.items in
    let old = map number c.nodes.changed.items in
    turns_done g.V.PartialEq.eq (Gives (goal.F-post g) c.args.f.now) (map number c.args.nodes.now)
    (g.S.EdgeSource.graph c.args.store.now) c.nodes.i c.args.entries.now.items es es old old c.nodes.invariant.so_far refl refl

pub returns-clause-fresh : goal.returns-clause-fresh
returns-clause-fresh g c =
    let number = g.Ix.IndexType.number in
    all_fresh g.V.PartialEq.eq (Gives (goal.F-post g) c.args.f.now) (map number c.args.nodes.now)
    (g.S.EdgeSource.graph c.args.store.now) c.nodes.i c.args.entries.now.items c.nodes.entries.items
    (map number c.nodes.changed.items) c.nodes.invariant.so_far
    (omega (arith, c.nodes-test.false, length-map c.args.nodes.now number))
