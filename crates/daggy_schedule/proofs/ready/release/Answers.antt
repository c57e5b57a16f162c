use Rattle.std.proofs.Common.{◌≡◌, ◌≢◌, ◌+◌, ◌-◌, ◌<◌, ℕ, suc, List, [], ◌∷◌, ◌++◌, length, get_or, set, take, refl}
use Rattle.std.proofs.Common.{sym, ap, subst, ◌∙◌, arith, is_some, vec_len, rules}
use Rattle.std.proofs.lemmas.List.{get_or_default, take_more_set, take-set-le, length-set, length-take-le}
use Rattle.daggy_schedule.proofs.Releasing.{Releasing, releasing_from, all_released, released_edge, shorter}
use Rattle.daggy_schedule.proofs.Releasing.{child_exists, child_wait, child_room, child_past, child_queued}
use Rattle.daggy_schedule.proofs.Releasing.{all_queued}
use Rattle.daggy_schedule.proofs.Passing.{ends_at}
use Rattle.daggy_schedule.proofs.ready.release.Goals as goal

pub children-init : goal.children-init
children-init g c = record {
  releasing = releasing_from c.first_edge-e.ensures c.requires.counted;
  later = omega arith;
  low = c.requires.low;
  kept = refl;
  waiting_long = refl;
  queue_long = refl;
}

pub next_edge-e-requires : goal.next_edge-e-requires
next_edge-e-requires g c =
    let here : g.Ix.IndexType.number c.children.e ≢ g.Ix.IndexType.greatest = λ h. c.children-test.true cc in
    ap is_some (released_edge c.invariant.ensures.well_formed c.children.invariant.releasing here).1

pub index-requires-in-Some : goal.index-requires-in-Some
index-requires-in-Some g c =
    let here : g.Ix.IndexType.number c.children.e ≢ g.Ix.IndexType.greatest = λ h. c.children-test.true cc in
    let ends = ends_at c.in-Some.ensures c.index-i.ensures.value in
    let low = c.requires.within _ (child_exists c.invariant.ensures.well_formed c.children.invariant.releasing here
    c.requires.done ends) in
    let size : vec_len c.children.waiting ≡ length c.children.waiting.items = search rules in
    omega (arith, low, size, c.children.invariant.waiting_long)

pub overflow_sub-count : goal.overflow_sub-count
overflow_sub-count g c =
    let here : g.Ix.IndexType.number c.children.e ≢ g.Ix.IndexType.greatest = λ h. c.children-test.true cc in
    let w = c.invariant.ensures.well_formed in
    let s = c.children.invariant.releasing in
    let i = c.index-i.result in
    let ends = ends_at c.in-Some.ensures c.index-i.ensures.value in
    let bound = c.requires.within i (child_exists w s here c.requires.done ends) in
    let low : i < length c.children.waiting.items =
    omega (arith, bound, c.children.invariant.waiting_long) in
    let waits = child_wait w s here c.requires.done ends in
    let is : c.index-in-Some.result.now ≡ get_or c.children.waiting.items i 0 =
    c.index-in-Some.ensures ∙ get_or_default c.children.waiting.items i _ 0 low in
    omega (arith, is, waits)

pub index_mut-requires : goal.index_mut-requires
index_mut-requires g c =
    let here : g.Ix.IndexType.number c.children.e ≢ g.Ix.IndexType.greatest = λ h. c.children-test.true cc in
    let ends = ends_at c.in-Some.ensures c.index-i.ensures.value in
    let low = c.requires.within _ (child_exists c.invariant.ensures.well_formed c.children.invariant.releasing here
    c.requires.done ends) in
    let size : vec_len c.children.waiting ≡ length c.children.waiting.items = search rules in
    omega (arith, low, size, c.children.invariant.waiting_long)

pub index_mut-requires-in-Some : goal.index_mut-requires-in-Some
index_mut-requires-in-Some g c =
    let here : g.Ix.IndexType.number c.children.e ≢ g.Ix.IndexType.greatest = λ h. c.children-test.true cc in
    let w = c.invariant.ensures.well_formed in
    let s = c.children.invariant.releasing in
    let i = c.index-i.result in
    let waiting = c.children.waiting.items in
    let ends = ends_at c.in-Some.ensures c.index-i.ensures.value in
    let bound = c.requires.within i (child_exists w s here c.requires.done ends) in
    let low : i < length waiting = omega (arith, bound, c.children.invariant.waiting_long) in
    let waits = child_wait w s here c.requires.done ends in
    let is : c.index-in-Some.result.now ≡ get_or waiting i 0 =
    c.index-in-Some.ensures ∙ get_or_default waiting i _ 0 low in
    let room = child_room w s here c.requires.done ends low (c.index-in-Some.result.now - 1)
    (omega (arith, is, waits)) (g.Ix.IndexType.number c.next_edge-e.result) c.next_edge-e.ensures
    (length c.args.waiting.now.items) c.requires.within in
    let size : vec_len c.children.queue ≡ length c.children.queue.items = search rules in
    omega (
      arith,
      size,
      room,
      c.requires.room,
      c.children.invariant.queue_long,
      length-take-le c.children.at c.children.queue.items c.children.invariant.low,
    )

pub children-smaller-then-count-eq0 : goal.children-smaller-then-count-eq0
children-smaller-then-count-eq0 g c =
    let here : g.Ix.IndexType.number c.children.e ≢ g.Ix.IndexType.greatest = λ h. c.children-test.true cc in
    let w = c.invariant.ensures.well_formed in
    let s = c.children.invariant.releasing in
    let r = released_edge w s here in
    shorter w s here r.0 r.1 (g.Ix.IndexType.number c.next_edge-e.result) c.next_edge-e.ensures

pub children-smaller-else-count-eq0 : goal.children-smaller-else-count-eq0
children-smaller-else-count-eq0 g c =
    let here : g.Ix.IndexType.number c.children.e ≢ g.Ix.IndexType.greatest = λ h. c.children-test.true cc in
    let w = c.invariant.ensures.well_formed in
    let s = c.children.invariant.releasing in
    let r = released_edge w s here in
    shorter w s here r.0 r.1 (g.Ix.IndexType.number c.next_edge-e.result) c.next_edge-e.ensures

pub children-smaller : goal.children-smaller
children-smaller g c =
    let here : g.Ix.IndexType.number c.children.e ≢ g.Ix.IndexType.greatest = λ h. c.children-test.true cc in
    let w = c.invariant.ensures.well_formed in
    let s = c.children.invariant.releasing in
    let r = released_edge w s here in
    shorter w s here r.0 r.1 (g.Ix.IndexType.number c.next_edge-e.result) c.next_edge-e.ensures

pub children-preserved-then-count-eq0 : goal.children-preserved-then-count-eq0
children-preserved-then-count-eq0 g c =
    let here : g.Ix.IndexType.number c.children.e ≢ g.Ix.IndexType.greatest = λ h. c.children-test.true cc in
    let number = g.Ix.IndexType.number in
    let w = c.invariant.ensures.well_formed in
    let s = c.children.invariant.releasing in
    let i = c.index-i.result in
    let waiting = c.children.waiting.items in
    let queue = c.children.queue.items in
    let at = c.children.at in
    let one_less = c.index-in-Some.result.now - 1 in
    let ends = ends_at c.in-Some.ensures c.index-i.ensures.value in
    let bound = c.requires.within i (child_exists w s here c.requires.done ends) in
    let low : i < length waiting = omega (arith, bound, c.children.invariant.waiting_long) in
    let waits = child_wait w s here c.requires.done ends in
    let is : c.index-in-Some.result.now ≡ get_or waiting i 0 =
    c.index-in-Some.ensures ∙ get_or_default waiting i _ 0 low in
    let down : suc one_less ≡ get_or waiting i 0 = omega (arith, is, waits) in
    let room = child_room w s here c.requires.done ends low one_less down
    (number c.next_edge-e.result) c.next_edge-e.ensures (length c.args.waiting.now.items) c.requires.within in
    let free : at < length queue = omega (
      arith,
      room,
      c.requires.room,
      c.children.invariant.queue_long,
      length-take-le at queue c.children.invariant.low,
    ) in
    let child : c.of_node.result ≡ i = c.of_node.ensures ∙ sym c.index-i.ensures.value in
    let more : take (at + 1) (set queue at c.of_node.result) ≡ take at queue ++ i ∷ [] =
    take_more_set queue at c.of_node.result free ∙ ap (λ z. take at queue ++ z ∷ []) child in
    let P : List ℕ → Type 0 = λ z. Releasing g.Ix.IndexType.greatest (g.S.EdgeSource.graph c.args.store.now)
    (number c.args.n) c.args.done.now.items (take c.args.tail c.args.queue.now.items) (number c.next_edge-e.result) (set waiting i one_less) z in
    record {
      releasing =
          subst P (sym more) (child_queued w s here c.requires.done ends low one_less down
          (number c.next_edge-e.result) c.next_edge-e.ensures c.if-count-eq0.true);
      later = omega (arith, c.children.invariant.later);
      low = omega (arith, free, length-set queue at c.of_node.result);
      kept = take-set-le c.args.tail queue at c.of_node.result c.children.invariant.later ∙ c.children.invariant.kept;
      waiting_long = length-set waiting i one_less ∙ c.children.invariant.waiting_long;
      queue_long = length-set queue at c.of_node.result ∙ c.children.invariant.queue_long;
    }

pub children-preserved-else-count-eq0 : goal.children-preserved-else-count-eq0
children-preserved-else-count-eq0 g c =
    let here : g.Ix.IndexType.number c.children.e ≢ g.Ix.IndexType.greatest = λ h. c.children-test.true cc in
    let number = g.Ix.IndexType.number in
    let w = c.invariant.ensures.well_formed in
    let s = c.children.invariant.releasing in
    let i = c.index-i.result in
    let waiting = c.children.waiting.items in
    let queue = c.children.queue.items in
    let at = c.children.at in
    let one_less = c.index-in-Some.result.now - 1 in
    let ends = ends_at c.in-Some.ensures c.index-i.ensures.value in
    let bound = c.requires.within i (child_exists w s here c.requires.done ends) in
    let low : i < length waiting = omega (arith, bound, c.children.invariant.waiting_long) in
    let waits = child_wait w s here c.requires.done ends in
    let is : c.index-in-Some.result.now ≡ get_or waiting i 0 =
    c.index-in-Some.ensures ∙ get_or_default waiting i _ 0 low in
    let down : suc one_less ≡ get_or waiting i 0 = omega (arith, is, waits) in
    let same : take at (set queue at c.of_node.result) ≡ take at queue =
    take-set-le at queue at c.of_node.result (omega arith) in
    let P : List ℕ → Type 0 = λ z. Releasing g.Ix.IndexType.greatest (g.S.EdgeSource.graph c.args.store.now)
    (number c.args.n) c.args.done.now.items (take c.args.tail c.args.queue.now.items) (number c.next_edge-e.result) (set waiting i one_less) z in
    record {
      releasing =
          subst P (sym same) (child_past w s here c.requires.done ends low one_less down
          (number c.next_edge-e.result) c.next_edge-e.ensures c.if-count-eq0.false);
      later = c.children.invariant.later;
      low = omega (arith, c.children.invariant.low, length-set queue at c.of_node.result);
      kept = take-set-le c.args.tail queue at c.of_node.result c.children.invariant.later ∙ c.children.invariant.kept;
      waiting_long = length-set waiting i one_less ∙ c.children.invariant.waiting_long;
      queue_long = length-set queue at c.of_node.result ∙ c.children.invariant.queue_long;
    }

pub returns-clause-counted : goal.returns-clause-counted
returns-clause-counted g c =
    let at_end : g.Ix.IndexType.number c.children.e ≡ g.Ix.IndexType.greatest = cc in
    all_released c.invariant.ensures.well_formed c.children.invariant.releasing at_end

pub returns-clause-queued : goal.returns-clause-queued
returns-clause-queued g c =
    let at_end : g.Ix.IndexType.number c.children.e ≡ g.Ix.IndexType.greatest = cc in
    all_queued c.invariant.ensures.well_formed c.children.invariant.releasing at_end
