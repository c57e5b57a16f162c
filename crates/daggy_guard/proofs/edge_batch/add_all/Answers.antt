use Rattle.std.proofs.Common.{◌∙◌, map, ap, inl, refl, rules, arith}
use Rattle.std.specs.Iterator.{Yields}
use Rattle.daggy_order.proofs.OrderLaws.{acyclic_from_order}
use Rattle.daggy_guard.proofs.ItemsSoFar.{yields_more, drained}
use Rattle.daggy_guard.proofs.OrderAfterChange.{order_kept}
use Rattle.daggy_guard.proofs.AddAllLoop.{adding_on, order_then, NextItem, refused_at, closes_cycle, is_added}
use Rattle.daggy_guard.proofs.AddAllLoop.{series_kept, held_now, few_added, few_in_cycle, few_at_fault}
use Rattle.daggy_guard.proofs.edge_batch.add_all.Goals as goal

pub items-preserved : goal.items-preserved
items-preserved g c = record {
  can = search rules;
  ends = search rules;
  same = search rules;
  looked = omega (arith, c.items.invariant.looked, c.add_item.ensures.looked);
  adding = adding_on c.items.invariant.adding c.in-Some.item _ record {
    well_formed = c.add_item.ensures.well_formed;
    ends = c.in-Ok.ensures.ends;
    index_left = c.in-Ok.ensures.index_left;
    added = c.in-Ok.ensures.added;
    given = refl;
    noted = c.in-Ok.ensures.noted;
    same_slots = refl;
    same_weights = c.add_item.ensures.weights;
    spare = c.add_item.ensures.capacity;
    step = c.in-Ok.ensures.step;
    few_looks = c.add_item.ensures.counted _ _ c.items.invariant.adding.few_looks;
  };
}

pub returns-in-Err-clause-refused : goal.returns-in-Err-clause-refused
returns-in-Err-clause-refused g c =
    let so_far : Yields g.I.Iterator.next_gives c.args.items c.items.yielded c.items.item-iterator = search rules in
    let asked =
    yields_more g.I.Iterator.next_gives c.args.items c.items.item-iterator c.next.new.self c.items.yielded
    so_far c.next.ensures.steps c.in-Some.is in
    let s = c.items.invariant.adding in
    let back =
    c.roll_back.ensures.returned _ _ (series_kept s _ _ c.in-Err.ensures.unchanged
    (ap (map g.Ix.IndexType.number) (c.as_slice.ensures.value ∙ c.in-Err.ensures.kept))) in
    let next : NextItem s g.I.Iterator.next_gives c.args.items =
    record { item = c.in-Some.item; rest = _; asked = asked } in
    rw c.after.ensures (refused_at s next c.in-Err.fault _ back c.in-Err.ensures.refused)

pub returns-in-Err-clause-ordered : goal.returns-in-Err-clause-ordered
returns-in-Err-clause-ordered g c =
    let s = c.items.invariant.adding in
    let undone =
    c.roll_back.ensures.undone _ _ (series_kept s _ _ c.in-Err.ensures.unchanged
    (ap (map g.Ix.IndexType.number) (c.as_slice.ensures.value ∙ c.in-Err.ensures.kept))) in
    order_kept (order_then s _ c.add_item.ensures.ordered) undone

pub returns-in-Err-clause-counted : goal.returns-in-Err-clause-counted
returns-in-Err-clause-counted g c =
    let s = c.items.invariant.adding in
    let back =
    c.roll_back.ensures.returned _ _ (series_kept s _ _ c.in-Err.ensures.unchanged
    (ap (map g.Ix.IndexType.number) (c.as_slice.ensures.value ∙ c.in-Err.ensures.kept))) in
    rw c.after.ensures (few_at_fault s c.in-Err.fault _ _ back _ _ (c.add_item.ensures.counted _ _ s.few_looks)
    c.roll_back.ensures.counted)

pub returns-then-not-settle-clause-refused : goal.returns-then-not-settle-clause-refused
returns-then-not-settle-clause-refused g c =
    let so_far : Yields g.I.Iterator.next_gives c.args.items c.items.yielded c.items.item-iterator = search rules in
    let asked =
    drained g.I.Iterator.next_gives c.args.items c.items.item-iterator c.next.new.self c.items.yielded c.next.result
    so_far c.next.ensures.steps c.in-None.is in
    let s = c.items.invariant.adding in
    let back =
    c.roll_back-then-not-settle.ensures.returned _ _
    (series_kept s _ _ c.settle.ensures.same
    (ap (map g.Ix.IndexType.number) c.as_slice-then-not-settle.ensures.value)) in
    closes_cycle s g.I.Iterator.next_gives c.args.items _ asked (acyclic_from_order _ c.requires.ordered)
    (c.settle.ensures.cyclic c.if-not-settle.true) back

pub returns-then-not-settle-clause-ordered : goal.returns-then-not-settle-clause-ordered
returns-then-not-settle-clause-ordered g c =
    let s = c.items.invariant.adding in
    order_kept (order_then s _ (inl (c.settle.ensures.kept c.if-not-settle.true)))
    (c.roll_back-then-not-settle.ensures.undone _ _
    (series_kept s _ _ c.settle.ensures.same (ap (map g.Ix.IndexType.number) c.as_slice-then-not-settle.ensures.value)))

pub returns-then-not-settle-clause-counted : goal.returns-then-not-settle-clause-counted
returns-then-not-settle-clause-counted g c =
    let s = c.items.invariant.adding in
    let back =
    c.roll_back-then-not-settle.ensures.returned _ _
    (series_kept s _ _ c.settle.ensures.same
    (ap (map g.Ix.IndexType.number) c.as_slice-then-not-settle.ensures.value)) in
    few_in_cycle s back _ _ c.settle.ensures.counted c.roll_back-then-not-settle.ensures.counted

pub returns-clause-added : goal.returns-clause-added
returns-clause-added g c =
    let so_far : Yields g.I.Iterator.next_gives c.args.items c.items.yielded c.items.item-iterator = search rules in
    let asked =
    drained g.I.Iterator.next_gives c.args.items c.items.item-iterator c.next.new.self c.items.yielded c.next.result
    so_far c.next.ensures.steps c.in-None.is in
    let s = c.items.invariant.adding in
    is_added s g.I.Iterator.next_gives c.args.items asked
    (acyclic_from_order _ (c.settle.ensures.ordered c.if-not-settle.false)) _ c.settle.ensures.same _
    c.new.ensures.indices

pub returns-clause-ordered : goal.returns-clause-ordered
returns-clause-ordered g c = order_kept (c.settle.ensures.ordered c.if-not-settle.false) c.settle.ensures.same

pub returns-clause-counted : goal.returns-clause-counted
returns-clause-counted g c = few_added c.items.invariant.adding _ c.new.ensures.indices _ c.settle.ensures.counted

pub settle-requires-clause-held : goal.settle-requires-clause-held
settle-requires-clause-held g c = held_now c.items.invariant.adding
