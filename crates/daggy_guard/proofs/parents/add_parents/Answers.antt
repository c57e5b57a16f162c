use Rattle.std.proofs.Common.{◌≡◌, ◌∙◌, ◌∷◌, ◌++◌, [], map, reverse, refl, sym, ap, arith, Result, Ok, Err, OnOk, is_err, false}
use Rattle.daggy_base.specs.Errors.{edge_weight_of}
use Rattle.std.proofs.lemmas.List.{map-append}
use Rattle.daggy_guard.proofs.ParentsTakenBack.{turn_begins, batch_kept, node_there, parent_there, index_there, turns_on}
use Rattle.daggy_guard.proofs.ParentsTakenBack.{put_back}
use Rattle.daggy_guard.proofs.parents.add_parents.Goals as goal

reserved : {A F : Type 0} {P : Type 0} (r : Result A F) → OnOk r P → is_err r ≡ false → P
reserved (Ok a) h e = h
reserved (Err x) h e = absurd cc

pub items-init : goal.items-init
items-init g c = record {
  looks = refl;
  turn = turn_begins (λ k. (c.invariant.ensures.compact k).edges) c.requires.node c.requires.parents
      (omega (arith, c.requires.indices_left, c.args.items.ok.0)) c.edge_slots-slot_count.ensures
      c.reverse.ensures.items (c.reverse.ensures.len ∙ c.args.items.ok.0)
      (omega (arith, c.reverse.new.self.ok))
      (ap (map g.Ix.IndexType.number) (c.reserve.ensures.items ∙ c.new-edges.ensures.items))
      (c.reserve.ensures.len ∙ c.new-edges.ensures.len)
      (omega (
        arith,
        reserved c.reserve.result c.reserve.ensures.ok (sym c.is_err.ensures.value ∙ c.if-is_err.false),
        c.len.ensures,
        c.reverse.ensures.len,
        c.reserve.ensures.len,
      ));
}

pub add_edge-requires-clause-parent : goal.add_edge-requires-clause-parent
add_edge-requires-clause-parent g c =
    parent_there c.items.invariant.turn c.in-Some.item c.pop.new.self.items c.in-Some.ensures.items

pub add_edge-requires-clause-child : goal.add_edge-requires-clause-child
add_edge-requires-clause-child g c = node_there c.items.invariant.turn

pub add_edge-requires-clause-index_left : goal.add_edge-requires-clause-index_left
add_edge-requires-clause-index_left g c =
    index_there c.items.invariant.turn c.in-Some.item c.pop.new.self.items c.in-Some.ensures.items

pub items-preserved : goal.items-preserved
items-preserved g c = record {
  looks = c.add_edge.ensures.counted ∙ c.items.invariant.looks;
  turn = turns_on c.items.invariant.turn c.in-Some.item c.pop.new.self.items c.in-Some.ensures.items record {
    well_formed = c.invariant-in-Some.ensures.well_formed;
    added = c.in-Ok.ensures.added;
    left = refl;
    left_count = c.in-Some.ensures.cases;
    left_capacity = c.pop.ensures.capacity;
    noted =
        ap (map g.Ix.IndexType.number) c.push_reserved.ensures.items
        ∙ map-append g.Ix.IndexType.number c.items.edges.items (c.in-Ok.e ∷ [])
        ∙ ap (λ z. map g.Ix.IndexType.number c.items.edges.items ++ z ∷ []) c.in-Ok.ensures.index;
    edge_count = c.push_reserved.ensures.len;
    edge_capacity = c.push_reserved.ensures.capacity;
    slots = refl;
  };
}

pub returns-in-Err-clause-returned : goal.returns-in-Err-clause-returned
returns-in-Err-clause-returned g c =
    let s = c.items.invariant.turn in
    let item = c.in-Some.item in
    let pushed : c.push_reserved-in-Err.new.self.items ≡ c.pop.new.self.items ++ item ∷ [] =
    c.push_reserved-in-Err.ensures.items
    ∙ ap (λ w. c.pop.new.self.items ++ (item.0, w) ∷ [])
    (c.into_weight.ensures ∙ ap edge_weight_of c.in-Err.ensures.refusal) in
    let back =
    c.take_back_parents.ensures.returned _ _ s.given (batch_kept s _ _ c.in-Err.ensures.unchanged
    (ap (map g.Ix.IndexType.number) c.as_slice.ensures.value)) in
    c.reverse-in-Err.ensures.items ∙ put_back s c.in-Some.item c.pop.new.self.items c.in-Some.ensures.items
    (back ∙ ap (λ z. z ++ reverse s.given) pushed)

pub returns-in-Err-clause-unchanged : goal.returns-in-Err-clause-unchanged
returns-in-Err-clause-unchanged g c =
    let s = c.items.invariant.turn in
    c.take_back_parents.ensures.undone _ _ s.given (batch_kept s _ _ c.in-Err.ensures.unchanged
    (ap (map g.Ix.IndexType.number) c.as_slice.ensures.value))
