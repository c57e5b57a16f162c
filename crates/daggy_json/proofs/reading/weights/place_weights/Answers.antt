use Rattle.std.proofs.Common.{◌≡◌, ◌<◌, None, length, get_or, sym, ap, ◌∙◌, arith, rules}
use Rattle.std.proofs.lemmas.List.{get_or_read}
use Rattle.std.specs.Vec.Iter.{into_iter_items}
use Rattle.daggy_json.proofs.PlacedSlots.{none_left, counted_on, starts_at, hole_placed, weight_placed}
use Rattle.daggy_json.proofs.PlacedSlots.{placed_whole}
use Rattle.daggy_json.proofs.reading.weights.place_weights.Goals as goal
use Rattle.daggy_json.proofs.reading.weights.place_weights.Goals.{
  else-passed-len-via-then-passed-len+else-index-len,
}
use Rattle.daggy_json.proofs.reading.weights.place_weights.Goals.{else-passed-len-via-else-passed-len}

pub slots-init : goal.slots-init
slots-init g c =
    record {
      placed =
          starts_at c.args.holes.now.items c.args.weights.items _ _ (search rules) c.into_iter-rest.ensures.rest
          (search rules);
      counted = c.into_iter-rest.ensures.len ∙ (search rules ∙ ap length (sym c.into_iter-rest.ensures.rest));
    }

pub slots-preserved-then-index-len : goal.slots-preserved-then-index-len
slots-preserved-then-index-len g c =
    record {
      placed =
          hole_placed c.slots.invariant.placed c.index.result.now (search rules)
          (get_or_read c.args.holes.now.items _ _ (search rules) c.index.ensures 0) (search rules) _
          c.in_ok-push.ensures.items;
      counted = c.slots.invariant.counted;
    }

pub slots-preserved : goal.slots-preserved
slots-preserved g c =
    let other : c.slots.passed < length c.args.holes.now.items
    → get_or c.args.holes.now.items c.slots.passed 0 ≡ length c.slots.slots.items → ⊥ =
    λ low same. elim c.else-passed-len.branch [
      | else-passed-len-via-then-passed-len+else-index-len w ↦
          w.if-index-len.false (get_or_read c.args.holes.now.items _ _ low w.index.ensures 0 ∙ (same ∙ search rules))
      | else-passed-len-via-else-passed-len w ↦ absurd (omega (arith, w.if-passed-len.false))
    ] in
    let empty : c.next.result ≡ None → length (into_iter_items c.slots.rest) ≡ 0 =
    λ none. sym c.slots.invariant.counted ∙ none_left _ c.next.result c.next.ensures.variant none in
    record {
      placed =
          weight_placed c.slots.invariant.placed c.next.result _ _ other (search rules) empty c.next.ensures.items
          c.in_ok-push-2.ensures.items;
      counted = counted_on _ _ c.next.result _ _ c.slots.invariant.counted c.next.ensures.len c.next.ensures.items;
    }

pub returns : goal.returns
returns g c = placed_whole c.slots.invariant.placed (search rules)
