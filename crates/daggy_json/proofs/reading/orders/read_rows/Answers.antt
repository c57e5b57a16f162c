use Rattle.std.proofs.Common.{sym, ap, map, ◌∙◌}
use Rattle.std.specs.Option.{option_map}
use Rattle.daggy_base.specs.Orders.{numbers_of}
use Rattle.std.proofs.lemmas.List.{map-append}
use Rattle.daggy_json.proofs.FoundParts.{all_none, all_more, all_whole, all_none_in, all_found}
use Rattle.daggy_json.proofs.reading.orders.read_rows.Goals as goal

pub returns-in_default-2 : goal.returns-in_default-2
returns-in_default-2 g c =
    all_none_in _ _ c.in-Some.ensures _ _ c.deref-item-items.ensures.value
    (all_none _ c.loop-item.invariant c.item-item.result c.loop-item-test.true c.item-item.is
    (sym c.in_ok-row.ensures ∙ ap (option_map (numbers_of g.Ix.IndexType.number)) c.in_default-2.is))

pub loop-item-preserved : goal.loop-item-preserved
loop-item-preserved g c =
    all_more _ c.loop-item.invariant c.item-item.result _ _ c.loop-item-test.true c.item-item.is
    (sym c.in_ok-row.ensures ∙ ap (option_map (numbers_of g.Ix.IndexType.number)) c.in-Some-2.is)
    (ap (map _) c.in_ok-push.ensures.items ∙ map-append _ _ _)

pub returns : goal.returns
returns g c =
    all_found _ _ c.in-Some.ensures _ _ c.deref-item-items.ensures.value _
    (all_whole _ c.loop-item.invariant c.loop-item-test.false)
