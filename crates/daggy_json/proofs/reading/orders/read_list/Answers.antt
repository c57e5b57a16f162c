use Rattle.std.proofs.Common.{sym}
use Rattle.daggy_json.proofs.FoundParts.{all_none, all_whole, all_none_in, all_found}
use Rattle.daggy_json.proofs.reading.orders.read_list.Goals as goal

pub returns-in_default-find_index : goal.returns-in_default-find_index
returns-in_default-find_index g c =
    all_none_in _ _ c.in-Some.ensures _ _ c.deref-item-items.ensures.value (all_none _ c.loop-item.invariant
    c.item-item.result c.loop-item-test.true c.item-item.is (sym c.in_default-find_index.ensures))

pub returns : goal.returns
returns g c =
    all_found _ _ c.in-Some.ensures _ _ c.deref-item-items.ensures.value _
    (all_whole _ c.loop-item.invariant c.loop-item-test.false)
