use Rattle.std.proofs.Common.{◌≡◌, ◌++◌, length}
use Rattle.std.specs.List.{range_with_len}
use Rattle.daggy_order.specs.Links.{IsLabelled}
use Rattle.daggy_order.proofs.list.put_each.Given as goal

abbrev pub invariant-nodes : goal.invariant-nodes
invariant-nodes g l =
    IsLabelled l.links.labels l.links.nodes
    × ((l.links.nodes ≡ l.fn.links.nodes ++ range_with_len l.from l.i)
    × (length l.links.labels ≡ length l.fn.links.labels))
