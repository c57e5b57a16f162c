use Rattle.std.proofs.Common.{map}
use Rattle.daggy_base.specs.Orders.{numbers_of}
use Rattle.daggy_json.specs.Found.{row_in}
use Rattle.daggy_json.proofs.FoundParts.{AllSoFar}
use Rattle.daggy_json.proofs.reading.orders.read_rows.Given as goal

abbrev pub invariant-loop-item : goal.invariant-loop-item
invariant-loop-item g l =
    AllSoFar (row_in l.bound) l.item-items l.item-index (map (numbers_of g.Ix.IndexType.number) l.rows.items)
