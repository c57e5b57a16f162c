use Rattle.std.proofs.Common.{map}
use Rattle.daggy_json.specs.Found.{index_in}
use Rattle.daggy_json.proofs.FoundParts.{AllSoFar}
use Rattle.daggy_json.proofs.reading.orders.read_list.Given as goal

abbrev pub invariant-loop-item : goal.invariant-loop-item
invariant-loop-item g l =
    AllSoFar (index_in l.bound) l.item-items l.item-index (map g.Ix.IndexType.number l.indices.items)
