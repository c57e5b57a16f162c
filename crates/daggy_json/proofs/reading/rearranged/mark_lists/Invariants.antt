use Rattle.std.proofs.Common.{map}
use Rattle.std.specs.Option.{option_map}
use Rattle.daggy_base.specs.FromSlots.{has_end}
use Rattle.daggy_base.specs.Orders.{numbers_of}
use Rattle.daggy_json.specs.Found.{edge_of, chosen}
use Rattle.daggy_json.proofs.MarkedLists.{ListsSoFar}
use Rattle.daggy_json.proofs.reading.rearranged.mark_lists.Given as goal

abbrev pub invariant-loop-n : goal.invariant-loop-n
invariant-loop-n g l =
    ListsSoFar (has_end l.dir (map (option_map (edge_of g.Ix.IndexType.number)) l.edges.items)) l.initial.marks
    l.nodes.items (map (chosen l.dir) (map (numbers_of g.Ix.IndexType.number) l.rows.items)) l.n l.passed l.marks
