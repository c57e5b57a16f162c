use Rattle.std.proofs.Common.{map}
use Rattle.std.specs.Option.{option_map}
use Rattle.daggy_base.specs.FromSlots.{has_end}
use Rattle.daggy_json.specs.Found.{edge_of}
use Rattle.daggy_json.proofs.MarkedLists.{MarkedSoFar}
use Rattle.daggy_json.proofs.reading.rearranged.mark_list.Given as goal

abbrev pub invariant-loop-e : goal.invariant-loop-e
invariant-loop-e g l =
    MarkedSoFar (has_end l.dir (map (option_map (edge_of g.Ix.IndexType.number)) l.edges.items) l.n) l.initial.marks
    (map g.Ix.IndexType.number l.list.items) l.e-index l.marks
