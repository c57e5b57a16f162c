use Rattle.std.proofs.Common.{◌++◌, map, take}
use Rattle.std.specs.List.{range_with_len}
use Rattle.daggy_cycles.specs.Trying.{AreTried}
use Rattle.daggy_cycles.proofs.feedback.feedback_arc_set.Given as goal

abbrev pub invariant-preferred : goal.invariant-preferred
invariant-preferred g l =
    AreTried (g.S.EdgeSource.graph l.store) l.kept.graph l.marks.items
    (map g.Ix.IndexType.number (take l.e-index l.preferred)) (map g.Ix.IndexType.number l.left_out.items)

abbrev pub invariant-others : goal.invariant-others
invariant-others g l =
    AreTried (g.S.EdgeSource.graph l.store) l.kept.graph l.marks.items
    (map g.Ix.IndexType.number l.preferred ++ range_with_len 0 l.i) (map g.Ix.IndexType.number l.left_out.items)
