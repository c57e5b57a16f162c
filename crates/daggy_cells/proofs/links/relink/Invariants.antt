use Rattle.std.proofs.Common.{map}
use Rattle.daggy_cells.proofs.RelinkedLists.{IsRelinking}
use Rattle.daggy_cells.proofs.links.relink.Given as goal

abbrev pub invariant-back : goal.invariant-back
invariant-back g l =
    IsRelinking g.Ix.IndexType.greatest l.dir (map g.Ix.IndexType.number l.list) l.fn.edges.items l.edges.items l.left
    l.after

abbrev pub decreases-back : goal.decreases-back
decreases-back g l = l.left
