use Rattle.std.proofs.Common.{length}
use Rattle.std.specs.List.{find}
use Rattle.daggy_base.specs.declared.index.Direction.TheVariants.{Outgoing}
use Rattle.daggy_cells.specs.Fields.{enters, nexts_of, list_from}
use Rattle.daggy_cells.proofs.LinkedLists.{IsScan}
use Rattle.daggy_cells.proofs.links.find_to.Given as goal

abbrev pub invariant-along : goal.invariant-along
invariant-along g l =
    let edges = l.edges.items in
    IsScan g.Ix.IndexType.greatest (nexts_of Outgoing edges) (enters edges l.child) l.e
    (find (enters edges l.child) (list_from Outgoing edges l.fn.first))

abbrev pub decreases-along : goal.decreases-along
decreases-along g l = length (list_from Outgoing l.edges.items l.e)
