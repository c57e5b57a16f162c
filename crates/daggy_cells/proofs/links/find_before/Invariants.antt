use Rattle.std.proofs.Common.{length}
use Rattle.daggy_cells.specs.Fields.{nexts_of, list_from}
use Rattle.daggy_cells.proofs.LinkedLists.{IsRest}
use Rattle.daggy_cells.proofs.links.find_before.Given as goal

abbrev pub invariant-along : goal.invariant-along
invariant-along g l =
    IsRest g.Ix.IndexType.greatest (nexts_of l.dir l.edges) l.e l.target (list_from l.dir l.edges l.fn.first)

abbrev pub decreases-along : goal.decreases-along
decreases-along g l = length (list_from l.dir l.edges l.e)
