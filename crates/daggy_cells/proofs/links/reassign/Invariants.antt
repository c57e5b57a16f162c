use Rattle.std.proofs.Common.{length}
use Rattle.daggy_cells.specs.Fields.{list_from}
use Rattle.daggy_cells.proofs.EndsRenamed.{IsReassigning}
use Rattle.daggy_cells.proofs.links.reassign.Given as goal

abbrev pub invariant-along : goal.invariant-along
invariant-along g l = IsReassigning g.Ix.IndexType.greatest l.dir l.fn.from l.to l.fn.edges.items l.edges.items l.e

abbrev pub decreases-along : goal.decreases-along
decreases-along g l = length (list_from l.dir l.edges.items l.e)
