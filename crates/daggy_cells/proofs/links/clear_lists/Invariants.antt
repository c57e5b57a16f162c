use Rattle.std.proofs.Common.{◌≡◌, ◌++◌, map, take, drop}
use Rattle.daggy_cells.specs.Fields.{with_lists_emptied}
use Rattle.daggy_cells.proofs.links.clear_lists.Given as goal

abbrev pub invariant-loop-i : goal.invariant-loop-i
invariant-loop-i g l =
    l.nodes.items
    ≡ map (with_lists_emptied g.Ix.IndexType.greatest) (take l.i l.fn.nodes.items) ++ drop l.i l.fn.nodes.items
