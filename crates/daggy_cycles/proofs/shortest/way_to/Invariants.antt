use Rattle.std.proofs.Common.{map, reverse}
use Rattle.daggy_cycles.proofs.Searching.{WayFrom}
use Rattle.daggy_cycles.proofs.shortest.way_to.Given as goal

abbrev pub invariant-way : goal.invariant-way
invariant-way g l =
    WayFrom g.Ix.IndexType.greatest l.places.items (map g.Ix.IndexType.number l.nodes.items) l.at l.i
    (map g.Ix.IndexType.number (reverse l.way.items))

abbrev pub decreases-way : goal.decreases-way
decreases-way g l = l.i
