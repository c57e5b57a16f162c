use Rattle.std.proofs.Common.{◌-◌, length, map}
use Rattle.daggy_base.specs.Graph.{node_bound}
use Rattle.daggy_traversal.specs.Depth.{IsDepthFirst}
use Rattle.answers.proofs.Listed.{AreListed}
use Rattle.answers.proofs.walks.depth_first.Given as goal

abbrev pub invariant-walk : goal.invariant-walk
invariant-walk g l =
    let graph = g.S.EdgeSource.graph l.graph in
    let number = g.Ix.IndexType.number in
    IsDepthFirst graph l.walk
    × AreListed graph (number l.fn.start) l.walk.dir l.walk.start l.walk.given (map number l.nodes.items)

abbrev pub decreases-walk : goal.decreases-walk
decreases-walk g l = node_bound (g.S.EdgeSource.graph l.graph) - length l.walk.given
