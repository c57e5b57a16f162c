use Rattle.std.proofs.Common.{◌≡◌, refl, arith}
use Rattle.std.proofs.lemmas.Bool.{lt-ltb}
use Rattle.daggy_base.proofs.EdgeEnds.{edge_here, parent_low}
use Rattle.daggy_base.proofs.PathsWithNode.{bound_low}
use Rattle.daggy_visit.proofs.prefetch.touch_edge.Goals as goal

pub returns-in-Some : goal.returns-in-Some
returns-in-Some g c =
    let graph = g.S.EdgeSource.graph c.args.graph.now in
    let number = g.Ix.IndexType.number in
    let e = number c.args.e in
    let ends = edge_here graph e e (number c.in-Some.ends.0, number c.in-Some.ends.1) refl c.in-Some.ensures in
    let parent : number c.in-Some.ends.0 ≡ ends.0.parent = ends.2 in
    let low = parent_low c.invariant.ensures.well_formed e ends.0 ends.1 in
    lt-ltb _ _ (omega (arith, low, bound_low graph.nodes, parent, c.index.ensures.value, c.node_slots.ensures))
