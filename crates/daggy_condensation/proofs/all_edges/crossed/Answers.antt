use Rattle.std.proofs.Common.{ap, is_some, refl}
use Rattle.daggy_base.specs.Graph.{pair_of}
use Rattle.daggy_base.proofs.EdgeEnds.{edge_here}
use Rattle.daggy_condensation.proofs.KeptEdges.{parent_in, child_in, lies_within, leads_across}
use Rattle.daggy_condensation.proofs.all_edges.crossed.Goals as goal

pub unwrap-j-requires : goal.unwrap-j-requires
unwrap-j-requires g c =
    let number = g.Ix.IndexType.number in
    let n = number c.args.e in
    let p = pair_of number (c.in_ok-a.a, c.in_ok-a.b) in
    let ends = edge_here (g.S.EdgeSource.graph c.args.store.now) n n p refl c.in_ok-a.ensures in
    let q = parent_in c.invariant.ensures.well_formed c.requires n p ends in
    ap is_some ((c.component_of.ensures q.0).1 q.1)

pub unwrap-k-requires : goal.unwrap-k-requires
unwrap-k-requires g c =
    let number = g.Ix.IndexType.number in
    let n = number c.args.e in
    let p = pair_of number (c.in_ok-a.a, c.in_ok-a.b) in
    let ends = edge_here (g.S.EdgeSource.graph c.args.store.now) n n p refl c.in_ok-a.ensures in
    let q = child_in c.invariant.ensures.well_formed c.requires n p ends in
    ap is_some ((c.component_of-2.ensures q.0).1 q.1)

pub returns-then-j-k-clause-none : goal.returns-then-j-k-clause-none
returns-then-j-k-clause-none g c =
    let number = g.Ix.IndexType.number in
    let n = number c.args.e in
    let p = pair_of number (c.in_ok-a.a, c.in_ok-a.b) in
    let ends = edge_here (g.S.EdgeSource.graph c.args.store.now) n n p refl c.in_ok-a.ensures in
    lies_within c.invariant.ensures.well_formed c.requires n p ends c.unwrap-j.result c.unwrap-k.result
    ((c.component_of.ensures c.unwrap-j.result).0 c.unwrap-j.ensures)
    ((c.component_of-2.ensures c.unwrap-k.result).0 c.unwrap-k.ensures) c.if-j-k.true

pub returns-clause-some : goal.returns-clause-some
returns-clause-some g c =
    let number = g.Ix.IndexType.number in
    let n = number c.args.e in
    let p = pair_of number (c.in_ok-a.a, c.in_ok-a.b) in
    let ends = edge_here (g.S.EdgeSource.graph c.args.store.now) n n p refl c.in_ok-a.ensures in
    leads_across c.invariant.ensures.well_formed c.requires n p ends c.unwrap-j.result c.unwrap-k.result
    ((c.component_of.ensures c.unwrap-j.result).0 c.unwrap-j.ensures)
    ((c.component_of-2.ensures c.unwrap-k.result).0 c.unwrap-k.ensures) c.if-j-k.false
