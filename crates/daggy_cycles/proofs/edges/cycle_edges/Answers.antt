use Rattle.std.proofs.Common.{arith, ap, map}
use Rattle.std.proofs.lemmas.List.{length-map}
use Rattle.daggy_cycles.proofs.CycleEdges.{no_edges_yet, is_found, found_more, all_edges}
use Rattle.daggy_cycles.proofs.edges.cycle_edges.Goals as goal

pub unwrap-requires : goal.unwrap-requires
unwrap-requires g c =
    is_found g.Ix.IndexType.number c.invariant.ensures.well_formed c.args.cycle.now c.requires c.nodes.k
    c.next_place-to.result c.index-cycle-k.result c.index-cycle-to.result c.nodes-test.true
    c.next_place-to.ensures.within c.next_place-to.ensures.on c.next_place-to.ensures.back c.index-cycle-k.is
    c.index-cycle-to.is c.find_edge-edge.result c.find_edge-edge.ensures

pub nodes-init : goal.nodes-init
nodes-init g c =
    no_edges_yet (g.S.EdgeSource.graph c.args.store.now) (map g.Ix.IndexType.number c.args.cycle.now)
    (map g.Ix.IndexType.number c.in_ok-edges.edges.items)
    (ap (λ z. map g.Ix.IndexType.number z) c.in_ok-edges.ensures.items)

pub nodes-preserved : goal.nodes-preserved
nodes-preserved g c =
    found_more g.Ix.IndexType.number c.invariant.ensures.well_formed c.args.cycle.now c.requires c.nodes.k
    c.next_place-to.result c.index-cycle-k.result c.index-cycle-to.result c.nodes-test.true
    c.next_place-to.ensures.within c.next_place-to.ensures.on c.next_place-to.ensures.back c.index-cycle-k.is
    c.index-cycle-to.is c.find_edge-edge.result c.find_edge-edge.ensures c.unwrap.result c.nodes.edges.items c.unwrap.ensures c.in_ok-push.ensures.items
    c.nodes.invariant

pub returns : goal.returns
returns g c =
    let long = length-map c.args.cycle.now g.Ix.IndexType.number in
    all_edges c.nodes.invariant (omega (arith, long, c.nodes-test.false)) (omega (arith, long, c.nodes.auto.k-end))
