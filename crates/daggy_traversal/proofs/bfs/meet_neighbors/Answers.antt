use Rattle.std.proofs.Common.{rules, ◌≡◌, ap, refl, arith, length, vec_len}
use Rattle.daggy_traversal.proofs.Fresh.{with_fresh}
use Rattle.daggy_traversal.proofs.Edges.{left_first}
use Rattle.daggy_traversal.proofs.Meeting.{neighbor_fits, neighbor_room, one_less, meets_more, meets_again}
use Rattle.daggy_traversal.proofs.bfs.meet_neighbors.Goals as goal

pub edges-init : goal.edges-init
edges-init g c = record {
  meeting = record {
    whole =
        ap (λ z. with_fresh c.args.queue.now.items z) (left_first c.invariant.ensures.well_formed c.args.dir
        (g.Ix.IndexType.number c.args.n) (g.Ix.IndexType.number c.first_edge-e.result) c.first_edge-e.ensures);
    marked = c.requires.marked;
    sized = refl;
  };
  room = c.requires.room;
}

pub visit-requires : goal.visit-requires
visit-requires g c =
    neighbor_fits c.invariant.ensures.well_formed c.args.dir c.edges.invariant.meeting c.requires.bound
    c.in-Some.ensures.some

pub push_reserved-requires : goal.push_reserved-requires
push_reserved-requires g c =
    let room = neighbor_room c.invariant.ensures.well_formed c.args.dir c.edges.invariant.meeting c.requires.bound
    c.in-Some.ensures.some c.visit.ensures.answer c.if-visit.true in
    let size : vec_len c.edges.queue ≡ length c.edges.queue.items = search rules in
    omega (arith, room, size, c.edges.invariant.room)

pub edges-smaller-then-visit : goal.edges-smaller-then-visit
edges-smaller-then-visit g c =
    one_less c.invariant.ensures.well_formed c.args.dir c.edges.invariant.meeting c.requires.bound
    c.in-Some.ensures.some

pub edges-smaller : goal.edges-smaller
edges-smaller g c =
    one_less c.invariant.ensures.well_formed c.args.dir c.edges.invariant.meeting c.requires.bound
    c.in-Some.ensures.some

pub edges-preserved-then-visit : goal.edges-preserved-then-visit
edges-preserved-then-visit g c = record {
  meeting =
      meets_more c.invariant.ensures.well_formed c.args.dir c.edges.invariant.meeting c.requires.bound
      c.in-Some.ensures.some c.visit.ensures.answer c.visit.new.self c.visit.ensures.visited c.visit.ensures.bound
      c.if-visit.true c.push_reserved.ensures.items c.of_node.ensures;
  room = omega (arith, c.push_reserved.ensures.capacity, c.edges.invariant.room);
}

pub edges-preserved : goal.edges-preserved
edges-preserved g c = record {
  meeting =
      meets_again c.invariant.ensures.well_formed c.args.dir c.edges.invariant.meeting c.requires.bound
      c.in-Some.ensures.some c.visit.ensures.answer c.visit.new.self c.visit.ensures.visited c.visit.ensures.bound
      c.if-visit.false;
  room = c.edges.invariant.room;
}
