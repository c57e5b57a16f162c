use Rattle.std.proofs.Common.{rules, ◌≡◌, ◌∙◌, ◌++◌, ◌∷◌, [], refl, sym, ap, arith, length, vec_len}
use Rattle.std.proofs.lemmas.List.{append-nil, nil_from_length, length_push, length-append}
use Rattle.daggy_traversal.proofs.Postorder.{none_by}
use Rattle.daggy_traversal.proofs.GoingDown.{left_each, left_all, path_over, before_over, gives_last, gives_left, gives_marked, new_low}
use Rattle.daggy_traversal.proofs.GoingDown.{new_room, cursors_room, down_smaller, goes_on_down, left_long}
use Rattle.daggy_traversal.proofs.post_order.descend.Given.{Over}
use Rattle.daggy_traversal.proofs.post_order.descend.Goals.{In_default}
use Rattle.daggy_traversal.proofs.post_order.descend.Goals as goal

pub nodes-init : goal.nodes-init
nodes-init g c = record {
  down = record {
    more = [];
    is = sym (append-nil c.args.path.now.items);
    rooted = λ empty. empty;
    down = tt;
    left = left_each c.args.dir (g.S.EdgeSource.graph c.args.graph.now)
        (c.args.given.now.nodes ++ c.args.path.now.items) c.args.path.now.items c.args.cursors.now.items c.requires.left;
    marked = c.requires.marked;
    sized = refl;
  };
  path_room = c.requires.path_room;
  room = c.requires.room;
  same = refl;
}

pub returns-in_default-next_new-clause-next : goal.returns-in_default-next_new-clause-next
returns-in_default-next_new-clause-next g c =
    gives_last c.invariant.ensures.well_formed c.nodes.invariant.down c.requires.bound c.pop.new.self.items
    c.in-Some.at c.in-Some.ensures.items c.edge.ensures.value c.in_default-next_new.ensures.none
    c.take_last.new.self.items c.take_last.result c.take_last.ensures.items c.node-n.ensures.value

pub returns-in_default-next_new-clause-left : goal.returns-in_default-next_new-clause-left
returns-in_default-next_new-clause-left g c =
    left_all c.args.dir (g.S.EdgeSource.graph c.args.graph.now) (c.push.new.self.nodes ++ c.take_last.new.self.items)
    c.take_last.new.self.items c.pop.new.self.items (gives_left c.invariant.ensures.well_formed c.nodes.invariant.down c.requires.bound c.pop.new.self.items
    c.in-Some.at c.in-Some.ensures.items c.edge.ensures.value c.in_default-next_new.ensures.none
    c.take_last.new.self.items c.take_last.result c.take_last.ensures.items
    (c.push.ensures ∙ ap (λ z. z ++ c.index.result ∷ []) c.nodes.invariant.same)
    (c.index.ensures.value ∙ c.node-n.ensures.value) refl)

pub returns-in_default-next_new-clause-marked : goal.returns-in_default-next_new-clause-marked
returns-in_default-next_new-clause-marked g c =
    gives_marked c.invariant.ensures.well_formed c.nodes.invariant.down c.requires.bound c.pop.new.self.items
    c.in-Some.at c.in-Some.ensures.items c.edge.ensures.value c.in_default-next_new.ensures.none
    c.take_last.new.self.items c.take_last.result c.take_last.ensures.items
    (c.push.ensures ∙ ap (λ z. z ++ c.index.result ∷ []) c.nodes.invariant.same)
    (c.index.ensures.value ∙ c.node-n.ensures.value)

pub visit-new-requires : goal.visit-new-requires
visit-new-requires g c =
    new_low c.invariant.ensures.well_formed c.nodes.invariant.down c.requires.bound c.pop.new.self.items
    c.in-Some.at c.in-Some.ensures.items c.edge.ensures.value _ _ c.in-Some-next_new.ensures.some
    c.in-Some-next_new.ensures.exists

pub push_reserved-requires-in-Some : goal.push_reserved-requires-in-Some
push_reserved-requires-in-Some g c =
    let room = new_room c.invariant.ensures.well_formed c.nodes.invariant.down c.requires.bound c.pop.new.self.items
    c.in-Some.at c.in-Some.ensures.items c.edge.ensures.value _ _ c.in-Some-next_new.ensures.some
    c.in-Some-next_new.ensures.exists in
    let size : vec_len c.nodes.path ≡ length c.nodes.path.items = search rules in
    omega (arith, room, size, c.nodes.invariant.path_room)

pub push_reserved-requires-in-Some-2 : goal.push_reserved-requires-in-Some-2
push_reserved-requires-in-Some-2 g c =
    let w = c.invariant.ensures.well_formed in
    let room = new_room w c.nodes.invariant.down c.requires.bound c.pop.new.self.items
    c.in-Some.at c.in-Some.ensures.items c.edge.ensures.value _ _ c.in-Some-next_new.ensures.some
    c.in-Some-next_new.ensures.exists in
    let few = cursors_room w c.nodes.invariant.down c.requires.bound c.pop.new.self.items
    c.in-Some.at c.in-Some.ensures.items c.edge.ensures.value _ _ c.in-Some-next_new.ensures.some
    c.in-Some-next_new.ensures.exists in
    let size : vec_len c.push_reserved.new.self ≡ length c.push_reserved.new.self.items = search rules in
    omega (
      arith,
      room,
      few,
      size,
      ap (λ z. length z) c.push_reserved.ensures.items,
      length_push c.pop.new.self.items c.of_edge.result,
      c.in-Some.ensures.capacity,
      c.push_reserved.ensures.capacity,
      c.nodes.invariant.room,
    )

pub nodes-smaller : goal.nodes-smaller
nodes-smaller g c =
    down_smaller c.invariant.ensures.well_formed c.nodes.invariant.down c.requires.bound c.pop.new.self.items
    c.in-Some.at c.in-Some.ensures.items c.edge.ensures.value _ _ c.in-Some-next_new.ensures.some
    c.in-Some-next_new.ensures.exists c.push_reserved-in-Some.ensures.items c.of_node.ensures

pub nodes-preserved : goal.nodes-preserved
nodes-preserved g c = record {
  down =
      goes_on_down c.invariant.ensures.well_formed c.nodes.invariant.down c.requires.bound c.pop.new.self.items
      c.in-Some.at c.in-Some.ensures.items c.edge.ensures.value _ _ c.in-Some-next_new.ensures.some
      c.in-Some-next_new.ensures.exists c.push_reserved-in-Some.ensures.items c.of_node.ensures
      c.visit-new.new.self c.visit-new.ensures.visited c.visit-new.ensures.bound
      c.push_reserved.ensures.items c.of_edge.ensures c.push_reserved-in-Some-2.ensures.items
      c.of_edge-in-Some.ensures refl c.first_edge.ensures;
  path_room = omega (arith, c.push_reserved-in-Some.ensures.capacity, c.nodes.invariant.path_room);
  room = omega (
    arith,
    c.push_reserved-in-Some-2.ensures.capacity,
    c.push_reserved.ensures.capacity,
    c.in-Some.ensures.capacity,
    c.nodes.invariant.room,
  );
  same = c.nodes.invariant.same;
}

-- no cursor is left
none : (g : Over) (c : In_default g) → length c.nodes.cursors.items ≡ 0
none g c =
    let size : vec_len c.nodes.cursors ≡ length c.nodes.cursors.items = search rules in
    omega (arith, size, c.in_default.ensures.cases.0)

pub returns-clause-over : goal.returns-clause-over
returns-clause-over g c = before_over c.nodes.invariant.down (none g c)

pub returns-clause-path_kept : goal.returns-clause-path_kept
returns-clause-path_kept g c =
    path_over c.nodes.invariant.down (none g c) ∙ sym (before_over c.nodes.invariant.down (none g c))

pub returns-clause-cursors_kept : goal.returns-clause-cursors_kept
returns-clause-cursors_kept g c =
    let popped : length c.pop.new.self.items ≡ 0 =
    omega (
      arith,
      none g c,
      ap (λ z. length z) (sym c.in_default.ensures.items ∙ refl),
      length-append c.pop.new.self.items [],
    ) in
    let before : length c.args.cursors.now.items ≡ 0 =
    omega (
      arith,
      ap (λ z. length z) (before_over c.nodes.invariant.down (none g c)),
      left_long c.args.dir (g.S.EdgeSource.graph c.args.graph.now) (c.args.given.now.nodes ++ c.args.path.now.items)
          c.args.path.now.items c.args.cursors.now.items (left_each c.args.dir (g.S.EdgeSource.graph c.args.graph.now)
          (c.args.given.now.nodes ++ c.args.path.now.items) c.args.path.now.items c.args.cursors.now.items c.requires.left),
    ) in
    nil_from_length c.pop.new.self.items popped ∙ sym (nil_from_length c.args.cursors.now.items before)

pub returns-clause-left : goal.returns-clause-left
returns-clause-left g c =
    let popped : length c.pop.new.self.items ≡ 0 =
    omega (
      arith,
      none g c,
      ap (λ z. length z) c.in_default.ensures.items,
      length-append c.pop.new.self.items [],
    ) in
    none_by c.args.dir (g.S.EdgeSource.graph c.args.graph.now) (c.nodes.given.nodes ++ c.nodes.path.items)
    (path_over c.nodes.invariant.down (none g c)) (nil_from_length c.pop.new.self.items popped)
