use Rattle.std.proofs.Common.{rules, ◌≡◌, ◌∙◌, ◌++◌, ◌∷◌, [], refl, sym, ap, arith, length, vec_len, append_assoc}
use Rattle.std.proofs.lemmas.List.{append-nil, length-append}
use Rattle.daggy_traversal.specs.Traversal.{neighbors, neighbors_left}
use Rattle.daggy_traversal.proofs.Descending.{none_left_there}
use Rattle.daggy_traversal.proofs.Edges.{left_first, left_next}
use Rattle.daggy_traversal.proofs.Seeking.{seeks_less}
use Rattle.daggy_traversal.proofs.dfs_oldest_first.push_neighbors.Goals as goal

pub edges-init : goal.edges-init
edges-init g c = record {
  pushed =
      ap (λ z. c.args.stack.now.items ++ z) (left_first c.invariant.ensures.well_formed c.args.dir
      (g.Ix.IndexType.number c.args.n) (g.Ix.IndexType.number c.first_edge-e.result) c.first_edge-e.ensures);
  room = refl;
}

pub push_reserved-requires : goal.push_reserved-requires
push_reserved-requires g c =
    let graph = g.S.EdgeSource.graph c.args.graph.now in
    let left = neighbors_left c.args.dir graph (g.Ix.IndexType.number c.edges.e) in
    let all = neighbors c.args.dir graph (g.Ix.IndexType.number c.args.n) in
    let size : vec_len c.edges.stack ≡ length c.edges.stack.items = search rules in
    omega (
      arith,
      size,
      c.requires.room,
      c.edges.invariant.room,
      ap (λ z. length z) c.edges.invariant.pushed,
      length-append c.edges.stack.items left,
      length-append c.args.stack.now.items all,
      ap (λ z. length z) (left_next c.invariant.ensures.well_formed c.args.dir c.in-Some.ensures.some),
    )

pub edges-smaller : goal.edges-smaller
edges-smaller g c = seeks_less c.invariant.ensures.well_formed c.in-Some.ensures.some

pub edges-preserved : goal.edges-preserved
edges-preserved g c =
    let number = g.Ix.IndexType.number in
    let left = neighbors_left c.args.dir (g.S.EdgeSource.graph c.args.graph.now) (number c.in-Some.step.1) in
    record {
      pushed =
          ap (λ z. z ++ left) c.push_reserved.ensures.items
          ∙ (append_assoc c.edges.stack.items (c.of_node.result ∷ []) left
          ∙ (ap (λ z. c.edges.stack.items ++ z ∷ left) c.of_node.ensures
          ∙ (ap (λ z. c.edges.stack.items ++ z)
          (sym (left_next c.invariant.ensures.well_formed c.args.dir c.in-Some.ensures.some))
          ∙ c.edges.invariant.pushed)));
      room = c.push_reserved.ensures.capacity ∙ c.edges.invariant.room;
    }

pub returns-clause-pushed : goal.returns-clause-pushed
returns-clause-pushed g c =
    sym (append-nil c.edges.stack.items)
    ∙ (ap (λ z. c.edges.stack.items ++ z)
    (sym (none_left_there c.args.dir (g.S.EdgeSource.graph c.args.graph.now) (g.Ix.IndexType.number c.edges.e)
    c.in_default.ensures.none))
    ∙ c.edges.invariant.pushed)

pub returns-clause-capacity : goal.returns-clause-capacity
returns-clause-capacity g c = c.edges.invariant.room
