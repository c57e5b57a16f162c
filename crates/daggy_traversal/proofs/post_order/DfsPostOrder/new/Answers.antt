use Rattle.std.proofs.Common.{◌≡◌, ◌∙◌, ◌≤◌, ◌++◌, ◌∷◌, [], ℕ, List, refl, sym, ap, arith, length}
use Rattle.std.proofs.Common.{vec_capacity}
use Rattle.std.proofs.lemmas.Bool.{false≢true}
use Rattle.daggy_base.proofs.OutEdgesRead.{below_bound}
use Rattle.daggy_traversal.specs.Traversal.{begin, AreMarked}
use Rattle.daggy_traversal.specs.Postorder.{AreLeft}
use Rattle.daggy_traversal.proofs.Begin.{begin_here, begin_none}
use Rattle.daggy_traversal.proofs.Edges.{left_first}
use Rattle.daggy_traversal.proofs.Marks.{marked_none, marked_more, marked_by}
use Rattle.daggy_traversal.proofs.Postorder.{post_kept, post_begins, left_by, none_by}
use Rattle.daggy_traversal.proofs.post_order.DfsPostOrder.new.Given.{Over}
use Rattle.daggy_traversal.proofs.post_order.DfsPostOrder.new.Goals.{then-contains_node, else-contains_node}
use Rattle.daggy_traversal.proofs.post_order.DfsPostOrder.new.Goals.{Joined-contains_node}
use Rattle.daggy_traversal.proofs.post_order.DfsPostOrder.new.Goals as goal

path_is : (g : Over) (c : Joined-contains_node g)
    → c.if-contains_node.path.items ≡ begin (g.S.EdgeSource.graph c.args.graph.now) (g.Ix.IndexType.number c.args.start)
path_is g c =
    let graph = g.S.EdgeSource.graph c.args.graph.now in
    let start = g.Ix.IndexType.number c.args.start in
    elim c.if-contains_node.branch [
      | then-contains_node w ↦
          ap (λ v. v.items) w.path-is
          ∙ (w.push_reserved.ensures.items ∙ (ap (λ z. z ++ w.of_node.result ∷ []) c.in_ok-path.ensures.items
          ∙ (ap (λ z. z ∷ []) w.of_node.ensures
          ∙ sym (begin_here graph start (c.contains_node.ensures.exists.0 w.if-contains_node.true)))))
      | else-contains_node w ↦
          ap (λ v. v.items) w.path-is
          ∙ (c.in_ok-path.ensures.items ∙ sym (begin_none graph start (λ h.
          false≢true (sym w.if-contains_node.false ∙ c.contains_node.ensures.exists.1 h))))
    ]

marked : (g : Over) (c : Joined-contains_node g) → AreMarked c.if-contains_node.met c.if-contains_node.path.items
marked g c =
    let start = g.Ix.IndexType.number c.args.start in
    elim c.if-contains_node.branch [
      | then-contains_node w ↦
          marked_by w.met-is
          (ap (λ v. v.items) w.path-is
          ∙ (w.push_reserved.ensures.items ∙ (ap (λ z. z ++ w.of_node.result ∷ []) c.in_ok-path.ensures.items
          ∙ ap (λ z. z ∷ []) w.of_node.ensures)))
          (marked_more (marked_none c.in_ok-met.ensures.empty refl) start w.visit-new.ensures.visited
          (c.in_ok-met.ensures.empty start))
      | else-contains_node w ↦
          marked_by w.met-is (ap (λ v. v.items) w.path-is)
          (marked_none c.in_ok-met.ensures.empty c.in_ok-path.ensures.items)
    ]

left : (g : Over) (c : Joined-contains_node g) (met : List ℕ) → AreLeft c.args.dir
    (g.S.EdgeSource.graph c.args.graph.now) met c.if-contains_node.path.items c.if-contains_node.cursors.items
left g c met =
    let graph = g.S.EdgeSource.graph c.args.graph.now in
    let start = g.Ix.IndexType.number c.args.start in
    elim c.if-contains_node.branch [
      | then-contains_node w ↦ left_by c.args.dir graph met start w.of_edge.result
          (ap (λ v. v.items) w.path-is
          ∙ (w.push_reserved.ensures.items ∙ (ap (λ z. z ++ w.of_node.result ∷ []) c.in_ok-path.ensures.items
          ∙ ap (λ z. z ∷ []) w.of_node.ensures)))
          (ap (λ v. v.items) w.cursors-is
          ∙ (w.push_reserved-then-contains_node.ensures.items
          ∙ ap (λ z. z ++ w.of_edge.result ∷ []) c.in_ok-cursors.ensures.items))
          (left_first c.node_bound-bound.ensures.well_formed c.args.dir start w.of_edge.result
          (w.of_edge.ensures ∙ w.first_edge.ensures))
      | else-contains_node w ↦ none_by c.args.dir graph met
          (ap (λ v. v.items) w.path-is ∙ c.in_ok-path.ensures.items)
          (ap (λ v. v.items) w.cursors-is ∙ c.in_ok-cursors.ensures.items)
    ]

sized : (g : Over) (c : Joined-contains_node g) → length c.if-contains_node.met ≡ c.node_bound-bound.result
sized g c =
    elim c.if-contains_node.branch [
      | then-contains_node w ↦ ap (λ z. length z) w.met-is ∙ (w.visit-new.ensures.bound ∙ c.in_ok-met.ensures.bound)
      | else-contains_node w ↦ ap (λ z. length z) w.met-is ∙ c.in_ok-met.ensures.bound
    ]

path_room : (g : Over) (c : Joined-contains_node g) → c.node_bound-bound.result ≤ vec_capacity c.if-contains_node.path
path_room g c =
    elim c.if-contains_node.branch [
      | then-contains_node w ↦
          omega (
            arith,
            ap (λ v. vec_capacity v) w.path-is,
            w.push_reserved.ensures.capacity,
            c.in_ok-path.ensures.capacity,
          )
      | else-contains_node w ↦ omega (arith, ap (λ v. vec_capacity v) w.path-is, c.in_ok-path.ensures.capacity)
    ]

room : (g : Over) (c : Joined-contains_node g) → c.node_bound-bound.result ≤ vec_capacity c.if-contains_node.cursors
room g c =
    elim c.if-contains_node.branch [
      | then-contains_node w ↦
          omega (
            arith,
            ap (λ v. vec_capacity v) w.cursors-is,
            w.push_reserved-then-contains_node.ensures.capacity,
            c.in_ok-cursors.ensures.capacity,
          )
      | else-contains_node w ↦ omega (arith, ap (λ v. vec_capacity v) w.cursors-is, c.in_ok-cursors.ensures.capacity)
    ]

pub visit-new-requires : goal.visit-new-requires
visit-new-requires g c =
    let low = below_bound (g.S.EdgeSource.graph c.args.graph.now).nodes (g.Ix.IndexType.number c.args.start)
    (c.contains_node.ensures.exists.0 c.if-contains_node.true) in
    omega (arith, low, c.node_bound-bound.ensures.value, c.in_ok-met.ensures.bound)

pub invariant_of-result : goal.invariant_of-result
invariant_of-result g c =
    let j = (goal.at.invariant_of-result g c).Joined-contains_node in (
      marked_by refl (ap (λ z. z ++ c.if-contains_node.path.items) c.new-2.ensures) (marked g j),
      omega (arith, sized g j, path_room g j),
      omega (arith, sized g j, room g j),
    )

pub returns-clause-under_way : goal.returns-clause-under_way
returns-clause-under_way g c =
    let j = (goal.at.returns-clause-under_way g c).Joined-contains_node in
    let whole = marked_by refl (ap (λ z. z ++ c.if-contains_node.path.items) c.new-2.ensures) (marked g j) in
    post_kept (post_begins (g.S.EdgeSource.graph c.args.graph.now) c.new-2.ensures (path_is g j)
    (left g j (c.new-2.result.nodes ++ c.if-contains_node.path.items)) whole.once
    (omega (arith, sized g j, c.node_bound-bound.ensures.value)))
