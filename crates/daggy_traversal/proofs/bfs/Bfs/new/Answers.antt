use Rattle.std.proofs.Common.{◌≡◌, ◌∙◌, ◌≤◌, ◌++◌, ◌∷◌, [], refl, sym, ap, arith, length}
use Rattle.std.proofs.Common.{vec_capacity}
use Rattle.std.proofs.lemmas.Bool.{false≢true}
use Rattle.daggy_base.proofs.OutEdgesRead.{below_bound}
use Rattle.daggy_traversal.specs.Traversal.{begin}
use Rattle.daggy_traversal.specs.Traversal.{AreMarked}
use Rattle.daggy_traversal.proofs.Begin.{begin_here, begin_none}
use Rattle.daggy_traversal.proofs.Marks.{marked_none, marked_more, marked_by}
use Rattle.daggy_traversal.proofs.Breadth.{breadth_begins, breadth_kept}
use Rattle.daggy_traversal.proofs.bfs.Bfs.new.Given.{Over}
use Rattle.daggy_traversal.proofs.bfs.Bfs.new.Goals.{then-contains_node, else-contains_node, Joined-contains_node}
use Rattle.daggy_traversal.proofs.bfs.Bfs.new.Goals as goal

queue_is : (g : Over) (c : Joined-contains_node g)
    → c.if-contains_node.queue.items ≡ begin (g.S.EdgeSource.graph c.args.graph.now) (g.Ix.IndexType.number c.args.start)
queue_is g c =
    let graph = g.S.EdgeSource.graph c.args.graph.now in
    let start = g.Ix.IndexType.number c.args.start in
    elim c.if-contains_node.branch [
      | then-contains_node w ↦
          ap (λ v. v.items) w.queue-is
          ∙ (w.push_reserved.ensures.items ∙ (ap (λ z. z ++ w.of_node.result ∷ []) c.in_ok-queue.ensures.items
          ∙ (ap (λ z. z ∷ []) w.of_node.ensures
          ∙ sym (begin_here graph start (c.contains_node.ensures.exists.0 w.if-contains_node.true)))))
      | else-contains_node w ↦
          ap (λ v. v.items) w.queue-is
          ∙ (c.in_ok-queue.ensures.items ∙ sym (begin_none graph start (λ h.
          false≢true (sym w.if-contains_node.false ∙ c.contains_node.ensures.exists.1 h))))
    ]

marked : (g : Over) (c : Joined-contains_node g) → AreMarked c.if-contains_node.met c.if-contains_node.queue.items
marked g c =
    let start = g.Ix.IndexType.number c.args.start in
    elim c.if-contains_node.branch [
      | then-contains_node w ↦
          marked_by w.met-is
          (ap (λ v. v.items) w.queue-is
          ∙ (w.push_reserved.ensures.items ∙ (ap (λ z. z ++ w.of_node.result ∷ []) c.in_ok-queue.ensures.items
          ∙ ap (λ z. z ∷ []) w.of_node.ensures)))
          (marked_more (marked_none c.in_ok-met.ensures.empty refl) start w.visit-new.ensures.visited
          (c.in_ok-met.ensures.empty start))
      | else-contains_node w ↦
          marked_by w.met-is (ap (λ v. v.items) w.queue-is)
          (marked_none c.in_ok-met.ensures.empty c.in_ok-queue.ensures.items)
    ]

sized : (g : Over) (c : Joined-contains_node g) → length c.if-contains_node.met ≡ c.node_bound-bound.result
sized g c =
    elim c.if-contains_node.branch [
      | then-contains_node w ↦ ap (λ z. length z) w.met-is ∙ (w.visit-new.ensures.bound ∙ c.in_ok-met.ensures.bound)
      | else-contains_node w ↦ ap (λ z. length z) w.met-is ∙ c.in_ok-met.ensures.bound
    ]

room : (g : Over) (c : Joined-contains_node g) → c.node_bound-bound.result ≤ vec_capacity c.if-contains_node.queue
room g c =
    elim c.if-contains_node.branch [
      | then-contains_node w ↦
          omega (
            arith,
            ap (λ v. vec_capacity v) w.queue-is,
            w.push_reserved.ensures.capacity,
            c.in_ok-queue.ensures.capacity,
          )
      | else-contains_node w ↦ omega (arith, ap (λ v. vec_capacity v) w.queue-is, c.in_ok-queue.ensures.capacity)
    ]

pub visit-new-requires : goal.visit-new-requires
visit-new-requires g c =
    let low = below_bound (g.S.EdgeSource.graph c.args.graph.now).nodes (g.Ix.IndexType.number c.args.start)
    (c.contains_node.ensures.exists.0 c.if-contains_node.true) in
    omega (arith, low, c.node_bound-bound.ensures.value, c.in_ok-met.ensures.bound)

pub invariant_of-result : goal.invariant_of-result
invariant_of-result g c = (marked g c, omega arith, omega (arith, sized g c, room g c))

pub returns-clause-under_way : goal.returns-clause-under_way
returns-clause-under_way g c =
    breadth_kept (breadth_begins (g.S.EdgeSource.graph c.args.graph.now) refl (queue_is g c) (omega (arith, sized g c, c.node_bound-bound.ensures.value))) refl
