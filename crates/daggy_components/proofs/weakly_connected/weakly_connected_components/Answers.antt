use Rattle.std.proofs.Common.{rules, ◌≡◌, ℕ, ◌-◌, ◌<◌, ◌≤◌, map, length, get_or, ◌++◌, ◌∷◌, [], sym, ap, subst, ◌∙◌, refl, arith}
use Rattle.std.proofs.lemmas.Bool.{false≢true}
use Rattle.std.proofs.lemmas.List.{get_or_read_under, length-map, get_or-map}
use Rattle.daggy_base.specs.Graph.{Graph, HasNode, node_bound}
use Rattle.daggy_base.specs.State.{State}
use Rattle.daggy_base.proofs.PathsWithNode.{bound_low}
use Rattle.daggy_search.specs.Reversed.{reversed}
use Rattle.daggy_components.specs.Meeting.{MeetsChildren}
use Rattle.daggy_components.proofs.MetChildren.{map_last}
use Rattle.daggy_components.proofs.Connecting.{nothing_kept, root_low, passes_root, root_number, begins_at, all_weak, weak_cuts}
use Rattle.daggy_components.proofs.Connecting.{weak_stored, queue_few, ends_queue, meets_both, queue_placed}
use Rattle.daggy_components.proofs.weakly_connected.weakly_connected_components.Given.{Over}
use Rattle.daggy_components.proofs.weakly_connected.weakly_connected_components.Goals.{After-index-else-not-contains_node, Else-index-end}
use Rattle.daggy_components.proofs.weakly_connected.weakly_connected_components.Goals.{
  then-not-contains_node-via-then-not-contains_node,
  then-not-contains_node-via-else-not-contains_node+then-index-end,
}
use Rattle.daggy_components.proofs.weakly_connected.weakly_connected_components.Goals as goal

pub roots-init : goal.roots-init
roots-init g c =
    let graph = g.S.EdgeSource.graph c.args.store.now in
    let is = c.node_bound-bound.ensures.value in
    let low : c.node_bound-bound.result ≤ g.Ix.IndexType.greatest =
    omega (arith, is, bound_low graph.nodes, c.node_bound-bound.ensures.well_formed.few_nodes) in
    record {
      along = ap (λ (z : State _ _). z.graph) c.new-along.ensures;
      against = ap (λ (z : State _ _). z.graph) c.new-against.ensures;
      resting = nothing_kept is low c.in_ok-places.ensures
          (ap (λ z. map g.Ix.IndexType.number z) c.in_ok-nodes.ensures.items) c.new-ends.ensures.items;
    }

pub roots-preserved-then-not-contains_node : goal.roots-preserved-then-not-contains_node
roots-preserved-then-not-contains_node g c =
    record {
      along = c.roots.invariant.along;
      against = c.roots.invariant.against;
      resting = passes_root c.roots.invariant.resting (elim c.then-not-contains_node.branch [
        | then-not-contains_node-via-then-not-contains_node w ↦
            (λ h.
            absurd (false≢true (sym w.if-not-contains_node.true ∙ c.contains_node.ensures.exists.1 (let P : ℕ → Type 0 =
            λ z. HasNode (g.S.EdgeSource.graph c.args.store.now) z in subst P (sym c.new-root.ensures.number) h))))
        | then-not-contains_node-via-else-not-contains_node+then-index-end w ↦
            (λ h eq.
            let low : c.roots.i < length c.roots.places.items =
            omega (arith, root_low c.roots.invariant.resting h, c.roots.invariant.resting.kept.sized) in
            let read =
            get_or_read_under c.roots.places.items c.roots.i (length c.roots.places.items) w.index.result.now
            g.Ix.IndexType.greatest w.index.ensures low refl in
            let e : w.index-else-not-contains_node.result ≡ g.Ix.IndexType.greatest =
            w.index-else-not-contains_node.ensures.value ∙ (read ∙ eq) in
            let f : c.index-end.result ≡ g.Ix.IndexType.greatest = cc in
            absurd (omega (arith, e, f, w.if-index-end.true)))
      ]);
    }

-- the root exists, and was not met
root : (g : Over) (c : Else-index-end g) → HasNode (g.S.EdgeSource.graph c.args.store.now) c.roots.i
root g c =
    let there : HasNode (g.S.EdgeSource.graph c.args.store.now) (g.Ix.IndexType.number c.new-root.result) = search rules in
    let P : ℕ → Type 0 = λ z. HasNode (g.S.EdgeSource.graph c.args.store.now) z in
    subst P c.new-root.ensures.number there

unseen : (g : Over) (c : Else-index-end g)
    → get_or c.roots.places.items c.roots.i g.Ix.IndexType.greatest ≡ g.Ix.IndexType.greatest
unseen g c =
    let low : c.roots.i < length c.roots.places.items =
    omega (arith, root_low c.roots.invariant.resting (root g c), c.roots.invariant.resting.kept.sized) in
    let read =
    get_or_read_under c.roots.places.items c.roots.i (length c.roots.places.items) c.index.result.now
    g.Ix.IndexType.greatest c.index.ensures low refl in
    let e : c.index-else-not-contains_node.result ≡ g.Ix.IndexType.greatest = cc in
    sym read ∙ (sym c.index-else-not-contains_node.ensures.value ∙ e)

pub overflow_sub-bound-in-roots : goal.overflow_sub-bound-in-roots
overflow_sub-bound-in-roots g c =
    let at = (goal.at.overflow_sub-bound-in-roots g c).Else-index-end in
    omega (arith, root_number c.roots.invariant.resting (root g at) (unseen g at), c.len.ensures, c.roots.ends.ok.0)

pub queue-init : goal.queue-init
queue-init g c =
    let at = (goal.at.queue-init g c).Else-index-end in
    let number = g.Ix.IndexType.number in
    let count : c.len.result ≡ length c.roots.ends.items = omega (arith, c.len.ensures, c.roots.ends.ok.0) in
    let place_is : c.new-place.result ≡ c.node_bound-bound.result - 1 - length c.roots.ends.items =
    c.new-place.ensures ∙ ap (λ (z : ℕ). c.node_bound-bound.result - 1 - z) count in
    let pushes : map number c.push.new.self.items ≡ map number c.roots.nodes.items ++ c.roots.i ∷ [] =
    ap (λ z. map number z) c.in_ok-push.ensures.items
    ∙ (map_last number c.roots.nodes.items c.new-root.result
    ∙ ap (λ (z : ℕ). map number c.roots.nodes.items ++ z ∷ []) c.new-root.ensures.number) in
    let head_is : c.len-head.result ≡ length (map number c.roots.nodes.items) =
    omega (arith, c.len-head.ensures, c.roots.nodes.ok.0, length-map c.roots.nodes.items number) in
    record {
      along = c.roots.invariant.along;
      against = c.roots.invariant.against;
      queueing = rw head_is (begins_at c.roots.invariant.resting (root g at) (unseen g at) place_is pushes);
    }

pub meet_children-requires-in-queue-clause-sized : goal.meet_children-requires-in-queue-clause-sized
meet_children-requires-in-queue-clause-sized g c =
    let q = c.queue.invariant.queueing in
    let same : node_bound c.queue.against.graph ≡ node_bound (reversed (g.S.EdgeSource.graph c.args.store.now)) =
    ap (λ (z : Graph _ _). node_bound z) c.queue.invariant.against in
    let turned : node_bound (reversed (g.S.EdgeSource.graph c.args.store.now))
    ≡ node_bound (g.S.EdgeSource.graph c.args.store.now) = refl in
    omega (
      arith,
      same,
      turned,
      queue_placed c.node_bound-bound.ensures.well_formed q c.in_ok-meet_children.ensures.met,
      c.meet_children.new.places.ok.0,
    )

pub queue-smaller : goal.queue-smaller
queue-smaller g c =
    let number = g.Ix.IndexType.number in
    omega (
      arith,
      queue_few c.node_bound-bound.ensures.well_formed c.queue.invariant.queueing,
      c.queue-test.true,
      c.len-in-queue.ensures,
      c.queue.nodes.ok.0,
      length-map c.queue.nodes.items number,
    )

pub queue-preserved : goal.queue-preserved
queue-preserved g c =
    let number = g.Ix.IndexType.number in
    let end = g.Ix.IndexType.greatest in
    let graph = g.S.EdgeSource.graph c.args.store.now in
    let n = number c.index-n.result.now in
    let low : c.queue.head < length c.queue.nodes.items =
    omega (arith, c.queue-test.true, c.len-in-queue.ensures, c.queue.nodes.ok.0) in
    let waits : c.queue.head < length (map number c.queue.nodes.items) =
    omega (arith, low, length-map c.queue.nodes.items number) in
    let is : n ≡ get_or (map number c.queue.nodes.items) c.queue.head n =
    ap number c.index-n.ensures ∙ sym (get_or-map number c.queue.nodes.items c.queue.head c.index-n.result.now n low) in
    let A : Graph _ _ → Type 0 = λ z.
    MeetsChildren end z n c.new-place.result c.queue.places.items c.meet_children.new.places.items
    (map number c.queue.nodes.items) (map number c.meet_children.new.nodes.items) in
    let B : Graph _ _ → Type 0 = λ z.
    MeetsChildren end z n c.new-place.result c.meet_children.new.places.items
    c.meet_children-in-queue.new.places.items (map number c.meet_children.new.nodes.items)
    (map number c.meet_children-in-queue.new.nodes.items) in
    record {
      along = c.in_ok-meet_children.ensures.same ∙ c.queue.invariant.along;
      against = c.in_ok-meet_children-2.ensures.same ∙ c.queue.invariant.against;
      queueing = meets_both c.node_bound-bound.ensures.well_formed c.queue.invariant.queueing waits is
          (subst A c.queue.invariant.along c.in_ok-meet_children.ensures.met)
          (subst B c.queue.invariant.against c.in_ok-meet_children-2.ensures.met) refl;
    }

pub roots-preserved : goal.roots-preserved
roots-preserved g c =
    let number = g.Ix.IndexType.number in
    let long : length (map number c.queue.nodes.items) ≡ c.len-in-roots.result =
    omega (arith, c.len-in-roots.ensures, c.queue.nodes.ok.0, length-map c.queue.nodes.items number) in
    let all : length (map number c.queue.nodes.items) ≤ c.queue.head =
    omega (
      arith,
      c.queue-test.false,
      c.len-in-queue.ensures,
      c.queue.nodes.ok.0,
      length-map c.queue.nodes.items number,
    ) in
    record {
      along = c.queue.invariant.along;
      against = c.queue.invariant.against;
      resting = ends_queue c.node_bound-bound.ensures.well_formed c.queue.invariant.queueing all
          (c.in_ok-push-2.ensures.items
          ∙ ap (λ (z : ℕ). c.roots.ends.items ++ z ∷ []) (sym long));
    }

pub of-requires : goal.of-requires
of-requires g c = weak_stored c.roots.invariant.resting

pub returns : goal.returns
returns g c =
    let all : c.node_bound-bound.result ≤ c.roots.i = omega arith in
    rw c.of.ensures (rw (weak_cuts c.roots.invariant.resting) (all_weak c.roots.invariant.resting all))
