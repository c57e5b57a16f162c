use Rattle.std.proofs.Common.{◌≡◌, sym, ap, subst, ◌∙◌, rules, arith}
use Rattle.daggy_base.specs.Graph.{HasNode, node_bound}
use Rattle.daggy_base.specs.Adding.{with_node, with_link}
use Rattle.daggy_base.specs.Errors.{edge_weight_of}
use Rattle.daggy_order.proofs.OrderLaws.{acyclic_from_order}
use Rattle.daggy_guard.specs.NewNode.{IsAddedNode}
use Rattle.daggy_guard.proofs.GuardedChange.{same_graph}
use Rattle.daggy_guard.proofs.NewNode.{added_node, new_exists, old_exists}
use Rattle.daggy_guard.proofs.OrderAfterChange.{acyclic_by, order_of_node, order_of_neighbor, order_of_taken}
use Rattle.daggy_guard.proofs.guard.Guarded.add_neighbor.Given.{Over}
use Rattle.daggy_guard.proofs.guard.Guarded.add_neighbor.Goals.{In-Ok, In-Err-link}
use Rattle.daggy_guard.proofs.guard.Guarded.add_neighbor.Goals as goal

-- the node is new
added : (g : Over) (c : In-Ok g)
    → IsAddedNode g.Ix.IndexType.greatest g.S.ReadStore.KIND (g.S.EdgeSource.graph c.self.inside.store)
    (g.S.EdgeSource.graph c.put_node.new.store) c.args.weight (g.Ix.IndexType.number c.in-Ok.new)
    c.node_slots-slot_count.result
added g c =
    added_node c.args.weight c.invariant.ensures.well_formed c.invariant.ensures.compact
    c.node_slots-slot_count.ensures c.in-Ok.ensures.index c.in-Ok.ensures.added

-- and still is where no edge could be added
still_added : (g : Over) (c : In-Err-link g)
    → IsAddedNode g.Ix.IndexType.greatest g.S.ReadStore.KIND (g.S.EdgeSource.graph c.self.inside.store)
    (g.S.EdgeSource.graph c.link.new.store) c.args.weight (g.Ix.IndexType.number c.in-Ok.new)
    c.node_slots-slot_count.result
still_added g c =
    added_node c.args.weight c.invariant.ensures.well_formed c.invariant.ensures.compact
    c.node_slots-slot_count.ensures c.in-Ok.ensures.index (c.in-Err-link.ensures.unchanged ∙ c.in-Ok.ensures.added)

pub link-requires-clause-node : goal.link-requires-clause-node
link-requires-clause-node g c =
    old_exists (added g (goal.at.link-requires-clause-node g c).In-Ok) _
    (subst (λ z. HasNode z (g.Ix.IndexType.number c.args.n)) (sym (same_graph c.self.view_is)) c.requires.node)

pub link-requires-clause-new : goal.link-requires-clause-new
link-requires-clause-new g c = new_exists (added g (goal.at.link-requires-clause-new g c).In-Ok)

pub remove-requires : goal.remove-requires
remove-requires g c =
    let there = new_exists (added g (goal.at.remove-requires g c).In-Ok) in
    ((order_of_node c.invariant.ensures.well_formed c.args.weight c.self.invariant.0 _
    c.in-Ok.ensures.added c.args.dir c.in-Ok.ensures.put).exact _).1 there

pub take_back-weight-requires : goal.take_back-weight-requires
take_back-weight-requires g c =
    record { added = (_, c.args.weight, still_added g (goal.at.take_back-weight-requires g c).In-Err-link) }

pub returns-in-Err-clause-acyclic : goal.returns-in-Err-clause-acyclic
returns-in-Err-clause-acyclic g c = acyclic_by c.self.invariant.0 c.in-Err.ensures.unchanged

pub invariant_of-self-in-Ok-link : goal.invariant_of-self-in-Ok-link
invariant_of-self-in-Ok-link g c =
    let n = g.Ix.IndexType.number c.args.n in
    let old = g.S.EdgeSource.graph c.self.inside.store in
    let exists = subst (λ z. HasNode z n) (sym (same_graph c.self.view_is)) c.requires.node in
    let added =
    c.in-Ok-link.ensures.added
    ∙ ap (λ z. with_link c.args.dir z n (g.Ix.IndexType.number c.in-Ok.new) c.args.edge) c.in-Ok.ensures.added
    ∙ ap (λ z. with_link c.args.dir (with_node old c.args.weight) n z c.args.edge) c.in-Ok.ensures.index in (
      order_of_neighbor c.invariant.ensures.well_formed c.args.weight c.self.invariant.0 n c.args.edge
          exists c.args.dir added c.in-Ok.ensures.put,
      search rules,
    )

pub returns-in-Ok-link-clause-acyclic : goal.returns-in-Ok-link-clause-acyclic
returns-in-Ok-link-clause-acyclic g c = acyclic_from_order _ (invariant_of-self-in-Ok-link g c).0

pub returns-in-Err-link-clause-refusal : goal.returns-in-Err-link-clause-refusal
returns-in-Err-link-clause-refusal g c =
    let edge_is : c.into_weight-in-Err-link.result ≡ c.args.edge =
    c.into_weight-in-Err-link.ensures ∙ ap edge_weight_of c.in-Err-link.ensures.refusal in
    let weight_same : c.take_back-weight.result ≡ c.args.weight =
    c.take_back-weight.ensures.returned _ _
    (still_added g (goal.at.returns-in-Err-link-clause-refusal g c).In-Err-link) in
    cc

pub returns-in-Err-link-clause-unchanged : goal.returns-in-Err-link-clause-unchanged
returns-in-Err-link-clause-unchanged g c =
    c.take_back-weight.ensures.undone _ _
    (still_added g (goal.at.returns-in-Err-link-clause-unchanged g c).In-Err-link)
    ∙ same_graph c.self.view_is

pub invariant_of-self-in-Err-link : goal.invariant_of-self-in-Err-link
invariant_of-self-in-Err-link g c =
    let f = c.invariant.ensures.well_formed in
    let back =
    c.take_back-weight.ensures.undone _ _ (still_added g (goal.at.invariant_of-self-in-Err-link g c).In-Err-link) in
    let full =
    order_of_node f c.args.weight c.self.invariant.0 _ c.in-Ok.ensures.added c.args.dir c.in-Ok.ensures.put in
    let same = ap node_bound back in (
      order_of_taken f c.args.weight full c.in-Ok.ensures.added _ c.in-Ok.ensures.index _ c.remove.ensures back,
      omega (arith, same, c.self.invariant.1, c.in-Ok.ensures.capacity_kept),
    )

pub returns-in-Err-link-clause-acyclic : goal.returns-in-Err-link-clause-acyclic
returns-in-Err-link-clause-acyclic g c = acyclic_from_order _ (invariant_of-self-in-Err-link g c).0
