use Rattle.std.proofs.Common.{◌≡◌, ◌⊎◌, ◌<◌, ◌-◌, ℕ, Some, map, length, sym, ap, subst, ◌∙◌, arith, Contains}
use Rattle.std.specs.Prelude.{IsSome, OnSome, Option, None}
use Rattle.std.proofs.lemmas.List.Sorted.{IsPermutation-refl}
use Rattle.daggy_base.specs.Graph.{HasNode, node_weight}
use Rattle.daggy_base.specs.Removal.{without_node}
use Rattle.daggy_base.proofs.Lists.{contains_mem}
use Rattle.daggy_computed.specs.Cells.{cells, IsStaleAt}
use Rattle.daggy_computed.specs.Computation.{with_graph}
use Rattle.daggy_computed.specs.Marking.{all_marked, children_of}
use Rattle.daggy_computed.specs.Refreshing.{IsReady}
use Rattle.daggy_computed.specs.Settling.{AreValues}
use Rattle.daggy_computed.specs.Slots.{IsTakenOut}
use Rattle.daggy_computed.proofs.CellChanges.{cells_removed, slot_low}
use Rattle.daggy_computed.proofs.CellGraphs.{same_nodes, wf_cells, length_entries}
use Rattle.daggy_computed.proofs.Celled.{cell_at}
use Rattle.daggy_computed.proofs.Changes.{ready_removed}
use Rattle.daggy_computed.proofs.Joined.{joined, ends}
use Rattle.daggy_computed.proofs.Removed.{values_without}
use Rattle.daggy_computed.proofs.Turned.{ready_marked}
use Rattle.daggy_computed.proofs.computed.Computed.remove.Given.{Over}
use Rattle.daggy_computed.proofs.computed.Computed.remove.Goals.{After-node_slots-slots, After-mark_children, After-take_out-entry}
use Rattle.daggy_computed.proofs.computed.Computed.remove.Goals as goal

on_some : {A : Type 0} (o : Option A) (P : Type 0) → IsSome o → OnSome o P → P
on_some None P h p = absurd cc
on_some (Some x) P h p = p

module _ (g : Over) (c : After-node_slots-slots g) where
  there : HasNode c.self.inside.dag.graph (g.Ix.IndexType.number c.args.n)
  there =
      (same_nodes c.self.inside.dag.graph c.self.inside.entries.items (g.Ix.IndexType.number c.args.n)).1
      (subst (λ z. HasNode z.graph (g.Ix.IndexType.number c.args.n)) (sym c.self.view_is) c.requires)

  slots_is : c.node_slots-slots.result ≡ length c.self.inside.dag.graph.nodes
  slots_is = c.node_slots-slots.ensures ∙ ap (λ z. length z.nodes) c.graph-store.ensures.graph

  low : g.Ix.IndexType.number c.args.n < length c.self.inside.dag.graph.nodes
  low = slot_low c.self.inside.dag.graph.nodes (g.Ix.IndexType.number c.args.n) there

module _ (g : Over) (c : After-mark_children g) where
  marked : cells c.self.inside.dag.graph c.mark_children.new.entries.items
      ≡ all_marked (cells c.self.inside.dag.graph c.self.inside.entries.items)
      (children_of c.self.inside.dag.graph (g.Ix.IndexType.number c.args.n))
  marked =
      subst
      (λ z. cells z c.mark_children.new.entries.items
      ≡ all_marked (cells z c.self.inside.entries.items) (children_of z (g.Ix.IndexType.number c.args.n)))
      c.graph-store.ensures.graph c.mark_children.ensures.marked

  ready_then : IsReady c.self.inside.dag.graph c.mark_children.new.entries.items c.mark_children.new.queue.slots
      (map g.Ix.IndexType.number c.mark_children.new.queue.nodes)
  ready_then =
      let number = g.Ix.IndexType.number in
      let graph = c.self.inside.dag.graph in
      let n = number c.args.n in
      let w = c.node_count-count.ensures.dag.well_formed in
      let k = c.mark_children.ensures in
      let kids = children_of graph n in
      ready_marked number graph c.self.inside.entries.items c.mark_children.new.entries.items c.self.inside.queue.slots
      c.mark_children.new.queue.slots c.self.inside.queue.nodes c.mark_children.new.queue.nodes
      c.mark_children.new.queue.nodes k.put.0 kids c.self.invariant.0
      (omega (arith, k.len, c.mark_children.new.entries.ok.0, c.self.inside.entries.ok.0)) k.slots k.put.1
      (IsPermutation-refl c.mark_children.new.queue.nodes)
      (subst (λ z. (m : ℕ) → Contains (children_of z n) m → Contains (map number c.mark_children.new.queue.nodes) m)
      c.graph-store.ensures.graph k.all)
      (λ m q. (ends w n m (joined w n m (contains_mem kids m q))).1)
      (subst
      (λ z. (m : ℕ) → IsStaleAt c.mark_children.new.entries.items m
      → Contains (children_of z n) m ⊎ IsStaleAt c.self.inside.entries.items m)
      c.graph-store.ensures.graph k.stale)

  len : length c.mark_children.new.entries.items ≡ length c.self.inside.entries.items
  len = omega (arith, c.mark_children.ensures.len, c.mark_children.new.entries.ok.0, c.self.inside.entries.ok.0)

module _ (g : Over) (c : After-take_out-entry g) (slots_are : c.node_slots-slots.result ≡ length c.self.inside.dag.graph.nodes)
  where
    taken : IsTakenOut g.S.ReadStore.KIND (length c.self.inside.dag.graph.nodes - 1) (g.Ix.IndexType.number c.args.n)
        c.mark_children.new.entries.items c.take_out-entry.new.entries.items
    taken =
        subst
        (λ k. IsTakenOut k (length c.self.inside.dag.graph.nodes - 1) (g.Ix.IndexType.number c.args.n)
        c.mark_children.new.entries.items c.take_out-entry.new.entries.items)
        c.KIND.ensures
        (subst
        (λ z. IsTakenOut c.KIND.result (z - 1) (g.Ix.IndexType.number c.args.n) c.mark_children.new.entries.items
        c.take_out-entry.new.entries.items)
        slots_are c.take_out-entry.ensures.taken)

pub mark_children-requires-clause-sized : goal.mark_children-requires-clause-sized
mark_children-requires-clause-sized g c = λ m h.
    omega (arith, c.self.invariant.0.sized m (subst (λ z. HasNode z m) c.graph-store.ensures.graph h), c.self.inside.entries.ok.0)

pub mark_children-requires-clause-slots : goal.mark_children-requires-clause-slots
mark_children-requires-clause-slots g c = omega (arith, c.self.invariant.0.slots_are, c.self.inside.entries.ok.0)

pub unwrap-formula-requires : goal.unwrap-formula-requires
unwrap-formula-requires g c =
    subst IsSome (sym c.remove_node.ensures.value) (there g (goal.at.unwrap-formula-requires g c).After-node_slots-slots)

pub overflow_sub-slots : goal.overflow_sub-slots
overflow_sub-slots g c =
    let at = (goal.at.overflow_sub-slots g c).After-node_slots-slots in omega (arith, low g at, slots_is g at)

pub take_out-entry-requires-clause-node : goal.take_out-entry-requires-clause-node
take_out-entry-requires-clause-node g c =
    let at = goal.at.take_out-entry-requires-clause-node g c in
    omega (arith, low g at.After-node_slots-slots, c.self.invariant.1, len g at.After-mark_children, c.mark_children.new.entries.ok.0)

pub take_out-entry-requires-clause-last : goal.take_out-entry-requires-clause-last
take_out-entry-requires-clause-last g c =
    let at = goal.at.take_out-entry-requires-clause-last g c in
    omega (
      arith,
      low g at.After-node_slots-slots,
      slots_is g at.After-node_slots-slots,
      c.self.invariant.1,
      len g at.After-mark_children,
      c.mark_children.new.entries.ok.0,
    )

pub take_out-entry-requires-clause-slots : goal.take_out-entry-requires-clause-slots
take_out-entry-requires-clause-slots g c =
    let at = goal.at.take_out-entry-requires-clause-slots g c in
    omega (arith, (ready_then g at.After-mark_children).slots_are, c.mark_children.new.entries.ok.0)

pub invariant_of-self : goal.invariant_of-self
invariant_of-self g c =
    let at = goal.at.invariant_of-self g c in
    let number = g.Ix.IndexType.number in
    let graph = c.self.inside.dag.graph in
    let n = number c.args.n in
    let slots = slots_is g at.After-node_slots-slots in
    let k = c.take_out-entry.ensures in
    let some = subst IsSome (sym c.remove_node.ensures.value) (there g at.After-node_slots-slots) in
    let f_is = ap (λ z. z.graph) (on_some c.remove_node.result _ some c.remove_node.ensures.removed) in
    ready_removed g.S.ReadStore.KIND graph c.remove_node.new.self.graph c.mark_children.new.entries.items
    c.take_out-entry.new.entries.items c.mark_children.new.queue.slots c.take_out-entry.new.queue.slots
    (map number c.mark_children.new.queue.nodes) (map number c.take_out-entry.new.queue.nodes) n
    (there g at.After-node_slots-slots) f_is (ready_then g at.After-mark_children)
    (omega (arith, c.self.invariant.1, len g at.After-mark_children)) (taken g at.After-take_out-entry slots)
    (omega (arith, k.len, c.take_out-entry.new.entries.ok.0, c.mark_children.new.entries.ok.0)) k.slots k.waits
    (λ compact apart s. k.moved (c.KIND.ensures ∙ compact) (λ e. apart (e ∙ ap (λ z. z - 1) slots))
    (subst (λ z. IsStaleAt c.mark_children.new.entries.items (z - 1)) (sym slots) s))

pub returns-clause-removed : goal.returns-clause-removed
returns-clause-removed g c =
    let at = goal.at.returns-clause-removed g c in
    let number = g.Ix.IndexType.number in
    let graph = c.self.inside.dag.graph in
    let n = number c.args.n in
    let kind = g.S.ReadStore.KIND in
    let fs = c.take_out-entry.new.entries.items in
    let es = c.mark_children.new.entries.items in
    let slots = slots_is g at.After-node_slots-slots in
    let some = subst IsSome (sym c.remove_node.ensures.value) (there g at.After-node_slots-slots) in
    let f_is = ap (λ z. z.graph) (on_some c.remove_node.result _ some c.remove_node.ensures.removed) in
    let low_es : n < length es = omega (arith, low g at.After-node_slots-slots, c.self.invariant.1, len g at.After-mark_children) in
    ap (λ z. record { graph = z; changed = map number c.self.inside.changed.items })
    (ap (λ z. cells z fs) f_is
    ∙ (sym (cells_removed kind graph es fs n low_es (taken g at.After-take_out-entry slots))
    ∙ ap (λ z. without_node kind z n) (marked g at.After-mark_children)))
    ∙ ap (λ z. with_graph z (without_node kind (all_marked z.graph (children_of z.graph n)) n)) c.self.view_is

pub returns-clause-values : goal.returns-clause-values
returns-clause-values g c = λ eq allowed hold.
    let at = goal.at.returns-clause-values g c in
    let number = g.Ix.IndexType.number in
    let graph = c.self.inside.dag.graph in
    let n = number c.args.n in
    let kind = g.S.ReadStore.KIND in
    let fs = c.take_out-entry.new.entries.items in
    let es = c.mark_children.new.entries.items in
    let slots = slots_is g at.After-node_slots-slots in
    let here = low g at.After-node_slots-slots in
    let some = subst IsSome (sym c.remove_node.ensures.value) (there g at.After-node_slots-slots) in
    let f_is = ap (λ z. z.graph) (on_some c.remove_node.result _ some c.remove_node.ensures.removed) in
    let low_es : n < length es = omega (arith, here, c.self.invariant.1, len g at.After-mark_children) in
    subst (AreValues eq allowed)
    (sym (ap (λ z. cells z fs) f_is ∙ sym (cells_removed kind graph es fs n low_es (taken g at.After-take_out-entry slots))))
    (values_without kind (cells graph c.self.inside.entries.items) (cells graph es) n (marked g at.After-mark_children)
    (wf_cells graph es _ c.node_count-count.ensures.dag.well_formed) (omega (arith, here, length_entries graph.nodes es)) eq allowed
    (subst (λ z. AreValues eq allowed z.graph) (sym c.self.view_is) hold))

pub returns-clause-gives : goal.returns-clause-gives
returns-clause-gives g c =
    let at = goal.at.returns-clause-gives g c in
    let number = g.Ix.IndexType.number in
    let graph = c.self.inside.dag.graph in
    let n = number c.args.n in
    let es = c.mark_children.new.entries.items in
    let weight : node_weight graph n ≡ Some c.unwrap-formula.result =
    sym c.remove_node.ensures.value ∙ c.unwrap-formula.ensures in
    ap (λ z. node_weight (all_marked z.graph (children_of z.graph n)) n) (sym c.self.view_is)
    ∙ (ap (λ z. node_weight z n) (sym (marked g at.After-mark_children))
    ∙ (cell_at graph es n c.unwrap-formula.result weight
    ∙ ap (λ z. Some (record { formula = c.unwrap-formula.result; value = z.value; stale = z.stale })) (sym c.take_out-entry.ensures.value)))
