use Rattle.std.proofs.Common.{◌≡◌, ◌≢◌, ◌<◌, ◌≤◌, ℕ, Contains, None, true, inl, inr, map, length, refl, sym, ap, subst, ◌∙◌, arith}
use Rattle.daggy_base.specs.Adding.{with_node, next_node}
use Rattle.daggy_base.specs.Graph.{node_count}
use Rattle.daggy_base.proofs.PathsWithNewNode.{free_slots}
use Rattle.daggy_base.proofs.Slots.{IsFree}
use Rattle.daggy_computed.specs.Cells.{cells, entry_at, cell_of}
use Rattle.daggy_computed.specs.Computation.{with_graph}
use Rattle.daggy_computed.specs.Settling.{AreValues}
use Rattle.daggy_computed.proofs.CellChanges.{cells_added}
use Rattle.daggy_computed.proofs.CellGraphs.{count_entries, wf_cells}
use Rattle.daggy_computed.proofs.ChangedParents.{values_with_node}
use Rattle.daggy_computed.proofs.Changes.{next_low, next_cells, slots_added, ready_kept, ready_added}
use Rattle.daggy_computed.proofs.Listed.{on_ok}
use Rattle.daggy_computed.proofs.computed.Computed.add.Given.{Over}
use Rattle.daggy_computed.proofs.computed.Computed.add.Goals.{After-reserve_slots, After-put_stale}
use Rattle.daggy_computed.proofs.computed.Computed.add.Goals as goal

module _ (g : Over) (c : After-reserve_slots g) where
  slots_is : c.node_slots-slots.result ≡ length c.self.inside.dag.graph.nodes
  slots_is = c.node_slots-slots.ensures ∙ ap (λ z. length z.nodes) c.graph.ensures.graph

  free : IsFree c.self.inside.dag.graph.nodes c.self.inside.dag.graph.vacant_nodes
  free = free_slots _ _ c.node_count-count.ensures.dag.well_formed.node_slots

  next : next_node c.self.inside.dag.graph ≤ length c.self.inside.dag.graph.nodes
  next = next_low c.self.inside.dag.graph free

  vec_is : c.reserve_slots.new.entries.len ≡ length c.self.inside.entries.items
  vec_is = omega (arith, c.reserve_slots.new.entries.ok.0, ap length c.reserve_slots.ensures.entries)

pub overflow_add-slots : goal.overflow_add-slots
overflow_add-slots g c =
    let slots : c.node_slots-slots.result ≡ length c.self.inside.dag.graph.nodes =
    c.node_slots-slots.ensures ∙ ap (λ z. length z.nodes) c.graph.ensures.graph in
    omega (arith, slots, c.node_count-count.ensures.dag.well_formed.few_nodes, g.met.Ix.IndexType.fits)

pub invariant_of-self : goal.invariant_of-self
invariant_of-self g c =
    let number = g.Ix.IndexType.number in
    let k = c.reserve_slots.ensures in
    let graph = c.self.inside.dag.graph in (
      ready_kept graph graph c.self.inside.entries.items c.reserve_slots.new.entries.items c.self.inside.queue.slots
          c.reserve_slots.new.queue.slots (map number c.self.inside.queue.nodes) (map number c.reserve_slots.new.queue.nodes) refl
          k.entries k.slots (ap (map number) k.nodes) c.self.invariant.0,
      omega (arith, c.self.invariant.1, ap length k.entries),
    )

pub returns-then-is_err-clause-values : goal.returns-then-is_err-clause-values
returns-then-is_err-clause-values g c = λ eq allowed hold.
    subst (λ z. AreValues eq allowed (cells c.self.inside.dag.graph z)) (sym c.reserve_slots.ensures.entries)
    (subst (λ z. AreValues eq allowed z.graph) (sym c.self.view_is) hold)

pub returns-then-is_err-clause-unchanged : goal.returns-then-is_err-clause-unchanged
returns-then-is_err-clause-unchanged g c =
    ap
    (λ z. record { graph = cells c.self.inside.dag.graph z; changed = map g.Ix.IndexType.number c.self.inside.changed.items })
    c.reserve_slots.ensures.entries
    ∙ c.self.view_is

pub add_node-requires : goal.add_node-requires
add_node-requires g c =
    let graph = c.self.inside.dag.graph in
    let same : node_count c.args.self.now.graph ≡ node_count graph =
    ap (λ z. node_count z.graph) (sym c.self.view_is) ∙ count_entries graph.nodes c.self.inside.entries.items in
    omega (arith, c.requires, same)

pub put_stale-requires-clause-within : goal.put_stale-requires-clause-within
put_stale-requires-clause-within g c =
    let at = (goal.at.put_stale-requires-clause-within g c).After-reserve_slots in
    omega (arith, c.in-Ok.ensures.added.0, next g at, c.self.invariant.1, vec_is g at)

pub put_stale-requires-clause-slots : goal.put_stale-requires-clause-slots
put_stale-requires-clause-slots g c =
    let at = (goal.at.put_stale-requires-clause-slots g c).After-reserve_slots in
    c.reserve_slots.ensures.slots ∙ (sym c.self.invariant.0.slots_are ∙ sym (vec_is g at))

pub put_stale-requires-clause-room : goal.put_stale-requires-clause-room
put_stale-requires-clause-room g c =
    let at = (goal.at.put_stale-requires-clause-room g c).After-reserve_slots in
    let room = on_ok c.reserve_slots.result _ (sym c.is_err.ensures.value ∙ c.if-is_err.false) c.reserve_slots.ensures.room in
    omega (arith, c.in-Ok.ensures.added.0, next g at, slots_is g at, room.0)

pub put_stale-requires-clause-marks : goal.put_stale-requires-clause-marks
put_stale-requires-clause-marks g c =
    let at = (goal.at.put_stale-requires-clause-marks g c).After-reserve_slots in
    let room = on_ok c.reserve_slots.result _ (sym c.is_err.ensures.value ∙ c.if-is_err.false) c.reserve_slots.ensures.room in
    omega (arith, c.in-Ok.ensures.added.0, next g at, slots_is g at, room.1)

pub put_stale-requires-clause-nodes : goal.put_stale-requires-clause-nodes
put_stale-requires-clause-nodes g c =
    let at = (goal.at.put_stale-requires-clause-nodes g c).After-reserve_slots in
    let room = on_ok c.reserve_slots.result _ (sym c.is_err.ensures.value ∙ c.if-is_err.false) c.reserve_slots.ensures.room in
    omega (arith, c.in-Ok.ensures.added.0, next g at, slots_is g at, room.2)

-- once something is kept of the node
module _ (g : Over) (c : After-put_stale g) where
  here : entry_at c.put_stale.new.entries.items (next_node c.self.inside.dag.graph) ≡ record { value = None; stale = true }
  here = ap (entry_at c.put_stale.new.entries.items) (sym c.in-Ok.ensures.added.0) ∙ c.put_stale.ensures.here

  others : (m : ℕ) → m ≢ next_node c.self.inside.dag.graph
      → entry_at c.put_stale.new.entries.items m ≡ entry_at c.self.inside.entries.items m
  others m d =
      c.put_stale.ensures.others m (λ e. d (e ∙ c.in-Ok.ensures.added.0))
      ∙ ap (λ z. entry_at z m) c.reserve_slots.ensures.entries

  longer : length c.self.inside.entries.items ≤ length c.put_stale.new.entries.items
  longer =
      omega (
        arith,
        c.put_stale.ensures.long.0,
        c.put_stale.new.entries.ok.0,
        c.reserve_slots.new.entries.ok.0,
        ap length c.reserve_slots.ensures.entries,
      )

  within : next_node c.self.inside.dag.graph < length c.put_stale.new.entries.items
  within = omega (arith, c.put_stale.ensures.long.1, c.put_stale.new.entries.ok.0, c.in-Ok.ensures.added.0)

  cells_are : cells c.add_node.new.self.graph c.put_stale.new.entries.items
      ≡ with_node (cells c.self.inside.dag.graph c.self.inside.entries.items) (cell_of (record { value = None; stale = true }) c.args.formula)
  cells_are =
      ap (λ z. cells z c.put_stale.new.entries.items) c.in-Ok.ensures.added.1
      ∙ cells_added c.self.inside.dag.graph c.self.inside.entries.items c.put_stale.new.entries.items c.args.formula
      (record { value = None; stale = true }) here others

pub invariant_of-self-in-Ok : goal.invariant_of-self-in-Ok
invariant_of-self-in-Ok g c =
    let at = (goal.at.invariant_of-self-in-Ok g c).After-put_stale in
    let before = (goal.at.invariant_of-self-in-Ok g c).After-reserve_slots in
    let number = g.Ix.IndexType.number in
    let graph = c.self.inside.dag.graph in
    let fs = c.put_stale.new.entries.items in
    let k = c.put_stale.ensures in (
      ready_added graph c.add_node.new.self.graph c.args.formula c.self.inside.entries.items fs c.self.inside.queue.slots
          c.put_stale.new.queue.slots (map number c.self.inside.queue.nodes) (map number c.put_stale.new.queue.nodes) (free g before)
          c.in-Ok.ensures.added.1 c.self.invariant.0 (here g at) (others g at) (longer g at) (within g at)
          (k.slots ∙ c.put_stale.new.entries.ok.0)
          (λ m h. elim h [
            | inl old ↦
                k.waits m (inl (subst (λ z. Contains (map number z) m) (sym c.reserve_slots.ensures.nodes) old))
            | inr e ↦ k.waits m (inr (e ∙ sym c.in-Ok.ensures.added.0))
          ]),
      subst (λ z. length z.nodes ≤ length fs) (sym c.in-Ok.ensures.added.1)
          (slots_added graph c.args.formula (length fs) (omega (arith, c.self.invariant.1, longer g at)) (within g at)),
    )

pub invariant_of-self-in-Err : goal.invariant_of-self-in-Err
invariant_of-self-in-Err g c =
    let number = g.Ix.IndexType.number in
    let k = c.reserve_slots.ensures in
    let graph = c.self.inside.dag.graph in (
      ready_kept graph c.add_node.new.self.graph c.self.inside.entries.items c.reserve_slots.new.entries.items
          c.self.inside.queue.slots c.reserve_slots.new.queue.slots (map number c.self.inside.queue.nodes)
          (map number c.reserve_slots.new.queue.nodes) c.in-Err.ensures.unchanged k.entries k.slots (ap (map number) k.nodes)
          c.self.invariant.0,
      omega (arith, c.self.invariant.1, ap length k.entries, ap (λ z. length z.nodes) c.in-Err.ensures.unchanged),
    )

pub returns-in-Ok-clause-index : goal.returns-in-Ok-clause-index
returns-in-Ok-clause-index g c =
    c.in-Ok.ensures.added.0
    ∙ (sym (next_cells c.self.inside.dag.graph c.self.inside.entries.items) ∙ ap (λ z. next_node z.graph) c.self.view_is)

pub returns-in-Ok-clause-added : goal.returns-in-Ok-clause-added
returns-in-Ok-clause-added g c =
    let at = (goal.at.returns-in-Ok-clause-added g c).After-put_stale in
    ap (λ z. record { graph = z; changed = map g.Ix.IndexType.number c.self.inside.changed.items }) (cells_are g at)
    ∙ ap (λ z. with_graph z (with_node z.graph (record { formula = c.args.formula; value = None; stale = true }))) c.self.view_is

pub returns-in-Ok-clause-values : goal.returns-in-Ok-clause-values
returns-in-Ok-clause-values g c = λ eq allowed hold.
    let at = (goal.at.returns-in-Ok-clause-values g c).After-put_stale in
    let graph = c.self.inside.dag.graph in
    let es = c.self.inside.entries.items in
    let end = g.Ix.IndexType.greatest in
    subst (AreValues eq allowed) (sym (cells_are g at))
    (values_with_node end (cells graph es) _ (wf_cells graph es end c.node_count-count.ensures.dag.well_formed) refl eq allowed
    (subst (λ z. AreValues eq allowed z.graph) (sym c.self.view_is) hold))

pub returns-in-Err-clause-values : goal.returns-in-Err-clause-values
returns-in-Err-clause-values g c = λ eq allowed hold.
    subst (λ z. AreValues eq allowed (cells z c.reserve_slots.new.entries.items)) (sym c.in-Err.ensures.unchanged)
    (subst (λ z. AreValues eq allowed (cells c.self.inside.dag.graph z)) (sym c.reserve_slots.ensures.entries)
    (subst (λ z. AreValues eq allowed z.graph) (sym c.self.view_is) hold))

pub returns-in-Err-clause-unchanged : goal.returns-in-Err-clause-unchanged
returns-in-Err-clause-unchanged g c =
    let changed = map g.Ix.IndexType.number c.self.inside.changed.items in
    ap (λ z. record { graph = cells z c.reserve_slots.new.entries.items; changed = changed }) c.in-Err.ensures.unchanged
    ∙ (ap (λ z. record { graph = cells c.self.inside.dag.graph z; changed = changed }) c.reserve_slots.ensures.entries
    ∙ c.self.view_is)
