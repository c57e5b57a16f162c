use Rattle.std.proofs.Common.{◌≡◌, ◌↔◌, ◌+◌, ◌<◌, ℕ, List, map, length, get_or, Ok, Err, sym, ap, subst, ◌∙◌, arith, vec_len}
use Rattle.std.specs.Prelude.{Result}
use Rattle.std.specs.Option.{option_map}
use Rattle.daggy_base.specs.Graph.{Graph, HasNode, slot, edge_count}
use Rattle.daggy_guard.specs.Parents.{ReachesParent, entering}
use Rattle.daggy_computed.specs.declared.entry.Entry.{Entry}
use Rattle.daggy_computed.specs.Cells.{cells, with_entries}
use Rattle.daggy_computed.specs.Marking.{reformed}
use Rattle.daggy_computed.specs.Settling.{AreValues}
use Rattle.daggy_computed.proofs.CellGraphs.{same_nodes, reaches_cells}
use Rattle.daggy_computed.proofs.ChangedParents.{values_with_parents}
use Rattle.daggy_computed.proofs.Changes.{ready_same, nodes_reformed, entering_reformed}
use Rattle.daggy_computed.proofs.computed.Computed.set_parents.Goals as goal

-- the second of the two things that an error holds
abbrev second : {A B C : Type 0} → Result A (B × C) → Result (Unit {0}) C
second (Ok x) = Ok tt
second (Err p) = Err p.1

-- what two equal errors hold
errors : {A C : Type 0} (x y : C) → ◌≡◌ {A = Result A C} (Err x) (Err y) → x ≡ y
errors x y h = cc

-- a node reaches the parent of an item in one graph if it does in the other
reaches_parent : {K V E I : Type 0} (number : I → ℕ) (g : Graph K E) (es : List (Entry V)) (n : ℕ) (items : List (I × E))
    → ReachesParent number g n items ↔ ReachesParent number (cells g es) n items
reaches_parent number g es n items = (
  λ r. (r.0, r.1, (reaches_cells g es n (number r.0.0)).0 r.2),
  λ r. (r.0, r.1, (reaches_cells g es n (number r.0.0)).1 r.2),
)

-- `count` items close no cycle, and there are too few indices for them
abbrev IsFull : {I N E : Type 0} → (number : I → ℕ) → ℕ → Graph N E → ℕ → List (I × E) → ℕ → Type 0
IsFull number end g n items count = (¬ ReachesParent number g n items) × (end < edge_count g + count)

-- it is the same in the graph of cells
full_cells : {K V E I : Type 0} (number : I → ℕ) (end : ℕ) (g : Graph K E) (es : List (Entry V)) (n : ℕ)
    (items : List (I × E)) (count : ℕ) → IsFull number end g n items count ↔ IsFull number end (cells g es) n items count
full_cells number end g es n items count =
    let both = reaches_parent number g es n items in (
      λ f. (λ r. f.0 (both.1 r), f.1),
      λ f. (λ r. f.0 (both.0 r), f.1),
    )

pub set_parents-requires-clause-node : goal.set_parents-requires-clause-node
set_parents-requires-clause-node g c =
    let n = g.Ix.IndexType.number c.args.n in
    (same_nodes c.self.inside.dag.graph c.self.inside.entries.items n).1
    (subst (λ z. HasNode z.graph n) (sym c.self.view_is) c.requires.node)

pub set_parents-requires-clause-parents : goal.set_parents-requires-clause-parents
set_parents-requires-clause-parents g c = λ k d low.
    let p = g.Ix.IndexType.number (get_or c.args.parents.items k d).0 in
    (same_nodes c.self.inside.dag.graph c.self.inside.entries.items p).1
    (subst (λ z. HasNode z.graph p) (sym c.self.view_is) (c.requires.parents k d low))

pub invariant_of-self : goal.invariant_of-self
invariant_of-self g c =
    let number = g.Ix.IndexType.number in
    let same = ap (λ z. z.nodes) c.in-Err.ensures.unchanged in (
      ready_same c.self.inside.dag.graph c.set_parents.new.self.graph c.self.inside.entries.items c.self.inside.queue.slots
          (map number c.self.inside.queue.nodes) same c.self.invariant.0,
      omega (arith, c.self.invariant.1, ap length same),
    )

pub returns-in-Err-clause-cycle : goal.returns-in-Err-clause-cycle
returns-in-Err-clause-cycle g c =
    let number = g.Ix.IndexType.number in
    let n = number c.args.n in
    let items = c.args.parents.items in
    let both = reaches_parent number c.self.inside.dag.graph c.self.inside.entries.items n items in (
      λ h. subst (λ z. ReachesParent number z.graph n items) c.self.view_is (both.0 (c.in-Err.ensures.cycle.0 (ap second h))),
      λ r. ap (λ e. Err (c.args.formula, e))
          (errors {A = Unit {0}} _ _ (c.in-Err.ensures.cycle.1 (both.1 (subst (λ z. ReachesParent number z.graph n items) (sym c.self.view_is) r)))),
    )

pub returns-in-Err-clause-full : goal.returns-in-Err-clause-full
returns-in-Err-clause-full g c =
    let number = g.Ix.IndexType.number in
    let end = g.Ix.IndexType.greatest in
    let n = number c.args.n in
    let items = c.args.parents.items in
    let count = vec_len c.args.parents in
    let both = full_cells number end c.self.inside.dag.graph c.self.inside.entries.items n items count in (
      λ h. subst (λ z. IsFull number end z.graph n items count) c.self.view_is (both.0 (c.in-Err.ensures.full.0 (ap second h))),
      λ r. ap (λ e. Err (c.args.formula, e))
          (errors {A = Unit {0}} _ _ (c.in-Err.ensures.full.1 (both.1 (subst (λ z. IsFull number end z.graph n items count) (sym c.self.view_is) r)))),
    )

pub returns-in-Err-clause-unchanged : goal.returns-in-Err-clause-unchanged
returns-in-Err-clause-unchanged g c =
    let number = g.Ix.IndexType.number in
    ap (λ z. record { graph = cells z c.self.inside.entries.items; changed = map number c.self.inside.changed.items })
    c.in-Err.ensures.unchanged
    ∙ c.self.view_is

pub returns-in-Err-clause-changed : goal.returns-in-Err-clause-changed
returns-in-Err-clause-changed g c = ap (λ z. z.changed) c.self.view_is

pub returns-in-Err-clause-values : goal.returns-in-Err-clause-values
returns-in-Err-clause-values g c = λ eq allowed hold.
    subst (λ z. AreValues eq allowed (cells z c.self.inside.entries.items)) (sym c.in-Err.ensures.unchanged)
    (subst (λ z. AreValues eq allowed z.graph) (sym c.self.view_is) hold)

pub invariant_of-self-2 : goal.invariant_of-self-2
invariant_of-self-2 g c =
    let number = g.Ix.IndexType.number in
    let same = c.in-Ok.ensures.nodes in (
      ready_same c.self.inside.dag.graph c.set_parents.new.self.graph c.self.inside.entries.items c.self.inside.queue.slots
          (map number c.self.inside.queue.nodes) same c.self.invariant.0,
      omega (arith, c.self.invariant.1, ap length same),
    )

pub set-requires : goal.set-requires
set-requires g c =
    let n = g.Ix.IndexType.number c.args.n in
    let es = c.self.inside.entries.items in
    (same_nodes c.set_parents.new.self.graph es n).0
    (subst (λ z. HasNode (record c.set_parents.new.self.graph { nodes = z }) n) (sym c.in-Ok.ensures.nodes)
    ((same_nodes c.self.inside.dag.graph es n).1 (subst (λ z. HasNode z.graph n) (sym c.self.view_is) c.requires.node)))

pub returns-clause-cycle : goal.returns-clause-cycle
returns-clause-cycle g c =
    let number = g.Ix.IndexType.number in
    let n = number c.args.n in
    let items = c.args.parents.items in
    let both = reaches_parent number c.self.inside.dag.graph c.self.inside.entries.items n items in (
      λ h. absurd cc,
      λ r. (let e = c.in-Ok.ensures.cycle.1 (both.1 (subst (λ z. ReachesParent number z.graph n items) (sym c.self.view_is) r)) in
          absurd cc),
    )

pub returns-clause-full : goal.returns-clause-full
returns-clause-full g c =
    let number = g.Ix.IndexType.number in
    let end = g.Ix.IndexType.greatest in
    let n = number c.args.n in
    let items = c.args.parents.items in
    let count = vec_len c.args.parents in
    let both = full_cells number end c.self.inside.dag.graph c.self.inside.entries.items n items count in (
      λ h. absurd cc,
      λ r. (let e = c.in-Ok.ensures.full.1 (both.1 (subst (λ z. IsFull number end z.graph n items count) (sym c.self.view_is) r)) in
          absurd cc),
    )

pub returns-clause-nodes : goal.returns-clause-nodes
returns-clause-nodes g c =
    let n = g.Ix.IndexType.number c.args.n in
    let es = c.self.inside.entries.items in
    ap (λ z. z.graph.nodes) c.set.ensures.set
    ∙ (nodes_reformed (cells c.self.inside.dag.graph es) (cells c.set_parents.new.self.graph es) n c.args.formula
    (ap (λ z. with_entries z es) c.in-Ok.ensures.nodes)
    ∙ ap (λ z. (reformed z.graph n c.args.formula).nodes) c.self.view_is)

pub returns-clause-parents : goal.returns-clause-parents
returns-clause-parents g c =
    let n = g.Ix.IndexType.number c.args.n in
    let es = c.self.inside.entries.items in
    ap (λ z. entering z.graph n) c.set.ensures.set
    ∙ (entering_reformed (cells c.set_parents.new.self.graph es) n c.args.formula n ∙ c.in-Ok.ensures.parents)

pub returns-clause-others : goal.returns-clause-others
returns-clause-others g c = λ m d.
    let n = g.Ix.IndexType.number c.args.n in
    let es = c.self.inside.entries.items in
    ap (λ z. entering z.graph m) c.set.ensures.set
    ∙ (entering_reformed (cells c.set_parents.new.self.graph es) n c.args.formula m
    ∙ (c.in-Ok.ensures.others m d ∙ ap (λ z. entering z.graph m) c.self.view_is))

pub returns-clause-changed : goal.returns-clause-changed
returns-clause-changed g c = ap (λ z. z.changed) c.set.ensures.set ∙ ap (λ z. z.changed) c.self.view_is

pub returns-clause-values : goal.returns-clause-values
returns-clause-values g c = λ eq allowed hold.
    let n = g.Ix.IndexType.number c.args.n in
    let es = c.self.inside.entries.items in
    let old = cells c.self.inside.dag.graph es in
    let mid = cells c.set_parents.new.self.graph es in
    subst (λ z. AreValues eq allowed z.graph) (sym c.set.ensures.set)
    (values_with_parents old mid n c.args.formula (ap (λ z. with_entries z es) c.in-Ok.ensures.nodes) c.in-Ok.ensures.others eq
    allowed (subst (λ z. AreValues eq allowed z.graph) (sym c.self.view_is) hold))

pub returns-clause-gives : goal.returns-clause-gives
returns-clause-gives g c =
    let n = g.Ix.IndexType.number c.args.n in
    let es = c.self.inside.entries.items in
    ap (λ z. option_map (λ d. d.formula) (slot z.graph.nodes n)) (sym c.self.view_is)
    ∙ (ap (λ z. option_map (λ d. d.formula) (slot (with_entries z es) n)) (sym c.in-Ok.ensures.nodes) ∙ c.set.ensures.gives)
