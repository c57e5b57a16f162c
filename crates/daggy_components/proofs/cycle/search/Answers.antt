use Rattle.std.proofs.Common.{rules, ◌≡◌, ◌≢◌, ◌+◌, ◌<◌, ◌≤◌, ◌∙◌, ◌-◌, ℕ, sym, subst, refl, arith, false, true, length}
use Rattle.std.proofs.Common.{get_or, set}
use Rattle.std.proofs.lemmas.Bool.{false≢true}
use Rattle.daggy_base.specs.Graph.{HasNode, node_bound, edge_count}
use Rattle.daggy_base.proofs.PathsWithNode.{bound_low}
use Rattle.std.proofs.Common.{length-set}
use Rattle.daggy_search.proofs.FinishingOrder.{acyclic_from_sorted}
use Rattle.daggy_components.proofs.Rounds.{spot_low, child_place, cycle_closed}
use Rattle.daggy_search.proofs.SortNodesState.{Sorting, rests, skipped, begins, few_rested, all_found}
use Rattle.daggy_search.proofs.SortNodesState.{place_free, looked_once, edge_here, node_low, walked, steps_back}
use Rattle.daggy_search.proofs.SortNodesState.{child_low, room_here, steps_over, steps_in}
use Rattle.daggy_components.proofs.cycle.search.Given.{Over}
use Rattle.daggy_components.proofs.cycle.search.Goals.{After-look-v, Then-not-is_entered, Then-index-end, After-put_node-else-is_marked}
use Rattle.daggy_components.proofs.cycle.search.Goals as goal
use Rattle.daggy_components.proofs.cycle.search.Goals.{then-not-contains_node-via-then-not-contains_node}
use Rattle.daggy_components.proofs.cycle.search.Goals.{
  then-not-contains_node-via-else-not-contains_node+then-is_entered,
}

-- a place is left for the node that is finished
free : (g : Over) (c : Then-index-end g) → c.steps.top - 1 + 1 ≡ c.steps.top
free g c = omega (arith, place_free c.node_bound-bound.ensures.well_formed c.steps.invariant)

-- e is an edge, and the looks stay few
here : (g : Over) (c : After-look-v g) → g.Ix.IndexType.number c.steps.e ≢ g.Ix.IndexType.greatest
here g c = λ h. c.if-index-end.false cc

looked : (g : Over) (c : After-look-v g)
    → g.S.EdgeSource.looks c.look-v.new.self
    ≤ g.S.EdgeSource.looks c.args.source.now + edge_count (g.S.EdgeSource.graph c.args.source.now)
looked g c = looked_once c.node_bound-bound.ensures.well_formed c.steps.invariant (here g c) c.look-v.ensures.counted

-- the child is within the lists
v_low : (g : Over) (c : After-look-v g) → g.Ix.IndexType.number c.look-v.result.0 < length c.steps.work.entered
v_low g c = child_low c.node_bound-bound.ensures.well_formed c.steps.invariant (here g c) c.look-v.ensures.gives

-- there is room for a child that is not discovered yet
room : (g : Over) (c : Then-not-is_entered g) → c.steps.len + 1 < c.args.work.now.size
room g c =
    let here : g.Ix.IndexType.number c.steps.e ≢ g.Ix.IndexType.greatest = λ h. c.if-index-end.false cc in
    let unseen : get_or c.steps.work.entered (g.Ix.IndexType.number c.look-v.result.0) false ≡ false = cc in
    room_here c.node_bound-bound.ensures.well_formed c.steps.invariant here c.look-v.ensures.gives unseen

pub roots-init : goal.roots-init
roots-init g c =
    let now : Sorting _ _ = record {
      graph = g.S.EdgeSource.graph c.args.source.now;
      work = c.begin.new.self;
      top = c.len-top.result;
      looks = g.S.EdgeSource.looks c.args.source.now;
    } in
    rests now c.requires c.begin.ensures.sized c.begin.ensures.cleared
    (c.len-top.ensures ∙ c.begin.ensures.sized.size_is)

pub new-root-requires : goal.new-root-requires
new-root-requires g c =
    omega (
      arith,
      c.node_bound-bound.ensures.value,
      bound_low (g.S.EdgeSource.graph c.args.source.now).nodes,
      c.node_bound-bound.ensures.well_formed.few_nodes,
    )

pub roots-preserved-then-not-contains_node : goal.roots-preserved-then-not-contains_node
roots-preserved-then-not-contains_node g c =
    skipped c.node_bound-bound.ensures.well_formed c.roots.invariant (elim c.then-not-contains_node.branch [
      | then-not-contains_node-via-then-not-contains_node w ↦
          (λ h.
          absurd (false≢true (sym w.if-not-contains_node.true ∙ c.contains_node.ensures.exists.1 (let P : ℕ → Type 0 =
          λ z. HasNode (g.S.EdgeSource.graph c.roots.source) z in subst P (sym c.new-root.ensures.number) h))))
      | then-not-contains_node-via-else-not-contains_node+then-is_entered w ↦
          (λ h. sym w.is_entered.ensures ∙ w.if-is_entered.true)
    ])

pub steps-init : goal.steps-init
steps-init g c =
    let exists : HasNode (g.S.EdgeSource.graph c.roots.source) (g.Ix.IndexType.number c.new-root.result) =
    search rules in
    let unseen : get_or c.roots.work.entered c.roots.i false ≡ false = cc in
    rw c.enter.ensures (begins c.node_bound-bound.ensures.well_formed c.roots.invariant exists unseen
    c.new-root.ensures.number c.first-e.ensures)

pub mark-requires : goal.mark-requires
mark-requires g c =
    omega (
      arith,
      node_low c.node_bound-bound.ensures.well_formed c.steps.invariant,
      c.index-then-index-end.ensures.value,
    )

pub overflow_sub-top : goal.overflow_sub-top
overflow_sub-top g c =
    omega (arith, free g (goal.at.overflow_sub-top g c).Then-index-end)

pub steps-preserved-then-index-end : goal.steps-preserved-then-index-end
steps-preserved-then-index-end g c =
    let at = goal.at.steps-preserved-then-index-end g c in
    let at_end : g.Ix.IndexType.number c.steps.e ≡ g.Ix.IndexType.greatest = cc in
    let w = c.node_bound-bound.ensures.well_formed in
    let node_read : (d : ℕ)
    → get_or c.put_node.new.self.nodes (c.steps.len - 1) d
    ≡ get_or (set c.steps.work.nodes (c.steps.top - 1) (g.Ix.IndexType.number c.steps.n)) (c.steps.len - 1) d = λ d.
    rw (c.put_node.ensures, c.of_node.ensures, c.mark.ensures) refl in
    let cursor_read : (d : ℕ)
    → get_or c.put_node.new.self.cursors (c.steps.len - 1) d ≡ get_or c.steps.work.cursors (c.steps.len - 1) d = λ d.
    rw (c.put_node.ensures, c.mark.ensures) refl in
    rw (c.put_node.ensures, c.of_node.ensures, c.mark.ensures) (steps_back w c.steps.invariant at_end
    c.index-then-index-end.ensures.value (free g at.Then-index-end) c.if-len-eq0.false refl
    (λ d. c.node-n.ensures.value ∙ c.node.ensures d ∙ node_read d)
    (λ d. c.edge-e.ensures.value ∙ c.cursor.ensures d ∙ cursor_read d))

pub look-v-requires : goal.look-v-requires
look-v-requires g c =
    let here : g.Ix.IndexType.number c.steps.e ≢ g.Ix.IndexType.greatest = λ h. c.if-index-end.false cc in
    edge_here c.node_bound-bound.ensures.well_formed c.steps.invariant here

pub is_entered-requires-else-index-end : goal.is_entered-requires-else-index-end
is_entered-requires-else-index-end g c =
    omega (arith, v_low g (goal.at.is_entered-requires-else-index-end g c).After-look-v, c.index-child.ensures.value)

pub enter-requires-then-not-is_entered : goal.enter-requires-then-not-is_entered
enter-requires-then-not-is_entered g c =
    omega (arith, v_low g (goal.at.enter-requires-then-not-is_entered g c).After-look-v, c.index-child.ensures.value)

pub put_node-requires-then-not-is_entered : goal.put_node-requires-then-not-is_entered
put_node-requires-then-not-is_entered g c =
    let low = room g (goal.at.put_node-requires-then-not-is_entered g c).Then-not-is_entered in
    rw c.enter-then-not-is_entered.ensures (omega (arith, low, c.steps.invariant.sizes.sized.nodes_are))

pub put_cursor-requires : goal.put_cursor-requires
put_cursor-requires g c =
    let low = room g (goal.at.put_cursor-requires g c).Then-not-is_entered in
    rw (c.put_node-then-not-is_entered.ensures, c.enter-then-not-is_entered.ensures)
    (omega (arith, low, c.steps.invariant.sizes.sized.cursors_are))

pub overflow_add-len : goal.overflow_add-len
overflow_add-len g c =
    let h : c.steps.len + 1 < c.args.work.now.size =
    room g (goal.at.overflow_add-len g c).Then-not-is_entered in
    search rules

pub steps-smaller-then-not-is_entered : goal.steps-smaller-then-not-is_entered
steps-smaller-then-not-is_entered g c =
    omega (arith, looked g (goal.at.steps-smaller-then-not-is_entered g c).After-look-v, c.look-v.ensures.counted)

pub steps-preserved-then-not-is_entered : goal.steps-preserved-then-not-is_entered
steps-preserved-then-not-is_entered g c =
    let at = goal.at.steps-preserved-then-not-is_entered g c in
    let unseen : get_or c.steps.work.entered (g.Ix.IndexType.number c.look-v.result.0) false ≡ false = cc in
    let s =
    steps_in c.node_bound-bound.ensures.well_formed c.steps.invariant (here g at.After-look-v) c.look-v.ensures.gives
    c.look-v.ensures.same c.look-v.ensures.counted c.index-child.ensures.value unseen
    c.first-e-then-not-is_entered.ensures in
    rw (
      c.put_cursor.ensures,
      c.of_edge.ensures,
      c.put_node-then-not-is_entered.ensures,
      c.of_node-then-not-is_entered.ensures,
      c.enter-then-not-is_entered.ensures,
    ) s

pub steps-smaller : goal.steps-smaller
steps-smaller g c =
    omega (arith, looked g (goal.at.steps-smaller g c).After-look-v, c.look-v.ensures.counted)

pub steps-preserved : goal.steps-preserved
steps-preserved g c =
    let at = goal.at.steps-preserved g c in
    let seen : get_or c.steps.work.marked (g.Ix.IndexType.number c.look-v.result.0) false ≡ true = cc in
    steps_over c.node_bound-bound.ensures.well_formed c.steps.invariant (here g at.After-look-v) c.look-v.ensures.gives
    c.look-v.ensures.same c.look-v.ensures.counted seen

pub put_node-requires-else-is_marked : goal.put_node-requires-else-is_marked
put_node-requires-else-is_marked g c = (spot_low c.node_bound-bound.ensures.well_formed c.steps.invariant).0

pub overflow_add-len-else-is_marked : goal.overflow_add-len-else-is_marked
overflow_add-len-else-is_marked g c =
    let low = (spot_low c.node_bound-bound.ensures.well_formed c.steps.invariant).1 in
    let h : c.steps.len + 1 ≤ c.args.work.now.size = omega (arith, low) in
    search rules

pub overflow_add-result : goal.overflow_add-result
overflow_add-result g c =
    let low = (spot_low c.node_bound-bound.ensures.well_formed c.steps.invariant).1 in
    let h : c.steps.len + 1 ≤ c.args.work.now.size = omega (arith, low) in
    search rules

pub place_of-from-requires-clause-within : goal.place_of-from-requires-clause-within
place_of-from-requires-clause-within g c =
    let low = (spot_low c.node_bound-bound.ensures.well_formed c.steps.invariant).0 in
    let n = g.Ix.IndexType.number c.steps.n in
    rw (c.put_node-else-is_marked.ensures, c.of_node-else-is_marked.ensures) (omega (arith, low, length-set c.steps.work.nodes c.steps.len n))

-- the child stands on the way
closing : (g : Over) (c : After-put_node-else-is_marked g)
    → (k : ℕ) × (k < c.steps.len + 1)
    × (get_or (set c.steps.work.nodes c.steps.len (g.Ix.IndexType.number c.steps.n)) k 0 ≡ g.Ix.IndexType.number c.look-v.result.0)
closing g c =
    let here : g.Ix.IndexType.number c.steps.e ≢ g.Ix.IndexType.greatest = λ h. c.if-index-end.false cc in
    let seen : get_or c.steps.work.entered (g.Ix.IndexType.number c.look-v.result.0) false ≡ true = cc in
    let unleft : get_or c.steps.work.marked (g.Ix.IndexType.number c.look-v.result.0) false ≡ false = cc in
    child_place c.node_bound-bound.ensures.well_formed c.steps.invariant here c.look-v.ensures.gives seen unleft

pub place_of-from-requires-clause-there : goal.place_of-from-requires-clause-there
place_of-from-requires-clause-there g c =
    let p = closing g (goal.at.place_of-from-requires-clause-there g c).After-put_node-else-is_marked in
    rw (c.put_node-else-is_marked.ensures, c.of_node-else-is_marked.ensures, c.index-child.ensures.value) p

pub returns-else-is_marked-clause-cycle : goal.returns-else-is_marked-clause-cycle
returns-else-is_marked-clause-cycle g c =
    let at = goal.at.returns-else-is_marked-clause-cycle g c in
    let seen : get_or c.steps.work.entered (g.Ix.IndexType.number c.look-v.result.0) false ≡ true = cc in
    let unleft : get_or c.steps.work.marked (g.Ix.IndexType.number c.look-v.result.0) false ≡ false = cc in
    let found =
    rw (c.put_node-else-is_marked.ensures, c.of_node-else-is_marked.ensures, c.index-child.ensures.value) at
    c.place_of-from.ensures.found in
    rw (c.put_node-else-is_marked.ensures, c.of_node-else-is_marked.ensures) (cycle_closed
    c.node_bound-bound.ensures.well_formed c.steps.invariant (here g at.After-look-v) c.look-v.ensures.gives seen unleft
    c.place_of-from.ensures.before found refl)

pub returns-else-is_marked-clause-within : goal.returns-else-is_marked-clause-within
returns-else-is_marked-clause-within g c =
    let low = (spot_low c.node_bound-bound.ensures.well_formed c.steps.invariant).0 in
    let n = g.Ix.IndexType.number c.steps.n in
    rw (c.put_node-else-is_marked.ensures, c.of_node-else-is_marked.ensures) (omega (arith, low, length-set c.steps.work.nodes c.steps.len n))

pub returns-else-is_marked-clause-counted : goal.returns-else-is_marked-clause-counted
returns-else-is_marked-clause-counted g c =
    looked g (goal.at.returns-else-is_marked-clause-counted g c).After-look-v

pub roots-preserved : goal.roots-preserved
roots-preserved g c =
    let at_end : g.Ix.IndexType.number c.steps.e ≡ g.Ix.IndexType.greatest = cc in
    let w = c.node_bound-bound.ensures.well_formed in
    rw (c.put_node.ensures, c.of_node.ensures, c.mark.ensures) (walked w c.steps.invariant at_end
    c.index-then-index-end.ensures.value (free g (goal.at.roots-preserved g c).Then-index-end) c.if-len-eq0.true)

pub returns-clause-acyclic : goal.returns-clause-acyclic
returns-clause-acyclic g c =
    let all : node_bound (g.S.EdgeSource.graph c.args.source.now) ≤ c.roots.i =
    omega (arith, c.node_bound-bound.ensures.value) in
    acyclic_from_sorted _ _ (all_found c.node_bound-bound.ensures.well_formed c.roots.invariant all)

pub returns-clause-counted : goal.returns-clause-counted
returns-clause-counted g c = few_rested c.node_bound-bound.ensures.well_formed c.roots.invariant
