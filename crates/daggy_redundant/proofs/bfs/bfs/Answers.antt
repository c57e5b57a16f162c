use Rattle.std.proofs.Common.{rules, ◌≢◌, ◌+◌, ◌≤◌, ◌∙◌, sym, ap, refl, arith}
use Rattle.daggy_base.specs.Graph.{out_list}
use Rattle.daggy_base.specs.Cursor.{first_of}
use Rattle.daggy_redundant.proofs.QueueState.{few, few_visited, looked_once, edge_here, head_low, child_low, room_here, entered}
use Rattle.daggy_redundant.proofs.QueueState.{visited, next_here, is_closure, entered_are, meets_children, starts_here}
use Rattle.daggy_redundant.proofs.bfs.bfs.Goals as goal

pub steps-init : goal.steps-init
steps-init g c =
    let graph = g.S.EdgeSource.graph c.args.source.now in
    starts_here g.Ix.IndexType.greatest c.requires.queued c.requires.some c.requires.fits c.requires.sized
    c.requires.within (c.node.ensures _) refl
    (c.first-e.ensures ∙ ap (λ n. first_of g.Ix.IndexType.greatest (out_list graph n)) c.node-2.ensures.value)

pub overflow_add-head : goal.overflow_add-head
overflow_add-head g c =
    let s = c.steps.invariant in
    let h : c.steps.head + 1 ≤ c.args.work.now.size = omega (arith, head_low c.requires.well_formed s, s.high) in
    let small = c.requires.sized.small in
    search rules

pub returns-then-head-len-clause-closed : goal.returns-then-head-len-clause-closed
returns-then-head-len-clause-closed g c =
    is_closure c.requires.well_formed c.steps.invariant (cc) c.if-head-len.true

pub returns-then-head-len-clause-met : goal.returns-then-head-len-clause-met
returns-then-head-len-clause-met g c =
    meets_children c.requires.well_formed c.steps.invariant (cc) c.if-head-len.true

pub returns-then-head-len-clause-entered : goal.returns-then-head-len-clause-entered
returns-then-head-len-clause-entered g c =
    entered_are c.requires.well_formed c.steps.invariant (cc) c.if-head-len.true

pub returns-then-head-len-clause-counted : goal.returns-then-head-len-clause-counted
returns-then-head-len-clause-counted g c = few c.requires.well_formed c.steps.invariant

pub returns-then-head-len-clause-visited : goal.returns-then-head-len-clause-visited
returns-then-head-len-clause-visited g c = few_visited c.requires.well_formed c.steps.invariant

pub node-requires-then-index-end : goal.node-requires-then-index-end
node-requires-then-index-end g c =
    let s = c.steps.invariant in
    let apart : c.steps.head + 1 ≢ c.steps.len = c.if-head-len.false in
    omega (arith, head_low c.requires.well_formed s, s.high, s.sized.nodes_are, apart)

pub steps-smaller-then-index-end : goal.steps-smaller-then-index-end
steps-smaller-then-index-end g c = omega (arith, head_low c.requires.well_formed c.steps.invariant)

pub steps-preserved-then-index-end : goal.steps-preserved-then-index-end
steps-preserved-then-index-end g c =
    next_here c.requires.well_formed c.steps.invariant (cc) (c.steps.head + 1) c.node-then-index-end.result refl
    c.if-head-len.false (c.node-then-index-end.ensures _)
    (c.first-e-then-index-end.ensures
    ∙ ap (λ n. first_of g.Ix.IndexType.greatest (out_list (g.S.EdgeSource.graph c.steps.source) n))
    c.node-then-index-end-2.ensures.value)

pub look-v-requires : goal.look-v-requires
look-v-requires g c =
    edge_here c.requires.well_formed c.steps.invariant (λ h. c.if-index-end.false cc)

pub enqueue-len-requires-clause-low : goal.enqueue-len-requires-clause-low
enqueue-len-requires-clause-low g c =
    let s = c.steps.invariant in
    omega (arith, child_low c.requires.well_formed s (λ h. c.if-index-end.false cc) c.look-v.ensures.gives, s.fits, s.sized.entered_are)

pub enqueue-len-requires-clause-room : goal.enqueue-len-requires-clause-room
enqueue-len-requires-clause-room g c unseen =
    let s = c.steps.invariant in
    omega (
      arith,
      room_here c.requires.well_formed s (λ h. c.if-index-end.false cc) c.look-v.ensures.gives unseen,
      s.sized.nodes_are,
    )

pub mark_unless_first-requires : goal.mark_unless_first-requires
mark_unless_first-requires g c =
    let here : g.Ix.IndexType.number c.steps.e ≢ g.Ix.IndexType.greatest = λ h. c.if-index-end.false cc in
    let s = c.steps.invariant in
    let entry = entered c.requires.well_formed s here c.look-v.ensures.gives tt c.enqueue-len.ensures.there
    c.enqueue-len.ensures.put in
    omega (
      arith,
      child_low c.requires.well_formed s here c.look-v.ensures.gives,
      s.fits,
      entry.sized_still.marked_are,
      c.index-else-index-end.ensures.value,
    )

pub steps-smaller : goal.steps-smaller
steps-smaller g c =
    let s = c.steps.invariant in
    omega (
      arith,
      looked_once c.requires.well_formed s (λ h. c.if-index-end.false cc) c.look-v.ensures.counted,
      c.look-v.ensures.counted,
      c.enqueue-len.ensures.most,
      head_low c.requires.well_formed s,
    )

pub steps-preserved : goal.steps-preserved
steps-preserved g c =
    let here : g.Ix.IndexType.number c.steps.e ≢ g.Ix.IndexType.greatest = λ h. c.if-index-end.false cc in
    let s = c.steps.invariant in
    let at = c.index-else-index-end.ensures.value in
    visited c.requires.well_formed s here c.look-v.ensures.gives c.look-v.ensures.same c.look-v.ensures.counted
    (entered c.requires.well_formed s here c.look-v.ensures.gives tt c.enqueue-len.ensures.there c.enqueue-len.ensures.put)
    (rw (sym at) c.mark_unless_first.ensures.later) c.mark_unless_first.ensures.first
