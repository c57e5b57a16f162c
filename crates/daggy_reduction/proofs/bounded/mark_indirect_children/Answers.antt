use Rattle.std.proofs.Common.{rules, ◌≢◌, ◌+◌, ◌-◌, ◌<◌, ◌≤◌, ℕ}
use Rattle.std.proofs.Common.{◌∙◌, sym, ap, refl, arith, length}
use Rattle.std.proofs.lemmas.Bool.{false≢true}
use Rattle.daggy_base.specs.Graph.{HasNode, out_list}
use Rattle.daggy_base.specs.Cursor.{first_of}
use Rattle.daggy_reduction.proofs.QueuedChildren.{begins_here, last_exists, edge_there, passed_less, low_node, has_room}
use Rattle.daggy_reduction.proofs.QueuedChildren.{put, child_there, put_last, put_child, last_again, none_queued}
use Rattle.daggy_reduction.proofs.QueuedChildren.{none_listed}
use Rattle.daggy_reduction.proofs.BoundedQueue.{steps_start, few_spanned, round_met}
use Rattle.daggy_redundant.proofs.QueueState.{Entered, looked_once, edge_here, head_low, child_low}
use Rattle.daggy_redundant.proofs.QueueState.{child_exists_here, room_here, entered, left_out, visited, next_here}
use Rattle.daggy_reduction.proofs.bounded.mark_indirect_children.Given.{Over}
use Rattle.daggy_reduction.proofs.bounded.mark_indirect_children.Goals.{At-children, After-look-v, After-index-else-index-end}
use Rattle.daggy_reduction.proofs.bounded.mark_indirect_children.Goals as goal
use Rattle.daggy_reduction.proofs.bounded.mark_indirect_children.Goals.{then-stands_before-3, else-stands_before-3}

not_before : {a b : ℕ} → (a < b → ⊥) → b ≤ a
not_before h = omega (arith, h)

-- the last child so far exists
last_node : (g : Over) (c : At-children g)
    → HasNode (g.S.EdgeSource.graph c.args.source.now) (g.Ix.IndexType.number c.children.last)
last_node g c = last_exists c.requires.well_formed c.requires.ordered c.requires.exists c.children.invariant

-- the child that was read exists
child_node : (g : Over) (c : After-look-v g)
    → HasNode (g.S.EdgeSource.graph c.args.source.now) (g.Ix.IndexType.number c.look-v.result.0)
child_node g c =
    child_there c.requires.well_formed c.requires.ordered c.requires.exists c.children.invariant
    (λ h. c.children-test.true cc) c.look-v.ensures.gives

-- fewer edges of the node are left
smaller : (g : Over) (c : After-look-v g)
    → (let all = length (out_list (g.S.EdgeSource.graph c.args.source.now) (g.Ix.IndexType.number c.args.u)) in
    all + g.S.EdgeSource.looks c.args.source.now - g.S.EdgeSource.looks c.look-v.new.self
    < all + g.S.EdgeSource.looks c.args.source.now - g.S.EdgeSource.looks c.children.source)
smaller g c =
    let s = c.children.invariant in
    omega (
      arith,
      passed_less c.requires.well_formed c.requires.ordered c.requires.exists s (λ h. c.children-test.true cc),
      s.counted,
      c.look-v.ensures.counted,
    )

pub children-init : goal.children-init
children-init g c =
    begins_here g.Ix.IndexType.greatest c.args.order.now refl c.requires.cleared c.requires.fits
    c.requires.sized c.first-e.ensures

pub look-v-requires : goal.look-v-requires
look-v-requires g c =
    edge_there c.requires.well_formed c.requires.ordered c.requires.exists c.children.invariant
    (λ h. c.children-test.true cc)

pub stands_before-requires-clause-first : goal.stands_before-requires-clause-first
stands_before-requires-clause-first g c =
    (c.requires.ordered.exact _).1 (last_node g (goal.at.stands_before-requires-clause-first g c).At-children)

pub stands_before-requires-clause-second : goal.stands_before-requires-clause-second
stands_before-requires-clause-second g c =
    (c.requires.ordered.exact _).1 (child_node g (goal.at.stands_before-requires-clause-second g c).After-look-v)

pub enqueue-len-requires-clause-low : goal.enqueue-len-requires-clause-low
enqueue-len-requires-clause-low g c =
    let s = c.children.invariant in
    low_node c.requires.well_formed c.requires.ordered c.requires.exists s _
    (last_node g (goal.at.enqueue-len-requires-clause-low g c).At-children)

pub enqueue-len-requires-clause-room : goal.enqueue-len-requires-clause-room
enqueue-len-requires-clause-room g c unseen =
    let s = c.children.invariant in
    has_room c.requires.well_formed c.requires.ordered c.requires.exists s _
    (last_node g (goal.at.enqueue-len-requires-clause-room g c).At-children) unseen

pub stands_before-requires-else-stands_before-clause-first :
    goal.stands_before-requires-else-stands_before-clause-first
stands_before-requires-else-stands_before-clause-first g c =
    (c.requires.ordered.exact _).1
    (child_node g (goal.at.stands_before-requires-else-stands_before-clause-first g c).After-look-v)

pub stands_before-requires-else-stands_before-clause-second :
    goal.stands_before-requires-else-stands_before-clause-second
stands_before-requires-else-stands_before-clause-second g c =
    (c.requires.ordered.exact _).1
    (last_node g (goal.at.stands_before-requires-else-stands_before-clause-second g c).At-children)

pub enqueue-len-requires-then-stands_before-2-clause-low :
    goal.enqueue-len-requires-then-stands_before-2-clause-low
enqueue-len-requires-then-stands_before-2-clause-low g c =
    let s = c.children.invariant in
    low_node c.requires.well_formed c.requires.ordered c.requires.exists s _
    (child_node g (goal.at.enqueue-len-requires-then-stands_before-2-clause-low g c).After-look-v)

pub enqueue-len-requires-then-stands_before-2-clause-room :
    goal.enqueue-len-requires-then-stands_before-2-clause-room
enqueue-len-requires-then-stands_before-2-clause-room g c unseen =
    let s = c.children.invariant in
    has_room c.requires.well_formed c.requires.ordered c.requires.exists s _
    (child_node g (goal.at.enqueue-len-requires-then-stands_before-2-clause-room g c).After-look-v) unseen

pub children-smaller-then-stands_before : goal.children-smaller-then-stands_before
children-smaller-then-stands_before g c =
    smaller g (goal.at.children-smaller-then-stands_before g c).After-look-v

pub children-preserved-then-stands_before : goal.children-preserved-then-stands_before
children-preserved-then-stands_before g c =
    let s = c.children.invariant in
    put_last c.requires.well_formed c.requires.ordered c.requires.exists s (λ h. c.children-test.true cc)
    c.look-v.ensures.gives
    c.look-v.ensures.same c.look-v.ensures.counted
    (put c.requires.well_formed c.requires.ordered c.requires.exists s _
    (last_node g (goal.at.children-preserved-then-stands_before g c).At-children) c.enqueue-len.ensures.there
    c.enqueue-len.ensures.put)
    (c.stands_before.ensures.0 c.if-stands_before.true)

pub children-smaller-then-stands_before-2 : goal.children-smaller-then-stands_before-2
children-smaller-then-stands_before-2 g c =
    smaller g (goal.at.children-smaller-then-stands_before-2 g c).After-look-v

pub children-preserved-then-stands_before-2 : goal.children-preserved-then-stands_before-2
children-preserved-then-stands_before-2 g c =
    let s = c.children.invariant in
    put_child c.requires.well_formed c.requires.ordered c.requires.exists s (λ h. c.children-test.true cc)
    c.look-v.ensures.gives
    c.look-v.ensures.same c.look-v.ensures.counted
    (put c.requires.well_formed c.requires.ordered c.requires.exists s _
    (child_node g (goal.at.children-preserved-then-stands_before-2 g c).After-look-v)
    c.enqueue-len-then-stands_before-2.ensures.there c.enqueue-len-then-stands_before-2.ensures.put)
    (c.stands_before-else-stands_before.ensures.0 c.if-stands_before-2.true)

pub children-smaller : goal.children-smaller
children-smaller g c = smaller g (goal.at.children-smaller g c).After-look-v

pub children-preserved : goal.children-preserved
children-preserved g c =
    let s = c.children.invariant in
    last_again c.requires.well_formed c.requires.ordered c.requires.exists s (λ h. c.children-test.true cc)
    c.look-v.ensures.gives
    c.look-v.ensures.same c.look-v.ensures.counted
    (λ h. false≢true (c.if-stands_before.ensures.1 h)) (λ h. false≢true (c.if-stands_before-2.ensures.1 h))

pub returns-then-len-eq0-clause-met : goal.returns-then-len-eq0-clause-met
returns-then-len-eq0-clause-met g c =
    λ v j.
    absurd (none_queued c.requires.well_formed c.requires.ordered c.requires.exists c.children.invariant (cc)
    c.if-len-eq0.true v j)

pub returns-then-len-eq0-clause-counted : goal.returns-then-len-eq0-clause-counted
returns-then-len-eq0-clause-counted g c =
    let none =
    none_listed c.requires.well_formed c.requires.ordered c.requires.exists c.children.invariant (cc)
    c.if-len-eq0.true in
    omega (arith, c.children.invariant.counted, none)

pub steps-init : goal.steps-init
steps-init g c =
    steps_start c.requires.well_formed c.requires.ordered c.requires.exists c.children.invariant (cc)
    c.if-len-eq0.false

pub overflow_add-head : goal.overflow_add-head
overflow_add-head g c =
    let s = c.steps.invariant in
    let h : c.steps.head + 1 ≤ c.args.work.now.size = omega (arith, head_low c.requires.well_formed s, s.high) in
    let small = c.requires.sized.small in
    search rules

pub returns-then-head-len-clause-met : goal.returns-then-head-len-clause-met
returns-then-head-len-clause-met g c =
    round_met c.requires.well_formed c.requires.ordered c.requires.exists c.children.invariant (cc)
    c.steps.invariant (cc) c.if-head-len.true

pub returns-then-head-len-clause-counted : goal.returns-then-head-len-clause-counted
returns-then-head-len-clause-counted g c =
    few_spanned c.requires.well_formed c.requires.ordered c.requires.exists c.children.invariant (cc)
    c.steps.invariant

pub node-requires : goal.node-requires
node-requires g c =
    let s = c.steps.invariant in
    let apart : c.steps.head + 1 ≢ c.steps.len = c.if-head-len.false in
    omega (arith, head_low c.requires.well_formed s, s.high, s.sized.nodes_are, apart)

pub steps-smaller-then-index-end : goal.steps-smaller-then-index-end
steps-smaller-then-index-end g c = omega (arith, head_low c.requires.well_formed c.steps.invariant)

pub steps-preserved-then-index-end : goal.steps-preserved-then-index-end
steps-preserved-then-index-end g c =
    next_here c.requires.well_formed c.steps.invariant (cc) (c.steps.head + 1) c.node.result refl
    c.if-head-len.false (c.node.ensures _)
    (c.first-e-then-index-end.ensures
    ∙ ap (λ n. first_of g.Ix.IndexType.greatest (out_list (g.S.EdgeSource.graph c.steps.source) n))
    c.node-then-index-end.ensures.value)

pub look-v-requires-else-index-end : goal.look-v-requires-else-index-end
look-v-requires-else-index-end g c =
    edge_here c.requires.well_formed c.steps.invariant (λ h. c.if-index-end.false cc)

pub stands_before-requires-else-index-end-clause-first :
    goal.stands_before-requires-else-index-end-clause-first
stands_before-requires-else-index-end-clause-first g c =
    (c.requires.ordered.exact _).1
    (child_exists_here c.requires.well_formed c.steps.invariant (λ h. c.if-index-end.false cc)
    c.look-v-else-index-end.ensures.gives)

pub stands_before-requires-else-index-end-clause-second :
    goal.stands_before-requires-else-index-end-clause-second
stands_before-requires-else-index-end-clause-second g c =
    (c.requires.ordered.exact _).1
    (last_node g (goal.at.stands_before-requires-else-index-end-clause-second g c).At-children)

pub enqueue-len-requires-then-stands_before-3-clause-low :
    goal.enqueue-len-requires-then-stands_before-3-clause-low
enqueue-len-requires-then-stands_before-3-clause-low g c =
    let s = c.steps.invariant in
    omega (
      arith,
      child_low c.requires.well_formed s (λ h. c.if-index-end.false cc)
          c.look-v-else-index-end.ensures.gives,
      s.fits,
      s.sized.entered_are,
    )

pub enqueue-len-requires-then-stands_before-3-clause-room :
    goal.enqueue-len-requires-then-stands_before-3-clause-room
enqueue-len-requires-then-stands_before-3-clause-room g c unseen =
    let s = c.steps.invariant in
    omega (
      arith,
      room_here c.requires.well_formed s (λ h. c.if-index-end.false cc)
          c.look-v-else-index-end.ensures.gives unseen,
      s.sized.nodes_are,
    )

-- the child is in the queue, or stands too late
entry : (g : Over) (c : After-index-else-index-end g)
    → Entered c.requires.well_formed c.steps.invariant (λ h. c.if-index-end.false cc)
    c.look-v-else-index-end.ensures.gives c.if-stands_before-3.work c.if-stands_before-3.len
entry g c =
    let here : g.Ix.IndexType.number c.steps.e ≢ g.Ix.IndexType.greatest = λ h. c.if-index-end.false cc in
    let s = c.steps.invariant in
    let look = c.look-v-else-index-end.ensures.gives in
    elim c.if-stands_before-3.branch [
      | then-stands_before-3 b ↦
          rw (b.work-is, b.len-is)
          (entered c.requires.well_formed s here look (b.if-stands_before-3.ensures.0 refl)
          b.enqueue-len-then-stands_before-3.ensures.there b.enqueue-len-then-stands_before-3.ensures.put)
      | else-stands_before-3 b ↦
          rw (b.work-is, b.len-is)
          (left_out c.requires.well_formed s here look (not_before (λ h. false≢true (b.if-stands_before-3.ensures.1 h))))
    ]

pub mark_unless_first-requires : goal.mark_unless_first-requires
mark_unless_first-requires g c =
    let s = c.steps.invariant in
    omega (
      arith,
      child_low c.requires.well_formed s (λ h. c.if-index-end.false cc) c.look-v-else-index-end.ensures.gives,
      s.fits,
      (entry g (goal.at.mark_unless_first-requires g c).After-index-else-index-end).sized_still.marked_are,
      c.index-else-index-end.ensures.value,
    )

pub steps-smaller : goal.steps-smaller
steps-smaller g c =
    let s = c.steps.invariant in
    let most : c.if-stands_before-3.len ≤ c.steps.len + 1 =
    elim c.if-stands_before-3.branch [
      | then-stands_before-3 b ↦ omega (arith, b.len-is, b.enqueue-len-then-stands_before-3.ensures.most)
      | else-stands_before-3 b ↦ omega (arith, b.len-is)
    ] in
    omega (
      arith,
      looked_once c.requires.well_formed s (λ h. c.if-index-end.false cc) c.look-v-else-index-end.ensures.counted,
      c.look-v-else-index-end.ensures.counted,
      most,
      head_low c.requires.well_formed s,
    )

pub steps-preserved : goal.steps-preserved
steps-preserved g c =
    let here : g.Ix.IndexType.number c.steps.e ≢ g.Ix.IndexType.greatest = λ h. c.if-index-end.false cc in
    let at = c.index-else-index-end.ensures.value in
    visited c.requires.well_formed c.steps.invariant here c.look-v-else-index-end.ensures.gives
    c.look-v-else-index-end.ensures.same c.look-v-else-index-end.ensures.counted
    (entry g (goal.at.steps-preserved g c).After-index-else-index-end) (rw (sym at) c.mark_unless_first.ensures.later)
    c.mark_unless_first.ensures.first
