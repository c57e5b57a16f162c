use Rattle.std.proofs.Common.{rules, [], ◌∷◌, ◌++◌, ◌-◌, take, ◌≡◌, ◌≢◌, ◌+◌, ◌<◌, ◌≤◌, ◌∙◌, sym, ap, refl, arith, inl, false, true}
use Rattle.std.proofs.Common.{length, get_or}
use Rattle.std.proofs.lemmas.Bool.{false≢true}
use Rattle.std.proofs.lemmas.List.{take_more, take_more_set, length-take-le}
use Rattle.daggy_base.specs.Graph.{HasNode, out_list, edge_count}
use Rattle.daggy_base.specs.Cursor.{first_of}
use Rattle.daggy_base.proofs.OutEdgesRead.{below_bound}
use Rattle.daggy_search.proofs.SearchState.{Reading, starts, few, edge_here, nothing_left, child_low}
use Rattle.daggy_search.proofs.SearchState.{room_here, found, moves_on, puts, pops, looked_once}
use Rattle.daggy_search.proofs.reach.search.Given.{Over}
use Rattle.daggy_search.proofs.reach.search.Goals.{After-index-2, After-look-v, Then-not-is_entered}
use Rattle.daggy_search.proofs.reach.search.Goals as goal

-- from is a node
exists : (g : Over) (c : After-index-2 g)
    → HasNode (g.S.EdgeSource.graph c.args.source.now) (g.Ix.IndexType.number c.args.from)
exists g c = search rules

-- e is an edge, and the looks stay few
here : (g : Over) (c : After-look-v g) → g.Ix.IndexType.number c.steps.e ≢ g.Ix.IndexType.greatest
here g c = λ h. c.if-index-end.false cc

looked : (g : Over) (c : After-look-v g)
    → g.S.EdgeSource.looks c.look-v.new.self
    ≤ g.S.EdgeSource.looks c.args.source.now + edge_count (g.S.EdgeSource.graph c.args.source.now)
looked g c = looked_once c.contains_node.ensures.well_formed c.steps.invariant.0 (here g c) c.look-v.ensures.counted

-- the child is within the list
v_low : (g : Over) (c : After-look-v g) → g.Ix.IndexType.number c.look-v.result.0 < length c.steps.work.entered
v_low g c = child_low c.contains_node.ensures.well_formed c.steps.invariant.0 (here g c) c.look-v.ensures.gives

-- there is room for a child that was not entered
room : (g : Over) (c : Then-not-is_entered g) → c.steps.len + 1 < c.args.work.now.size
room g c =
    let here : g.Ix.IndexType.number c.steps.e ≢ g.Ix.IndexType.greatest = λ h. c.if-index-end.false cc in
    let unseen : get_or c.steps.work.entered (g.Ix.IndexType.number c.look-v.result.0) false ≡ false = cc in
    let s = c.steps.invariant.0 in
    omega (
      arith,
      room_here c.contains_node.ensures.well_formed s here c.look-v.ensures.gives unseen,
      length-take-le c.steps.len c.steps.work.nodes (omega (arith, c.steps.invariant.1, s.sized.nodes_are)),
    )

pub enter-requires : goal.enter-requires
enter-requires g c =
    omega (
      arith,
      below_bound (g.S.EdgeSource.graph c.args.source.now).nodes (g.Ix.IndexType.number c.args.from)
          (exists g (goal.at.enter-requires g c).After-index-2),
      c.requires.fits,
      c.begin.ensures.sized.entered_are,
      c.index-2.ensures.value,
    )

pub steps-init : goal.steps-init
steps-init g c =
    let at = goal.at.steps-init g c in
    let w = c.contains_node.ensures.well_formed in
    let apart : g.Ix.IndexType.number c.args.from ≢ g.Ix.IndexType.number c.args.to = λ h.
    c.if-index-target.false (c.index.ensures.value ∙ h ∙ sym c.index-target.ensures.value) in
    let now : Reading _ _ = record {
      graph = g.S.EdgeSource.graph c.args.source.now;
      work = c.begin.new.self;
      waiting = [];
      edge = g.Ix.IndexType.number c.first-e.result;
      looks = g.S.EdgeSource.looks c.args.source.now;
    } in (
      rw c.enter.ensures (starts now w (exists g at.After-index-2) c.begin.ensures.cleared apart c.requires.fits
          c.begin.ensures.sized c.index-2.ensures.value c.first-e.ensures),
      omega arith,
    )

pub returns-then-len-eq0-clause-decided : goal.returns-then-len-eq0-clause-decided
returns-then-len-eq0-clause-decided g c =
    let w = c.contains_node.ensures.well_formed in
    let at_end : g.Ix.IndexType.number c.steps.e ≡ g.Ix.IndexType.greatest = cc in
    (λ h. absurd (false≢true h), λ r. absurd (nothing_left w c.steps.invariant.0 at_end (ap (λ k. take k c.steps.work.nodes) c.if-len-eq0.true) r))

pub returns-then-len-eq0-clause-counted : goal.returns-then-len-eq0-clause-counted
returns-then-len-eq0-clause-counted g c = few c.contains_node.ensures.well_formed c.steps.invariant.0

pub returns-then-len-eq0-clause-kept : goal.returns-then-len-eq0-clause-kept
returns-then-len-eq0-clause-kept g c = c.steps.invariant.0.sized.size_is

pub steps-preserved-then-index-end : goal.steps-preserved-then-index-end
steps-preserved-then-index-end g c =
    let at_end : g.Ix.IndexType.number c.steps.e ≡ g.Ix.IndexType.greatest = cc in
    let low : c.steps.len - 1 < length c.steps.work.nodes =
    omega (arith, c.steps.invariant.1, c.if-len-eq0.false, c.steps.invariant.0.sized.nodes_are) in
    let up : c.steps.len ≡ c.steps.len - 1 + 1 = omega (arith, c.if-len-eq0.false) in (
      pops c.contains_node.ensures.well_formed c.steps.invariant.0 at_end c.node.result
          (ap (λ k. take k c.steps.work.nodes) up ∙ take_more c.steps.work.nodes (c.steps.len - 1) c.node.result low
          ∙ ap (λ z. take (c.steps.len - 1) c.steps.work.nodes ++ z ∷ []) (sym (c.node.ensures _)))
          (◌∙◌ {b = first_of g.Ix.IndexType.greatest (out_list (g.S.EdgeSource.graph c.steps.source)
          (g.Ix.IndexType.number c.node-then-index-end.result))} c.first-e-then-index-end.ensures
          (ap (λ n. first_of g.Ix.IndexType.greatest (out_list (g.S.EdgeSource.graph c.steps.source) n))
          c.node-then-index-end.ensures.value)),
      omega (arith, c.steps.invariant.1),
    )

pub look-v-requires : goal.look-v-requires
look-v-requires g c =
    let here : g.Ix.IndexType.number c.steps.e ≢ g.Ix.IndexType.greatest = λ h. c.if-index-end.false cc in
    edge_here c.contains_node.ensures.well_formed c.steps.invariant.0 here

pub is_entered-requires : goal.is_entered-requires
is_entered-requires g c =
    omega (arith, v_low g (goal.at.is_entered-requires g c).After-look-v, c.index-i.ensures.value)

pub returns-then-i-target-clause-decided : goal.returns-then-i-target-clause-decided
returns-then-i-target-clause-decided g c =
    let at = goal.at.returns-then-i-target-clause-decided g c in
    let is : g.Ix.IndexType.number c.look-v.result.0 ≡ g.Ix.IndexType.number c.args.to = cc in
    let w = c.contains_node.ensures.well_formed in
    (λ h. found w c.steps.invariant.0 (here g at.After-look-v) c.look-v.ensures.gives is, λ r. refl)

pub returns-then-i-target-clause-counted : goal.returns-then-i-target-clause-counted
returns-then-i-target-clause-counted g c =
    looked g (goal.at.returns-then-i-target-clause-counted g c).After-look-v

pub returns-then-i-target-clause-kept : goal.returns-then-i-target-clause-kept
returns-then-i-target-clause-kept g c = c.steps.invariant.0.sized.size_is

pub enter-requires-then-not-is_entered : goal.enter-requires-then-not-is_entered
enter-requires-then-not-is_entered g c =
    omega (arith, v_low g (goal.at.enter-requires-then-not-is_entered g c).After-look-v, c.index-i.ensures.value)

pub put_node-requires : goal.put_node-requires
put_node-requires g c =
    let low = room g (goal.at.put_node-requires g c).Then-not-is_entered in
    rw c.enter-then-not-is_entered.ensures (omega (arith, low, c.steps.invariant.0.sized.nodes_are))

pub overflow_add-len : goal.overflow_add-len
overflow_add-len g c =
    let h = room g (goal.at.overflow_add-len g c).Then-not-is_entered in
    let small = c.begin.ensures.sized.small in
    search rules

pub steps-smaller-else-i-target : goal.steps-smaller-else-i-target
steps-smaller-else-i-target g c =
    omega (arith, looked g (goal.at.steps-smaller-else-i-target g c).After-look-v, c.look-v.ensures.counted)

pub steps-preserved-else-i-target : goal.steps-preserved-else-i-target
steps-preserved-else-i-target g c =
    let at = goal.at.steps-preserved-else-i-target g c in
    let unseen : get_or c.steps.work.entered (g.Ix.IndexType.number c.look-v.result.0) false ≡ false = cc in
    let apart : g.Ix.IndexType.number c.look-v.result.0 ≢ g.Ix.IndexType.number c.args.to = λ h.
    c.if-i-target.false (c.index-i.ensures.value ∙ h ∙ sym c.index-target.ensures.value) in
    let s = c.steps.invariant.0 in
    let low = room g at.Then-not-is_entered in
    let within : c.steps.len < length c.steps.work.nodes = omega (arith, low, s.sized.nodes_are) in (
      rw (
        c.put_node.ensures,
        c.of_node.ensures,
        c.enter-then-not-is_entered.ensures,
        take_more_set c.steps.work.nodes c.steps.len (g.Ix.IndexType.number c.look-v.result.0) within,
      ) (puts c.contains_node.ensures.well_formed s (here g at.After-look-v) c.look-v.ensures.gives
          c.look-v.ensures.same c.look-v.ensures.counted c.index-i.ensures.value apart unseen c.steps.len),
      omega (arith, low),
    )

pub steps-smaller : goal.steps-smaller
steps-smaller g c =
    omega (arith, looked g (goal.at.steps-smaller g c).After-look-v, c.look-v.ensures.counted)

pub steps-preserved : goal.steps-preserved
steps-preserved g c =
    let at = goal.at.steps-preserved g c in
    let seen : get_or c.steps.work.entered (g.Ix.IndexType.number c.look-v.result.0) false ≡ true = cc in (
      moves_on c.contains_node.ensures.well_formed c.steps.invariant.0 (here g at.After-look-v) c.look-v.ensures.gives
          c.look-v.ensures.same c.look-v.ensures.counted (inl seen),
      c.steps.invariant.1,
    )
