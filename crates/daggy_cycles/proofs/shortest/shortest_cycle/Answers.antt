use Rattle.std.proofs.Common.{rules, ◌≡◌, ◌≢◌, ◌+◌, ◌<◌, ◌≤◌, ◌++◌, ◌∷◌, [], ℕ, map, length, get_or, set, ap, sym}
use Rattle.std.proofs.Common.{◌∙◌, refl, arith}
use Rattle.std.proofs.lemmas.Bool.{false≢true}
use Rattle.std.proofs.lemmas.List.{length-map, length-replicate}
use Rattle.daggy_base.specs.Graph.{HasNode, node_bound, edge_count}
use Rattle.daggy_base.proofs.OutEdgesRead.{below_bound}
use Rattle.daggy_base.proofs.PathsWithNode.{bound_low}
use Rattle.daggy_components.proofs.MetChildren.{read_place, map_last}
use Rattle.daggy_cycles.proofs.CycleEdges.{spot}
use Rattle.daggy_cycles.proofs.Queues.{queue_begins}
use Rattle.daggy_cycles.proofs.Searching.{search_begins, looks_few, head_few, ends_search, next_head, is_edge, one_look_few}
use Rattle.daggy_cycles.proofs.Searching.{child_below, finds, looks_over, looks_new, places_first, first_of_head, is_on}
use Rattle.daggy_cycles.proofs.shortest.shortest_cycle.Given.{Over}
use Rattle.daggy_cycles.proofs.shortest.shortest_cycle.Goals.{After-look-v, Then-index-end-2, Else-index-end-2}
use Rattle.daggy_cycles.proofs.shortest.shortest_cycle.Goals as goal

-- e is an edge, and the looks stay few
here : (g : Over) (c : After-look-v g) → g.Ix.IndexType.number c.steps.e ≢ g.Ix.IndexType.greatest
here g c = λ h. c.if-index-end.false cc

looked : (g : Over) (c : After-look-v g)
    → g.S.EdgeSource.looks c.look-v.new.self
    ≤ g.S.EdgeSource.looks c.args.source.now + edge_count (g.S.EdgeSource.graph c.args.source.now)
looked g c =
    one_look_few c.contains_node.ensures.well_formed c.steps.invariant (here g c) c.look-v.ensures.counted

-- the child is within the places
v_low : (g : Over) (c : After-look-v g) → g.Ix.IndexType.number c.look-v.result.0 < length c.steps.places.items
v_low g c = child_below c.contains_node.ensures.well_formed c.steps.invariant (here g c) c.look-v.ensures.gives

pub index_mut-requires : goal.index_mut-requires
index_mut-requires g c =
    let graph = g.S.EdgeSource.graph c.args.source.now in
    let exists : HasNode graph (g.Ix.IndexType.number c.args.start) = search rules in
    omega (
      arith,
      below_bound graph.nodes (g.Ix.IndexType.number c.args.start) exists,
      c.node_bound.ensures.value,
      c.index.ensures.value,
      ap (λ z. length z) c.in_ok-places.ensures,
      length-replicate c.node_bound.result g.Ix.IndexType.greatest,
      c.in_ok-places.places.ok.0,
    )

pub steps-init : goal.steps-init
steps-init g c =
    let graph = g.S.EdgeSource.graph c.args.source.now in
    let number = g.Ix.IndexType.number in
    let w = c.contains_node.ensures.well_formed in
    let exists : HasNode graph (number c.args.start) = search rules in
    let low : node_bound graph ≤ g.Ix.IndexType.greatest = omega (arith, bound_low graph.nodes, w.few_nodes) in
    let places = places_first g.Ix.IndexType.greatest (node_bound graph) c.in_ok-places.places.items c.node_bound.result c.index.result (number c.args.start) c.new.result c.in_ok-places.ensures c.node_bound.ensures.value c.index.ensures.value c.new.ensures in
    let nodes : map number c.push.new.self.items ≡ number c.args.start ∷ [] =
    ap (λ z. map number z) (c.in_ok-push.ensures.items ∙ ap (λ z. z ++ c.args.start ∷ []) c.new-nodes.ensures.items) in
    search_begins w low exists (queue_begins w low exists places nodes) c.first-e.ensures

pub returns-then-head-len-clause-decided : goal.returns-then-head-len-clause-decided
returns-then-head-len-clause-decided g c =
    let number = g.Ix.IndexType.number in
    let at_end : number c.steps.e ≡ g.Ix.IndexType.greatest = cc in
    let all : length (map number c.steps.nodes.items) ≤ c.steps.head + 1 =
    omega (
      arith,
      c.if-head-len.true,
      c.len.ensures,
      c.steps.nodes.ok.0,
      length-map c.steps.nodes.items number,
    ) in
    (λ _. ends_search c.contains_node.ensures.well_formed c.steps.invariant at_end all, λ _. refl)

pub returns-then-head-len-clause-counted : goal.returns-then-head-len-clause-counted
returns-then-head-len-clause-counted g c = looks_few c.contains_node.ensures.well_formed c.steps.invariant

pub steps-smaller-then-index-end : goal.steps-smaller-then-index-end
steps-smaller-then-index-end g c =
    omega (arith, head_few c.contains_node.ensures.well_formed c.steps.invariant)

pub steps-preserved-then-index-end : goal.steps-preserved-then-index-end
steps-preserved-then-index-end g c =
    let number = g.Ix.IndexType.number in
    let at_end : number c.steps.e ≡ g.Ix.IndexType.greatest = cc in
    let long = length-map c.steps.nodes.items number in
    let low : c.steps.head + 1 < length c.steps.nodes.items =
    omega (arith, c.if-head-len.false, c.len.ensures, c.steps.nodes.ok.0, c.steps.invariant.here, long) in
    let is = spot number c.steps.nodes.items (c.steps.head + 1) c.index-then-index-end.result.now low c.index-then-index-end.ensures in
    next_head c.contains_node.ensures.well_formed c.steps.invariant at_end (omega (arith, low, long))
    (first_of_head g.Ix.IndexType.greatest (g.S.EdgeSource.graph c.steps.source) (g.S.EdgeSource.graph c.args.source.now) (number c.index-then-index-end.result.now) _ _ c.steps.invariant.same (sym is) c.first-e-then-index-end.ensures)

pub look-v-requires : goal.look-v-requires
look-v-requires g c =
    is_edge c.contains_node.ensures.well_formed c.steps.invariant (λ h. c.if-index-end.false cc)

pub way_to-requires-clause-low : goal.way_to-requires-clause-low
way_to-requires-clause-low g c =
    λ n m.
    omega (
      arith,
      below_bound (g.S.EdgeSource.graph c.args.source.now).nodes n (c.steps.invariant.queue.real n m),
      c.steps.invariant.queue.sized,
      c.steps.places.ok.0,
    )

pub way_to-requires-clause-earlier : goal.way_to-requires-clause-earlier
way_to-requires-clause-earlier g c =
    λ i some low.
    (c.steps.invariant.queue.from i some
    (omega (arith, low, c.steps.nodes.ok.0, length-map c.steps.nodes.items g.Ix.IndexType.number))).earlier

pub returns-in_err-way_to-clause-counted : goal.returns-in_err-way_to-clause-counted
returns-in_err-way_to-clause-counted g c =
    looked g (goal.at.returns-in_err-way_to-clause-counted g c).After-look-v

pub returns-then-child-index-clause-cycle : goal.returns-then-child-index-clause-cycle
returns-then-child-index-clause-cycle g c =
    let at = goal.at.returns-then-child-index-clause-cycle g c in
    let same : g.Ix.IndexType.number c.look-v.result.0 ≡ g.Ix.IndexType.number c.args.start = cc in
    finds c.contains_node.ensures.well_formed c.steps.invariant (here g at.After-look-v) c.look-v.ensures.gives same
    c.in_ok-way_to.ensures

pub returns-then-child-index-clause-decided : goal.returns-then-child-index-clause-decided
returns-then-child-index-clause-decided g c =
    let at = goal.at.returns-then-child-index-clause-decided g c in
    let same : g.Ix.IndexType.number c.look-v.result.0 ≡ g.Ix.IndexType.number c.args.start = cc in
    let found =
    finds c.contains_node.ensures.well_formed c.steps.invariant (here g at.After-look-v) c.look-v.ensures.gives same
    c.in_ok-way_to.ensures in
    (λ no. absurd (false≢true (sym no)), λ none. absurd (is_on found none))

pub returns-then-child-index-clause-counted : goal.returns-then-child-index-clause-counted
returns-then-child-index-clause-counted g c =
    looked g (goal.at.returns-then-child-index-clause-counted g c).After-look-v

pub index-requires-else-index-end-2 : goal.index-requires-else-index-end-2
index-requires-else-index-end-2 g c =
    let low = v_low g (goal.at.index-requires-else-index-end-2 g c).After-look-v in
    omega (arith, low, c.index-child.ensures.value, c.steps.places.ok.0)

pub new-requires-then-index-end-2 : goal.new-requires-then-index-end-2
new-requires-then-index-end-2 g c =
    omega (arith, head_few c.contains_node.ensures.well_formed c.steps.invariant, c.steps.invariant.queue.low)

pub index_mut-requires-then-index-end-2 : goal.index_mut-requires-then-index-end-2
index_mut-requires-then-index-end-2 g c =
    let low = v_low g (goal.at.index_mut-requires-then-index-end-2 g c).After-look-v in
    omega (arith, low, c.index-child.ensures.value, c.steps.places.ok.0)

pub returns-in_err-push-2-clause-counted : goal.returns-in_err-push-2-clause-counted
returns-in_err-push-2-clause-counted g c =
    looked g (goal.at.returns-in_err-push-2-clause-counted g c).After-look-v

pub steps-smaller-in_ok-push-2 : goal.steps-smaller-in_ok-push-2
steps-smaller-in_ok-push-2 g c =
    omega (arith, looked g (goal.at.steps-smaller-in_ok-push-2 g c).After-look-v, c.look-v.ensures.counted)

pub steps-preserved-in_ok-push-2 : goal.steps-preserved-in_ok-push-2
steps-preserved-in_ok-push-2 g c =
    let at = goal.at.steps-preserved-in_ok-push-2 g c in
    let number = g.Ix.IndexType.number in
    let end = g.Ix.IndexType.greatest in
    let places = c.steps.places.items in
    let v = number c.look-v.result.0 in
    let apart : v ≢ number c.args.start = λ h. c.if-child-index.false cc in
    let read =
    read_place places end c.index-else-index-end-2.ensures c.index-else-index-end-3.ensures.value
    c.index-child.ensures.value (v_low g at.After-look-v) in
    let none : get_or places v end ≡ end = read ∙ (let e : c.index-else-index-end-3.result ≡ end = cc in e) in
    let writes : set places c.index-child.result c.new-then-index-end-2.result ≡ set places v c.steps.head =
    ap (λ (z : ℕ). set places z c.new-then-index-end-2.result) c.index-child.ensures.value
    ∙ ap (λ (z : ℕ). set places v z) c.new-then-index-end-2.ensures in
    let pushes =
    ap (λ z. map number z) c.in_ok-push-2.ensures.items ∙ map_last number c.steps.nodes.items c.look-v.result.0 in
    looks_new c.contains_node.ensures.well_formed c.steps.invariant (here g at.After-look-v) c.look-v.ensures.gives
    apart c.look-v.ensures.same c.look-v.ensures.counted none writes pushes

pub steps-smaller : goal.steps-smaller
steps-smaller g c =
    omega (arith, looked g (goal.at.steps-smaller g c).After-look-v, c.look-v.ensures.counted)

pub steps-preserved : goal.steps-preserved
steps-preserved g c =
    let at = goal.at.steps-preserved g c in
    let number = g.Ix.IndexType.number in
    let end = g.Ix.IndexType.greatest in
    let places = c.steps.places.items in
    let v = number c.look-v.result.0 in
    let apart : v ≢ number c.args.start = λ h. c.if-child-index.false cc in
    let read =
    read_place places end c.index-else-index-end-2.ensures c.index-else-index-end-3.ensures.value
    c.index-child.ensures.value (v_low g at.After-look-v) in
    let has : get_or places v end ≢ end =
    λ h. let e : c.index-else-index-end-3.result ≡ end = sym read ∙ h in c.if-index-end-2.false cc in
    looks_over c.contains_node.ensures.well_formed c.steps.invariant (here g at.After-look-v) c.look-v.ensures.gives
    apart c.look-v.ensures.same c.look-v.ensures.counted has
