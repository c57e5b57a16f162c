use Rattle.std.proofs.Common.{rules, ◌≡◌, ◌≢◌, ◌+◌, ◌<◌, ◌≤◌, ◌∙◌, sym, ap, refl, arith, inl, inr, false, true}
use Rattle.std.proofs.Common.{length, get_or, set, take, [], subst, ℕ}
use Rattle.std.proofs.lemmas.Bool.{false≢true}
use Rattle.std.proofs.lemmas.List.{drop_all, length-take-le}
use Rattle.daggy_base.specs.Graph.{out_list, edge_count}
use Rattle.daggy_base.specs.Path.{Reaches}
use Rattle.daggy_base.specs.Cursor.{first_of}
use Rattle.daggy_base.proofs.OutEdgesRead.{below_bound}
use Rattle.daggy_search.proofs.SearchState.{Reading, edge_here, child_low, child_found, looked_once}
use Rattle.daggy_search.proofs.Sized.{sized_put_node}
use Rattle.daggy_order.proofs.BoundedSearch.{finds_first, finds_room, finds_more, few_below, none_waits, first_waits, one_waits}
use Rattle.daggy_order.proofs.BoundedSearch.{looked_below, IsOver, missed, child_placed}
use Rattle.daggy_order.proofs.NotedParents.{notes_first, notes_next, notes_past, notes_more, leads_back}
use Rattle.daggy_order.proofs.order.path.note_parents.Given.{Over}
use Rattle.daggy_order.proofs.order.path.note_parents.Goals.{Start, At-steps, After-look-v, Then-not-is_entered}
use Rattle.daggy_order.proofs.order.path.note_parents.Goals as goal

-- the first node is within the lists
from_low : (g : Over) (c : Start g) → g.Ix.IndexType.number c.args.from < c.args.work.now.size
from_low g c =
    omega (
      arith,
      below_bound (g.S.EdgeSource.graph c.args.source.now).nodes (g.Ix.IndexType.number c.args.from) c.requires.exists,
      c.requires.fits,
    )

-- the places of the nodes that were found
in_use : (g : Over) (c : At-steps g) → c.steps.count ≤ length c.steps.work.nodes
in_use g c =
    let sized = c.steps.invariant.0.searching.sized in
    omega (arith, c.steps.invariant.1.fits, sized.entered_are, sized.nodes_are)

-- e is an edge, and the looks stay few
here : (g : Over) (c : After-look-v g) → g.Ix.IndexType.number c.steps.e ≢ g.Ix.IndexType.greatest
here g c = λ h. c.if-index-end.false cc

looked : (g : Over) (c : After-look-v g)
    → g.S.EdgeSource.looks c.look-v.new.self
    ≤ g.S.EdgeSource.looks c.args.source.now + edge_count (g.S.EdgeSource.graph c.args.source.now)
looked g c = looked_once c.requires.well_formed c.steps.invariant.0.searching (here g c) c.look-v.ensures.counted

-- the child is within the lists
low : (g : Over) (c : After-look-v g) → g.Ix.IndexType.number c.look-v.result.0 < c.args.work.now.size
low g c =
    let s = c.steps.invariant.0.searching in
    omega (arith, child_low c.requires.well_formed s (here g c) c.look-v.ensures.gives, s.sized.entered_are)

-- one more node has room
room : (g : Over) (c : Then-not-is_entered g) → c.steps.count < c.args.work.now.size
room g c =
    let s = c.steps.invariant.0.searching in
    let within : g.Ix.IndexType.number c.look-v.result.0 < length c.steps.work.entered =
    child_low c.requires.well_formed s (λ h. c.if-index-end.false cc) c.look-v.ensures.gives in
    omega (
      arith,
      finds_room c.steps.invariant.1 (omega (arith, s.sized.entered_are, s.sized.nodes_are)) _ within (cc),
      s.sized.entered_are,
    )

pub enter-requires : goal.enter-requires
enter-requires g c =
    let at = goal.at.enter-requires g c in
    omega (arith, from_low g at.Start, c.index.ensures.value, c.begin.ensures.sized.entered_are)

pub put_node-requires : goal.put_node-requires
put_node-requires g c =
    let at = goal.at.put_node-requires g c in
    rw c.enter.ensures (omega (arith, from_low g at.Start, c.begin.ensures.sized.nodes_are))

pub steps-init : goal.steps-init
steps-init g c =
    let at = goal.at.steps-init g c in
    let sized = c.begin.ensures.sized in
    let work = c.begin.new.self in
    let cleared = c.begin.ensures.cleared in
    let found =
    finds_first work.entered work.nodes cleared.none_entered (omega (arith, from_low g at.Start, sized.entered_are))
    (omega (arith, sized.entered_are, sized.nodes_are)) c.index.ensures.value c.of_node-u.ensures in
    let now : Reading _ _ = record {
      graph = g.S.EdgeSource.graph c.args.source.now;
      work = record work { nodes = set work.nodes 0 (g.Ix.IndexType.number c.args.from) };
      waiting = [];
      edge = g.Ix.IndexType.number c.first-e.result;
      looks = g.S.EdgeSource.looks c.args.source.now;
    } in (
      rw (
        c.put_node.ensures,
        c.enter.ensures,
        none_waits (set work.nodes 0 c.of_node-u.result),
        c.index.ensures.value,
        c.of_node-u.ensures,
      ) (notes_first now c.requires.well_formed c.requires.exists
          (record { none_entered = cleared.none_entered; none_marked = cleared.none_marked }) c.requires.before
          c.requires.fits (sized_put_node sized 0 (g.Ix.IndexType.number c.args.from)) c.first-e.ensures),
      rw (c.put_node.ensures, c.enter.ensures) found,
      omega arith,
    )

pub overflow_add-head : goal.overflow_add-head
overflow_add-head g c =
    let h : c.steps.head + 1 ≤ c.args.work.now.size =
    omega (
      arith,
      c.steps.invariant.2,
      c.steps.invariant.1.fits,
      c.steps.invariant.0.searching.sized.entered_are,
    ) in
    let small = c.begin.ensures.sized.small in
    search rules

pub returns-then-head-count-clause-decided : goal.returns-then-head-count-clause-decided
returns-then-head-count-clause-decided g c =
    let at_end : g.Ix.IndexType.number c.steps.e ≡ g.Ix.IndexType.greatest = cc in
    let long =
    length-take-le c.steps.count c.steps.work.nodes
    (in_use g (goal.at.returns-then-head-count-clause-decided g c).At-steps) in
    let over : IsOver g.Ix.IndexType.greatest _ _ c.args.links.now.labels c.args.limit (g.Ix.IndexType.number c.args.to) =
    record {
      ascending = c.requires.ascending;
      so_far = c.steps.invariant.0.searching;
      ended = at_end;
      empty = drop_all (c.steps.head + 1) (take c.steps.count c.steps.work.nodes) (omega (arith, c.if-head-count.true, long));
      limit_is = c.requires.limit_is;
    } in
    (λ h. absurd (false≢true h), λ r. absurd (missed c.requires.well_formed over r))

pub returns-then-head-count-clause-counted : goal.returns-then-head-count-clause-counted
returns-then-head-count-clause-counted g c =
    few_below c.requires.well_formed c.args.links.now.labels c.args.limit c.requires.ascending
    c.steps.invariant.0.searching

pub node-u-requires : goal.node-u-requires
node-u-requires g c =
    let apart : c.steps.head + 1 ≢ c.steps.count = c.if-head-count.false in
    omega (arith, c.steps.invariant.2, in_use g (goal.at.node-u-requires g c).At-steps, apart)

pub steps-preserved-then-index-end : goal.steps-preserved-then-index-end
steps-preserved-then-index-end g c =
    let at_end : g.Ix.IndexType.number c.steps.e ≡ g.Ix.IndexType.greatest = cc in
    let apart : c.steps.head + 1 ≢ c.steps.count = c.if-head-count.false in
    let before : c.steps.head + 1 < c.steps.count = omega (arith, c.steps.invariant.2, apart) in (
      notes_next c.requires.well_formed c.steps.invariant.0 at_end c.node-u.result
          (first_waits c.steps.work.nodes before (in_use g (goal.at.steps-preserved-then-index-end g c).At-steps)
          (c.node-u.ensures c.node-u.result))
          (c.first-e-then-index-end.ensures
          ∙ ap (λ n. first_of g.Ix.IndexType.greatest (out_list (g.S.EdgeSource.graph c.steps.source) n))
          c.node.ensures.value),
      c.steps.invariant.1,
      before,
    )

pub look-v-requires : goal.look-v-requires
look-v-requires g c =
    edge_here c.requires.well_formed c.steps.invariant.0.searching (λ h. c.if-index-end.false cc)

pub label-requires : goal.label-requires
label-requires g c =
    let at = goal.at.label-requires g c in
    omega (
      arith,
      child_placed c.requires.well_formed c.args.links.now.labels c.args.limit c.requires.ascending
          c.steps.invariant.0.searching c.requires.placed (here g at.After-look-v) c.look-v.ensures.gives,
      c.index-i.ensures.value,
    )

pub is_entered-requires : goal.is_entered-requires
is_entered-requires g c =
    omega (
      arith,
      low g (goal.at.is_entered-requires g c).After-look-v,
      c.index-i.ensures.value,
      c.steps.invariant.0.searching.sized.entered_are,
    )

pub enter-requires-then-not-is_entered : goal.enter-requires-then-not-is_entered
enter-requires-then-not-is_entered g c =
    omega (
      arith,
      low g (goal.at.enter-requires-then-not-is_entered g c).After-look-v,
      c.index-i.ensures.value,
      c.steps.invariant.0.searching.sized.entered_are,
    )

pub put_cursor-requires : goal.put_cursor-requires
put_cursor-requires g c =
    let within = low g (goal.at.put_cursor-requires g c).After-look-v in
    rw c.enter-then-not-is_entered.ensures (omega (
      arith,
      within,
      c.index-i.ensures.value,
      c.steps.invariant.0.searching.sized.cursors_are,
    ))

pub put_node-requires-then-not-is_entered : goal.put_node-requires-then-not-is_entered
put_node-requires-then-not-is_entered g c =
    let within = room g (goal.at.put_node-requires-then-not-is_entered g c).Then-not-is_entered in
    rw (c.put_cursor.ensures, c.enter-then-not-is_entered.ensures) (omega (
      arith,
      within,
      c.steps.invariant.0.searching.sized.nodes_are,
    ))

pub overflow_add-count : goal.overflow_add-count
overflow_add-count g c =
    let h = room g (goal.at.overflow_add-count g c).Then-not-is_entered in
    let small = c.begin.ensures.sized.small in
    search rules

pub enter-requires-then-i-target : goal.enter-requires-then-i-target
enter-requires-then-i-target g c =
    omega (
      arith,
      low g (goal.at.enter-requires-then-i-target g c).After-look-v,
      c.index-i.ensures.value,
      c.steps.invariant.0.searching.sized.entered_are,
    )

pub put_cursor-requires-then-i-target : goal.put_cursor-requires-then-i-target
put_cursor-requires-then-i-target g c =
    let within = low g (goal.at.put_cursor-requires-then-i-target g c).After-look-v in
    rw c.enter-then-i-target.ensures (omega (
      arith,
      within,
      c.index-i.ensures.value,
      c.steps.invariant.0.searching.sized.cursors_are,
    ))

pub returns-then-i-target-clause-decided : goal.returns-then-i-target-clause-decided
returns-then-i-target-clause-decided g c =
    let at = goal.at.returns-then-i-target-clause-decided g c in
    let is : g.Ix.IndexType.number c.look-v.result.0 ≡ g.Ix.IndexType.number c.args.to = cc in
    let P : ℕ → Type 0 = λ z.
    Reaches (g.S.EdgeSource.graph c.args.source.now) (g.Ix.IndexType.number c.args.from) z in (
      λ h. subst P is
          (child_found c.requires.well_formed c.steps.invariant.0.searching (here g at.After-look-v)
          c.look-v.ensures.gives),
      λ r. refl,
    )

pub returns-then-i-target-clause-back : goal.returns-then-i-target-clause-back
returns-then-i-target-clause-back g c =
    let at = goal.at.returns-then-i-target-clause-back g c in
    let is : g.Ix.IndexType.number c.look-v.result.0 ≡ g.Ix.IndexType.number c.args.to = cc in
    λ _.
    rw (c.put_cursor-then-i-target.ensures, c.enter-then-i-target.ensures, c.index-i.ensures.value) (leads_back
    c.requires.well_formed c.steps.invariant.0 (here g at.After-look-v) c.look-v.ensures.gives c.requires.ascending
    c.requires.limit_is is)

pub returns-then-i-target-clause-counted : goal.returns-then-i-target-clause-counted
returns-then-i-target-clause-counted g c =
    λ ns all.
    looked_below c.requires.well_formed c.args.links.now.labels c.args.limit c.requires.ascending
    c.steps.invariant.0.searching ns all (here g (goal.at.returns-then-i-target-clause-counted g c).After-look-v)
    c.look-v.ensures.counted

pub steps-smaller-then-not-is_entered : goal.steps-smaller-then-not-is_entered
steps-smaller-then-not-is_entered g c =
    omega (arith, looked g (goal.at.steps-smaller-then-not-is_entered g c).After-look-v, c.look-v.ensures.counted)

pub steps-smaller-else-not-is_entered : goal.steps-smaller-else-not-is_entered
steps-smaller-else-not-is_entered g c =
    omega (arith, looked g (goal.at.steps-smaller-else-not-is_entered g c).After-look-v, c.look-v.ensures.counted)

pub steps-smaller : goal.steps-smaller
steps-smaller g c =
    omega (arith, looked g (goal.at.steps-smaller g c).After-look-v, c.look-v.ensures.counted)

pub steps-preserved-then-not-is_entered : goal.steps-preserved-then-not-is_entered
steps-preserved-then-not-is_entered g c =
    let at = goal.at.steps-preserved-then-not-is_entered g c in
    let below : get_or c.args.links.now.labels (g.Ix.IndexType.number c.look-v.result.0) 0 < c.args.limit =
    rw (← c.index-i.ensures.value) (omega (arith, c.label.ensures, c.if-label-limit.true)) in
    let s = c.steps.invariant.0.searching in
    let v = g.Ix.IndexType.number c.look-v.result.0 in
    let unseen : get_or c.steps.work.entered v false ≡ false = cc in
    let within : c.steps.count < length c.steps.work.nodes =
    omega (arith, room g at.Then-not-is_entered, s.sized.nodes_are) in
    let f =
    finds_more c.steps.invariant.1 (omega (arith, s.sized.entered_are, s.sized.nodes_are)) v
    (omega (arith, low g at.After-look-v, s.sized.entered_are)) unseen c.index-i.result v c.index-i.ensures.value refl in (
      rw (
        c.put_node-then-not-is_entered.ensures,
        c.of_node.ensures,
        c.put_cursor.ensures,
        c.enter-then-not-is_entered.ensures,
        one_waits c.steps.work.nodes {head = c.steps.head + 1} v (omega (arith, c.steps.invariant.2)) within,
        c.index-i.ensures.value,
      ) (notes_more c.requires.well_formed c.steps.invariant.0 (here g at.After-look-v) c.look-v.ensures.gives
          c.look-v.ensures.same c.look-v.ensures.counted below unseen c.steps.count),
      rw (
        c.put_node-then-not-is_entered.ensures,
        c.of_node.ensures,
        c.put_cursor.ensures,
        c.enter-then-not-is_entered.ensures,
      ) f,
      omega (arith, c.steps.invariant.2),
    )

pub steps-preserved-else-not-is_entered : goal.steps-preserved-else-not-is_entered
steps-preserved-else-not-is_entered g c =
    let at = goal.at.steps-preserved-else-not-is_entered g c in
    let seen : get_or c.steps.work.entered (g.Ix.IndexType.number c.look-v.result.0) false ≡ true = cc in (
      notes_past c.requires.well_formed c.steps.invariant.0 (here g at.After-look-v) c.look-v.ensures.gives
          c.look-v.ensures.same c.look-v.ensures.counted (inl seen),
      c.steps.invariant.1,
      c.steps.invariant.2,
    )

pub steps-preserved : goal.steps-preserved
steps-preserved g c =
    let at = goal.at.steps-preserved g c in
    let high : c.args.limit ≤ get_or c.args.links.now.labels (g.Ix.IndexType.number c.look-v.result.0) 0 =
    rw (← c.index-i.ensures.value) (omega (arith, c.label.ensures, c.if-label-limit.false)) in
    let apart : g.Ix.IndexType.number c.look-v.result.0 ≢ g.Ix.IndexType.number c.args.to = λ h.
    c.if-i-target.false (c.index-i.ensures.value ∙ h ∙ sym c.index-target.ensures.value) in (
      notes_past c.requires.well_formed c.steps.invariant.0 (here g at.After-look-v) c.look-v.ensures.gives
          c.look-v.ensures.same c.look-v.ensures.counted (inr (high, apart)),
      c.steps.invariant.1,
      c.steps.invariant.2,
    )
