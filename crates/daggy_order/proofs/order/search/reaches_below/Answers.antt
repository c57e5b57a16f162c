use Rattle.std.proofs.Common.{rules, ◌≡◌, ◌≢◌, ◌+◌, ◌<◌, ◌≤◌, ◌∙◌, sym, ap, refl, arith, inl, inr, false, true}
use Rattle.std.proofs.Common.{◌↔◌, length, get_or, set, take, drop, [], ◌∷◌, ◌++◌, subst, ℕ, is_some}
use Rattle.std.specs.List.{Contains}
use Rattle.std.specs.List.Sorted.{IsPermutation}
use Rattle.std.proofs.lemmas.Option.{none-some}
use Rattle.std.proofs.lemmas.List.{drop_all, length-set, length-take-le}
use Rattle.std.proofs.lemmas.List.Sums.{count_by-le-length}
use Rattle.std.proofs.lemmas.List.Sorted.{IsPermutation-trans, IsPermutation-to_front}
use Rattle.daggy_base.proofs.Lists.{contains_mem, mem_contains, Contains-cases}
use Rattle.daggy_base.proofs.Sorted.{distinct_from_unique}
use Rattle.daggy_base.specs.Graph.{out_list, edge_count}
use Rattle.daggy_base.specs.Path.{Reaches}
use Rattle.daggy_base.specs.Cursor.{first_of}
use Rattle.daggy_base.proofs.OutEdgesRead.{below_bound}
use Rattle.daggy_search.specs.Work.{Work}
use Rattle.daggy_search.proofs.SearchState.{Reading, starts, edge_here, child_low, child_found, only_reached}
use Rattle.daggy_search.proofs.SearchState.{moves_on, puts, pops, reads_next, looked_once}
use Rattle.daggy_search.proofs.Sized.{sized_put_node}
use Rattle.daggy_order.proofs.BoundedSearch.{Below, Beyond, finds_first, finds_room, finds_put, few_below, rearranged}
use Rattle.daggy_base.proofs.PathEnds.{reached_exists}
use Rattle.daggy_order.proofs.BoundedSearch.{none_waits, first_waits}
use Rattle.daggy_order.proofs.BoundedSearch.{looked_below, IsOver, missed, exactly, child_placed}
use Rattle.daggy_order.proofs.WaitingNodes.{last_waits}
use Rattle.daggy_order.proofs.order.search.reaches_below.Given.{Over}
use Rattle.daggy_order.proofs.order.search.reaches_below.Goals.{Start, At-steps, Then-head-tail, After-look-v, Then-not-is_entered}
use Rattle.daggy_order.proofs.order.search.reaches_below.Goals as goal

-- the first node is within the lists
from_low : (g : Over) (c : Start g) → g.Ix.IndexType.number c.args.from < c.args.work.now.size
from_low g c =
    omega (
      arith,
      below_bound (g.S.EdgeSource.graph c.args.source.now).nodes (g.Ix.IndexType.number c.args.from) c.requires.exists,
      c.requires.fits,
    )

-- the places of the nodes that were found
in_use : (g : Over) (c : At-steps g) → c.steps.count ≤ length c.steps.work.nodes
in_use g c =
    let sized = c.steps.invariant.0.sized in
    omega (arith, c.steps.invariant.1.fits, sized.entered_are, sized.nodes_are)

-- at the end all nodes are met that from reaches and that are lower than the limit, and to is not met
ended : (g : Over) (c : Then-head-tail g)
    → (Reaches (g.S.EdgeSource.graph c.args.source.now) (g.Ix.IndexType.number c.args.from)
    (g.Ix.IndexType.number c.args.to) → ⊥)
    × (
    (n : ℕ)
    → (get_or c.steps.work.entered n false ≡ true)
    ↔ (
    Reaches (g.S.EdgeSource.graph c.args.source.now) (g.Ix.IndexType.number c.args.from) n
    × (get_or c.args.links.now.labels n 0 < c.args.limit)
    )
    )
ended g c =
    let at_end : g.Ix.IndexType.number c.steps.e ≡ g.Ix.IndexType.greatest = cc in
    let sized = c.steps.invariant.0.sized in
    let long =
    length-take-le c.steps.tail c.steps.work.nodes
    (omega (arith, c.steps.invariant.3, c.steps.invariant.1.fits, sized.entered_are, sized.nodes_are)) in
    let over : IsOver g.Ix.IndexType.greatest _ _ c.args.links.now.labels c.args.limit (g.Ix.IndexType.number c.args.to) =
    record {
      ascending = c.requires.ascending;
      so_far = c.steps.invariant.0;
      ended = at_end;
      empty = drop_all c.steps.head (take c.steps.tail c.steps.work.nodes) (omega (arith, c.if-head-tail.true, long));
      limit_is = c.requires.limit_is;
    } in
    (missed c.requires.well_formed over, exactly c.requires.well_formed over)

-- e is an edge, and the looks stay few
here : (g : Over) (c : After-look-v g) → g.Ix.IndexType.number c.steps.e ≢ g.Ix.IndexType.greatest
here g c = λ h. c.if-index-end.false cc

looked : (g : Over) (c : After-look-v g)
    → g.S.EdgeSource.looks c.look-v.new.self
    ≤ g.S.EdgeSource.looks c.args.source.now + edge_count (g.S.EdgeSource.graph c.args.source.now)
looked g c = looked_once c.requires.well_formed c.steps.invariant.0 (here g c) c.look-v.ensures.counted

-- the child is within the lists
v_low : (g : Over) (c : After-look-v g) → g.Ix.IndexType.number c.look-v.result.0 < length c.steps.work.entered
v_low g c = child_low c.requires.well_formed c.steps.invariant.0 (here g c) c.look-v.ensures.gives

v_placed : (g : Over) (c : After-look-v g) → g.Ix.IndexType.number c.look-v.result.0 < length c.args.links.now.labels
v_placed g c =
    child_placed c.requires.well_formed c.args.links.now.labels c.args.limit c.requires.ascending c.steps.invariant.0
    c.requires.placed (here g c) c.look-v.ensures.gives

-- the child has no mark yet
unseen : (g : Over) (c : Then-not-is_entered g)
    → get_or c.steps.work.entered (g.Ix.IndexType.number c.look-v.result.0) false ≡ false
unseen g c = cc

-- the list of the nodes that are found is long enough
capacity : (g : Over) (c : After-look-v g) → length c.steps.work.entered ≤ length c.steps.work.nodes
capacity g c = omega (arith, c.steps.invariant.0.sized.entered_are, c.steps.invariant.0.sized.nodes_are)

-- one more has room
room : (g : Over) (c : Then-not-is_entered g) → c.steps.count < c.args.work.now.size
room g c =
    let s = c.steps.invariant.0 in
    let low : g.Ix.IndexType.number c.look-v.result.0 < length c.steps.work.entered =
    child_low c.requires.well_formed s (λ h. c.if-index-end.false cc) c.look-v.ensures.gives in
    omega (
      arith,
      finds_room c.steps.invariant.1 (omega (arith, s.sized.entered_are, s.sized.nodes_are)) _ low (unseen g c),
      s.sized.entered_are,
    )

pub enter-requires : goal.enter-requires
enter-requires g c =
    let at = goal.at.enter-requires g c in
    omega (arith, from_low g at.Start, c.index.ensures.value, c.begin.ensures.sized.entered_are)

pub put_node-requires : goal.put_node-requires
put_node-requires g c =
    let at = goal.at.put_node-requires g c in
    rw c.enter.ensures (omega (arith, from_low g at.Start, c.begin.ensures.sized.nodes_are))

pub steps-init : goal.steps-init
steps-init g c =
    let at = goal.at.steps-init g c in
    let sized = c.begin.ensures.sized in
    let work = c.begin.new.self in
    let cleared = c.begin.ensures.cleared in
    let found =
    finds_first work.entered work.nodes cleared.none_entered (omega (arith, from_low g at.Start, sized.entered_are))
    (omega (arith, sized.entered_are, sized.nodes_are)) c.index.ensures.value c.of_node.ensures in
    let now : Reading _ _ = record {
      graph = g.S.EdgeSource.graph c.args.source.now;
      work = record work { nodes = set work.nodes 0 c.of_node.result };
      waiting = [];
      edge = g.Ix.IndexType.number c.first-e.result;
      looks = g.S.EdgeSource.looks c.args.source.now;
    } in (
      rw (c.put_node.ensures, c.enter.ensures, none_waits (set work.nodes 0 c.of_node.result)) (starts now c.requires.well_formed
          {Keep = Below c.args.links.now.labels c.args.limit}
          {Skip = Beyond c.args.links.now.labels c.args.limit (g.Ix.IndexType.number c.args.to)} c.requires.exists
          (record { none_entered = cleared.none_entered; none_marked = cleared.none_marked }) c.requires.before
          c.requires.fits (sized_put_node sized 0 c.of_node.result) c.index.ensures.value c.first-e.ensures),
      rw (c.put_node.ensures, c.enter.ensures) found,
      omega arith,
      omega arith,
      omega arith,
    )

pub returns-then-head-tail-clause-decided : goal.returns-then-head-tail-clause-decided
returns-then-head-tail-clause-decided g c =
    let at = goal.at.returns-then-head-tail-clause-decided g c in
    (λ h. absurd (none-some _ (sym h)), λ r. absurd ((ended g at.Then-head-tail).0 r))

pub returns-then-head-tail-clause-found : goal.returns-then-head-tail-clause-found
returns-then-head-tail-clause-found g c =
    let f = c.steps.invariant.1 in
    let is = (ended g (goal.at.returns-then-head-tail-clause-found g c).Then-head-tail).1 in (
      in_use g (goal.at.returns-then-head-tail-clause-found g c).At-steps,
      (
        distinct_from_unique (take c.steps.count c.steps.work.nodes) f.once,
        λ n. (
          λ h. (is n).0 ((f.exact n).1 (contains_mem (take c.steps.count c.steps.work.nodes) n h)),
          λ h. mem_contains (take c.steps.count c.steps.work.nodes) n ((f.exact n).0 ((is n).1 h)),
        ),
      ),
    )

pub returns-then-head-tail-clause-counted : goal.returns-then-head-tail-clause-counted
returns-then-head-tail-clause-counted g c =
    few_below c.requires.well_formed c.args.links.now.labels c.args.limit c.requires.ascending c.steps.invariant.0

pub steps-preserved-then-is_last_next : goal.steps-preserved-then-is_last_next
steps-preserved-then-is_last_next g c =
    let at_end : g.Ix.IndexType.number c.steps.e ≡ g.Ix.IndexType.greatest = cc in
    let apart : c.steps.head ≢ c.steps.tail = c.if-head-tail.false in
    let some : c.steps.head < c.steps.tail = omega (arith, c.steps.invariant.2, apart) in
    let within : c.steps.tail ≤ length c.steps.work.nodes =
    omega (arith, c.steps.invariant.3, in_use g (goal.at.steps-preserved-then-is_last_next g c).At-steps) in (
      pops c.requires.well_formed c.steps.invariant.0 at_end c.node.result
          (last_waits c.steps.work.nodes some within (c.node.ensures c.node.result))
          (c.first-e-then-is_last_next.ensures
          ∙ ap (λ n. first_of g.Ix.IndexType.greatest (out_list (g.S.EdgeSource.graph c.steps.source) n))
          c.node-then-is_last_next.ensures.value),
      c.steps.invariant.1,
      omega (arith, some),
      omega (arith, c.steps.invariant.3),
      c.steps.invariant.4,
    )

pub steps-preserved-else-is_last_next : goal.steps-preserved-else-is_last_next
steps-preserved-else-is_last_next g c =
    let at_end : g.Ix.IndexType.number c.steps.e ≡ g.Ix.IndexType.greatest = cc in
    let apart : c.steps.head ≢ c.steps.tail = c.if-head-tail.false in
    let some : c.steps.head < c.steps.tail = omega (arith, c.steps.invariant.2, apart) in
    let within : c.steps.tail ≤ length c.steps.work.nodes =
    omega (arith, c.steps.invariant.3, in_use g (goal.at.steps-preserved-else-is_last_next g c).At-steps) in (
      reads_next c.requires.well_formed c.steps.invariant.0 at_end c.node-else-is_last_next.result
          (first_waits c.steps.work.nodes some within (c.node-else-is_last_next.ensures c.node-else-is_last_next.result))
          (c.first-e-else-is_last_next.ensures
          ∙ ap (λ n. first_of g.Ix.IndexType.greatest (out_list (g.S.EdgeSource.graph c.steps.source) n))
          c.node-else-is_last_next-2.ensures.value),
      c.steps.invariant.1,
      omega (arith, some),
      c.steps.invariant.3,
      c.steps.invariant.4,
    )

pub look-v-requires : goal.look-v-requires
look-v-requires g c =
    let here : g.Ix.IndexType.number c.steps.e ≢ g.Ix.IndexType.greatest = λ h. c.if-index-end.false cc in
    edge_here c.requires.well_formed c.steps.invariant.0 here

pub label-requires : goal.label-requires
label-requires g c =
    omega (arith, v_placed g (goal.at.label-requires g c).After-look-v, c.index-i.ensures.value)

pub is_entered-requires : goal.is_entered-requires
is_entered-requires g c =
    omega (arith, v_low g (goal.at.is_entered-requires g c).After-look-v, c.index-i.ensures.value)

pub enter-requires-then-not-is_entered : goal.enter-requires-then-not-is_entered
enter-requires-then-not-is_entered g c =
    omega (arith, v_low g (goal.at.enter-requires-then-not-is_entered g c).After-look-v, c.index-i.ensures.value)

pub put_waiting-requires-clause-room : goal.put_waiting-requires-clause-room
put_waiting-requires-clause-room g c =
    let low = room g (goal.at.put_waiting-requires-clause-room g c).Then-not-is_entered in
    rw c.enter-then-not-is_entered.ensures (omega (arith, low, c.steps.invariant.0.sized.nodes_are))

pub put_waiting-requires-clause-placed : goal.put_waiting-requires-clause-placed
put_waiting-requires-clause-placed g c =
    let at = goal.at.put_waiting-requires-clause-placed g c in
    let s = c.steps.invariant.0 in
    let found : (n : ℕ) → Contains (take c.steps.count c.steps.work.nodes) n → n < length c.args.links.now.labels = λ n h.
    c.requires.placed n (reached_exists (g.S.EdgeSource.graph c.args.source.now) (g.Ix.IndexType.number c.args.from) n
    (only_reached c.requires.well_formed s n
    ((c.steps.invariant.1.exact n).1 (contains_mem (take c.steps.count c.steps.work.nodes) n h))).0) in
    rw (c.enter-then-not-is_entered.ensures, c.of_node-then-not-is_entered.ensures) (λ n h.
    elim (Contains-cases (g.Ix.IndexType.number c.look-v.result.0) n (take c.steps.count c.steps.work.nodes) h) [
      | inl is ↦ omega (arith, is, v_placed g at.After-look-v)
      | inr old ↦ found n old
    ])

pub overflow_add-looks : goal.overflow_add-looks
overflow_add-looks g c =
    let few = looked g (goal.at.overflow_add-looks g c).After-look-v in
    let slots = c.requires.well_formed.few_edges in
    let fits = g.met.Ix.IndexType.fits in
    let h : c.steps.looks + 1 ≤ g.Ix.IndexType.greatest =
    omega (
      arith,
      few,
      c.look-v.ensures.counted,
      c.steps.invariant.4,
      count_by-le-length is_some (g.S.EdgeSource.graph c.args.source.now).edges,
      slots,
    ) in
    search rules

pub overflow_add-tail : goal.overflow_add-tail
overflow_add-tail g c =
    let h = room g (goal.at.overflow_add-tail g c).Then-not-is_entered in
    let small = c.begin.ensures.sized.small in
    let few : c.steps.tail + 1 ≤ c.args.work.now.size = omega (arith, h, c.steps.invariant.3) in
    search rules

pub overflow_add-count : goal.overflow_add-count
overflow_add-count g c =
    let h = room g (goal.at.overflow_add-count g c).Then-not-is_entered in
    let small = c.begin.ensures.sized.small in
    search rules

pub returns-then-i-target-clause-decided : goal.returns-then-i-target-clause-decided
returns-then-i-target-clause-decided g c =
    let at = goal.at.returns-then-i-target-clause-decided g c in
    let is : g.Ix.IndexType.number c.look-v.result.0 ≡ g.Ix.IndexType.number c.args.to = cc in
    let P : ℕ → Type 0 = λ z.
    Reaches (g.S.EdgeSource.graph c.args.source.now) (g.Ix.IndexType.number c.args.from) z in (
      λ h. subst P is
          (child_found c.requires.well_formed c.steps.invariant.0 (here g at.After-look-v) c.look-v.ensures.gives),
      λ r. refl,
    )

pub returns-then-i-target-clause-counted : goal.returns-then-i-target-clause-counted
returns-then-i-target-clause-counted g c =
    λ ns all.
    looked_below c.requires.well_formed c.args.links.now.labels c.args.limit c.requires.ascending c.steps.invariant.0 ns all
    (here g (goal.at.returns-then-i-target-clause-counted g c).After-look-v) c.look-v.ensures.counted

pub steps-smaller-then-not-is_entered : goal.steps-smaller-then-not-is_entered
steps-smaller-then-not-is_entered g c =
    omega (arith, looked g (goal.at.steps-smaller-then-not-is_entered g c).After-look-v, c.look-v.ensures.counted)

pub steps-smaller-else-not-is_entered : goal.steps-smaller-else-not-is_entered
steps-smaller-else-not-is_entered g c =
    omega (arith, looked g (goal.at.steps-smaller-else-not-is_entered g c).After-look-v, c.look-v.ensures.counted)

pub steps-smaller : goal.steps-smaller
steps-smaller g c =
    omega (arith, looked g (goal.at.steps-smaller g c).After-look-v, c.look-v.ensures.counted)

pub steps-preserved-then-not-is_entered : goal.steps-preserved-then-not-is_entered
steps-preserved-then-not-is_entered g c =
    let at = goal.at.steps-preserved-then-not-is_entered g c in
    let low : get_or c.args.links.now.labels (g.Ix.IndexType.number c.look-v.result.0) 0 < c.args.limit =
    rw (← c.index-i.ensures.value) (omega (arith, c.label.ensures, c.if-label-limit.true)) in
    let s = c.steps.invariant.0 in
    let v = g.Ix.IndexType.number c.look-v.result.0 in
    let waited = drop c.steps.head (take c.steps.tail c.steps.work.nodes) in
    let new = c.put_waiting.new.work in
    let is : new ≡ record c.steps.work { entered = set c.steps.work.entered c.index-i.result true; nodes = new.nodes } =
    c.put_waiting.ensures.kept ∙ ap (λ (w : Work). record w { nodes = new.nodes }) c.enter-then-not-is_entered.ensures in
    let long : length new.nodes ≡ length c.steps.work.nodes =
    c.put_waiting.ensures.length ∙ ap (λ (w : Work). length w.nodes) c.enter-then-not-is_entered.ensures in
    let found : IsPermutation (v ∷ take c.steps.count c.steps.work.nodes) (take (c.steps.count + 1) new.nodes) =
    rw (c.enter-then-not-is_entered.ensures, c.of_node-then-not-is_entered.ensures) at c.put_waiting.ensures.found in
    let waits : IsPermutation (v ∷ waited) (drop c.steps.head (take (c.steps.tail + 1) new.nodes)) =
    rw (c.enter-then-not-is_entered.ensures, c.of_node-then-not-is_entered.ensures) at c.put_waiting.ensures.waiting in (
      rearranged (puts c.requires.well_formed s (here g at.After-look-v) c.look-v.ensures.gives c.look-v.ensures.same
          c.look-v.ensures.counted c.index-i.ensures.value low (unseen g at.Then-not-is_entered) c.steps.count) is
          (long ∙ sym (length-set c.steps.work.nodes c.steps.count v))
          (IsPermutation-trans (waited ++ v ∷ []) (v ∷ waited) (drop c.steps.head (take (c.steps.tail + 1) new.nodes))
          (IsPermutation-to_front waited v) waits),
      finds_put c.steps.invariant.1 (capacity g at.After-look-v) v (v_low g at.After-look-v)
          (unseen g at.Then-not-is_entered) c.index-i.ensures.value refl (ap (λ (w : Work). w.entered) is) found,
      omega (arith, c.steps.invariant.2),
      omega (arith, c.steps.invariant.3),
      omega (arith, c.steps.invariant.4, c.look-v.ensures.counted),
    )

pub steps-preserved-else-not-is_entered : goal.steps-preserved-else-not-is_entered
steps-preserved-else-not-is_entered g c =
    let at = goal.at.steps-preserved-else-not-is_entered g c in
    let seen : get_or c.steps.work.entered (g.Ix.IndexType.number c.look-v.result.0) false ≡ true = cc in (
      moves_on c.requires.well_formed c.steps.invariant.0 (here g at.After-look-v) c.look-v.ensures.gives
          c.look-v.ensures.same c.look-v.ensures.counted (inl seen),
      c.steps.invariant.1,
      c.steps.invariant.2,
      c.steps.invariant.3,
      omega (arith, c.steps.invariant.4, c.look-v.ensures.counted),
    )

pub steps-preserved : goal.steps-preserved
steps-preserved g c =
    let at = goal.at.steps-preserved g c in
    let high : c.args.limit ≤ get_or c.args.links.now.labels (g.Ix.IndexType.number c.look-v.result.0) 0 =
    rw (← c.index-i.ensures.value) (omega (arith, c.label.ensures, c.if-label-limit.false)) in
    let apart : g.Ix.IndexType.number c.look-v.result.0 ≢ g.Ix.IndexType.number c.args.to = λ h.
    c.if-i-target.false (c.index-i.ensures.value ∙ h ∙ sym c.index-target.ensures.value) in (
      moves_on c.requires.well_formed c.steps.invariant.0 (here g at.After-look-v) c.look-v.ensures.gives
          c.look-v.ensures.same c.look-v.ensures.counted (inr (high, apart)),
      c.steps.invariant.1,
      c.steps.invariant.2,
      c.steps.invariant.3,
      omega (arith, c.steps.invariant.4, c.look-v.ensures.counted),
    )
