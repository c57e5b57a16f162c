use Rattle.std.proofs.Common.{rules, ◌≡◌, ◌<◌, ◌≤◌, ◌∙◌, ℕ, List, sym, ap, subst, refl, arith, length}
use Rattle.std.proofs.Common.{get_or, replicate, set}
use Rattle.std.proofs.lemmas.List.{get_or_read}
use Rattle.daggy_base.specs.Graph.{Graph, node_bound}
use Rattle.daggy_base.specs.Ordered.{IsOrderOf}
use Rattle.daggy_base.proofs.OutEdgesRead.{below_bound}
use Rattle.daggy_schedule.specs.Times.{IsZeroElsewhere}
use Rattle.daggy_schedule.specs.Lags.{AreEarliestWithLags, TakesTooLongWithLags}
use Rattle.daggy_schedule.specs.Passes.{AreNoted, IsLast}
use Rattle.daggy_schedule.proofs.Starting.{resized}
use Rattle.daggy_schedule.proofs.Elsewhere.{zeros_elsewhere, set_elsewhere, delayed_elsewhere}
use Rattle.daggy_schedule.proofs.Timing.{Timing, timing_none, timing_one, next_exists, takes_too_long, lasts_too_long}
use Rattle.daggy_schedule.proofs.Timing.{all_noted, all_earliest, last_finish}
use Rattle.daggy_schedule.proofs.schedule.early.earliest.Given.{Over}
use Rattle.daggy_schedule.proofs.schedule.early.earliest.Goals.{After-index-i, After-index-start}
use Rattle.daggy_schedule.proofs.schedule.early.earliest.Goals as goal

-- the node has an index below the bound
low : (g : Over) (c : After-index-i g)
    → g.Ix.IndexType.number c.in-Some.n < node_bound (g.S.EdgeSource.graph c.graph-store.result.now)
low g c =
    let s = c.nodes.invariant.timing in
    below_bound (g.S.EdgeSource.graph c.graph-store.result.now).nodes (g.Ix.IndexType.number c.in-Some.n)
    (next_exists c.node_bound-bound.ensures.well_formed s.ordered c.in-Some.ensures.steps s.timing)

-- and starts when it is noted to
start_is : (g : Over) (c : After-index-start g)
    → c.index-start.result.now ≡ get_or c.nodes.starts.items (g.Ix.IndexType.number c.in-Some.n) 0
start_is g c =
    let n = g.Ix.IndexType.number c.in-Some.n in
    let s = c.nodes.invariant.timing in
    let within : n < node_bound (g.S.EdgeSource.graph c.graph-store.result.now) =
    below_bound (g.S.EdgeSource.graph c.graph-store.result.now).nodes n
    (next_exists c.node_bound-bound.ensures.well_formed s.ordered c.in-Some.ensures.steps s.timing) in
    get_or_read c.nodes.starts.items c.index-i.result c.index-start.result.now
    (omega (arith, within, c.nodes.invariant.starts_sized, c.nodes.starts.ok.0, c.index-i.ensures.value))
    c.index-start.ensures 0
    ∙ ap (λ z. get_or c.nodes.starts.items z 0) c.index-i.ensures.value

fits : (g : Over) (c : After-index-i g)
    → node_bound (g.S.EdgeSource.graph c.graph-store.result.now) ≤ length c.args.durations.now
fits g c =
    let P : Graph _ _ → Type 0 = λ z. node_bound z ≤ length c.args.durations.now in
    subst P (sym c.graph-store.ensures.graph) c.requires

pub nodes-init : goal.nodes-init
nodes-init g c =
    let number = g.Ix.IndexType.number in
    let end = g.Ix.IndexType.greatest in
    let graph = g.S.EdgeSource.graph c.graph-store.result.now in
    let order = c.topological_order-nodes.result in
    let d = c.args.durations.now in
    let lags = c.args.lags.now in
    let bound = c.node_bound-bound.result in
    let last = number c.end-last.result in
    let starts : c.resize.new.self.items ≡ replicate bound 0 =
    resized _ _ bound _ 0 c.new-starts.ensures.items c.new-starts.ensures.len c.in_ok-resize.ensures.items in
    let finishes : c.resize-2.new.self.items ≡ replicate bound 0 =
    resized _ _ bound _ 0 c.new-finishes.ensures.items c.new-finishes.ensures.len c.in_ok-resize-2.ensures.items in
    let parents : c.resize-3.new.self.items ≡ replicate bound c.end.result =
    resized _ _ bound _ c.end.result c.new-parents.ensures.items c.new-parents.ensures.len
    c.in_ok-resize-3.ensures.items in
    let zeros : List ℕ = replicate bound 0 in
    let none =
    timing_none end graph order d lags {k = bound} {e = c.end.result} {time = 0} {last = last} c.node_bound-bound.ensures.value
    c.end.ensures.value refl c.end-last.ensures.number in
    let P : List ℕ → Type 0 = λ z. Timing end graph order d lags zeros (replicate bound c.end.result) z 0 last order in
    let Q : List ℕ → Type 0 = λ z. Timing end graph order d lags zeros z c.resize-2.new.self.items 0 last order in
    let R : List ℕ → Type 0 = λ z.
    Timing end graph order d lags z c.resize-3.new.self.items c.resize-2.new.self.items 0 last order in
    let O : Graph _ _ → Type 0 = λ z. IsOrderOf z order in
    record {
      starts_sized = omega (arith, c.in_ok-resize.ensures.len, c.node_bound-bound.ensures.value);
      parents_sized = omega (arith, c.in_ok-resize-3.ensures.len, c.node_bound-bound.ensures.value);
      finishes_sized = omega (arith, c.in_ok-resize-2.ensures.len, c.node_bound-bound.ensures.value);
      starts_elsewhere = zeros_elsewhere graph c.resize.new.self.items bound starts;
      finishes_elsewhere = zeros_elsewhere graph c.resize-2.new.self.items bound finishes;
      timing = record {
        order = order;
        ordered = subst O (sym c.graph-store.ensures.graph) c.topological_order-nodes.ensures.ordered;
        timing = subst R (sym starts) (subst Q (sym parents) (subst P (sym finishes) none));
      };
    }

pub index-start-requires : goal.index-start-requires
index-start-requires g c =
    omega (
      arith,
      low g (goal.at.index-start-requires g c).After-index-i,
      c.nodes.invariant.starts_sized,
      c.index-i.ensures.value,
    )

pub offset_bounds-durations-i : goal.offset_bounds-durations-i
offset_bounds-durations-i g c =
    let at = (goal.at.offset_bounds-durations-i g c).After-index-i in
    let h : c.index-i.result < length c.args.durations.now =
    omega (arith, low g at, fits g at, c.index-i.ensures.value) in
    search rules

pub bounds-durations-i : goal.bounds-durations-i
bounds-durations-i g c =
    let at = (goal.at.bounds-durations-i g c).After-index-i in
    omega (arith, low g at, fits g at, c.index-i.ensures.value)

pub returns-in_default-checked_add-clause-overflow : goal.returns-in_default-checked_add-clause-overflow
returns-in_default-checked_add-clause-overflow g c _ =
    let at = goal.at.returns-in_default-checked_add-clause-overflow g c in
    let s = c.nodes.invariant.timing in
    let P : Graph _ _ → Type 0 = λ z. TakesTooLongWithLags z c.args.durations.now c.args.lags.now in
    subst P c.graph-store.ensures.graph
    (takes_too_long c.node_bound-bound.ensures.well_formed s.ordered c.in-Some.ensures.steps s.timing
    (omega (
      arith,
      c.in_default-checked_add.ensures,
      start_is g at.After-index-start,
      ap (λ z. get_or c.args.durations.now z 0) c.index-i.ensures.value,
    )))

pub index_mut-requires : goal.index_mut-requires
index_mut-requires g c =
    omega (
      arith,
      low g (goal.at.index_mut-requires g c).After-index-i,
      c.nodes.invariant.finishes_sized,
      c.index-i.ensures.value,
    )

pub nodes-preserved : goal.nodes-preserved
nodes-preserved g c =
    let at = goal.at.nodes-preserved g c in
    let number = g.Ix.IndexType.number in
    let s = c.nodes.invariant in
    record {
      starts_sized = c.in_ok-delay_children.ensures.starts ∙ s.starts_sized;
      parents_sized = c.in_ok-delay_children.ensures.parents ∙ s.parents_sized;
      finishes_sized = s.finishes_sized;
      starts_elsewhere =
          delayed_elsewhere (g.S.EdgeSource.graph c.graph-store.result.now) c.node_bound-bound.ensures.well_formed c.in_ok-delay_children.ensures.delayed s.starts_elsewhere;
      finishes_elsewhere =
          set_elsewhere (g.S.EdgeSource.graph c.graph-store.result.now) _ _ _ _
          (next_exists c.node_bound-bound.ensures.well_formed s.timing.ordered c.in-Some.ensures.steps s.timing.timing)
          s.finishes_elsewhere (ap (λ z. set c.nodes.finishes.items z c.in-Some-checked_add.finish) c.index-i.ensures.value);
      timing = record {
        order = s.timing.order;
        ordered = s.timing.ordered;
        timing =
            timing_one c.node_bound-bound.ensures.well_formed s.timing.ordered c.in-Some.ensures.steps s.timing.timing
            c.in-Some-checked_add.finish
            (omega (
              arith,
              c.in-Some-checked_add.ensures.1,
              start_is g at.After-index-start,
              ap (λ z. get_or c.args.durations.now z 0) c.index-i.ensures.value,
            ))
            c.index-i.result c.index-i.ensures.value
            (omega (arith, low g at.After-index-i, s.finishes_sized, c.nodes.finishes.ok.0))
            c.in_ok-delay_children.ensures.delayed
            (λ h. let e = c.later_of-time.ensures.later h in (e.0, ap number e.1))
            (λ h. let e = c.later_of-time.ensures.taken h in (e.0, ap number e.1));
      };
    }

pub returns-in_err-delay_children-clause-overflow : goal.returns-in_err-delay_children-clause-overflow
returns-in_err-delay_children-clause-overflow g c _ =
    let at = goal.at.returns-in_err-delay_children-clause-overflow g c in
    let s = c.nodes.invariant.timing in
    let P : Graph _ _ → Type 0 = λ z. TakesTooLongWithLags z c.args.durations.now c.args.lags.now in
    subst P c.graph-store.ensures.graph
    (lasts_too_long c.node_bound-bound.ensures.well_formed s.ordered c.in-Some.ensures.steps s.timing
    c.in-Some-checked_add.finish
    (omega (
      arith,
      c.in-Some-checked_add.ensures.1,
      start_is g at.After-index-start,
      ap (λ z. get_or c.args.durations.now z 0) c.index-i.ensures.value,
    ))
    c.in_err-delay_children.ensures.overflow)

pub returns-clause-noted : goal.returns-clause-noted
returns-clause-noted g c =
    let s = c.nodes.invariant.timing in
    let P : Graph _ _ → Type 0 = λ z. AreNoted g.Ix.IndexType.greatest z c.args.durations.now c.args.lags.now c.nodes.starts.items
    c.nodes.parents.items c.nodes.finishes.items in
    subst P c.graph-store.ensures.graph
    (all_noted c.node_bound-bound.ensures.well_formed s.ordered c.in_default.ensures.steps.0 s.timing)

pub returns-clause-earliest : goal.returns-clause-earliest
returns-clause-earliest g c =
    let s = c.nodes.invariant.timing in
    let P : Graph _ _ → Type 0 = λ z.
    AreEarliestWithLags z c.args.durations.now c.args.lags.now (λ n. get_or c.nodes.starts.items n 0) in
    subst P c.graph-store.ensures.graph
    (all_earliest c.node_bound-bound.ensures.well_formed s.ordered c.in_default.ensures.steps.0 s.timing)

pub returns-clause-last : goal.returns-clause-last
returns-clause-last g c =
    let s = c.nodes.invariant.timing in
    let P : Graph _ _ → Type 0 = λ z.
    IsLast g.Ix.IndexType.greatest z c.nodes.finishes.items c.nodes.makespan (g.Ix.IndexType.number c.nodes.last) in
    subst P c.graph-store.ensures.graph
    (last_finish c.node_bound-bound.ensures.well_formed s.ordered c.in_default.ensures.steps.0 s.timing)

pub returns-clause-elsewhere : goal.returns-clause-elsewhere
returns-clause-elsewhere g c =
    let s = c.nodes.invariant in
    let P : Graph _ _ → Type 0 = λ z. IsZeroElsewhere z c.nodes.starts.items × IsZeroElsewhere z c.nodes.finishes.items in
    subst P c.graph-store.ensures.graph (s.starts_elsewhere, s.finishes_elsewhere)

pub returns-clause-sized : goal.returns-clause-sized
returns-clause-sized g c =
    let s = c.nodes.invariant in
    let size = ap node_bound c.graph-store.ensures.graph in
    (s.starts_sized ∙ size, s.finishes_sized ∙ size, s.parents_sized ∙ size)
