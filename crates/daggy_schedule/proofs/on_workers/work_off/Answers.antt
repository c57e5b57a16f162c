use Rattle.std.proofs.Common.{◌≡◌, ◌∙◌, ◌+◌, ◌<◌, ◌∷◌, [], ℕ, List, length, get_or, refl, sym, ap, subst, arith}
use Rattle.std.proofs.Common.{vec_len, Ok, Err, rules, map}
use Rattle.std.proofs.Common.{Contains}
use Rattle.daggy_schedule.specs.LeastFirst.{nodes_of}
use Rattle.std.specs.Option.{MatchOption}
use Rattle.std.specs.Result.{IsErrAnd}
use Rattle.daggy_schedule.specs.declared.schedule.ScheduleError.TheVariants.{Overflow}
use Rattle.daggy_schedule.specs.Assignments.{IsAssignment, AreKeptBusy, IsMostUrgentFirst, IsWithinBound, IsNearBest}
use Rattle.daggy_schedule.proofs.Graham.{near_best}
use Rattle.std.proofs.lemmas.List.{get_or_default}
use Rattle.std.proofs.lemmas.List.Sorted.{length_permutation}
use Rattle.daggy_base.specs.Graph.{Graph, node_bound}
use Rattle.daggy_base.specs.WellFormed.{IsWellFormed}
use Rattle.daggy_base.proofs.OutEdgesRead.{below_bound}
use Rattle.daggy_schedule.specs.Work.{Work}
use Rattle.daggy_schedule.specs.Times.{IsZeroElsewhere}
use Rattle.daggy_schedule.specs.Passes.{later_by}
use Rattle.daggy_schedule.specs.Workers.{Progress, Begins, Finishes, IsTooLate}
use Rattle.daggy_schedule.proofs.Workers.{taken_contains}
use Rattle.daggy_schedule.proofs.Undone.{undone, undone_falls}
use Rattle.daggy_schedule.proofs.Working.{IsWorking, IsStarting, working_from, working_wait, working_begin, working_finish}
use Rattle.daggy_schedule.proofs.Working.{waiting_low, running_low, running_out, working_too_late, working_assigned}
use Rattle.daggy_schedule.proofs.Working.{working_bound, working_busy, working_urgent}
use Rattle.daggy_schedule.proofs.on_workers.work_off.Goals as goal

pub events-init : goal.events-init
events-init g c =
    let graph = c.args.dag.now.graph in
    let plan = c.args.plan.now in
    let bound = c.node_bound.result in
    let is : bound ≡ node_bound graph = c.node_bound.ensures.value ∙ ap node_bound c.graph.ensures.graph in
    let P : Progress → Type 0 = λ z.
    IsWorking graph plan.durations.items plan.starts.items (later_by plan.starts.items plan.slack.items) c.args.count
    c.in_ok-ready.ready z in
    subst P (sym c.in_ok-workers.ensures)
    (working_from graph plan.durations.items plan.starts.items (later_by plan.starts.items plan.slack.items) c.args.count
    c.in_ok-ready.ready bound is c.in_ok-ready.ensures.under_way c.in_ok-ready.ensures.none_out)

pub index-requires : goal.index-requires
index-requires g c =
    let graph = c.args.dag.now.graph in
    let n = g.Ix.IndexType.number c.in-Some.n in
    let given = c.in-Some.ensures in
    let low = below_bound graph.nodes n (given.under_way.out n given.is_out.0).0 in
    omega (arith, low, c.requires.starts, c.index-i.ensures.value)

pub index-requires-in-Some : goal.index-requires-in-Some
index-requires-in-Some g c =
    let graph = c.args.dag.now.graph in
    let n = g.Ix.IndexType.number c.in-Some.n in
    let given = c.in-Some.ensures in
    let low = below_bound graph.nodes n (given.under_way.out n given.is_out.0).0 in
    omega (arith, low, c.requires.slack, c.index-i.ensures.value)

pub overflow_add-index : goal.overflow_add-index
overflow_add-index g c =
    let graph = c.args.dag.now.graph in
    let plan = c.args.plan.now in
    let n = g.Ix.IndexType.number c.in-Some.n in
    let given = c.in-Some.ensures in
    let has = (given.under_way.out n given.is_out.0).0 in
    let low = below_bound graph.nodes n has in
    let starts_size : vec_len plan.starts ≡ length plan.starts.items = search rules in
    let slack_size : vec_len plan.slack ≡ length plan.slack.items = search rules in
    let start : c.index.result.now ≡ get_or plan.starts.items n 0 =
    c.index.ensures
    ∙ (ap (λ z. get_or plan.starts.items z c.index.result.now) c.index-i.ensures.value
    ∙ get_or_default plan.starts.items n c.index.result.now 0 (omega (arith, low, c.requires.starts, starts_size))) in
    let slack : c.index-in-Some.result.now ≡ get_or plan.slack.items n 0 =
    c.index-in-Some.ensures
    ∙ (ap (λ z. get_or plan.slack.items z c.index-in-Some.result.now) c.index-i.ensures.value
    ∙ get_or_default plan.slack.items n c.index-in-Some.result.now 0 (omega (arith, low, c.requires.slack, slack_size))) in
    omega (arith, start, slack, c.requires.latest.met n has)

pub ready-preserved : goal.ready-preserved
ready-preserved g c =
    let graph = c.args.dag.now.graph in
    let plan = c.args.plan.now in
    let n = g.Ix.IndexType.number c.in-Some.n in
    let given = c.in-Some.ensures in
    let has = (given.under_way.out n given.is_out.0).0 in
    let low = below_bound graph.nodes n has in
    let starts_size : vec_len plan.starts ≡ length plan.starts.items = search rules in
    let slack_size : vec_len plan.slack ≡ length plan.slack.items = search rules in
    let start : c.index.result.now ≡ get_or plan.starts.items n 0 =
    c.index.ensures
    ∙ (ap (λ z. get_or plan.starts.items z c.index.result.now) c.index-i.ensures.value
    ∙ get_or_default plan.starts.items n c.index.result.now 0 (omega (arith, low, c.requires.starts, starts_size))) in
    let slack : c.index-in-Some.result.now ≡ get_or plan.slack.items n 0 =
    c.index-in-Some.ensures
    ∙ (ap (λ z. get_or plan.slack.items z c.index-in-Some.result.now) c.index-i.ensures.value
    ∙ get_or_default plan.slack.items n c.index-in-Some.result.now 0 (omega (arith, low, c.requires.slack, slack_size))) in
    record {
      working = working_wait c.ready.invariant.working c.next.new.self c.add.new.self
          (c.index.result.now + c.index-in-Some.result.now) n (omega (arith, start, slack)) c.in_ok-add.ensures given.first
          given.is_out given.out given.done given.under_way;
      same_done = given.done ∙ c.ready.invariant.same_done;
    }

pub begin-init : goal.begin-init
begin-init g c =
    let graph = c.args.dag.now.graph in
    let plan = c.args.plan.now in
    let P : Work → Type 0 = λ z.
    IsStarting graph plan.durations.items plan.starts.items (later_by plan.starts.items plan.slack.items) c.args.count z
    c.ready.workers in
    subst P (sym (c.ready-in-ready.view_is ∙ c.in_default.ensures.unchanged refl)) (record {
      working = c.ready.invariant.working;
      none_ready = c.in_default.ensures.none.0 refl;
    })

pub begin_next-requires-clause-starts : goal.begin_next-requires-clause-starts
begin_next-requires-clause-starts g c n waits =
    let w = c.begin.invariant.working in omega (arith, waiting_low w n waits, w.starts_long)

pub begin_next-requires-clause-workers : goal.begin_next-requires-clause-workers
begin_next-requires-clause-workers g c n waits =
    let w = c.begin.invariant.working in omega (arith, waiting_low w n waits, w.workers_long)

pub begin_next-requires-clause-durations : goal.begin_next-requires-clause-durations
begin_next-requires-clause-durations g c n waits =
    omega (arith, waiting_low c.begin.invariant.working n waits, c.requires.durations, c.as_slice.ensures.len)

pub returns-in_err-begin_next-clause-overflow : goal.returns-in_err-begin_next-clause-overflow
returns-in_err-begin_next-clause-overflow g c is =
    let end = g.Ix.IndexType.greatest in
    let W : Graph _ _ → Type 0 = λ z. IsWellFormed end z in
    let w = subst W c.graph.ensures.graph c.node_bound.ensures.well_formed in
    let P : List ℕ → Type 0 = λ z. IsTooLate z c.begin.workers in
    let error = c.in_err-begin_next.field-0.0 in
    let E : _ → Type 0 = λ z. IsErrAnd z (λ e. e ≡ error) in
    let same : Overflow ≡ error = subst E is c.from_residual-in_err-begin_next.ensures.1 in
    working_too_late c.begin.invariant.working w c.requires.some
    (map g.Ix.IndexType.number c.args.plan.now.critical.items) c.args.plan.now.makespan c.requires.critical c.requires.met
    (subst P c.as_slice.ensures.value (c.in_err-begin_next.ensures.overflow (ap Err (sym same))))

pub begin-smaller : goal.begin-smaller
begin-smaller g c =
    let b = c.in_ok-begin_next.ensures.begun (ap Ok c.if-branch.true) in
    omega (arith, length_permutation c.begin.workers.waiting ((b.key, b.node) ∷ c.begin_next.new.self.waiting) b.taken)

pub begin-preserved : goal.begin-preserved
begin-preserved g c =
    let end = g.Ix.IndexType.greatest in
    let W : Graph _ _ → Type 0 = λ z. IsWellFormed end z in
    let w = subst W c.graph.ensures.graph c.node_bound.ensures.well_formed in
    let B : List ℕ → Type 0 = λ z. Begins z c.args.count c.begin.workers c.begin_next.new.self in
    let b = subst B c.as_slice.ensures.value (c.in_ok-begin_next.ensures.begun (ap Ok c.if-branch.true)) in
    record {
      working = working_begin c.begin.invariant.working w c.begin.invariant.none_ready c.begin_next.new.self b;
      none_ready = c.begin.invariant.none_ready;
    }

pub finish_next-requires : goal.finish_next-requires
finish_next-requires g c =
    let stuck = c.in_ok-begin_next.ensures.stuck (ap Ok c.if-branch.false) in
    let w = c.begin.invariant.working in
    let P : Progress → Type 0 = λ z. (n : ℕ) → Contains (nodes_of z.running) n → n < length z.workers in
    subst P (sym stuck.0) (λ n runs. omega (arith, running_low w n runs, w.workers_long))

pub returns-in_default-2-clause-sized : goal.returns-in_default-2-clause-sized
returns-in_default-2-clause-sized g c =
    let stuck = c.in_ok-begin_next.ensures.stuck (ap Ok c.if-branch.false) in
    let w = c.begin.invariant.working in
    let M : _ → Type 0 = λ z. MatchOption z ((c.begin_next.new.self.running ≡ [])
    × (c.finish_next.new.self ≡ c.begin_next.new.self)) (λ n.
    Finishes (g.Ix.IndexType.number n) c.begin_next.new.self c.finish_next.new.self) in
    let none = subst M c.in_default-2.is c.in_ok-n.ensures in
    let P : Progress → Type 0 = λ z. (length z.starts ≡ node_bound c.args.dag.now.graph)
    × (length z.workers ≡ node_bound c.args.dag.now.graph) in
    subst P (sym (none.1 ∙ stuck.0)) (w.starts_long, w.workers_long)

pub returns-in_default-2-clause-elsewhere : goal.returns-in_default-2-clause-elsewhere
returns-in_default-2-clause-elsewhere g c =
    let stuck = c.in_ok-begin_next.ensures.stuck (ap Ok c.if-branch.false) in
    let w = c.begin.invariant.working in
    let M : _ → Type 0 = λ z. MatchOption z ((c.begin_next.new.self.running ≡ [])
    × (c.finish_next.new.self ≡ c.begin_next.new.self)) (λ n.
    Finishes (g.Ix.IndexType.number n) c.begin_next.new.self c.finish_next.new.self) in
    let none = subst M c.in_default-2.is c.in_ok-n.ensures in
    let P : Progress → Type 0 = λ z. IsZeroElsewhere c.args.dag.now.graph z.starts
    × IsZeroElsewhere c.args.dag.now.graph z.workers in
    subst P (sym (none.1 ∙ stuck.0)) (w.starts_elsewhere, w.workers_elsewhere)

pub returns-in_default-2-clause-assigned : goal.returns-in_default-2-clause-assigned
returns-in_default-2-clause-assigned g c =
    let graph = c.args.dag.now.graph in
    let plan = c.args.plan.now in
    let end = g.Ix.IndexType.greatest in
    let W : Graph _ _ → Type 0 = λ z. IsWellFormed end z in
    let w = subst W c.graph.ensures.graph c.node_bound.ensures.well_formed in
    let stuck = c.in_ok-begin_next.ensures.stuck (ap Ok c.if-branch.false) in
    let M : _ → Type 0 = λ z. MatchOption z ((c.begin_next.new.self.running ≡ [])
    × (c.finish_next.new.self ≡ c.begin_next.new.self)) (λ n.
    Finishes (g.Ix.IndexType.number n) c.begin_next.new.self c.finish_next.new.self) in
    let none = subst M c.in_default-2.is c.in_ok-n.ensures in
    let R : Progress → Type 0 = λ z. z.running ≡ [] in
    let runs = subst R stuck.0 none.0 in
    let P : Progress → Type 0 = λ z. IsAssignment graph plan.durations.items z.starts z.workers c.args.count z.now in
    subst P (sym (none.1 ∙ stuck.0))
    (working_assigned c.begin.invariant.working w c.begin.invariant.none_ready runs stuck.1 c.requires.some)

pub returns-in_default-2-clause-busy : goal.returns-in_default-2-clause-busy
returns-in_default-2-clause-busy g c =
    let graph = c.args.dag.now.graph in
    let plan = c.args.plan.now in
    let end = g.Ix.IndexType.greatest in
    let W : Graph _ _ → Type 0 = λ z. IsWellFormed end z in
    let w = subst W c.graph.ensures.graph c.node_bound.ensures.well_formed in
    let stuck = c.in_ok-begin_next.ensures.stuck (ap Ok c.if-branch.false) in
    let M : _ → Type 0 = λ z. MatchOption z ((c.begin_next.new.self.running ≡ [])
    × (c.finish_next.new.self ≡ c.begin_next.new.self)) (λ n.
    Finishes (g.Ix.IndexType.number n) c.begin_next.new.self c.finish_next.new.self) in
    let none = subst M c.in_default-2.is c.in_ok-n.ensures in
    let R : Progress → Type 0 = λ z. z.running ≡ [] in
    let runs = subst R stuck.0 none.0 in
    let P : Progress → Type 0 = λ z. AreKeptBusy graph plan.durations.items z.starts z.workers c.args.count in
    subst P (sym (none.1 ∙ stuck.0))
    (working_busy c.begin.invariant.working w c.begin.invariant.none_ready runs stuck.1 c.requires.some)

pub returns-in_default-2-clause-urgent : goal.returns-in_default-2-clause-urgent
returns-in_default-2-clause-urgent g c =
    let graph = c.args.dag.now.graph in
    let plan = c.args.plan.now in
    let end = g.Ix.IndexType.greatest in
    let W : Graph _ _ → Type 0 = λ z. IsWellFormed end z in
    let w = subst W c.graph.ensures.graph c.node_bound.ensures.well_formed in
    let stuck = c.in_ok-begin_next.ensures.stuck (ap Ok c.if-branch.false) in
    let M : _ → Type 0 = λ z. MatchOption z ((c.begin_next.new.self.running ≡ [])
    × (c.finish_next.new.self ≡ c.begin_next.new.self)) (λ n.
    Finishes (g.Ix.IndexType.number n) c.begin_next.new.self c.finish_next.new.self) in
    let none = subst M c.in_default-2.is c.in_ok-n.ensures in
    let R : Progress → Type 0 = λ z. z.running ≡ [] in
    let runs = subst R stuck.0 none.0 in
    let P : Progress → Type 0 = λ z. IsMostUrgentFirst graph plan.durations.items z.starts in
    subst P (sym (none.1 ∙ stuck.0)) (record {
      time = plan.makespan;
      latest = later_by plan.starts.items plan.slack.items;
      are_latest = c.requires.latest;
      first = working_urgent c.begin.invariant.working w c.begin.invariant.none_ready runs stuck.1 c.requires.some;
    })

pub returns-in_default-2-clause-bound : goal.returns-in_default-2-clause-bound
returns-in_default-2-clause-bound g c =
    let graph = c.args.dag.now.graph in
    let plan = c.args.plan.now in
    let end = g.Ix.IndexType.greatest in
    let W : Graph _ _ → Type 0 = λ z. IsWellFormed end z in
    let w = subst W c.graph.ensures.graph c.node_bound.ensures.well_formed in
    let stuck = c.in_ok-begin_next.ensures.stuck (ap Ok c.if-branch.false) in
    let M : _ → Type 0 = λ z. MatchOption z ((c.begin_next.new.self.running ≡ [])
    × (c.finish_next.new.self ≡ c.begin_next.new.self)) (λ n.
    Finishes (g.Ix.IndexType.number n) c.begin_next.new.self c.finish_next.new.self) in
    let none = subst M c.in_default-2.is c.in_ok-n.ensures in
    let R : Progress → Type 0 = λ z. z.running ≡ [] in
    let runs = subst R stuck.0 none.0 in
    let P : Progress → Type 0 = λ z. IsWithinBound graph plan.durations.items c.args.count z.now in
    subst P (sym (none.1 ∙ stuck.0))
    (working_bound c.begin.invariant.working w c.begin.invariant.none_ready runs stuck.1 c.requires.some
    (map g.Ix.IndexType.number plan.critical.items) plan.makespan c.requires.critical c.requires.met)

pub returns-in_default-2-clause-near_best : goal.returns-in_default-2-clause-near_best
returns-in_default-2-clause-near_best g c =
    let graph = c.args.dag.now.graph in
    let plan = c.args.plan.now in
    let end = g.Ix.IndexType.greatest in
    let W : Graph _ _ → Type 0 = λ z. IsWellFormed end z in
    let w = subst W c.graph.ensures.graph c.node_bound.ensures.well_formed in
    let stuck = c.in_ok-begin_next.ensures.stuck (ap Ok c.if-branch.false) in
    let M : _ → Type 0 = λ z. MatchOption z ((c.begin_next.new.self.running ≡ [])
    × (c.finish_next.new.self ≡ c.begin_next.new.self)) (λ n.
    Finishes (g.Ix.IndexType.number n) c.begin_next.new.self c.finish_next.new.self) in
    let none = subst M c.in_default-2.is c.in_ok-n.ensures in
    let R : Progress → Type 0 = λ z. z.running ≡ [] in
    let runs = subst R stuck.0 none.0 in
    let P : Progress → Type 0 = λ z. IsNearBest graph plan.durations.items c.args.count z.now in
    subst P (sym (none.1 ∙ stuck.0))
    (near_best c.topological_order-order.result c.topological_order-order.ensures.ordered c.requires.some
    (working_bound c.begin.invariant.working w c.begin.invariant.none_ready runs stuck.1 c.requires.some
    (map g.Ix.IndexType.number plan.critical.items) plan.makespan c.requires.critical c.requires.met))

pub done-requires-clause-out : goal.done-requires-clause-out
done-requires-clause-out g c =
    let graph = c.args.dag.now.graph in
    let plan = c.args.plan.now in
    let stuck = c.in_ok-begin_next.ensures.stuck (ap Ok c.if-branch.false) in
    let n = g.Ix.IndexType.number c.in-Some-2.n in
    let M : _ → Type 0 = λ z. MatchOption z ((c.begin_next.new.self.running ≡ [])
    × (c.finish_next.new.self ≡ c.begin_next.new.self)) (λ n.
    Finishes (g.Ix.IndexType.number n) c.begin_next.new.self c.finish_next.new.self) in
    let F : Progress → Type 0 = λ z. Finishes n z c.finish_next.new.self in
    let ends = subst F stuck.0 (subst M c.in-Some-2.is c.in_ok-n.ensures) in
    let I : Work → Type 0 = λ z.
    IsStarting graph plan.durations.items plan.starts.items (later_by plan.starts.items plan.slack.items) c.args.count z
    c.begin.workers in
    let s = subst I c.ready-in-ready.view_is c.begin.invariant in
    running_out s.working n
    (taken_contains c.begin.workers.running c.finish_next.new.self.running c.finish_next.new.self.now n ends.taken)

pub events-smaller : goal.events-smaller
events-smaller g c =
    let graph = c.args.dag.now.graph in
    let plan = c.args.plan.now in
    let stuck = c.in_ok-begin_next.ensures.stuck (ap Ok c.if-branch.false) in
    let n = g.Ix.IndexType.number c.in-Some-2.n in
    let M : _ → Type 0 = λ z. MatchOption z ((c.begin_next.new.self.running ≡ [])
    × (c.finish_next.new.self ≡ c.begin_next.new.self)) (λ n.
    Finishes (g.Ix.IndexType.number n) c.begin_next.new.self c.finish_next.new.self) in
    let F : Progress → Type 0 = λ z. Finishes n z c.finish_next.new.self in
    let ends = subst F stuck.0 (subst M c.in-Some-2.is c.in_ok-n.ensures) in
    let I : Work → Type 0 = λ z.
    IsStarting graph plan.durations.items plan.starts.items (later_by plan.starts.items plan.slack.items) c.args.count z
    c.begin.workers in
    let s = subst I c.ready-in-ready.view_is c.begin.invariant in
    let out = running_out s.working n
    (taken_contains c.begin.workers.running c.finish_next.new.self.running c.finish_next.new.self.now n ends.taken) in
    let low = below_bound graph.nodes n (s.working.under.out n out.0).0 in
    let falls = undone_falls c.next.new.self.done c.done.new.self.done n c.done.ensures.done (node_bound graph) low out.1 in
    let same = ap (λ z. z.done) (c.in_default.ensures.unchanged refl) ∙ c.ready.invariant.same_done in
    omega (arith, falls, ap (undone (node_bound graph)) same)

pub events-preserved : goal.events-preserved
events-preserved g c =
    let graph = c.args.dag.now.graph in
    let plan = c.args.plan.now in
    let end = g.Ix.IndexType.greatest in
    let W : Graph _ _ → Type 0 = λ z. IsWellFormed end z in
    let w = subst W c.graph.ensures.graph c.node_bound.ensures.well_formed in
    let stuck = c.in_ok-begin_next.ensures.stuck (ap Ok c.if-branch.false) in
    let n = g.Ix.IndexType.number c.in-Some-2.n in
    let M : _ → Type 0 = λ z. MatchOption z ((c.begin_next.new.self.running ≡ [])
    × (c.finish_next.new.self ≡ c.begin_next.new.self)) (λ n.
    Finishes (g.Ix.IndexType.number n) c.begin_next.new.self c.finish_next.new.self) in
    let F : Progress → Type 0 = λ z. Finishes n z c.finish_next.new.self in
    let ends = subst F stuck.0 (subst M c.in-Some-2.is c.in_ok-n.ensures) in
    let I : Work → Type 0 = λ z.
    IsStarting graph plan.durations.items plan.starts.items (later_by plan.starts.items plan.slack.items) c.args.count z
    c.begin.workers in
    let s = subst I c.ready-in-ready.view_is c.begin.invariant in
    working_finish s.working w c.requires.earliest.feasible s.none_ready stuck.1 c.done.new.self c.finish_next.new.self n ends
    c.done.ensures.done c.done.ensures.out c.done.ensures.ready c.done.ensures.under_way

pub begin_next-requires-clause-ends : goal.begin_next-requires-clause-ends
begin_next-requires-clause-ends g c = c.begin.invariant.working.shift.ends
