use Rattle.std.proofs.Common.{◌≡◌, ◌⊎◌, ◌+◌, ℕ, [], Some, Err, map, IsSome, is_some, inl, inr, slice_index, sym, ap, subst, ◌∙◌}
use Rattle.std.specs.Result.{IsErrAnd}
use Rattle.daggy_base.specs.Graph.{HasNode, node_weight, node_bound}
use Rattle.daggy_base.specs.Path.{IsPath}
use Rattle.daggy_schedule.specs.Times.{AreEarliest, AreLatest, IsMakespan, IsCritical, IsTracedBack, TakesTooLong}
use Rattle.daggy_schedule.specs.declared.schedule.ScheduleError.TheVariants.{Overflow}
use Rattle.daggy_named.specs.Naming.{key_at}
use Rattle.daggy_named.specs.Planned.{keys_in}
use Rattle.daggy_named.specs.Scheduled.{IsScheduleByKey}
use Rattle.daggy_named.proofs.Durations.{node_fits, durations_by_key}
use Rattle.daggy_named.proofs.NamedNodes.{each_number, has_key}
use Rattle.daggy_named.proofs.PlansByKey.{chain_exists}
use Rattle.daggy_named.proofs.named.Named.schedule.Given.{Over}
use Rattle.daggy_named.proofs.named.Named.schedule.Goals.{After-self, After-as_slice, In_ok-critical}
use Rattle.daggy_named.proofs.named.Named.schedule.Goals as goal

same : (g : Over) (c : After-self g) → c.self.inside.dag.graph ≡ c.args.self.now.graph
same g c = ap (λ s. s.graph) c.self.view_is

back : (g : Over) (c : After-self g) (n : ℕ) → HasNode c.args.self.now.graph n
    → g.Ix.IndexType.number (g.Ix.IndexType.of n) ≡ n
back g c n has =
    g.met.Ix.IndexType.number_of n (node_fits c.args.self.now.graph c.node_count-count.ensures.dag.well_formed n has)

pub new-requires : goal.new-requires
new-requires g c =
    λ n w is low shown shows.
    let at = (goal.at.new-requires g c).After-self in
    let s = c.args.self.now in
    let here : node_weight s.graph n ≡ Some w = sym (ap (λ z. node_weight z n) (same g at)) ∙ is in
    let fits = back g at n (ap is_some here) in
    let exact = c.node_count-count.ensures.named.exact in (
      subst (λ m. IsSome (key_at s.keys m)) (sym fits) (has_key s.keys s.graph exact n (ap is_some here)),
      λ key named. c.requires n key shown (subst (λ m. key_at s.keys m ≡ Some key.now) fits named) (here ∙ ap Some (sym shows)),
    )

pub returns-in_err-times-clause-overflow : goal.returns-in_err-times-clause-overflow
returns-in_err-times-clause-overflow g c is =
    let at = (goal.at.returns-in_err-times-clause-overflow g c).After-self in
    let s = c.args.self.now in
    let is_error : _ → Type 0 = λ z. IsErrAnd z (λ e. e ≡ c.in_err-times.field-0.0) in
    let error : Overflow ≡ c.in_err-times.field-0.0 = subst is_error is c.from_residual.ensures.1 in
    let h = c.in_err-times.ensures.overflow (ap Err (sym error)) in (
      h.0,
      durations_by_key g.Ix.IndexType.number g.Ix.IndexType.of (goal.F-post g) c.args.duration s (back g at) h.0
          (λ n w here. let d = h.1 n w (ap (λ z. node_weight z n) (same g at) ∙ here) in (d.0, d.1, d.2.1)),
      subst (λ z. TakesTooLong z h.0) (same g at) h.2,
    )

pub keys_of-requires : goal.keys_of-requires
keys_of-requires g c =
    let at = (goal.at.keys_of-requires g c).After-self in
    let graph = c.args.self.now.graph in
    let number = g.Ix.IndexType.number in
    let nodes = c.in_ok-times.times.critical.items in
    let critical = subst (λ z. IsCritical z c.in_ok-times.times.durations.items (map number nodes) c.in_ok-times.times.makespan)
    (same g at) c.in_ok-times.ensures.critical in
    let path = map number nodes in
    let along : (path ≡ []) ⊎ IsPath graph path = elim critical.path [ inl p ↦ inr p | inr none ↦ inl none.0 ] in
    rw c.as_slice.ensures.value (each_number (HasNode graph) number nodes (chain_exists graph path along))

abbrev first : (g : Over) → In_ok-critical g → After-self g
first g c = (goal.at.invariant_of-result g c).After-self

scheduled : (g : Over) (c : In_ok-critical g) → IsScheduleByKey (record {
  named = c.args.self.now;
  durations = c.in_ok-times.times.durations.items;
  starts = c.in_ok-times.times.starts.items;
  finishes = c.in_ok-times.times.finishes.items;
  slack = c.in_ok-times.times.slack.items;
  critical = keys_in c.in_ok-critical.critical.items;
  makespan = c.in_ok-times.times.makespan;
})
scheduled g c =
    let at = first g c in
    let number = g.Ix.IndexType.number in
    let times = c.in_ok-times.times in
    let given = c.in_ok-times.ensures in
    let durations = times.durations.items in
    let starts = slice_index times.starts.items in
    let path = map number times.critical.items in
    record {
      path = path;
      path_named = rw (← c.as_slice.ensures.value) c.in_ok-critical.ensures;
      starts = subst (λ z. AreEarliest z durations starts) (same g at) given.starts;
      finishes =
          subst (λ z. (n : ℕ) → HasNode z n → slice_index times.finishes.items n ≡ starts n + slice_index durations n) (same g at)
          given.finishes;
      makespan = subst (λ z. IsMakespan z durations starts times.makespan) (same g at) given.makespan;
      slack =
          subst (λ z. AreLatest z durations (λ n. starts n + slice_index times.slack.items n) times.makespan) (same g at) given.slack;
      along = subst (λ z. IsCritical z durations path times.makespan) (same g at) given.critical;
      traced_back = subst (λ z. IsTracedBack z (slice_index times.finishes.items) path) (same g at) given.traced_back;
    }

pub invariant_of-result : goal.invariant_of-result
invariant_of-result g c =
    let at = first g c in
    let sized = c.in_ok-times.ensures.sized in (
      scheduled g c,
      sized.1 ∙ ap node_bound (same g at),
      sized.3 ∙ ap node_bound (same g at),
    )

pub returns-clause-durations : goal.returns-clause-durations
returns-clause-durations g c =
    let at = (goal.at.returns-clause-durations g c).After-self in
    durations_by_key g.Ix.IndexType.number g.Ix.IndexType.of (goal.F-post g) c.args.duration c.args.self.now (back g at)
    c.in_ok-times.times.durations.items
    (λ n w here.
    let d = c.in_ok-times.ensures.durations n w (ap (λ z. node_weight z n) (same g at) ∙ here) in
    (d.0, d.1, d.2.1))

pub returns-clause-schedule : goal.returns-clause-schedule
returns-clause-schedule g c = scheduled g (goal.at.returns-clause-schedule g c).In_ok-critical
