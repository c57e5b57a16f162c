use Rattle.std.proofs.Common.{◌≡◌, ◌∙◌, ◌↔◌, ℕ, List, Bool, map, sym, subst, ap, length, Contains}
use Rattle.std.specs.List.{filter, range_with_len}
use Rattle.std.specs.List.Sorted.{IsStrictlyIncreasing}
use Rattle.std.proofs.lemmas.Result.{IfOk-weaker}
use Rattle.daggy_base.specs.Graph.{HasNode}
use Rattle.daggy_schedule.specs.Work.{IsSet, is_set}
use Rattle.daggy_schedule.specs.Fallible.{IsOver, IsSkipped}
use Rattle.daggy_schedule.specs.Queue.{IsBelowFailed}
use Rattle.daggy_schedule.proofs.Skipping.{taken_set, taken_ascend, below_skipped, skipped_below, over_skipped}
use Rattle.daggy_schedule.proofs.fallible_ready.FallibleReady.skipped.Given.{Over}
use Rattle.daggy_schedule.proofs.fallible_ready.FallibleReady.skipped.Goals.{After-set_indices}
use Rattle.daggy_schedule.proofs.fallible_ready.FallibleReady.skipped.Goals as goal

-- the flags that are collected are those of the skipped nodes
exact : (g : Over) (c : After-set_indices g) (ns : List ℕ)
    → ns ≡ filter (is_set c.as_slice-2.result.now) (range_with_len 0 (length c.as_slice-2.result.now))
    → (n : ℕ) → Contains ns n ↔ IsSkipped c.args.dag.now.graph c.args.self.now n
exact g c ns is n =
    let graph = c.args.dag.now.graph in
    let w = c.node_count-count.ensures.dag.well_formed in
    let flags = c.as_slice-2.result.now in
    let listed = subst (λ (z : List ℕ). Contains z n ↔ IsSet flags n) (sym is) (taken_set flags n) in
    let marked = subst (λ (z : List Bool). IsSet z n ↔ IsBelowFailed graph c.as_slice.result.now n) (sym c.as_slice-2.ensures.value)
    (c.in_ok-marks.ensures.marked n) in
    let failed : c.as_slice.result.now ≡ c.args.self.now.failed = c.as_slice.ensures.value ∙ ap (λ z. z.failed) c.self.view_is in
    let below = subst (λ (z : List Bool). IsSet flags n ↔ IsBelowFailed graph z n) failed marked in (
      λ h. below_skipped w c.requires n (below.0 (listed.0 h)),
      λ k. listed.1 (below.1 (skipped_below w c.requires n k)),
    )

pub returns-clause-exact : goal.returns-clause-exact
returns-clause-exact g c =
    let number = g.Ix.IndexType.number in
    let at = (goal.at.returns-clause-exact g c).After-set_indices in
    IfOk-weaker c.set_indices.result _ (λ nodes. (n : ℕ) → Contains (map number nodes.items) n
    ↔ IsSkipped c.args.dag.now.graph c.args.self.now n) (λ nodes is. exact g at (map number nodes.items) is) c.set_indices.ensures

pub returns-clause-ascending : goal.returns-clause-ascending
returns-clause-ascending g c =
    let number = g.Ix.IndexType.number in
    IfOk-weaker c.set_indices.result _ (λ nodes. IsStrictlyIncreasing (map number nodes.items)) (λ nodes is.
    subst (λ (z : List ℕ). IsStrictlyIncreasing z) (sym is) (taken_ascend c.as_slice-2.result.now)) c.set_indices.ensures

pub returns-clause-over : goal.returns-clause-over
returns-clause-over g c =
    let number = g.Ix.IndexType.number in
    let graph = c.args.dag.now.graph in
    let at = (goal.at.returns-clause-over g c).After-set_indices in
    IfOk-weaker c.set_indices.result _ (λ nodes. IsOver c.args.self.now → (n : ℕ) → Contains (map number nodes.items) n
    ↔ (HasNode graph n × ¬ IsSet c.args.self.now.work.out n)) (λ nodes is over n.
    (let left = over_skipped c.node_count-count.ensures.dag.well_formed c.requires over c.topological_order-order.result
    c.topological_order-order.ensures.ordered n in
    let here = exact g at (map number nodes.items) is n in (
      λ h. left.0 (here.0 h),
      λ r. here.1 (left.1 r),
    ))) c.set_indices.ensures
