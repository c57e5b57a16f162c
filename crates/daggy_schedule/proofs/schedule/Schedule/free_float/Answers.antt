use Rattle.std.proofs.Common.{◌+◌, ℕ, List, IfOk, get_or, sym, subst}
use Rattle.std.proofs.lemmas.Result.{IfOk-weaker}
use Rattle.daggy_base.specs.Graph.{HasNode}
use Rattle.daggy_schedule.specs.Passes.{AreInTime, IsLatestFinish}
use Rattle.daggy_schedule.proofs.Float.{in_time, is_free_float, at_most_slack}
use Rattle.daggy_schedule.proofs.schedule.Schedule.free_float.Given.{Over}
use Rattle.daggy_schedule.proofs.schedule.Schedule.free_float.Goals.{After-float_of}
use Rattle.daggy_schedule.proofs.schedule.Schedule.free_float.Goals as goal

pub float_of-requires-clause-in_time : goal.float_of-requires-clause-in_time
float_of-requires-clause-in_time g c =
    let P : List ℕ → List ℕ → List ℕ → Type 0 = λ l s f. AreInTime c.args.dag.now.graph l s f c.args.self.now.makespan in
    subst (λ l. P l c.as_slice-2.result.now c.as_slice-3.result.now) (sym c.as_slice.ensures.value)
    (subst (λ s. P c.args.self.now.lags.items s c.as_slice-3.result.now) (sym c.as_slice-2.ensures.value)
    (subst (P c.args.self.now.lags.items c.args.self.now.starts.items) (sym c.as_slice-3.ensures.value) (in_time c.requires)))

-- the latest finishes, by the lists of the schedule
latest : (g : Over) (c : After-float_of g) → IfOk c.float_of.result (λ float. (n : ℕ) → HasNode c.args.dag.now.graph n
    → IsLatestFinish c.args.dag.now.graph n c.args.self.now.lags.items (λ v. get_or c.args.self.now.starts.items v 0)
    c.args.self.now.makespan (get_or c.args.self.now.finishes.items n 0 + get_or float.items n 0))
latest g c =
    let P : List ℕ → List ℕ → List ℕ → Type 0 = λ l s f.
    IfOk c.float_of.result (λ float. (n : ℕ) → HasNode c.args.dag.now.graph n
    → IsLatestFinish c.args.dag.now.graph n l (λ v. get_or s v 0) c.args.self.now.makespan
    (get_or f n 0 + get_or float.items n 0)) in
    subst (λ l. P l c.args.self.now.starts.items c.args.self.now.finishes.items) c.as_slice.ensures.value
    (subst (λ s. P c.as_slice.result.now s c.args.self.now.finishes.items) c.as_slice-2.ensures.value
    (subst (P c.as_slice.result.now c.as_slice-2.result.now) c.as_slice-3.ensures.value c.float_of.ensures.latest))

pub returns-clause-free_float : goal.returns-clause-free_float
returns-clause-free_float g c =
    IfOk-weaker c.float_of.result _ _ (λ float late n h. is_free_float c.requires (get_or float.items n 0) h (late n h))
    (latest g (goal.at.returns-clause-free_float g c).After-float_of)

pub returns-clause-at_most_slack : goal.returns-clause-at_most_slack
returns-clause-at_most_slack g c =
    IfOk-weaker c.float_of.result _ _ (λ float late n h. at_most_slack c.requires (get_or float.items n 0) h (late n h))
    (latest g (goal.at.returns-clause-at_most_slack g c).After-float_of)
