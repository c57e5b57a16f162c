use Rattle.std.proofs.Common.{◌∙◌, length, sym, ap}
use Rattle.std.specs.List.{range_with_len}
use Rattle.daggy_schedule.specs.Work.{is_set}
use Rattle.daggy_schedule.specs.Fallible.{set_count}
use Rattle.daggy_schedule.proofs.Counts.{count_is}
use Rattle.daggy_schedule.proofs.fallible_ready.FallibleReady.failed_count.Goals as goal

pub returns : goal.returns
returns g c =
    let failed = c.self.inside.failed.items in
    c.self.invariant.failures_is
    ∙ (sym (count_is (is_set failed) (range_with_len 0 (length failed))) ∙ ap (λ z. set_count z.failed) c.self.view_is)
