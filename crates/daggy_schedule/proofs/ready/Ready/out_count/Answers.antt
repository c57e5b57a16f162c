use Rattle.std.proofs.Common.{◌∙◌, ap}
use Rattle.daggy_schedule.specs.Work.{out_count}
use Rattle.daggy_schedule.proofs.Tallies.{few_finished, out_counted}
use Rattle.daggy_schedule.proofs.ready.Ready.out_count.Goals as goal

pub overflow_sub-result : goal.overflow_sub-result
overflow_sub-result g c = few_finished c.self.invariant

pub returns : goal.returns
returns g c = out_counted c.self.invariant ∙ ap out_count c.self.view_is
