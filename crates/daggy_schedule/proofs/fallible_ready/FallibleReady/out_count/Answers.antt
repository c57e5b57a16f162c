use Rattle.std.proofs.Common.{ap, arith}
use Rattle.daggy_schedule.specs.Fallible.{in_progress_count}
use Rattle.daggy_schedule.proofs.Tallies.{out_parted}
use Rattle.daggy_schedule.proofs.fallible_ready.FallibleReady.out_count.Goals as goal

pub overflow_sub-result : goal.overflow_sub-result
overflow_sub-result g c = omega (arith, out_parted c.self.invariant, c.out_count.ensures)

pub returns : goal.returns
returns g c =
    omega (arith, out_parted c.self.invariant, c.out_count.ensures, ap in_progress_count c.self.view_is)
