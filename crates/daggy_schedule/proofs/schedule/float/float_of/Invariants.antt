use Rattle.std.proofs.Common.{◌≡◌, vec_len}
use Rattle.daggy_schedule.specs.Times.{IsZeroElsewhere}
use Rattle.daggy_schedule.proofs.Float.{AreFloating}
use Rattle.daggy_schedule.proofs.schedule.float.float_of.Given as goal

abbrev pub invariant-nodes : goal.invariant-nodes
invariant-nodes g l =
    record {
      sized : vec_len l.float ≡ l.bound;
      floating : AreFloating l.dag.graph l.lags l.starts l.finishes l.makespan l.float.items l.i;
      elsewhere : IsZeroElsewhere l.dag.graph l.float.items;
    }
