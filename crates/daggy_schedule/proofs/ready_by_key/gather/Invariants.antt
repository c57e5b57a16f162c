use Rattle.std.proofs.Common.{length}
use Rattle.daggy_schedule.proofs.Gathered.{IsGathering}
use Rattle.daggy_schedule.proofs.ready_by_key.gather.Given as goal

abbrev pub invariant-ready : goal.invariant-ready
invariant-ready g l =
    record {
      gathering : IsGathering l.dag.graph l.fn.ready l.fn.keys.items l.fn.candidates.items l.ready l.keys.items l.candidates.items
          l.candidates.capacity;
    }

abbrev pub decreases-ready : goal.decreases-ready
decreases-ready g l = length l.ready.ready
