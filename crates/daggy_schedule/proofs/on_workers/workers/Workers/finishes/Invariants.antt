use Rattle.std.proofs.Common.{◌≡◌, ◌+◌, ◌<◌, ℕ, vec_len, get_or}
use Rattle.daggy_schedule.proofs.on_workers.workers.Workers.finishes.Given as goal

abbrev pub invariant-nodes : goal.invariant-nodes
invariant-nodes g l =
    record {
      sized : vec_len l.finishes ≡ l.i;
      each : (k : ℕ) → k < l.i → get_or l.finishes.items k 0 ≡ get_or l.self.starts k 0 + get_or l.durations k 0;
    }
