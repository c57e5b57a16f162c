use Rattle.std.proofs.Common.{◌≡◌, vec_len}
use Rattle.daggy_base.specs.Weights.{edge_weight}
use Rattle.daggy_schedule.specs.Lags.{IsZeroWithoutEdge}
use Rattle.daggy_schedule.proofs.Durations.{AreBelow}
use Rattle.daggy_schedule.proofs.schedule.lags.lags_of.Given as goal

abbrev pub invariant-edges : goal.invariant-edges
invariant-edges g l =
    record {
      sized : vec_len l.lags ≡ l.bound;
      called : AreBelow g.Ix.IndexType.of (goal.L-post g) l.f (edge_weight (g.S.EdgeSource.graph l.store)) l.i l.lags.items;
      elsewhere : IsZeroWithoutEdge (g.S.EdgeSource.graph l.store) l.lags.items;
    }
