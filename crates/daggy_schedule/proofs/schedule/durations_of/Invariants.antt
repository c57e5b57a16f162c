use Rattle.std.proofs.Common.{◌≡◌, vec_len}
use Rattle.daggy_base.specs.Graph.{node_weight}
use Rattle.daggy_schedule.specs.Times.{IsZeroElsewhere}
use Rattle.daggy_schedule.proofs.Durations.{AreBelow}
use Rattle.daggy_schedule.proofs.schedule.durations_of.Given as goal

abbrev pub invariant-nodes : goal.invariant-nodes
invariant-nodes g l =
    record {
      sized : vec_len l.durations ≡ l.bound;
      called : AreBelow g.Ix.IndexType.of (goal.F-post g) l.f (node_weight (g.S.EdgeSource.graph l.store)) l.i
          l.durations.items;
      elsewhere : IsZeroElsewhere (g.S.EdgeSource.graph l.store) l.durations.items;
    }
