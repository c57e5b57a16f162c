use Rattle.std.proofs.Common.{◌≡◌, length, vec_len}
use Rattle.daggy_base.specs.Graph.{node_bound}
use Rattle.daggy_schedule.specs.Times.{IsZeroElsewhere}
use Rattle.daggy_schedule.proofs.Timing.{IsTiming}
use Rattle.daggy_schedule.proofs.schedule.early.earliest.Given as goal

abbrev pub invariant-nodes : goal.invariant-nodes
invariant-nodes g l =
    record {
      starts_sized : vec_len l.starts ≡ node_bound (g.S.EdgeSource.graph l.store);
      parents_sized : vec_len l.parents ≡ node_bound (g.S.EdgeSource.graph l.store);
      finishes_sized : vec_len l.finishes ≡ node_bound (g.S.EdgeSource.graph l.store);
      starts_elsewhere : IsZeroElsewhere (g.S.EdgeSource.graph l.store) l.starts.items;
      finishes_elsewhere : IsZeroElsewhere (g.S.EdgeSource.graph l.store) l.finishes.items;
      timing : IsTiming g.Ix.IndexType.greatest (g.S.EdgeSource.graph l.store) l.durations l.lags l.starts.items
          l.parents.items l.finishes.items l.makespan (g.Ix.IndexType.number l.last) l.nodes;
    }

abbrev pub decreases-nodes : goal.decreases-nodes
decreases-nodes g l = length l.nodes
