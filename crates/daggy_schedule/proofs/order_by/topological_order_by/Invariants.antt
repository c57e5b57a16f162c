use Rattle.std.proofs.Common.{◌-◌, length, map}
use Rattle.daggy_base.specs.Graph.{node_bound}
use Rattle.daggy_schedule.specs.Work.{IsUnderWay}
use Rattle.daggy_schedule.specs.LeastFirst.{IsKeyOf}
use Rattle.daggy_schedule.proofs.Ordering.{IsOrdering}
use Rattle.daggy_schedule.proofs.order_by.topological_order_by.Given as goal

abbrev pub invariant-order : goal.invariant-order
invariant-order g l =
    record {
      under_way : IsUnderWay l.dag.graph l.ready;
      ordering : IsOrdering g.K.Ord.cmp (IsKeyOf g.Ix.IndexType.of (goal.F-post g) l.key l.dag.graph) l.dag.graph l.ready
          l.candidates.items (map g.Ix.IndexType.number l.order.items);
    }

abbrev pub decreases-order : goal.decreases-order
decreases-order g l = node_bound l.dag.graph - length l.order.items

abbrev pub invariant-ready : goal.invariant-ready
invariant-ready g l =
    record {
      under_way : IsUnderWay l.dag.graph l.ready;
      ordering : IsOrdering g.K.Ord.cmp (IsKeyOf g.Ix.IndexType.of (goal.F-post g) l.key l.dag.graph) l.dag.graph l.ready
          l.candidates.items (map g.Ix.IndexType.number l.order.items);
    }

abbrev pub decreases-ready : goal.decreases-ready
decreases-ready g l = length l.ready.ready
