use Rattle.std.proofs.Common.{◌≡◌, ◌≤◌, map, length, vec_capacity}
use Rattle.daggy_stable.specs.Stored.{weight_of}
use Rattle.daggy_stable.specs.Building.{IsBuilt}
use Rattle.daggy_stable.proofs.KeptSlots.{KeptSlots}
use Rattle.daggy_base.proofs.CallsInTurn.{CanCallFrom}
use Rattle.daggy_stable.proofs.stable_graph.filter.filter_nodes.Given as goal

abbrev pub invariant-each : goal.invariant-each
invariant-each g l =
    record {
      callable : CanCallFrom g.Ix.IndexType.of (goal.F-pre g) (goal.F-step g) (λ w. w) (map weight_of l.nodes) l.f l.i;
      capacity : length l.nodes ≤ vec_capacity l.new.cells;
      count : length l.new.cells.items ≡ l.i;
      stored : IsBuilt g.Ix.IndexType.greatest l.new l.edges;
      kept : KeptSlots (goal.F-step g) g.Ix.IndexType.of (λ w. w) (λ w v. v) l.fn.f (map weight_of l.nodes) l.f
          (map weight_of l.new.cells.items) l.i;
    }
