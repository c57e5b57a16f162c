use Rattle.std.proofs.Common.{◌≡◌, ◌≤◌, map, length, vec_capacity}
use Rattle.daggy_base.specs.FilteringInPlace.{if_ends_exist}
use Rattle.daggy_base.specs.Mapping.{weight_in, with_weight}
use Rattle.daggy_stable.specs.Stored.{weight_of, plain_edge}
use Rattle.daggy_stable.specs.Building.{IsBuilt}
use Rattle.daggy_stable.proofs.KeptSlots.{KeptSlots}
use Rattle.daggy_base.proofs.CallsInTurn.{CanCallSomeFrom}
use Rattle.daggy_stable.proofs.stable_graph.filter.filter_edges.Given as goal

abbrev pub invariant-each : goal.invariant-each
invariant-each g l =
    record {
      callable : CanCallSomeFrom g.Ix.IndexType.of (goal.G-pre g) (goal.G-step g) weight_in (map plain_edge l.edges)
          l.g l.i;
      capacity : length l.edges ≤ vec_capacity l.new.cells;
      count : length l.new.cells.items ≡ l.i;
      stored : IsBuilt g.Ix.IndexType.greatest l.nodes l.new;
      nodes : map weight_of l.nodes.cells.items ≡ map weight_of l.fn.nodes.cells.items;
      kept : KeptSlots (goal.G-step g) g.Ix.IndexType.of weight_in with_weight l.fn.g
          (map (λ x. if_ends_exist (map weight_of l.fn.nodes.cells.items) (plain_edge x)) l.edges) l.g
          (map plain_edge l.new.cells.items) l.i;
    }
