use Rattle.std.proofs.Common.{◌≤◌, length, vec_capacity}
use Rattle.daggy_cells.specs.Raw.{raw_first}
use Rattle.daggy_stable.specs.Stored.{weight_of}
use Rattle.daggy_cells.proofs.MappedSlots.{MappedBelow}
use Rattle.daggy_stable.proofs.stable_graph.map.map_nodes.Given as goal

abbrev pub invariant-each : goal.invariant-each
invariant-each g l =
    record {
      below : MappedBelow g.Ix.IndexType.of (goal.F-pre g) (goal.F-step g) (λ w. w) (λ w v. v) weight_of weight_of
          raw_first raw_first l.fn.f l.nodes l.f l.new.items l.i;
      capacity : length l.nodes ≤ vec_capacity l.new;
    }
