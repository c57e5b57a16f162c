use Rattle.std.proofs.Common.{◌≤◌, length, vec_capacity}
use Rattle.daggy_base.specs.Mapping.{weight_in, with_weight}
use Rattle.daggy_cells.specs.Raw.{raw_next}
use Rattle.daggy_stable.specs.Stored.{plain_edge}
use Rattle.daggy_cells.proofs.MappedSlots.{MappedBelow}
use Rattle.daggy_stable.proofs.stable_graph.map.map_edges.Given as goal

abbrev pub invariant-each : goal.invariant-each
invariant-each g l =
    record {
      below : MappedBelow g.Ix.IndexType.of (goal.G-pre g) (goal.G-step g) weight_in with_weight plain_edge plain_edge
          raw_next raw_next l.fn.g l.edges l.g l.new.items l.i;
      capacity : length l.edges ≤ vec_capacity l.new;
    }
