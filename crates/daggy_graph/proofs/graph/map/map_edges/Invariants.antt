use Rattle.std.proofs.Common.{◌≤◌, length, vec_capacity}
use Rattle.daggy_base.specs.Mapping.{weight_in, with_weight}
use Rattle.daggy_cells.specs.Fields.{plain_edge}
use Rattle.daggy_cells.proofs.MappedSlots.{link_or_end, MappedBelow}
use Rattle.daggy_graph.proofs.graph.map.map_edges.Given as goal

abbrev pub invariant-each : goal.invariant-each
invariant-each g l =
    record {
      below : MappedBelow g.Ix.IndexType.of (goal.G-pre g) (goal.G-step g) weight_in with_weight plain_edge plain_edge
          link_or_end link_or_end l.fn.g l.edges l.g l.new.items l.i;
      capacity : length l.edges ≤ vec_capacity l.new;
    }
