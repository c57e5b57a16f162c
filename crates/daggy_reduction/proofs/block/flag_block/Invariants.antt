use Rattle.std.proofs.Common.{◌≡◌, ℕ, ◌+◌, ◌*◌, ◌≤◌, length, map, take}
use Rattle.daggy_reduction.specs.Blocks.{segment_length, arcs_in}
use Rattle.daggy_reduction.proofs.BlockFlags.{Working, Onward}
use Rattle.daggy_reduction.proofs.block.flag_block.Given as goal

abbrev pub invariant-nodes : goal.invariant-nodes
invariant-nodes g l =
    record {
      working : Working record {
        number = g.Ix.IndexType.number;
        end = g.Ix.IndexType.greatest;
        graph = g.S.EdgeSource.graph l.fn.source;
        nodes = take l.fn.count l.fn.work.nodes;
        places = l.fn.work.cursors;
        low = l.block.low;
        high = l.block.high;
        room = length l.fn.rows;
        segments = length l.fn.segments;
        flags = map g.Ix.IndexType.number l.fn.flags;
      } record {
        rows = l.rows;
        arcs = l.arcs;
        segments = l.segments;
        flags = map g.Ix.IndexType.number l.flags;
        left = l.k;
      };
      from : l.fn.start.first ≤ l.k;
      onward : Onward (g.S.EdgeSource.graph l.fn.source) (take l.fn.count l.fn.work.nodes) l.fn.work.cursors l.block.high
          l.k l.first;
      shorter : (k : ℕ) → segment_length l.segments k ≤ segment_length l.fn.segments k;
      same : g.S.EdgeSource.graph l.source ≡ g.S.EdgeSource.graph l.fn.source;
      looked : g.S.EdgeSource.looks l.fn.source ≤ g.S.EdgeSource.looks l.source;
      paid : g.S.EdgeSource.looks l.source + 2 * arcs_in l.fn.segments l.k
          ≤ g.S.EdgeSource.looks l.fn.source + 2 * arcs_in l.fn.segments l.block.high;
    }

abbrev pub decreases-nodes : goal.decreases-nodes
decreases-nodes g l = l.k
