use Rattle.std.proofs.Common.{◌≡◌, ◌+◌, ◌-◌, ◌*◌, ◌<◌, ◌≤◌, length, map, take}
use Rattle.daggy_base.specs.Graph.{edge_count}
use Rattle.daggy_reduction.specs.Blocks.{blocks_of, StayBefore}
use Rattle.daggy_reduction.specs.SearchSpan.{SpansAtMost}
use Rattle.daggy_reduction.proofs.BlockLooks.{NearPaid}
use Rattle.daggy_reduction.proofs.BlockSweep.{Blocks}
use Rattle.daggy_reduction.proofs.blocks.flag_blocks.Given as goal

abbrev pub invariant-sweep : goal.invariant-sweep
invariant-sweep g l =
    record {
      blocks : Blocks record {
        number = g.Ix.IndexType.number;
        end = g.Ix.IndexType.greatest;
        graph = g.S.EdgeSource.graph l.fn.source;
        nodes = take l.count l.work.nodes;
        places = l.work.cursors;
        rows = length l.fn.rows;
        segments = length l.fn.segments;
        flags = length l.fn.flags;
      } record {
        rows = length l.rows;
        arcs = l.arcs;
        segments = l.segments;
        flags = map g.Ix.IndexType.number l.flags;
        low = l.start.low;
      };
      early : l.start.first ≤ l.start.low;
      before : StayBefore (g.S.EdgeSource.graph l.fn.source) (take l.count l.work.nodes) l.work.cursors l.start.first
          l.start.low;
      near : SpansAtMost (g.S.EdgeSource.graph l.fn.source) l.fn.order 512
          → NearPaid l.segments (length (take l.count l.work.nodes)) l.start.low l.start.first
          (g.S.EdgeSource.looks l.fn.source + (g.L.ListArcs.passes + 1) * edge_count (g.S.EdgeSource.graph l.fn.source))
          (edge_count (g.S.EdgeSource.graph l.fn.source)) (g.S.EdgeSource.looks l.source);
      same : g.S.EdgeSource.graph l.source ≡ g.S.EdgeSource.graph l.fn.source;
      looked : g.S.EdgeSource.looks l.fn.source ≤ g.S.EdgeSource.looks l.source;
      full : l.start.low < l.count → l.start.low ≡ 512 * blocks_of l.start.low;
      paid : g.S.EdgeSource.looks l.source ≤ g.S.EdgeSource.looks l.fn.source
          + (g.L.ListArcs.passes + 1) * edge_count (g.S.EdgeSource.graph l.fn.source)
          + 2 * (blocks_of l.start.low * edge_count (g.S.EdgeSource.graph l.fn.source));
    }

abbrev pub decreases-sweep : goal.decreases-sweep
decreases-sweep g l = l.count - l.start.low
