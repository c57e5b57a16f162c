use Rattle.std.proofs.Common.{◌≡◌, ◌+◌, ◌-◌, map}
use Rattle.daggy_reduction.specs.Blocks.{is_in_row}
use Rattle.daggy_reduction.proofs.PassedArcs.{Parting}
use Rattle.daggy_reduction.proofs.block.flag_row.Given as goal

abbrev pub invariant-arcs : goal.invariant-arcs
invariant-arcs g l =
    record {
      parting : Parting record {
        end = g.Ix.IndexType.greatest;
        number = g.Ix.IndexType.number;
        mark = is_in_row l.fn.block.low l.fn.block.high l.fn.row;
        segment = l.fn.segment;
        arcs = l.fn.arcs;
        flags = map g.Ix.IndexType.number l.fn.flags;
      } record { next = l.k; left = l.end; arcs = l.arcs; flags = map g.Ix.IndexType.number l.flags };
      same : g.S.EdgeSource.graph l.source ≡ g.S.EdgeSource.graph l.fn.source;
      counted : g.S.EdgeSource.looks l.source ≡ g.S.EdgeSource.looks l.fn.source + (l.k - l.fn.segment.begin);
    }
