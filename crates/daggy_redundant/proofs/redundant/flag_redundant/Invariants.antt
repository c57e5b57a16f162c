use Rattle.std.proofs.Common.{◌≡◌, ◌-◌, ◌≤◌, length, map, take}
use Rattle.daggy_base.specs.Graph.{edge_count}
use Rattle.daggy_search.specs.Work.{IsSized}
use Rattle.daggy_redundant.proofs.SweptNodes.{Sweeping}
use Rattle.daggy_redundant.proofs.redundant.flag_redundant.Given as goal

abbrev pub invariant-nodes : goal.invariant-nodes
invariant-nodes g l =
    record {
      within : l.k ≤ l.count;
      sized : IsSized l.fn.work.size l.work;
      aside : l.work.cursors ≡ l.initial.work.cursors;
      flags : length l.flags ≡ length l.fn.flags;
      sweep : Sweeping record {
        end = g.Ix.IndexType.greatest;
        graph = g.S.EdgeSource.graph l.fn.source;
        cost = λ _. edge_count (g.S.EdgeSource.graph l.fn.source);
        below = take l.count l.initial.work.cursors;
        looks = g.S.EdgeSource.looks l.fn.source;
      } record {
        graph = g.S.EdgeSource.graph l.source;
        flags = map g.Ix.IndexType.number l.flags;
        count = l.k;
        looks = g.S.EdgeSource.looks l.source;
      };
    }

abbrev pub decreases-nodes : goal.decreases-nodes
decreases-nodes g l = l.count - l.k
