use Rattle.std.proofs.Common.{◌≡◌}
use Rattle.daggy_search.specs.Work.{IsSized}
use Rattle.daggy_reduction.proofs.SpanSums.{Numbering}
use Rattle.daggy_reduction.proofs.spans.number_nodes.Given as goal

abbrev pub invariant-nodes : goal.invariant-nodes
invariant-nodes g l =
    record {
      can : (goal.iterator-nodes g).can_next l.n-iterator;
      ends : (goal.iterator-nodes g).is_finite l.n-iterator;
      sized : IsSized l.fn.work.size l.work;
      same : l.work.nodes ≡ l.fn.work.nodes;
      numbering : Numbering l.fn.order l.n-iterator l.work.cursors l.k;
    }
