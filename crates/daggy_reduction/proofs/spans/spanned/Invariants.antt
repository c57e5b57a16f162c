use Rattle.daggy_reduction.proofs.SpanSums.{Spanning}
use Rattle.daggy_reduction.proofs.spans.spanned.Given as goal

abbrev pub invariant-nodes : goal.invariant-nodes
invariant-nodes g l =
    record {
      can : (goal.iterator-nodes g).can_next l.n-iterator;
      ends : (goal.iterator-nodes g).is_finite l.n-iterator;
      spanning : Spanning (g.S.EdgeSource.graph l.fn.source) l.fn.order l.n-iterator l.sum;
    }
