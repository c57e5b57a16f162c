use Rattle.std.proofs.Common.{false, map, get_or}
use Rattle.daggy_reduction.proofs.AffectedNodes.{Reading}
use Rattle.daggy_reduction.proofs.affected.entered_nodes.Given as goal

abbrev pub invariant-nodes : goal.invariant-nodes
invariant-nodes g l =
    record {
      can : (goal.iterator-nodes g).can_next l.n-iterator;
      ends : (goal.iterator-nodes g).is_finite l.n-iterator;
      reading : Reading (λ n. get_or l.fn.work.entered n false) l.fn.order l.n-iterator
          (map g.Ix.IndexType.number l.found.items);
    }
