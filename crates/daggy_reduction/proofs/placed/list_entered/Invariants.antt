use Rattle.std.proofs.Common.{◌≡◌, false, get_or}
use Rattle.daggy_search.specs.Work.{IsSized}
use Rattle.daggy_reduction.proofs.PlacedNodes.{Listing}
use Rattle.daggy_reduction.proofs.placed.list_entered.Given as goal

abbrev pub invariant-nodes : goal.invariant-nodes
invariant-nodes g l =
    record {
      can : (goal.iterator-nodes g).can_next l.n-iterator;
      ends : (goal.iterator-nodes g).is_finite l.n-iterator;
      sized : IsSized l.fn.work.size l.work;
      entered : l.work.entered ≡ l.fn.work.entered;
      listing : Listing (λ n. get_or l.fn.work.entered n false) g.Ix.IndexType.greatest l.fn.order l.n-iterator
          l.work.nodes l.work.cursors l.len;
    }
