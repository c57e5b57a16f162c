use Rattle.std.proofs.Common.{◌≡◌, ℕ, ◌-◌, ◌<◌, get_or}
use Rattle.daggy_search.specs.Work.{IsSized}
use Rattle.daggy_reduction.proofs.spans.reset.Given as goal

abbrev pub invariant-entries : goal.invariant-entries
invariant-entries g l =
    record {
      sized : IsSized l.fn.work.size l.work;
      nodes : (n : ℕ) → n < l.i → get_or l.work.nodes n g.Ix.IndexType.greatest ≡ g.Ix.IndexType.greatest;
      cursors : (n : ℕ) → n < l.i → get_or l.work.cursors n 0 ≡ 0;
    }

abbrev pub decreases-entries : goal.decreases-entries
decreases-entries g l = l.work.size - l.i
