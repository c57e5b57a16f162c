use Rattle.std.proofs.Common.{◌-◌, ◌≡◌, ◌≤◌, length, map}
use Rattle.daggy_redundant.proofs.GatheredFlags.{Gathering}
use Rattle.daggy_redundant.proofs.flags.collect_flags.Given as goal

abbrev pub invariant-places : goal.invariant-places
invariant-places g l =
    record {
      within : l.i ≤ l.fn.bound;
      sized : length l.flags ≡ length l.fn.flags;
      gathered : Gathering g.Ix.IndexType.greatest (map g.Ix.IndexType.number l.fn.flags)
          (map g.Ix.IndexType.number l.flags) l.len l.i;
    }

abbrev pub decreases-places : goal.decreases-places
decreases-places g l = l.bound - l.i
