use Rattle.std.proofs.Common.{◌≡◌, ◌-◌, ◌<◌, ℕ, length, map, get_or}
use Rattle.daggy_redundant.proofs.flags.unflag.Given as goal

abbrev pub invariant-places : goal.invariant-places
invariant-places g l =
    record {
      same_length : length l.flags ≡ length l.fn.flags;
      ended : (j : ℕ)
          → j < l.i → get_or (map g.Ix.IndexType.number l.flags) j g.Ix.IndexType.greatest ≡ g.Ix.IndexType.greatest;
    }

abbrev pub decreases-places : goal.decreases-places
decreases-places g l = length l.flags - l.i
