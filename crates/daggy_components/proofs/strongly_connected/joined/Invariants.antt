use Rattle.std.proofs.Common.{ℕ, ◌<◌, ◌≤◌, slice_index_or}
use Rattle.daggy_components.proofs.strongly_connected.joined.Given as goal

abbrev pub invariant-groups : goal.invariant-groups
invariant-groups g l =
    (0 < l.left)
    × ((l.left ≤ l.groups)
    × ((k : ℕ) → l.left ≤ k → k < l.groups → l.at < slice_index_or l.bases.items k 0))

abbrev pub decreases-groups : goal.decreases-groups
decreases-groups g l = l.left
