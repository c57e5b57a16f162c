use Rattle.std.proofs.Common.{◌≡◌, ℕ, ◌<◌, ◌≤◌, slice_index}
use Rattle.daggy_components.proofs.cycle.place_of.Given as goal

abbrev pub invariant-at : goal.invariant-at
invariant-at g l = (l.at < l.len) × ((k : ℕ) × (k ≤ l.at) × (slice_index l.work.nodes k ≡ l.node))

abbrev pub decreases-at : goal.decreases-at
decreases-at g l = l.at
