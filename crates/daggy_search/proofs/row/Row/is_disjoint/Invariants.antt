use Rattle.std.proofs.Common.{◌-◌, ◌≤◌}
use Rattle.daggy_search.proofs.RowWords.{AreMet}
use Rattle.daggy_search.proofs.row.Row.is_disjoint.Given as goal

abbrev pub invariant-words : goal.invariant-words
invariant-words l = AreMet l.self-inside.words l.other-inside.words l.common l.k × (l.k ≤ 8)

abbrev pub decreases-words : goal.decreases-words
decreases-words l = 8 - l.k
