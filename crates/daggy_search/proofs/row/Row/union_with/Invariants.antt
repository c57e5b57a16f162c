use Rattle.std.proofs.Common.{◌-◌}
use Rattle.daggy_search.proofs.RowWords.{IsUniting}
use Rattle.daggy_search.proofs.row.Row.union_with.Given as goal

abbrev pub invariant-words : goal.invariant-words
invariant-words l = IsUniting l.initial.self-inside.words l.other-inside.words l.self-inside.words l.k

abbrev pub decreases-words : goal.decreases-words
decreases-words l = 8 - l.k
