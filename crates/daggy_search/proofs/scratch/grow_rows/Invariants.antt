use Rattle.std.proofs.Common.{◌≤◌, ◌-◌, vec_len}
use Rattle.daggy_search.proofs.scratch.grow_rows.Given as goal

abbrev pub invariant-rows : goal.invariant-rows
invariant-rows l =
    (vec_len l.fn.rows ≤ vec_len l.rows) × (vec_len l.fn.rows ≤ l.len → vec_len l.rows ≤ l.len)

abbrev pub decreases-rows : goal.decreases-rows
decreases-rows l = l.len - vec_len l.rows
