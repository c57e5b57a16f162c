use Rattle.std.proofs.Common.{◌≡◌, ◌≤◌, is_some, count_by, take}
use Rattle.daggy_json.proofs.reading.rows.count_nodes.Given as goal

abbrev pub invariant-loop-n : goal.invariant-loop-n
invariant-loop-n g l = (l.count ≡ count_by is_some (take l.n l.nodes.items)) × (l.count ≤ l.n)
