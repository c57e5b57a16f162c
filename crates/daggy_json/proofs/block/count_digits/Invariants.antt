use Rattle.std.proofs.Common.{◌≡◌, ◌+◌, length, decimal}
use Rattle.daggy_json.proofs.block.count_digits.Given as goal

abbrev pub invariant-digits : goal.invariant-digits
invariant-digits l = l.count + length (decimal l.left) ≡ length (decimal l.fn.n)

abbrev pub decreases-digits : goal.decreases-digits
decreases-digits l = l.left
