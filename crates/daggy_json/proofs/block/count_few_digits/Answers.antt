use Rattle.std.proofs.Common.{ℕ, ◌≡◌, ◌+◌, ◌/◌, ◌<◌, ◌≤◌, length, decimal, sym, arith}
use Rattle.itoa.proofs.Decimal.{length_one, length_two, length_pair, length_four}
use Rattle.daggy_json.proofs.block.count_few_digits.Goals as goal

pub returns-then-n-lt10 : goal.returns-then-n-lt10
returns-then-n-lt10 c = sym (length_one c.args.n (omega arith))

pub returns-else-n-lt10 : goal.returns-else-n-lt10
returns-else-n-lt10 c = sym (length_two c.args.n (omega arith) (omega arith))

-- two digits after the first ones
more_by_two : (n k : ℕ) → 100 ≤ n → n < 1000000 → k ≡ length (decimal (n / 100)) → k + 2 ≡ length (decimal n)
more_by_two n k low high fewer = omega (arith, fewer, length_pair n low (omega arith))

more_by_four : (n k : ℕ) → 10000 ≤ n → n < 1000000 → k ≡ length (decimal (n / 10000)) → k + 4 ≡ length (decimal n)
more_by_four n k low high fewer = omega (arith, fewer, length_four n low (omega arith))

pub returns-then-n-lt1000 : goal.returns-then-n-lt1000
returns-then-n-lt1000 c =
    more_by_two c.args.n 1 (omega arith) (omega arith) (sym (length_one (c.args.n / 100) (omega arith)))

pub returns-else-n-lt1000 : goal.returns-else-n-lt1000
returns-else-n-lt1000 c =
    more_by_two c.args.n 2 (omega arith) (omega arith) (sym (length_two (c.args.n / 100) (omega arith) (omega arith)))

pub returns-then-n-lt100000 : goal.returns-then-n-lt100000
returns-then-n-lt100000 c =
    more_by_four c.args.n 1 (omega arith) (omega arith) (sym (length_one (c.args.n / 10000) (omega arith)))

pub returns-else-n-lt100000 : goal.returns-else-n-lt100000
returns-else-n-lt100000 c =
    more_by_four c.args.n 2 (omega arith) (omega arith)
    (sym (length_two (c.args.n / 10000) (omega arith) (omega arith)))
