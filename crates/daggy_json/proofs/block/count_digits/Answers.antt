use Rattle.std.proofs.Common.{ℕ, ◌≡◌, ◌+◌, ◌/◌, ◌^◌, ◌<◌, ◌≤◌, length, decimal, ap, arith}
use Rattle.std.proofs.lemmas.Fmt.{length-decimal-le}
use Rattle.itoa.proofs.Decimal.{length_pair, length_four}
use Rattle.daggy_json.proofs.block.count_digits.Goals as goal

-- a number of 64 bits has at most twenty digits
short : (n : ℕ) → n < 2 ^ 64 → length (decimal n) ≤ 20
short n fits = length-decimal-le 20 n (omega arith) (omega arith) fits

-- the digits before the last six
six_more : (n : ℕ) → 1000000 ≤ n → n < 2 ^ 64 → length (decimal n) ≡ length (decimal (n / 1000000)) + 6
six_more n low fits =
    let same : n / 10000 / 100 ≡ n / 1000000 = omega arith in
    let four : length (decimal n) ≡ length (decimal (n / 10000)) + 4 = length_four n (omega arith) fits in
    let pair : length (decimal (n / 10000)) ≡ length (decimal (n / 10000 / 100)) + 2 =
    length_pair (n / 10000) (omega arith) (omega arith) in
    omega (arith, four, pair, ap (λ k. length (decimal k)) same)

pub overflow_add-count : goal.overflow_add-count
overflow_add-count c =
    omega (arith, c.digits.invariant, short c.args.n (omega arith), six_more c.digits.left c.digits-test.true (omega arith))

pub digits-preserved : goal.digits-preserved
digits-preserved c = omega (arith, c.digits.invariant, six_more c.digits.left c.digits-test.true (omega arith))

pub overflow_add-result : goal.overflow_add-result
overflow_add-result c = omega (arith, c.digits.invariant, short c.args.n (omega arith), c.count_few_digits.ensures)

pub returns : goal.returns
returns c = omega (arith, c.digits.invariant, c.count_few_digits.ensures)
