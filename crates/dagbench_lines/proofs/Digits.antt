-- Bounds of numbers with few digits.
use Rattle.std.proofs.Common.{ℕ, ◌^◌, ◌<◌, ◌≤◌, arith, lit<}
use Rattle.std.proofs.Math.Nat.{pow-le-pow_right}

-- before the nineteenth digit the number is small
pub few_digits : (n i : ℕ) → n < 10 ^ i → i < 19 → n < 10 ^ 18
few_digits n i below few =
    let most : 10 ^ i ≤ 10 ^ 18 = pow-le-pow_right {n = 10} (lit< tt) {i = i} {j = 18} (omega arith) in
    omega (arith, most)
