-- The occupied slots before an index, each with its own.
use Rattle.std.proofs.Common.{◌≡◌, ℕ, zero, suc, ◌+◌, List, [], ◌∷◌, ◌++◌, take, refl, ap, add-zero, zero-add, add-one, arith}
use Rattle.std.specs.Prelude.{Option, Some, None}
use Rattle.daggy_base.specs.Graph.{slot}
use Rattle.daggy_base.specs.Iterating.{numbered}

numbered_some : {A : Type 0} (i n : ℕ) (xs : List (Option A)) (w : A)
    → slot xs n ≡ Some w → numbered i (take (suc n) xs) ≡ numbered i (take n xs) ++ (i + n, w) ∷ []
numbered_some i n [] w e = cc
numbered_some i zero (None ∷ xs) w e = cc
numbered_some i zero (Some x ∷ xs) w e = let same : x ≡ w = cc in rw (add-zero i, same) refl
numbered_some i (suc n) (None ∷ xs) w e =
    let k : i + suc n ≡ i + 1 + n = omega arith in rw k (numbered_some (i + 1) n xs w e)
numbered_some i (suc n) (Some x ∷ xs) w e =
    let k : i + suc n ≡ i + 1 + n = omega arith in rw k (ap (λ z. (i, x) ∷ z) (numbered_some (i + 1) n xs w e))

numbered_none : {A : Type 0} (i n : ℕ) (xs : List (Option A))
    → slot xs n ≡ None → numbered i (take (suc n) xs) ≡ numbered i (take n xs)
numbered_none i zero [] e = refl
numbered_none i (suc n) [] e = refl
numbered_none i zero (None ∷ xs) e = refl
numbered_none i zero (Some x ∷ xs) e = cc
numbered_none i (suc n) (None ∷ xs) e = numbered_none (i + 1) n xs e
numbered_none i (suc n) (Some x ∷ xs) e = ap (λ z. (i, x) ∷ z) (numbered_none (i + 1) n xs e)

pub numbered_passes : {A : Type 0} (n : ℕ) (xs : List (Option A)) (w : A)
    → slot xs n ≡ Some w → numbered 0 (take (n + 1) xs) ≡ numbered 0 (take n xs) ++ (n, w) ∷ []
numbered_passes n xs w e = rw (add-one n) (rw (zero-add n) at (numbered_some 0 n xs w e))

pub numbered_skips : {A : Type 0} (n : ℕ) (xs : List (Option A))
    → slot xs n ≡ None → numbered 0 (take (n + 1) xs) ≡ numbered 0 (take n xs)
numbered_skips n xs e = rw (add-one n) (numbered_none 0 n xs e)
