-- Slots that are gone through one by one, up to the bound.
use Rattle.std.proofs.Common.{◌≡◌, ℕ, zero, suc, ◌+◌, ◌<◌, Option, Some, None, is_some, true, false, List, [], ◌∷◌}
use Rattle.std.proofs.Common.{◌++◌, length, map, take, refl, sym, ap, ◌∙◌, add-zero, zero-add, add-one, arith}
use Rattle.std.proofs.lemmas.List.{map-append}
use Rattle.std.proofs.lemmas.Bool.{false≢true}
use Rattle.daggy_base.specs.Graph.{slot, bound_of, bound_step}
use Rattle.daggy_base.specs.Iterating.{numbered}
pub use Rattle.daggy_dag.proofs.NumberedSlots.{numbered_passes, numbered_skips}
use Rattle.daggy_json.specs.Document.{vacant_from}

-- behind the bound nothing is left
at_step : {A : Type 0} (i : ℕ) (x : Option A) (xs : List (Option A)) (b : ℕ)
    → numbered (i + 1) (take b xs) ≡ numbered (i + 1) xs
    → numbered i (take (bound_step x b) (x ∷ xs)) ≡ numbered i (x ∷ xs)
at_step i None xs zero h = h
at_step i (Some x) xs zero h = ap (λ z. (i, x) ∷ z) h
at_step i None xs (suc b) h = h
at_step i (Some x) xs (suc b) h = ap (λ z. (i, x) ∷ z) h

pub numbered_bounded : {A : Type 0} (i : ℕ) (xs : List (Option A)) → numbered i (take (bound_of xs) xs) ≡ numbered i xs
numbered_bounded i [] = refl
numbered_bounded i (x ∷ xs) = at_step i x xs (bound_of xs) (numbered_bounded (i + 1) xs)

-- ---- the vacant slots

vacant_some : {A : Type 0} (i n : ℕ) (xs : List (Option A))
    → is_some (slot xs n) ≡ true → vacant_from i (take (suc n) xs) ≡ vacant_from i (take n xs)
vacant_some i n [] e = absurd (false≢true e)
vacant_some i zero (None ∷ xs) e = absurd (false≢true e)
vacant_some i zero (Some x ∷ xs) e = refl
vacant_some i (suc n) (None ∷ xs) e = ap (λ z. i ∷ z) (vacant_some (i + 1) n xs e)
vacant_some i (suc n) (Some x ∷ xs) e = vacant_some (i + 1) n xs e

vacant_none : {A : Type 0} (i n : ℕ) (xs : List (Option A)) → n < length xs → is_some (slot xs n) ≡ false
    → vacant_from i (take (suc n) xs) ≡ vacant_from i (take n xs) ++ (i + n) ∷ []
vacant_none i n [] low e = absurd (omega arith)
vacant_none i zero (None ∷ xs) low e = rw (add-zero i) refl
vacant_none i zero (Some x ∷ xs) low e = absurd (false≢true (sym e))
vacant_none i (suc n) (None ∷ xs) low e =
    let k : i + suc n ≡ i + 1 + n = omega arith in rw k (ap (λ z. i ∷ z) (vacant_none (i + 1) n xs (omega arith) e))
vacant_none i (suc n) (Some x ∷ xs) low e =
    let k : i + suc n ≡ i + 1 + n = omega arith in rw k (vacant_none (i + 1) n xs (omega arith) e)

pub vacant_passes : {A : Type 0} (n : ℕ) (xs : List (Option A)) → n < length xs → is_some (slot xs n) ≡ false
    → vacant_from 0 (take (n + 1) xs) ≡ vacant_from 0 (take n xs) ++ n ∷ []
vacant_passes n xs low e = rw (add-one n) (rw (zero-add n) at (vacant_none 0 n xs low e))

pub vacant_skips : {A : Type 0} (n : ℕ) (xs : List (Option A))
    → is_some (slot xs n) ≡ true → vacant_from 0 (take (n + 1) xs) ≡ vacant_from 0 (take n xs)
vacant_skips n xs e = rw (add-one n) (vacant_some 0 n xs e)

-- ---- the numbers, and what is in the slots

pub numbers_pass : {A : Type 0} (n : ℕ) (xs : List (Option A)) (x : A) → slot xs n ≡ Some x
    → map (λ p. p.0) (numbered 0 (take (n + 1) xs)) ≡ map (λ p. p.0) (numbered 0 (take n xs)) ++ n ∷ []
numbers_pass n xs x some =
    ap (map (λ p. p.0)) (numbered_passes n xs x some) ∙ map-append (λ p. p.0) (numbered 0 (take n xs)) ((n, x) ∷ [])

pub contents_pass : {A : Type 0} (n : ℕ) (xs : List (Option A)) (x : A) → slot xs n ≡ Some x
    → map (λ p. p.1) (numbered 0 (take (n + 1) xs)) ≡ map (λ p. p.1) (numbered 0 (take n xs)) ++ x ∷ []
contents_pass n xs x some =
    ap (map (λ p. p.1)) (numbered_passes n xs x some) ∙ map-append (λ p. p.1) (numbered 0 (take n xs)) ((n, x) ∷ [])

slots_more : {A : Type 0} (n : ℕ) (xs : List (Option A)) → n < length xs → take (suc n) xs ≡ take n xs ++ slot xs n ∷ []
slots_more n [] low = absurd (omega arith)
slots_more zero (x ∷ xs) low = refl
slots_more (suc n) (x ∷ xs) low = ap (λ l. x ∷ l) (slots_more n xs (omega arith))

pub slots_pass : {A : Type 0} (n : ℕ) (xs : List (Option A)) → n < length xs
    → take (n + 1) xs ≡ take n xs ++ slot xs n ∷ []
slots_pass n xs low = rw (add-one n) (slots_more n xs low)
