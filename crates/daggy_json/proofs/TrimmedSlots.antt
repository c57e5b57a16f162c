-- Slots up to the bound.
use Rattle.std.proofs.Common.{◌≡◌, ℕ, zero, suc, ◌+◌, ◌≤◌, Option, Some, None, is_some, List, [], ◌∷◌, length, take}
use Rattle.std.proofs.Common.{count_by, refl, arith}
use Rattle.std.proofs.lemmas.List.{take_all}
use Rattle.daggy_base.specs.Graph.{slot, bound_of, bound_step}
use Rattle.daggy_base.specs.Iterating.{numbered}
use Rattle.daggy_base.specs.FromSlots.{vacant_down}
use Rattle.daggy_base.proofs.FullSlots.{IsFull, bound_full}
use Rattle.daggy_base.proofs.Slots.{count_cons}
use Rattle.daggy_base.proofs.SlotLists.{none_vacant}
use Rattle.daggy_json.specs.Document.{vacant_from}
use Rattle.daggy_json.proofs.GivenSlots.{full_from as all_there}
use Rattle.daggy_json.specs.Reading.{Ascend}

-- nothing is left behind the bound
step_slot : {A : Type 0} (x : Option A) (xs : List (Option A)) (b : ℕ)
    → ((k : ℕ) → slot (take b xs) k ≡ slot xs k) → (k : ℕ) → slot (take (bound_step x b) (x ∷ xs)) k ≡ slot (x ∷ xs) k
step_slot None xs zero h zero = refl
step_slot (Some x) xs zero h zero = refl
step_slot x xs (suc b) h zero = refl
step_slot None xs zero h (suc k) = h k
step_slot (Some x) xs zero h (suc k) = h k
step_slot x xs (suc b) h (suc k) = h k

pub slot_bounded : {A : Type 0} (xs : List (Option A)) (k : ℕ) → slot (take (bound_of xs) xs) k ≡ slot xs k
slot_bounded [] k = refl
slot_bounded (x ∷ xs) k = step_slot x xs (bound_of xs) (slot_bounded xs) k

-- the vacant places ascend
pub vacant_ascend : {A : Type 0} (i high : ℕ) (xs : List (Option A))
    → i + length xs ≤ high → Ascend i high (vacant_from i xs)
vacant_ascend i high [] fits = tt
vacant_ascend i high (None ∷ xs) fits = (omega arith, omega arith, vacant_ascend (i + 1) high xs (omega (arith, fits)))
vacant_ascend i high (Some x ∷ xs) fits =
    lower (vacant_from (i + 1) xs) (vacant_ascend (i + 1) high xs (omega (arith, fits)))
  where
    lower : (hs : List ℕ) → Ascend (i + 1) high hs → Ascend i high hs
    lower [] a = tt
    lower (h ∷ hs) a = (omega (arith, a.0), a.1, a.2)

-- each slot is vacant or holds something
pub slots_split : {A : Type 0} (i : ℕ) (xs : List (Option A))
    → length (numbered i xs) + length (vacant_from i xs) ≡ length xs
slots_split i [] = refl
slots_split i (None ∷ xs) = omega (arith, slots_split (i + 1) xs)
slots_split i (Some x ∷ xs) = omega (arith, slots_split (i + 1) xs)

pub numbered_count : {A : Type 0} (i : ℕ) (xs : List (Option A)) → length (numbered i xs) ≡ count_by is_some xs
numbered_count i [] = refl
numbered_count {A} i (None ∷ xs) = omega (arith, numbered_count (i + 1) xs, count_cons {A = A} None xs)
numbered_count i (Some x ∷ xs) = omega (arith, numbered_count (i + 1) xs, count_cons (Some x) xs)

-- ---- where none is vacant

module _ {A : Type 0} where
  pub vacant_full : (i : ℕ) (xs : List (Option A)) → IsFull xs → vacant_from i xs ≡ []
  vacant_full i [] h = refl
  vacant_full i (None ∷ xs) h = absurd (h 0 refl)
  vacant_full i (Some x ∷ xs) h = vacant_full (i + 1) xs (λ k e. h (suc k) e)

  pub take_full : {B : Type 0} (xs : List (Option A)) (ys : List B)
      → IsFull xs → length ys ≡ length xs → take (bound_of xs) ys ≡ ys
  take_full xs ys h long = take_all (bound_of xs) ys (omega (arith, bound_full xs h, long))

  pub down_full : (xs : List (Option A)) → IsFull xs → vacant_down xs ≡ []
  down_full xs h = none_vacant xs (all_there 0 xs (vacant_full 0 xs h))
