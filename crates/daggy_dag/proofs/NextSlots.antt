-- Slots are looked through for the next one that is not vacant.
use Rattle.std.proofs.Common.{◌≡◌, ℕ, zero, suc, ◌+◌, ◌<◌, ◌≤◌, List, [], ◌∷◌, length, drop, Option, Some, None}
use Rattle.std.proofs.Common.{is_some, true, refl, sym, ap, ◌∙◌, add-one, arith}
use Rattle.std.proofs.lemmas.Bool.{false≢true}
use Rattle.std.proofs.lemmas.List.{drop_all}
use Rattle.daggy_base.specs.Graph.{slot}
use Rattle.daggy_base.specs.declared.kind.Kind.{Kind}
use Rattle.daggy_base.specs.declared.kind.Kind.TheVariants.{Compact, Stable}
use Rattle.daggy_base.proofs.FullSlots.{IsFull}
use Rattle.daggy_dag.specs.Slots.{next_slot, vacant_in_front}

module _ {A : Type 0} where
  front_vacant : (xs : List (Option A)) (i : ℕ) → i < length xs → (is_some (slot xs i) ≡ true → ⊥)
      → vacant_in_front (drop i xs) ≡ vacant_in_front (drop (suc i) xs) + 1
  front_vacant [] i within none = absurd (omega arith)
  front_vacant (None ∷ xs) zero within none = refl
  front_vacant (Some x ∷ xs) zero within none = absurd (none refl)
  front_vacant (x ∷ xs) (suc i) within none = front_vacant xs i (omega arith) none

  front_there : (xs : List (Option A)) (i : ℕ) → is_some (slot xs i) ≡ true → vacant_in_front (drop i xs) ≡ 0
  front_there [] i has = absurd (false≢true has)
  front_there (None ∷ xs) zero has = absurd (false≢true has)
  front_there (Some x ∷ xs) zero has = refl
  front_there (x ∷ xs) (suc i) has = front_there xs i has

  front_full : (xs : List (Option A)) (i : ℕ) → IsFull xs → vacant_in_front (drop i xs) ≡ 0
  front_full [] i full = ap vacant_in_front (drop_all i [] (omega arith))
  front_full (None ∷ xs) i full = absurd (full 0 refl)
  front_full (Some x ∷ xs) zero full = refl
  front_full (Some x ∷ xs) (suc i) full = front_full xs i (λ k p. full (suc k) p)

  -- a vacant slot is passed by
  pub next_passed : (xs : List (Option A)) (i : ℕ) → i < length xs → (is_some (slot xs i) ≡ true → ⊥)
      → next_slot Stable xs i ≡ next_slot Stable xs (i + 1)
  next_passed xs i within none =
      let front =
      front_vacant xs i within none ∙ ap (λ k. vacant_in_front (drop k xs) + 1) (sym (add-one i)) in
      omega (arith, front)

  next_of_kind : (kind : Kind) (xs : List (Option A)) (i : ℕ)
      → (kind ≡ Compact → IsFull xs) → next_slot kind xs i ≡ next_slot Stable xs i
  next_of_kind Compact xs i full = let front = front_full xs i (full refl) in omega (arith, front)
  next_of_kind Stable xs i full = refl

  -- where all slots from a place up to another are vacant
  module _ (kind : Kind) (xs : List (Option A)) (from i : ℕ) (full : kind ≡ Compact → IsFull xs)
      (same : next_slot Stable xs from ≡ next_slot Stable xs i) where
    -- one that is not vacant is the next
    pub next_there : is_some (slot xs i) ≡ true → i ≡ next_slot kind xs from
    next_there has =
        let front = front_there xs i has in
        let here : next_slot Stable xs i ≡ i = omega (arith, front) in
        sym (next_of_kind kind xs from full ∙ same ∙ here)

    -- and so is a place behind all slots
    pub next_behind : length xs ≤ i → i ≡ next_slot kind xs from
    next_behind past =
        let front = ap vacant_in_front (drop_all i xs past) in
        let here : next_slot Stable xs i ≡ i = omega (arith, front) in
        sym (next_of_kind kind xs from full ∙ same ∙ here)
