-- What slots hold that a map filled.
use Rattle.std.proofs.Common.{◌≡◌, ℕ, zero, suc, ◌<◌, ◌≤◌, List, [], ◌∷◌, map, length, get_or, Option, Some, None}
use Rattle.std.proofs.Common.{IsSome, refl, sym, ap, arith, ◌↔◌, IsTrue, nat_lt, rules, ◌∙◌}
use Rattle.daggy_base.specs.Graph.{slot, bound_step, bound_of}
use Rattle.std.specs.List.{count_by, filter}
use Rattle.std.proofs.lemmas.List.Sums.{length-filter}
use Rattle.std.specs.Option.{is_some}

-- a slot that holds something is within, and the other way round
pub slot_within : {A B : Type 0} (f : A → B) (xs : List A) (i : ℕ)
    → IsSome (slot (map (λ x. Some (f x)) xs) i) → i < length xs
slot_within f [] i p = absurd (cc)
slot_within f (x ∷ xs) zero p = omega arith
slot_within f (x ∷ xs) (suc i) p = let more = slot_within f xs i p in omega arith

pub slot_holds : {A B : Type 0} (f : A → B) (xs : List A) (i : ℕ)
    → i < length xs → IsSome (slot (map (λ x. Some (f x)) xs) i)
slot_holds f [] i p = absurd (omega arith)
slot_holds f (x ∷ xs) zero p = refl
slot_holds f (x ∷ xs) (suc i) p = slot_holds f xs i (omega arith)

-- what a slot shows of what is stored there
pub slot_read : {A B : Type 0} (f : A → Option B) (xs : List A) (i : ℕ) (x : A)
    → i < length xs → x ≡ get_or xs i x → slot (map f xs) i ≡ f x
slot_read f [] i x p is = absurd (omega arith)
slot_read f (y ∷ ys) zero x p is = ap f (sym is)
slot_read f (y ∷ ys) (suc i) x p is = slot_read f ys i x (omega arith) is

pub slot_beyond : {A B : Type 0} (f : A → Option B) (xs : List A) (i : ℕ) → length xs ≤ i → slot (map f xs) i ≡ None
slot_beyond f [] i p = refl
slot_beyond f (x ∷ xs) zero p = absurd (omega arith)
slot_beyond f (x ∷ xs) (suc i) p = slot_beyond f xs i (omega arith)

pub slot_is : {A B : Type 0} (f : A → B) (xs : List A) (i : ℕ) (x : A)
    → i < length xs → x ≡ get_or xs i x → slot (map (λ x. Some (f x)) xs) i ≡ Some (f x)
slot_is f xs i x p is = slot_read (λ y. Some (f y)) xs i x p is

-- no slot is vacant
pub count-slots : {A B : Type 0} (f : A → B) (xs : List A) → count_by is_some (map (λ x. Some (f x)) xs) ≡ length xs
count-slots {A} {B} f xs = sym (length-filter is_some (map (λ x. Some (f x)) xs)) ∙ kept xs
  where
    kept : (xs : List A) → length (filter is_some (map (λ x. Some (f x)) xs)) ≡ length xs
    kept [] = refl
    kept (x ∷ xs) = ap suc (kept xs)

-- the greatest place of a slot that is not vacant is the last
pub bound-slots : {A B : Type 0} (f : A → B) (xs : List A) → bound_of (map (λ x. Some (f x)) xs) ≡ length xs
bound-slots f [] = refl
bound-slots {A} {B} f (x ∷ xs) = step (bound_of (map (λ x. Some (f x)) xs)) ∙ ap suc (bound-slots f xs)
  where
    step : (n : ℕ) → bound_step (Some (f x)) n ≡ suc n
    step zero = refl
    step (suc n) = refl

below_iff : (i n : ℕ) → IsTrue (nat_lt i n) ↔ (i < n)
below_iff i n = (λ p. search (rules, p), λ q. search (rules, q))

pub holds_iff : {A B : Type 0} (f : A → B) (xs : List A) (i k n : ℕ)
    → i ≡ k → n ≡ length xs → IsTrue (nat_lt i n) ↔ IsSome (slot (map (λ x. Some (f x)) xs) k)
holds_iff f xs i k n i_is n_is = (
  λ p. slot_holds f xs k (omega (arith, (below_iff i n).0 p, i_is, n_is)),
  λ q. (below_iff i n).1 (omega (arith, slot_within f xs k q, i_is, n_is)),
)
