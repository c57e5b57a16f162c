-- Lists of slots: which are occupied, and when two lists are the same.
use Rattle.std.proofs.Common.{◌≡◌, ℕ, zero, suc, ◌≤◌, Bool, true, false, cond, List, [], ◌∷◌, length, map, get_or, inl}
use Rattle.std.proofs.Common.{inr}
use Rattle.std.proofs.Common.{Option, Some, None, is_some, slice_get, position, nat_lt, lt-ltb, refl, sym, ap, ◌∙◌}
use Rattle.std.proofs.Common.{arith}
use Rattle.std.proofs.lemmas.Bool.{false≢true, cases_lt}
use Rattle.std.proofs.lemmas.List.Sums.{fails_before_first}
use Rattle.std.proofs.lemmas.List.{length-map, map-append, map-set}
use Rattle.std.proofs.lemmas.List.Quantifiers.{position-Some}
use Rattle.std.proofs.lemmas.Option.{slice_get-get_or, slice_get_within, get_or_from_slice_get}
use Rattle.std.specs.List.{position_or_len}
use Rattle.daggy_base.specs.Graph.{slot}
use Rattle.daggy_base.specs.Adding.{with_slot_filled, next_slot}
use Rattle.daggy_base.proofs.Slots.{IsFree}

-- whether a slot is occupied, by the marks
pub marked : {A : Type 0} (xs : List (Option A)) (n : ℕ) → is_some (slot xs n) ≡ get_or (map is_some xs) n false
marked [] n = refl
marked (x ∷ xs) zero = refl
marked (x ∷ xs) (suc n) = marked xs n

pub what_is : {A : Type 0} (o : Option A) → is_some o ≡ true → (x : A) × (o ≡ Some x)
what_is None h = absurd (false≢true h)
what_is (Some x) h = (x, refl)

pub nothing_is : {A : Type 0} (o : Option A) → is_some o ≡ false → o ≡ None
nothing_is None h = refl
nothing_is (Some x) h = absurd (false≢true (sym h))

pub slot_within : {A : Type 0} (xs : List (Option A)) (n : ℕ) (x : A) → slot xs n ≡ Some x
    → slice_get xs n ≡ Some (Some x)
slot_within [] n x at = absurd cc
slot_within (y ∷ ys) zero x at = ap Some at
slot_within (y ∷ ys) (suc n) x at = slot_within ys n x at

pub same_option : {A : Type 0} (a b : Option A) → ((x : A) → a ≡ Some x → b ≡ Some x) → ((x : A) → b ≡ Some x
    → a ≡ Some x) → a ≡ b
same_option None None there back = refl
same_option None (Some y) there back = back y refl
same_option (Some x) b there back = sym (there x refl)

pub same_slots : {A : Type 0} (xs ys : List (Option A))
    → length xs ≡ length ys → ((n : ℕ) → slot xs n ≡ slot ys n) → xs ≡ ys
same_slots [] [] long same = refl
same_slots [] (y ∷ ys) long same = absurd (omega (arith, long))
same_slots (x ∷ xs) [] long same = absurd (omega (arith, long))
same_slots (x ∷ xs) (y ∷ ys) long same =
    let rest : xs ≡ ys = same_slots xs ys (omega (arith, long)) (λ n. same (suc n)) in
    λ j. same zero j ∷ rest j

module _ {A B : Type 0} (xs : List (Option A)) (ys : List (Option B)) (same : map is_some xs ≡ map is_some ys) where
  -- two lists in which the same slots are occupied
  pub same_length : length xs ≡ length ys
  same_length = sym (length-map xs is_some) ∙ ap length same ∙ length-map ys is_some

  pub same_marks : (n : ℕ) → is_some (slot xs n) ≡ is_some (slot ys n)
  same_marks n = marked xs n ∙ ap (λ l. get_or l n false) same ∙ sym (marked ys n)

-- what a slot holds, by its mark
vacant_mark : {A : Type 0} (xs : List (Option A)) (v : ℕ) → slice_get xs v ≡ Some None
    → slice_get (map is_some xs) v ≡ Some false
vacant_mark [] v at = absurd cc
vacant_mark (x ∷ xs) zero at = let e : x ≡ None = cc in ap (λ z. Some (is_some z)) e
vacant_mark (x ∷ xs) (suc v) at = vacant_mark xs v at

vacant_by_mark : {A : Type 0} (xs : List (Option A)) (v : ℕ) → slice_get (map is_some xs) v ≡ Some false
    → slice_get xs v ≡ Some None
vacant_by_mark [] v at = absurd cc
vacant_by_mark (None ∷ xs) zero at = refl
vacant_by_mark (Some x ∷ xs) zero at = absurd cc
vacant_by_mark (x ∷ xs) (suc v) at = vacant_by_mark xs v at

pub free_too : {A B : Type 0} (xs : List (Option A)) (ys : List (Option B)) → map is_some xs ≡ map is_some ys
    → (vacant : List ℕ) → IsFree ys vacant → IsFree xs vacant
free_too xs ys same [] free = tt
free_too xs ys same (v ∷ vs) free =
    vacant_by_mark xs v (ap (λ l. slice_get l v) same ∙ vacant_mark ys v free)

pub next_too : {A B : Type 0} (xs : List A) (ys : List B) → length xs ≡ length ys
    → (vacant : List ℕ) → next_slot xs vacant ≡ next_slot ys vacant
next_too xs ys same [] = same
next_too xs ys same (v ∷ vs) = refl

pub map-with_slot_filled : {A B : Type 0} (f : A → B) (xs : List A) (vacant : List ℕ) (x : A)
    → map f (with_slot_filled xs vacant x) ≡ with_slot_filled (map f xs) vacant (f x)
map-with_slot_filled f xs [] x = map-append f xs (x ∷ [])
map-with_slot_filled f xs (v ∷ vs) x = map-set f xs v x

pub not_found : (m n : ℕ) → cond (nat_lt m n) (Some m) None ≡ None → n ≤ m
not_found m n none =
    elim (cases_lt m n) [
      | inl below ↦
          let found : Some m ≡ None = sym (ap (λ b. cond b (Some m) None) (lt-ltb m n below)) ∙ none in absurd cc
      | inr above ↦ above
    ]

-- the index of the only element that passes a test
pub position_only : {A : Type 0} (test : A → Bool) (xs : List A) (n : ℕ) (x : A) → slice_get xs n ≡ Some x
    → test x ≡ true
    → ((m : ℕ) (y : A) → slice_get xs m ≡ Some y → test y ≡ true → m ≡ n) → position test xs ≡ Some n
position_only test [] n x at passes only = absurd cc
position_only test (y ∷ ys) n x at passes only = by (position test (y ∷ ys)) refl
  where
    by : (r : Option ℕ) → position test (y ∷ ys) ≡ r → position test (y ∷ ys) ≡ Some n
    by (Some i) is =
        let p = position-Some test (y ∷ ys) i y is in
        is ∙ ap Some (only i (get_or (y ∷ ys) i y) (slice_get-get_or (y ∷ ys) i y p.0) p.1)
    by None is =
        let reads : get_or (y ∷ ys) n x ≡ x = get_or_from_slice_get (y ∷ ys) n x x at in
        let fails : test x ≡ false = ap test (sym reads) ∙ fails_before_first test (y ∷ ys) n x
        (omega (
          arith,
          slice_get_within (y ∷ ys) n x at,
          not_found (position_or_len test (y ∷ ys)) (length (y ∷ ys))
              is,
        )) in
        absurd (false≢true (sym fails ∙ passes))

pub position_none : {A : Type 0} (test : A → Bool) (xs : List A)
    → ((m : ℕ) (y : A) → slice_get xs m ≡ Some y → test y ≡ false) → position test xs ≡ None
position_none test [] fails = refl
position_none test (y ∷ ys) fails = by (position test (y ∷ ys)) refl
  where
    by : (r : Option ℕ) → position test (y ∷ ys) ≡ r → position test (y ∷ ys) ≡ None
    by None is = is
    by (Some i) is =
        let p = position-Some test (y ∷ ys) i y is in
        absurd (false≢true (sym (fails i (get_or (y ∷ ys) i y) (slice_get-get_or (y ∷ ys) i y p.0)) ∙ p.1))
