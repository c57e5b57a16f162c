-- The numbers that fields write.
use Rattle.std.proofs.Common.{◌≡◌, ℕ, ◌<◌, ◌^◌, inl, inr, ◌&&◌, Bool, true, false, nat_lt, List, [], ◌∷◌, length, Some, None, Result, Ok, Err, refl, ap, lt-ltb}
use Rattle.std.proofs.lemmas.Bool.{ltb-true, cases_Bool}
use Rattle.std.specs.Char.{digit_value, is_digit}
use Rattle.std.specs.Cmp.Derive.{both_true}
use Rattle.std.specs.List.{list_all}
use Rattle.std.specs.Str.Parse.{AllDigits, IsNumeral, ParsesUnsigned, digits_value, without_leading_plus}
use Rattle.daggy_tables.specs.Rows.{Field, is_number, number_of}

-- both tests pass
pub and_parts : (a b : Bool) → (a && b) ≡ true → (a ≡ true) × (b ≡ true)
and_parts true b e = (refl, e)
and_parts false b e = cc e

digits_pass : (ds : List ℕ) → AllDigits 10 ds → list_all (λ c. is_digit c 10) ds ≡ true
digits_pass [] h = refl
digits_pass (c ∷ cs) h = both_true (lt-ltb (digit_value c) 10 h.0) (digits_pass cs h.1)

digits_passed : (ds : List ℕ) → list_all (λ c. is_digit c 10) ds ≡ true → AllDigits 10 ds
digits_passed [] e = tt
digits_passed (c ∷ cs) e =
    let p = and_parts (is_digit c 10) (list_all (λ d. is_digit d 10) cs) e in
    (ltb-true (digit_value c) 10 p.0, digits_passed cs p.1)

-- a field as it is parsed
abbrev pub Written : Field → Type 0
Written field = IsNumeral 10 (without_leading_plus field) × (digits_value 10 (without_leading_plus field) < 2 ^ 64)

written_passes : (field : Field) → Written field → is_number (without_leading_plus field) ≡ true
written_passes field w =
    let ds = without_leading_plus field in
    both_true (lt-ltb 0 (length ds) w.0.0) (both_true (digits_pass ds w.0.1) (lt-ltb (digits_value 10 ds) (2 ^ 64) w.1))

passed_written : (field : Field) → is_number (without_leading_plus field) ≡ true → Written field
passed_written field e =
    let ds = without_leading_plus field in
    let p = and_parts (nat_lt 0 (length ds)) _ e in
    let q = and_parts (list_all (λ c. is_digit c 10) ds) _ p.1 in
    ((ltb-true 0 (length ds) p.0, digits_passed ds q.0), ltb-true (digits_value 10 ds) (2 ^ 64) q.1)

-- digits write their number
pub number_written : (field : Field) → Written field → number_of field ≡ Some (digits_value 10 (without_leading_plus field))
unfolding number_of
number_written field w = rw (written_passes field w) refl

pub number_parsed : {E : Type 0} (field : Field) (n : ℕ) (r : Result ℕ E) → ParsesUnsigned 64 10 field r → r ≡ Ok n
    → number_of field ≡ Some n
unfolding number_of
number_parsed field n (Ok m) parsed is =
    let same : digits_value 10 (without_leading_plus field) ≡ n = cc (parsed.1, is) in
    rw (written_passes field parsed.0) (ap (λ (k : ℕ). Some k) same)
number_parsed field n (Err e) parsed is = cc is

pub nothing_parsed : {E : Type 0} (field : Field) (e : E) (r : Result ℕ E) → ParsesUnsigned 64 10 field r → r ≡ Err e
    → number_of field ≡ None
unfolding number_of
nothing_parsed field e (Ok m) parsed is = cc is
nothing_parsed field e (Err d) parsed is = elim (cases_Bool (is_number (without_leading_plus field))) [
  | inl passes ↦ absurd (parsed (passed_written field passes))
  | inr fails ↦ rw fails refl
]
