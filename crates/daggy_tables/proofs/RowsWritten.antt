-- The rows that are written, as they are read.
use Rattle.std.proofs.Common.{◌≡◌, ℕ, ◌<◌, ◌^◌, ◌==◌, false, List, [], ◌∷◌, ◌++◌, codes, decimal, append_assoc, Some, IsUtf8, refl, ap, ◌∙◌, arith, inl, inr}
use Rattle.std.proofs.lemmas.Bool.{cases_Bool, eqb-true}
use Rattle.std.proofs.lemmas.Fmt.{decimal_is_IsNumeral}
use Rattle.std.specs.Char.{digit_value}
use Rattle.std.specs.List.{list_any}
use Rattle.std.specs.Str.Parse.{AllDigits, IsNumeral}
use Rattle.csv.proofs.RoundTrip.{plain-run, quoted-run, start-same, record-same}
use Rattle.csv.specs.Machine.{next_record}
use Rattle.csv.specs.Reading.{default_config}
use Rattle.csv.specs.Writing.{default_writer, escaped, needs_byte}
use Rattle.csv.specs.declared.parser.State.TheVariants as st
use Rattle.daggy_formats.specs.Escapes.{csv_char, escaped as escaped_by}
use Rattle.daggy_tables.proofs.Escaped.{escaped_same}
use Rattle.daggy_tables.specs.Rows.{Field}

-- a digit is none of the marks
pub not_mark : (c mark : ℕ) → digit_value c < 10 → digit_value mark ≡ 36 → (c == mark) ≡ false
not_mark c mark digit no_digit = elim (cases_Bool (c == mark)) [
  | inl same ↦
      let is = ap digit_value (eqb-true c mark same) in
      absurd (omega (arith, digit, no_digit, is))
  | inr other ↦ other
]

plain_digits : (ds : List ℕ) → AllDigits 10 ds → list_any (needs_byte default_writer) ds ≡ false
plain_digits [] all = refl
plain_digits (c ∷ cs) all =
    rw (not_mark c 44 all.0 refl, not_mark c 34 all.0 refl, not_mark c 13 all.0 refl, not_mark c 10 all.0 refl) (plain_digits cs all.1)

-- digits and the comma after them
digits_in : (fields : List Field) (ds tail : List ℕ) → AllDigits 10 ds
    → next_record default_config st.InField fields [] (ds ++ (44 ∷ tail)) ≡ next_record default_config st.StartField (fields ++ (ds ∷ [])) [] tail
unfolding next_record
digits_in fields ds tail all = plain-run fields [] ds (44 ∷ tail) (plain_digits ds all)

first_digits : (ds tail : List ℕ) → IsNumeral 10 ds
    → next_record default_config st.StartRecord [] [] (ds ++ (44 ∷ tail)) ≡ next_record default_config st.StartField (ds ∷ []) [] tail
first_digits [] tail n = absurd (omega (arith, n.0))
first_digits (c ∷ cs) tail n =
    record-same [] [] c (cs ++ (44 ∷ tail)) (not_mark c 13 n.1.0 refl) (not_mark c 10 n.1.0 refl)
    ∙ start-same [] [] c (cs ++ (44 ∷ tail)) (not_mark c 34 n.1.0 refl)
    ∙ digits_in [] (c ∷ cs) tail n.1

more_digits : (fields : List Field) (ds tail : List ℕ) → IsNumeral 10 ds
    → next_record default_config st.StartField fields [] (ds ++ (44 ∷ tail)) ≡ next_record default_config st.StartField (fields ++ (ds ∷ [])) [] tail
more_digits fields [] tail n = absurd (omega (arith, n.0))
more_digits fields (c ∷ cs) tail n =
    start-same fields [] c (cs ++ (44 ∷ tail)) (not_mark c 34 n.1.0 refl) ∙ digits_in fields (c ∷ cs) tail n.1

-- a weight between quotes, and the end of the line
last_quoted : (fields : List Field) (weight tail : List ℕ)
    → next_record default_config st.StartField fields [] (34 ∷ (escaped default_writer weight ++ (34 ∷ 10 ∷ tail)))
    ≡ Some (fields ++ (weight ∷ []), st.StartRecord, tail)
unfolding next_record
last_quoted fields weight tail = quoted-run fields [] weight (10 ∷ tail)

pub node_row_read : (n : ℕ) (weight tail : List ℕ) → n < 2 ^ 64 → IsUtf8 weight
    → next_record default_config st.StartRecord [] []
    (((decimal n ++ codes ",\"") ++ (escaped_by csv_char weight ++ codes "\"\n")) ++ tail)
    ≡ Some (decimal n ∷ weight ∷ [], st.StartRecord, tail)
node_row_read n weight tail small utf8 =
    let text : ((decimal n ++ codes ",\"") ++ (escaped_by csv_char weight ++ codes "\"\n")) ++ tail
    ≡ decimal n ++ (44 ∷ 34 ∷ (escaped default_writer weight ++ (34 ∷ 10 ∷ tail))) =
    rw (escaped_same weight utf8) (simp append_assoc) in
    rw text
    (first_digits (decimal n) (34 ∷ (escaped default_writer weight ++ (34 ∷ 10 ∷ tail))) (decimal_is_IsNumeral n small).0
    ∙ last_quoted (decimal n ∷ []) weight tail)

pub edge_row_read : (a b : ℕ) (weight tail : List ℕ) → a < 2 ^ 64 → b < 2 ^ 64 → IsUtf8 weight
    → next_record default_config st.StartRecord [] []
    (((decimal a ++ (codes "," ++ (decimal b ++ codes ",\""))) ++ (escaped_by csv_char weight ++ codes "\"\n")) ++ tail)
    ≡ Some (decimal a ∷ decimal b ∷ weight ∷ [], st.StartRecord, tail)
edge_row_read a b weight tail small_a small_b utf8 =
    let rest = 34 ∷ (escaped default_writer weight ++ (34 ∷ 10 ∷ tail)) in
    let text : ((decimal a ++ (codes "," ++ (decimal b ++ codes ",\""))) ++ (escaped_by csv_char weight ++ codes "\"\n")) ++ tail
    ≡ decimal a ++ (44 ∷ (decimal b ++ (44 ∷ rest))) =
    rw (escaped_same weight utf8) (simp append_assoc) in
    rw text
    (first_digits (decimal a) (decimal b ++ (44 ∷ rest)) (decimal_is_IsNumeral a small_a).0
    ∙ more_digits (decimal a ∷ []) (decimal b) rest (decimal_is_IsNumeral b small_b).0
    ∙ last_quoted (decimal a ∷ decimal b ∷ []) weight tail)
