-- The records of a text, one after another.
use Rattle.std.proofs.Common.{◌≡◌, ℕ, zero, suc, ◌+◌, ◌-◌, ◌<◌, ◌≤◌, ◌==◌, ◌||◌, Bool, true, false, List, [], ◌∷◌, ◌++◌, length, Option, Some, None, refl, sym, ap, ◌∙◌, arith}
use Rattle.std.specs.Prelude.{if◌then◌else◌}
use Rattle.csv.specs.Machine.{Read, next_record, step, in_field, start_field, start_record, is_end, ends_at_end, fields_after, field_after}
use Rattle.csv.specs.Reading.{default_config, records_from, records_next}
use Rattle.csv.specs.declared.parser.State.{State}
use Rattle.csv.specs.declared.parser.State.TheVariants as st
use Rattle.csv.specs.declared.parser.Action.{Action}
use Rattle.csv.specs.declared.parser.Action.TheVariants as act

-- a step that ends a record stands between two records
abbrev EndsBetween : State × Action → Type 0
EndsBetween p = is_end p.1 ≡ true → ends_at_end p.0 ≡ false

cond_ends : (b : Bool) (p q : State × Action) → EndsBetween p → EndsBetween q → EndsBetween (if b then p else q)
cond_ends true p q first second = first
cond_ends false p q first second = second

after_line : (b : Bool) → ends_at_end (if b then st.AfterCr else st.StartRecord) ≡ false
after_line true = refl
after_line false = refl

in_field_ends : (c : ℕ) → EndsBetween (in_field default_config c)
in_field_ends c =
    cond_ends (c == 44) (st.StartField, act.EndField) _ (λ e. cc e)
    (cond_ends ((c == 13) || (c == 10)) _ (st.InField, act.Copy) (λ e. after_line (c == 13)) (λ e. cc e))

start_field_ends : (c : ℕ) → EndsBetween (start_field default_config c)
start_field_ends c = cond_ends (c == 34) (st.InQuoted, act.Skip) _ (λ e. cc e) (in_field_ends c)

start_record_ends : (c : ℕ) → EndsBetween (start_record default_config c)
start_record_ends c = cond_ends ((c == 13) || (c == 10)) (st.StartRecord, act.Skip) _ (λ e. cc e) (start_field_ends c)

step_ends : (s : State) (c : ℕ) → EndsBetween (step default_config s c)
step_ends st.StartRecord c = start_record_ends c
step_ends st.StartField c = start_field_ends c
step_ends st.InField c = in_field_ends c
step_ends st.InQuoted c = cond_ends (c == 34) (st.AfterQuote, act.Skip) (st.InQuoted, act.Copy) (λ e. cc e) (λ e. cc e)
step_ends st.InEscape c = λ e. cc e
step_ends st.AfterQuote c = cond_ends (c == 34) (st.InQuoted, act.Copy) _ (λ e. cc e) (in_field_ends c)
step_ends st.InComment c = cond_ends (c == 10) (st.StartRecord, act.Skip) (st.InComment, act.Skip) (λ e. cc e) (λ e. cc e)
step_ends st.AfterCr c = cond_ends (c == 10) (st.StartRecord, act.Skip) _ (λ e. cc e) (start_record_ends c)

-- what a record leaves: less of the text, and a state between two records
abbrev Leaves : List ℕ → Read → Type 0
Leaves xs p = (length p.2 ≤ length xs - 1) × (ends_at_end p.1 ≡ false)

leaves : (s : State) (fields : List (List ℕ)) (field xs : List ℕ) (p : Read) → next_record default_config s fields field xs ≡ Some p → Leaves xs p
unfolding next_record
leaves s fields field [] p e = by (ends_at_end s) e
  where
    by : (b : Bool) → (if b then Some (fields ++ (field ∷ []), st.StartRecord, []) else None) ≡ Some p → Leaves [] p
    by true is =
        let state : st.StartRecord ≡ p.1 = cc is in
        let rest : [] ≡ p.2 = cc is in
        (omega (arith, ap length (sym rest)), ap ends_at_end (sym state))
    by false is = cc is
leaves s fields field (c ∷ rest) p e =
    by (is_end (step default_config s c).1) refl e (leaves next (fields_after action fields field) (field_after action c field) rest p)
  where
    next : State
    next = (step default_config s c).0

    action : Action
    action = (step default_config s c).1

    by : (b : Bool) → is_end (step default_config s c).1 ≡ b
        → (if b then Some (fields_after action fields field, next, rest)
        else next_record default_config next (fields_after action fields field) (field_after action c field) rest) ≡ Some p
        → (next_record default_config next (fields_after action fields field) (field_after action c field) rest ≡ Some p → Leaves rest p)
        → Leaves (c ∷ rest) p
    by true ends is more =
        let state : next ≡ p.1 = cc is in
        let left : rest ≡ p.2 = cc is in
        (omega (arith, ap length (sym left)), ap ends_at_end (sym state) ∙ step_ends s c ends)
    by false goes is more = let later = more is in (omega (arith, later.0), later.1)

-- between two records, one is read only of a text that has not ended
some_left : (s : State) (xs : List ℕ) (p : Read) → ends_at_end s ≡ false → next_record default_config s [] [] xs ≡ Some p → 0 < length xs
unfolding next_record
some_left s [] p between e = cc (rw between at e)
some_left s (c ∷ rest) p between e = omega arith

-- as many turns as bytes are enough
enough : (n m : ℕ) (s : State) (xs : List ℕ) → ends_at_end s ≡ false → length xs < n → length xs < m
    → records_from default_config n s xs ≡ records_from default_config m s xs
unfolding records_from
enough zero m s xs between low high = absurd (omega arith)
enough (suc n) zero s xs between low high = absurd (omega arith)
enough (suc n) (suc m) s xs between low high = by (next_record default_config s [] [] xs) refl (λ p. enough n m p.1 p.2)
  where
    by : (o : Option Read) → next_record default_config s [] [] xs ≡ o
        → ((p : Read) → ends_at_end p.1 ≡ false → length p.2 < n → length p.2 < m
        → records_from default_config n p.1 p.2 ≡ records_from default_config m p.1 p.2)
        → records_next (records_from default_config n) o ≡ records_next (records_from default_config m) o
    by None e more = refl
    by (Some p) e more =
        let left = leaves s [] [] xs p e in
        let some = some_left s xs p between e in
        ap (λ (rows : List (List (List ℕ))). p.0 ∷ rows) (more p left.1 (omega (arith, left.0, some)) (omega (arith, left.0, some)))

-- the rows from a record on
pub row_left : (s : State) (xs : List ℕ) (p : Read) → ends_at_end s ≡ false → next_record default_config s [] [] xs ≡ Some p
    → (ends_at_end p.1 ≡ false)
    × (records_from default_config (length xs + 1) s xs ≡ p.0 ∷ records_from default_config (length p.2 + 1) p.1 p.2)
unfolding records_from
row_left s xs p between e =
    let left = leaves s [] [] xs p e in
    let some = some_left s xs p between e in
    let turns : length xs + 1 ≡ suc (length xs) = omega arith in
    let first : records_from default_config (suc (length xs)) s xs ≡ p.0 ∷ records_from default_config (length xs) p.1 p.2 =
    ap (records_next (records_from default_config (length xs))) e in (
      left.1,
      ap (λ n. records_from default_config n s xs) turns ∙ first
          ∙ ap (λ (rows : List (List (List ℕ))). p.0 ∷ rows)
          (enough (length xs) (length p.2 + 1) p.1 p.2 left.1 (omega (arith, left.0, some)) (omega arith)),
    )

pub none_left : (s : State) (xs : List ℕ) → next_record default_config s [] [] xs ≡ None
    → records_from default_config (length xs + 1) s xs ≡ []
unfolding records_from
none_left s xs e =
    let turns : length xs + 1 ≡ suc (length xs) = omega arith in
    ap (λ n. records_from default_config n s xs) turns ∙ ap (records_next (records_from default_config (length xs))) e
