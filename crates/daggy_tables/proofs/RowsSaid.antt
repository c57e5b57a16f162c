-- What the rows of a table say in turn.
use Rattle.std.proofs.Common.{◌≡◌, ℕ, ◌+◌, ◌<◌, true, List, [], ◌∷◌, ◌++◌, map, append_assoc, Option, Some, None, Result, Ok, Err, refl, sym, ap, subst, ◌∙◌, inl, inr}
use Rattle.std.proofs.lemmas.Bool.{cases_Bool, ltb-true}
use Rattle.std.proofs.lemmas.List.{append-nil, map-append}
use Rattle.std.proofs.lemmas.Grind.{flat_map-append}
use Rattle.std.proofs.lemmas.Str.{IsUtf8-from_is_utf8, is_utf8-from_IsUtf8}
use Rattle.std.specs.Cmp.Derive.{both_true}
use Rattle.std.specs.List.{list_all}
use Rattle.std.specs.Option.{option_to_list}
use Rattle.std.specs.Prelude.{nat_lt}
use Rattle.std.specs.Str.{is_utf8}
use Rattle.csv.specs.Records.{AllText, fields_of, Row as Record}
use Rattle.daggy_tables.proofs.Numbers.{and_parts}
use Rattle.daggy_tables.proofs.RowsLeftOver.{Records}
use Rattle.daggy_tables.specs.Left.{RowsLeft, NextRow}
use Rattle.daggy_tables.specs.Reading.{occupied}
use Rattle.daggy_tables.specs.Rows.{Row, within, if_text}
use Rattle.daggy_tables.specs.Stops.{IsFaultOf, StopsAt, StopsRow, StopsTable, UnreadAt}
use Rattle.daggy_tables.specs.Tables.{row_then, rows_from, said_below}
use Rattle.daggy_tables.specs.declared.error.RowFault.{RowFault}
use Rattle.daggy_tables.specs.declared.error.RowFault.TheVariants as fault
use Rattle.daggy_tables.specs.declared.rows.Stop.{Stop}
use Rattle.daggy_tables.specs.declared.rows.Stop.TheVariants.{Memory, Row as OfRow}
use Rattle.daggy_tables.specs.declared.rows.Unread.{Unread}
use Rattle.daggy_tables.specs.declared.rows.Unread.TheVariants.{NotText}
use Rattle.daggy_tables.specs.declared.rows.Unread.TheVariants as unread
use Rattle.daggy_tables.specs.declared.fields.RowStop.{RowStop}
use Rattle.daggy_tables.specs.declared.fields.RowStop.TheVariants as rowstop

-- ---- one row

text_passes : (row : Row) → AllText row → list_all is_utf8 row ≡ true
unfolding AllText
text_passes [] t = refl
text_passes (f ∷ fs) t = both_true (is_utf8-from_IsUtf8 f t.0) (text_passes fs t.1)

passed_text : (row : Row) → list_all is_utf8 row ≡ true → AllText row
unfolding AllText
passed_text [] e = tt
passed_text (f ∷ fs) e =
    let both = and_parts (is_utf8 f) (list_all is_utf8 fs) e in
    (IsUtf8-from_is_utf8 f both.0, passed_text fs both.1)

pub of_text : {A : Type 0} (row : Row) (said : Result A RowFault) → AllText row → if_text row said ≡ said
of_text row said t = rw (text_passes row t) refl

pub of_no_text : {A : Type 0} (row : Row) (said : Result A RowFault) → ¬ (AllText row) → if_text row said ≡ Err fault.NotText
of_no_text row said t = elim (cases_Bool (list_all is_utf8 row)) [
  | inl passes ↦ absurd (t (passed_text row passes))
  | inr fails ↦ rw fails refl
]

-- a row that says something has an index
pub said_within : {A : Type 0} (limit n : ℕ) (said : Result A RowFault) (x : A) → within limit n said ≡ Ok x → n < limit
said_within limit n said x e = elim (cases_Bool (nat_lt n limit)) [
  | inl passes ↦ ltb-true n limit passes
  | inr fails ↦ cc (rw fails at e)
]

-- the error of a table
stops_table : {A : Type 0} (all : Result A (ℕ × RowFault)) (n : ℕ) (why : RowFault) (s : Stop) → IsFaultOf n why s → all ≡ Err (n, why)
    → StopsTable all s
stops_table all n why Memory is e = absurd is
stops_table all n why (OfRow x) is e =
    e ∙ ap (λ (k : ℕ). Err (k, why)) (sym is.0) ∙ ap (λ (w : RowFault). Err (x.row, w)) (sym is.1)

memory_stops : {A : Type 0} (all : Result A (ℕ × RowFault)) (s : Stop) → s ≡ Memory → StopsTable all s
memory_stops all Memory is = tt
memory_stops all (OfRow x) is = cc is

-- ---- rows in turn

-- what was said before, and what the rest says
abbrev pub ahead : {A : Type 0} → List A → Result (List A) (ℕ × RowFault) → Result (List A) (ℕ × RowFault)
ahead before (Err first) = Err first
ahead before (Ok after) = Ok (before ++ after)

nothing_ahead : {A : Type 0} (said : Result (List A) (ℕ × RowFault)) → said ≡ ahead [] said
nothing_ahead (Err first) = refl
nothing_ahead (Ok after) = refl

one_more : {A : Type 0} (before : List A) (n : ℕ) (x : A) (after : Result (List A) (ℕ × RowFault))
    → ahead before (row_then n (Ok x) after) ≡ ahead (before ++ x ∷ []) after
one_more before n x (Err first) = refl
one_more before n x (Ok xs) = ap (λ (l : List _). Ok l) (sym (append_assoc before (x ∷ []) xs))

-- the rows before these have said this, and these are left
pub record Going {A : Type 0} (says : ℕ → Row → Result A RowFault) (it : Records) (before : List A) (n : ℕ)
    (all : Result (List A) (ℕ × RowFault)) : Type 0 where
  pub rest : List Row
  pub left : RowsLeft it rest
  pub said : all ≡ ahead before (rows_from says n rest)

module _ {A : Type 0} (says : ℕ → Row → Result A RowFault) where
  pub starts : (it : Records) (below : Option (List Row)) (rest : List Row) → below ≡ Some rest → RowsLeft it rest
      → Going says it [] 0 (said_below says below)
  starts it below rest is left = record {
    rest = rest;
    left = left;
    said = ap (said_below says) is ∙ nothing_ahead (rows_from says 0 rest);
  }

  module _ (a b : Records) (before : List A) (n : ℕ) (all : Result (List A) (ℕ × RowFault)) (going : Going says a before n all)
      (r : Option (Result Record Unread)) (step : (rows : List Row) → RowsLeft a rows → NextRow rows r (RowsLeft b)) where
    next : NextRow going.rest r (RowsLeft b)
    next = step going.rest going.left

    pub all_said : r ≡ None → all ≡ Ok before
    all_said is =
        let done = subst (λ o. NextRow going.rest o (RowsLeft b)) is next in
        going.said ∙ ap (λ rows. ahead before (rows_from says n rows)) done ∙ ap (λ (l : List A). Ok l) (append-nil before)

    module _ (f : Result Record Unread) (is : r ≡ Some f) where
      module _ (row : Record) (ok : f ≡ Ok row) where
        given : NextRow going.rest (Some (Ok row)) (RowsLeft b)
        given = subst (λ o. NextRow going.rest o (RowsLeft b)) (is ∙ ap (λ (x : Result Record Unread). Some x) ok) next

        pub is_text : AllText (fields_of row)
        is_text = given.2

        row_at_fault : (why : RowFault) → says n (fields_of row) ≡ Err why → all ≡ Err (n + 1, why)
        row_at_fault why e =
            going.said ∙ ap (λ rows. ahead before (rows_from says n rows)) given.1
            ∙ ap (λ said. ahead before (row_then n said (rows_from says (n + 1) given.0))) e

        -- what stopped a row stops the table
        pub row_stops : (stop : RowStop) (s : Stop) (m : ℕ) → StopsRow (says n (fields_of row)) stop → StopsAt m stop s → m ≡ n + 1
            → StopsTable all s
        row_stops rowstop.Memory s m why at count = memory_stops all s at
        row_stops (rowstop.Fault fault) s m why at count =
            stops_table all m fault s at (row_at_fault fault why ∙ ap (λ (k : ℕ). Err (k, fault)) (sym count))

        pub goes_on : (x : A) (so_far : List A) (m : ℕ) → says n (fields_of row) ≡ Ok x → so_far ≡ before ++ x ∷ [] → m ≡ n + 1
            → Going says b so_far m all
        goes_on x so_far m e more count = record {
          rest = given.0;
          left = given.3;
          said =
              going.said ∙ ap (λ rows. ahead before (rows_from says n rows)) given.1
              ∙ ap (λ said. ahead before (row_then n said (rows_from says (n + 1) given.0))) e
              ∙ one_more before n x (rows_from says (n + 1) given.0)
              ∙ ap (λ l. ahead l (rows_from says (n + 1) given.0)) (sym more)
              ∙ ap (λ k. ahead so_far (rows_from says k given.0)) (sym count);
        }

      not_text : (u : Unread) (line : ℕ) → f ≡ Err u → u ≡ NotText line
          → ((row : Row) → ¬ (AllText row) → says n row ≡ Err fault.NotText) → all ≡ Err (n + 1, fault.NotText)
      not_text u line err bad refused =
          let (row, rest, rows, no_text) =
          subst (λ o. NextRow going.rest o (RowsLeft b))
          (is ∙ ap (λ (x : Result Record Unread). Some x) err ∙ ap (λ (x : Unread). Some (Err x)) bad) next in
          going.said ∙ ap (λ l. ahead before (rows_from says n l)) rows
          ∙ ap (λ said. ahead before (row_then n said (rows_from says (n + 1) rest))) (refused row no_text)

      pub unread_stops : (u : Unread) (s : Stop) (m : ℕ) → f ≡ Err u → UnreadAt m u s → m ≡ n + 1
          → ((row : Row) → ¬ (AllText row) → says n row ≡ Err fault.NotText) → StopsTable all s
      unread_stops unread.Memory s m err at count refused = memory_stops all s at
      unread_stops (NotText line) s m err at count refused =
          stops_table all m fault.NotText s at
          (not_text (NotText line) line err refl refused ∙ ap (λ (k : ℕ). Err (k, fault.NotText)) (sym count))

-- what is in one more slot
pub occupied_more : {A B : Type 0} (f : A → B) (slots : List (Option A)) (x : A)
    → map f (occupied (slots ++ Some x ∷ [])) ≡ map f (occupied slots) ++ f x ∷ []
occupied_more f slots x = ap (map f) (flat_map-append option_to_list slots (Some x ∷ [])) ∙ map-append f (occupied slots) (x ∷ [])

-- what was said of a row's fields is said of the row
pub said_of : {A : Type 0} (row : Row) (said : Result A RowFault) (stop : RowStop) → AllText row → StopsRow said stop → StopsRow (if_text row said) stop
said_of row said rowstop.Memory text why = tt
said_of row said (rowstop.Fault fault) text why = of_text row said text ∙ why
