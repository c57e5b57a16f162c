-- The lines of a table, as they are read.
use Rattle.std.proofs.Common.{◌≡◌, ℕ, zero, suc, ◌+◌, ◌<◌, ◌≤◌, List, [], ◌∷◌, ◌++◌, length, take, map, get_or, append_assoc, Option, Some, None, IsSome, Result, Ok, Err, refl, sym, ap, subst, ◌∙◌, arith}
use Rattle.std.proofs.lemmas.List.{append-nil, length-append, take_more, take_all}
use Rattle.std.specs.Fmt.{◌++?◌}
use Rattle.csv.specs.Machine.{next_record}
use Rattle.csv.specs.Reading.{default_config, records_from}
use Rattle.csv.specs.declared.parser.State.TheVariants as st
use Rattle.daggy_base.specs.Graph.{slot}
use Rattle.daggy_formats.specs.Lines.{line_of, lines_of}
use Rattle.daggy_tables.proofs.RowsSaid.{occupied_more}
use Rattle.daggy_tables.proofs.TextRead.{row_left, none_left}
use Rattle.daggy_tables.specs.Reading.{occupied}
use Rattle.daggy_tables.specs.Rows.{Row}
use Rattle.daggy_tables.specs.Tables.{rows_from, row_then}
use Rattle.daggy_tables.specs.declared.error.RowFault.{RowFault}

-- the rows of a text from the start of a row on
abbrev pub rows_at : List ℕ → List Row
rows_at text = records_from default_config (length text + 1) st.StartRecord text

-- a text that ends with a row is read as these rows, whatever comes after it
abbrev pub ReadsAs : List ℕ → List Row → Type 0
ReadsAs text rows = (tail : List ℕ) → rows_at (text ++ tail) ≡ rows ++ rows_at tail

reads_nothing : ReadsAs [] []
reads_nothing tail = refl

pub reads_both : (a b : List ℕ) (rows more : List Row) → ReadsAs a rows → ReadsAs b more → ReadsAs (a ++ b) (rows ++ more)
reads_both a b rows more first second tail =
    ap rows_at (append_assoc a b tail) ∙ first (b ++ tail) ∙ ap (λ l. rows ++ l) (second tail) ∙ sym (append_assoc rows more (rows_at tail))

pub reads_row : (text : List ℕ) (row : Row)
    → ((tail : List ℕ) → next_record default_config st.StartRecord [] [] (text ++ tail) ≡ Some (row, st.StartRecord, tail))
    → ReadsAs text (row ∷ [])
reads_row text row reads tail = (row_left st.StartRecord (text ++ tail) (row, st.StartRecord, tail) refl (reads tail)).1

-- all rows of a text
pub reads_all : (text : List ℕ) (rows : List Row) → ReadsAs text rows → rows_at text ≡ rows
unfolding next_record
reads_all text rows reads =
    ap rows_at (sym (append-nil text)) ∙ reads [] ∙ ap (λ l. rows ++ l) (none_left st.StartRecord [] refl) ∙ append-nil rows

-- one more row that says something
one_more_said : {A : Type 0} (says : ℕ → Row → Result A RowFault) (k : ℕ) (rows : List Row) (xs : List A) (row : Row) (x : A)
    → rows_from says k rows ≡ Ok xs → says (k + length rows) row ≡ Ok x
    → rows_from says k (rows ++ row ∷ []) ≡ Ok (xs ++ x ∷ [])
one_more_said says k [] xs row x before is =
    let none : [] ≡ xs = cc before in
    let start : k ≡ k + 0 = omega arith in
    ap (λ n. row_then k (says n row) (Ok [])) start ∙ ap (λ s. row_then k s (Ok [])) is ∙ ap (λ l. Ok (l ++ x ∷ [])) none
one_more_said says k (r ∷ rows) xs row x before is = by (says k r) (rows_from says (k + 1) rows) before (λ ys rest. one_more_said says (k + 1) rows ys row x rest here)
  where
    here : says (k + 1 + length rows) row ≡ Ok x
    here = let same : k + 1 + length rows ≡ k + length (r ∷ rows) = omega arith in ap (λ n. says n row) same ∙ is

    by : (first : Result _ RowFault) (after : Result (List _) (ℕ × RowFault)) → row_then k first after ≡ Ok xs
        → ((ys : List _) → after ≡ Ok ys → rows_from says (k + 1) (rows ++ row ∷ []) ≡ Ok (ys ++ x ∷ []))
        → row_then k first (rows_from says (k + 1) (rows ++ row ∷ [])) ≡ Ok (xs ++ x ∷ [])
    by (Err f) after e more = cc e
    by (Ok y) (Err f) e more = cc e
    by (Ok y) (Ok ys) e more =
        let same : y ∷ ys ≡ xs = cc e in
        ap (row_then k (Ok y)) (more ys refl) ∙ ap (λ l. Ok (l ++ x ∷ [])) same

-- the parts of a text in two parts
pub in_two : (a b : Option (List ℕ)) (text : List ℕ) → a ++? b ≡ Some text
    → (s : List ℕ) × (t : List ℕ) × (a ≡ Some s) × (b ≡ Some t) × (text ≡ s ++ t)
in_two None b text e = cc e
in_two (Some s) None text e = cc e
in_two (Some s) (Some t) text e = (s, t, refl, refl, cc e)

module _ {A B : Type 0} (line : ℕ → A → Option (List ℕ)) (says : ℕ → Row → Result B RowFault) (item : A → B) (slots : List (Option A))
    (full : (i : ℕ) → i < length slots → IsSome (slot slots i))
    (reads : (i : ℕ) (x : A) (t : List ℕ) → i < length slots → slot slots i ≡ Some x → line i x ≡ Some t
    → (row : Row) × ReadsAs t (row ∷ []) × (says i row ≡ Ok (item x))) where
  -- the rows of the first slots
  pub record Read (n : ℕ) (text : List ℕ) : Type 0 where
    pub rows : List Row
    pub reads_as : ReadsAs text rows
    pub said : rows_from says 0 rows ≡ Ok (map item (occupied (take n slots)))
    pub count : length rows ≡ n

  in_slot : (i : ℕ) → i < length slots → (x : A) × (slot slots i ≡ Some x)
  in_slot i within = by (slot slots i) (full i within)
    where
      by : (o : Option A) → IsSome o → (x : A) × (o ≡ Some x)
      by None is = cc is
      by (Some x) is = (x, refl)

  slot_read : (xs : List (Option A)) (i : ℕ) (x : A) → slot xs i ≡ Some x → get_or xs i None ≡ Some x
  slot_read [] i x at = cc at
  slot_read (o ∷ xs) zero x at = at
  slot_read (o ∷ xs) (suc i) x at = slot_read xs i x at

  pub lines_read : (n : ℕ) (text : List ℕ) → n ≤ length slots → lines_of line slots n ≡ Some text → Read n text
  lines_read zero text within e = record {
    rows = [];
    reads_as = let none : [] ≡ text = cc e in subst (λ t. ReadsAs t []) none reads_nothing;
    said = refl;
    count = refl;
  }
  lines_read (suc n) text within e =
      let (s, t, before, last, whole) = in_two (lines_of line slots n) (line_of (line n) (slot slots n)) text e in
      let r = lines_read n s (omega arith) before in
      let here : n < length slots = omega arith in
      let (x, at) = in_slot n here in
      let (row, row_reads, row_said) = reads n x t here at (sym (ap (line_of (line n)) at) ∙ last) in
      record {
        rows = r.rows ++ row ∷ [];
        reads_as = subst (λ l. ReadsAs l (r.rows ++ row ∷ [])) (sym whole) (reads_both s t r.rows (row ∷ []) r.reads_as row_reads);
        said =
            one_more_said says 0 r.rows (map item (occupied (take n slots))) row (item x) r.said
            (let same : 0 + length r.rows ≡ n = omega (arith, r.count) in ap (λ k. says k row) same ∙ row_said)
            ∙ ap (λ l. Ok l) (sym (occupied_more item (take n slots) x)
            ∙ ap (λ o. map item (occupied (take n slots ++ o ∷ []))) (sym (slot_read slots n x at))
            ∙ ap (λ l. map item (occupied l)) (sym (take_more slots n None here)) ∙ next);
        count = let more = length-append r.rows (row ∷ []) in omega (arith, more, r.count);
      }
    where
      next : map item (occupied (take (n + 1) slots)) ≡ map item (occupied (take (suc n) slots))
      next = let same : n + 1 ≡ suc n = omega arith in ap (λ k. map item (occupied (take k slots))) same

  pub all_lines : (text : List ℕ) → lines_of line slots (length slots) ≡ Some text
      → (rows : List Row) × ReadsAs text rows × (rows_from says 0 rows ≡ Ok (map item (occupied slots)))
  all_lines text e =
      let r = lines_read (length slots) text (omega arith) e in
      (r.rows, r.reads_as, r.said ∙ ap (λ l. Ok (map item (occupied l))) (take_all (length slots) slots (omega arith)))
