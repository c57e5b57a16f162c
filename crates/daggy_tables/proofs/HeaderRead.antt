-- The header, compared field by field.
use Rattle.std.proofs.Common.{◌≡◌, ℕ, zero, suc, ◌+◌, ◌<◌, ◌≤◌, ◌&&◌, Bool, true, false, not, List, [], ◌∷◌, length, drop, map, slice_index_or, Option, Some, None, Result, Ok, Err, IsUtf8, codes, nat_lt, lit<, refl, sym, ap, subst, ◌∙◌, arith}
use Rattle.std.proofs.lemmas.List.{drop_all, length-map}
use Rattle.std.proofs.lemmas.Bool.{ltb-true}
use Rattle.std.proofs.lemmas.Str.{IsUtf8-from_ascii}
use Rattle.std.specs.List.{list_all}
use Rattle.std.specs.Str.{IsAscii}
use Rattle.std.proofs.lemmas.Slice.Eq.{bytes_eq-Decides}
use Rattle.std.specs.Borrow.{Bor}
use Rattle.std.specs.Prelude.{if◌then◌else◌}
use Rattle.std.specs.Str.{bytes_eq}
use Rattle.csv.specs.Records.{AllText, field_at, fields_of, Row as Record}
use Rattle.daggy_tables.proofs.FieldsRead.{field_of}
use Rattle.daggy_tables.proofs.Numbers.{and_parts}
use Rattle.daggy_tables.specs.Left.{NextRow}
use Rattle.daggy_tables.specs.Rows.{Row, same_fields}
use Rattle.daggy_tables.specs.Stops.{IsFaultOf, StopsHeader}
use Rattle.daggy_tables.specs.Tables.{rows_below, node_header, edge_header}
use Rattle.daggy_tables.specs.declared.error.RowFault.TheVariants.{Header}
use Rattle.daggy_tables.specs.declared.rows.Stop.{Stop}
use Rattle.daggy_tables.specs.declared.rows.Stop.TheVariants.{Memory, Row as OfRow}
use Rattle.daggy_tables.specs.declared.rows.Unread.{Unread}
use Rattle.daggy_tables.specs.declared.rows.Unread.TheVariants.{NotText}

-- the texts that the header has to have
abbrev pub texts : List (Bor (List ℕ)) → Row
texts names = map (λ s. s.now) names

fields_from : (row : Row) (i : ℕ) → i < length row → drop i row ≡ field_of row i ∷ drop (suc i) row
unfolding field_at
fields_from [] i h = absurd (omega (arith, h))
fields_from (f ∷ fs) zero h = refl
fields_from (f ∷ fs) (suc i) h = fields_from fs i (omega (arith, h))

texts_from : (names : List (Bor (List ℕ))) (i : ℕ) (d : Bor (List ℕ)) → i < length names
    → drop i (texts names) ≡ (slice_index_or names i d).now ∷ drop (suc i) (texts names)
texts_from [] i d h = absurd (omega (arith, h))
texts_from (x ∷ xs) zero d h = refl
texts_from (x ∷ xs) (suc i) d h = texts_from xs i d (omega (arith, h))

pub other_lengths : (xs ys : Row) → (length xs ≡ length ys → ⊥) → false ≡ same_fields xs ys
other_lengths [] [] h = absurd (h refl)
other_lengths [] (y ∷ ys) h = refl
other_lengths (x ∷ xs) [] h = refl
other_lengths (x ∷ xs) (y ∷ ys) h = by (bytes_eq x y) (other_lengths xs ys (λ e. h (ap suc e)))
  where
    by : (b : Bool) → false ≡ same_fields xs ys → false ≡ (b && same_fields xs ys)
    by true e = e
    by false e = refl

not_not : (b : Bool) → true ≡ not b → b ≡ false
not_not true e = cc e
not_not false e = refl

not_so : (b : Bool) → false ≡ not b → b ≡ true
not_so true e = refl
not_so false e = cc e

module _ (row : Row) (names : List (Bor (List ℕ))) (i : ℕ) (in_row : i < length row) (in_names : i < length names) where
  here : (d : Bor (List ℕ)) → same_fields (drop i row) (drop i (texts names))
      ≡ (bytes_eq (field_of row i) (slice_index_or names i d).now && same_fields (drop (suc i) row) (drop (suc i) (texts names)))
  here d = ap (λ xs. same_fields xs (drop i (texts names))) (fields_from row i in_row)
      ∙ ap (same_fields (field_of row i ∷ drop (suc i) row)) (texts_from names i d in_names)

  pub other_field : (f : List ℕ) (d : Bor (List ℕ)) → f ≡ field_of row i → true ≡ not (bytes_eq f (slice_index_or names i d).now)
      → same_fields (drop i row) (drop i (texts names)) ≡ false
  other_field f d is e =
      here d
      ∙ ap (λ x. bytes_eq x (slice_index_or names i d).now && same_fields (drop (suc i) row) (drop (suc i) (texts names))) (sym is)
      ∙ ap (λ b. b && same_fields (drop (suc i) row) (drop (suc i) (texts names))) (not_not (bytes_eq f (slice_index_or names i d).now) e)

  pub same_field : (f : List ℕ) (d : Bor (List ℕ)) → f ≡ field_of row i → false ≡ not (bytes_eq f (slice_index_or names i d).now)
      → same_fields (drop i row) (drop i (texts names)) ≡ same_fields (drop (i + 1) row) (drop (i + 1) (texts names))
  same_field f d is e =
      let more : suc i ≡ i + 1 = omega arith in
      here d
      ∙ ap (λ x. bytes_eq x (slice_index_or names i d).now && same_fields (drop (suc i) row) (drop (suc i) (texts names))) (sym is)
      ∙ ap (λ b. b && same_fields (drop (suc i) row) (drop (suc i) (texts names))) (not_so (bytes_eq f (slice_index_or names i d).now) e)
      ∙ ap (λ j. same_fields (drop j row) (drop j (texts names))) more

pub all_compared : (row : Row) (names : List (Bor (List ℕ))) (i : ℕ) → length row ≡ length names → length names ≤ i
    → same_fields (drop i row) (drop i (texts names)) ≡ true
all_compared row names i same end =
    ap (λ xs. same_fields xs (drop i (texts names))) (drop_all i row (omega arith))
    ∙ ap (same_fields []) (drop_all i (texts names) (omega (arith, length-map names (λ (s : Bor (List ℕ)). s.now))))

-- a row with the fields of a text is text
same_text : (xs ys : Row) → same_fields xs ys ≡ true → AllText ys → AllText xs
unfolding AllText
same_text [] [] e t = tt
same_text [] (y ∷ ys) e t = cc e
same_text (x ∷ xs) [] e t = cc e
same_text (x ∷ xs) (y ∷ ys) e t =
    let both = and_parts (bytes_eq x y) (same_fields xs ys) e in
    (subst IsUtf8 (sym ((bytes_eq-Decides x y).0 both.0)) t.0, same_text xs ys both.1 t.1)

-- what the first row tells of the rows below the header
module _ (header : Row) (rows : List Row) (left : List Row → Type 0) where
  pub is_headed : (r : Option (Result Record Unread)) (f : Result Record Unread) (row : Record) → NextRow rows r left
      → r ≡ Some f → f ≡ Ok row → true ≡ same_fields (fields_of row) header
      → (rest : List Row) × (rows_below header rows ≡ Some rest) × left rest
  is_headed r f row next is ok same =
      let (rest, all, text, after) = subst (λ o. NextRow rows o left) (is ∙ ap (λ (x : Result Record Unread). Some x) ok) next in
      (rest, ap (rows_below header) all ∙ rw (sym same) refl, after)

  pub other_header : (r : Option (Result Record Unread)) (f : Result Record Unread) (row : Record) → NextRow rows r left
      → r ≡ Some f → f ≡ Ok row → false ≡ same_fields (fields_of row) header → rows_below header rows ≡ None
  other_header r f row next is ok other =
      let (rest, all, text, after) = subst (λ o. NextRow rows o left) (is ∙ ap (λ (x : Result Record Unread). Some x) ok) next in
      ap (rows_below header) all ∙ rw (sym other) refl

  pub header_not_text : (r : Option (Result Record Unread)) (f : Result Record Unread) (u : Unread) (line : ℕ) → NextRow rows r left
      → r ≡ Some f → f ≡ Err u → u ≡ NotText line → AllText header → rows_below header rows ≡ None
  header_not_text r f u line next is err bad text =
      let (row, rest, all, not_text) =
      subst (λ o. NextRow rows o left) (is ∙ ap (λ (x : Result Record Unread). Some x) err ∙ ap (λ (x : Unread). Some (Err x)) bad) next in
      ap (rows_below header) all ∙ not_it (same_fields row header) rest (λ same. not_text (same_text row header same text))
    where
      not_it : (b : Bool) (after : List Row) → (b ≡ true → ⊥) → (if b then Some after else None) ≡ None
      not_it true after never = absurd (never refl)
      not_it false after never = refl

  pub no_header : (r : Option (Result Record Unread)) → NextRow rows r left → r ≡ None → rows_below header rows ≡ None
  no_header r next is = ap (rows_below header) (subst (λ o. NextRow rows o left) is next)

pub stops_header : (s : Stop) (missing : Type 0) → IsFaultOf 0 Header s → missing → StopsHeader s missing
stops_header Memory missing is none = absurd is
stops_header (OfRow e) missing is none = (is.0, is.1, none)

-- bytes below 128 are text
plain_bytes : (bs : List ℕ) → list_all (λ c. nat_lt c 128) bs ≡ true → IsAscii bs
plain_bytes [] e i = lit< tt
plain_bytes (c ∷ cs) e zero = ltb-true c 128 (and_parts (nat_lt c 128) (list_all (λ d. nat_lt d 128) cs) e).0
plain_bytes (c ∷ cs) e (suc i) = plain_bytes cs (and_parts (nat_lt c 128) (list_all (λ d. nat_lt d 128) cs) e).1 i

plain_text : (bs : List ℕ) → list_all (λ c. nat_lt c 128) bs ≡ true → IsUtf8 bs
plain_text bs e = IsUtf8-from_ascii bs (plain_bytes bs e)

-- the headers are text
pub node_header_text : AllText node_header
unfolding AllText
node_header_text = (plain_text (codes "node") refl, (plain_text (codes "weight") refl, tt))

pub edge_header_text : AllText edge_header
unfolding AllText
edge_header_text = (
  plain_text (codes "parent") refl,
  (plain_text (codes "child") refl, (plain_text (codes "weight") refl, tt)),
)
