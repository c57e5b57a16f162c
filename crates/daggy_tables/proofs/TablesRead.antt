-- Tables that are written, as they are read.
use Rattle.std.proofs.Common.{◌≡◌, ℕ, zero, suc, ◌<◌, ◌^◌, true, List, [], ◌∷◌, ◌++◌, length, map, codes, decimal, Option, Some, None, IsSome, IfSome, IsUtf8, Result, Ok, unwrap_or, slice_get, refl, sym, ap, subst, ◌∙◌, arith, lt-ltb}
use Rattle.std.proofs.lemmas.Bool.{eq-eqb}
use Rattle.std.proofs.lemmas.Fmt.{decimal_is_IsNumeral, IsAscii-decimal}
use Rattle.std.proofs.lemmas.List.{append-nil}
use Rattle.std.proofs.lemmas.Str.{IsUtf8-from_ascii}
use Rattle.std.specs.Fmt.{◌++?◌}
use Rattle.std.specs.Str.Parse.{AllDigits, digits_value, without_leading_plus}
use Rattle.csv.specs.Machine.{next_record}
use Rattle.csv.specs.Reading.{strip_bom}
use Rattle.csv.specs.Records.{AllText}
use Rattle.daggy_base.proofs.FullSlots.{full_from}
use Rattle.daggy_base.specs.Graph.{Graph, Edge, IsCompact, slot}
use Rattle.daggy_base.specs.WellFormed.{IsWellFormed}
use Rattle.daggy_formats.specs.Document.{between, node_row, edge_row}
use Rattle.daggy_formats.specs.Escapes.{csv_char, escaped as escaped_by}
use Rattle.daggy_formats.specs.Lines.{line_of, lines_of}
use Rattle.daggy_tables.proofs.FieldsRead.{within_limit}
use Rattle.daggy_tables.proofs.LinesRead.{ReadsAs, all_lines, in_two, rows_at, reads_all, reads_both, reads_row}
use Rattle.daggy_tables.proofs.Numbers.{number_written}
use Rattle.daggy_tables.proofs.RowsSaid.{of_text}
use Rattle.daggy_tables.proofs.RowsWritten.{edge_row_read, node_row_read, not_mark}
use Rattle.daggy_tables.specs.ReadBack.{DisplayText, IsEdgeTable, IsNodeTable, shown, with_shown}
use Rattle.daggy_tables.specs.Reading.{occupied}
use Rattle.daggy_tables.specs.Rows.{Field, Row, number_of, index_below, edge_between, edge_of_fields, edge_of_row, node_of_fields, node_of_row, same_fields, weight_after, within}
use Rattle.daggy_tables.specs.Tables.{edge_header, edges_said, node_header, nodes_said, rows_below, rows_from, rows_of, said_below}
use Rattle.daggy_tables.specs.declared.error.RowFault.{RowFault}
use Rattle.daggy_tables.specs.declared.error.RowFault.TheVariants.{NoSuchNode}

-- ---- the fields of a row

no_plus : (ds : List ℕ) → AllDigits 10 ds → without_leading_plus ds ≡ ds
no_plus [] all = refl
no_plus (c ∷ cs) all = rw (not_mark c 43 all.0 refl) refl

number_decimal : (n : ℕ) → n < 2 ^ 64 → number_of (decimal n) ≡ Some n
number_decimal n small =
    let (numeral, value) = decimal_is_IsNumeral n small in
    let plain = no_plus (decimal n) numeral.1 in
    let is : digits_value 10 (without_leading_plus (decimal n)) ≡ n = ap (digits_value 10) plain ∙ value in
    number_written (decimal n) (rw plain numeral, omega (arith, is, small)) ∙ ap (λ (k : ℕ). Some k) is

decimal_text : (n : ℕ) → n < 2 ^ 64 → IsUtf8 (decimal n)
decimal_text n small = IsUtf8-from_ascii (decimal n) (IsAscii-decimal n small)

node_said : (limit n : ℕ) (weight : Field) → limit < 2 ^ 64 → n < limit → IsUtf8 weight
    → node_of_row limit n (decimal n ∷ weight ∷ []) ≡ Ok weight
unfolding AllText
node_said limit n weight fits below utf8 =
    let small : n < 2 ^ 64 = omega (arith, fits, below) in
    of_text (decimal n ∷ weight ∷ []) (within limit n (node_of_fields n (decimal n ∷ weight ∷ []))) (decimal_text n small, (utf8, tt))
    ∙ within_limit limit n (node_of_fields n (decimal n ∷ weight ∷ [])) below
    ∙ ap (λ o. weight_after n o weight) (number_decimal n small)
    ∙ rw (eq-eqb n n refl) refl

index_said : (bound n : ℕ) (beyond : RowFault) → n < 2 ^ 64 → n < bound → index_below bound beyond (number_of (decimal n)) ≡ Ok n
index_said bound n beyond small below = ap (index_below bound beyond) (number_decimal n small) ∙ rw (lt-ltb n bound below) refl

edge_said : (limit bound e : ℕ) (beyond : RowFault) (x : Edge Field) → bound < 2 ^ 64 → e < limit → x.parent < bound → x.child < bound → IsUtf8 x.weight
    → edge_of_row limit bound beyond e (decimal x.parent ∷ decimal x.child ∷ x.weight ∷ []) ≡ Ok x
unfolding AllText
edge_said limit bound e beyond x fits below parent child utf8 =
    let row = decimal x.parent ∷ decimal x.child ∷ x.weight ∷ [] in
    let small : x.parent < 2 ^ 64 = omega (arith, fits, parent) in
    let small_child : x.child < 2 ^ 64 = omega (arith, fits, child) in
    of_text row (within limit e (edge_of_fields bound beyond row)) (decimal_text x.parent small, (decimal_text x.child small_child, (utf8, tt)))
    ∙ within_limit limit e (edge_of_fields bound beyond row) below
    ∙ ap (λ r. edge_between r (index_below bound beyond (number_of (decimal x.child))) x.weight) (index_said bound x.parent beyond small parent)
    ∙ ap (λ r. edge_between (Ok x.parent) r x.weight) (index_said bound x.child beyond small_child child)

-- ---- a whole table

shown_between : (before after : List ℕ) (o : Option (List ℕ)) (t : List ℕ) → between csv_char before o after ≡ Some t
    → (s : List ℕ) × (o ≡ Some s) × (t ≡ before ++ (escaped_by csv_char s ++ after))
shown_between before after None t e = cc e
shown_between before after (Some s) t e = (s, refl, cc e)

no_lines : {A : Type 0} (slots : List (Option A)) (n : ℕ) → lines_of (λ i x. Some []) slots n ≡ Some []
no_lines slots zero = refl
no_lines slots (suc n) = ap (λ o. o ++? line_of (λ x. Some []) (slot slots n)) (no_lines slots n) ∙ by (slot slots n)
  where
    by : {B : Type 0} (o : Option B) → Some [] ++? line_of (λ x. Some []) o ≡ Some []
    by None = refl
    by (Some x) = refl

pub full_slots : {A : Type 0} (xs : List (Option A)) → ((i : ℕ) → slice_get xs i ≡ Some None → ⊥) → (i : ℕ) → i < length xs → IsSome (slot xs i)
full_slots [] full i within = absurd (omega (arith, within))
full_slots (None ∷ xs) full i within = absurd (full 0 refl)
full_slots (Some x ∷ xs) full zero within = refl
full_slots (Some x ∷ xs) full (suc i) within = full_slots xs (λ k p. full (suc k) p) i (omega (arith, within))

slot_within : {A : Type 0} (xs : List (Option A)) (i : ℕ) → IsSome (slot xs i) → i < length xs
slot_within [] i some = cc some
slot_within (o ∷ xs) zero some = omega arith
slot_within (o ∷ xs) (suc i) some = let rest = slot_within xs i some in omega (arith, rest)

table_said : {A : Type 0} (names : Row) (says : ℕ → Row → Result A RowFault) (header body text : List ℕ) (rows : List Row) (xs : List A)
    → ReadsAs header (names ∷ []) → ReadsAs body rows → strip_bom text ≡ text → text ≡ header ++ body
    → same_fields names names ≡ true → rows_from says 0 rows ≡ Ok xs
    → said_below says (rows_below names (rows_of text)) ≡ Ok xs
table_said names says header body text rows xs first rest mark whole same said =
    let all : rows_of text ≡ names ∷ rows =
    ap rows_at mark ∙ ap rows_at whole ∙ reads_all (header ++ body) (names ∷ rows) (reads_both header body (names ∷ []) rows first rest) in
    ap (λ l. said_below says (rows_below names l)) all ∙ rw same said

node_header_read : ReadsAs (codes "node,weight\n") (node_header ∷ [])
unfolding next_record
node_header_read = reads_row (codes "node,weight\n") node_header (λ tail. refl)

edge_header_read : ReadsAs (codes "parent,child,weight\n") (edge_header ∷ [])
unfolding next_record
edge_header_read = reads_row (codes "parent,child,weight\n") edge_header (λ tail. refl)

module _ {N E : Type 0} (of_node : N → Option (List ℕ)) (of_edge : E → Option (List ℕ)) (limit : ℕ) (g : Graph N E) (fits : limit < 2 ^ 64)
    (well : IsWellFormed limit g) (compact : IsCompact g) (display : DisplayText of_node of_edge g) where
  node_reads : (i : ℕ) (w : N) (t : List ℕ) → i < length g.nodes → slot g.nodes i ≡ Some w → node_row i (of_node w) ≡ Some t
      → (row : Row) × ReadsAs t (row ∷ []) × (node_of_row limit i row ≡ Ok (shown of_node w))
  node_reads i w t within at e =
      let (s, is, text) = shown_between (decimal i ++ codes ",\"") (codes "\"\n") (of_node w) t e in
      let utf8 = subst (λ o. IfSome o IsUtf8) is (display.nodes i w at) in
      let below : i < limit = omega (arith, within, well.few_nodes) in
      let small : i < 2 ^ 64 = omega (arith, below, fits) in
      let same : s ≡ shown of_node w = sym (ap (λ o. unwrap_or o []) is) in (
        decimal i ∷ s ∷ [],
        subst (λ l. ReadsAs l ((decimal i ∷ s ∷ []) ∷ [])) (sym text) (reads_row _ _ (λ tail. node_row_read i s tail small utf8)),
        node_said limit i s fits below utf8 ∙ ap (λ (l : List ℕ). Ok l) same,
      )

  pub node_table_read : (text : List ℕ) → IsNodeTable of_node of_edge g text
      → nodes_said limit (rows_of text) ≡ Ok (map (shown of_node) (occupied g.nodes))
  unfolding strip_bom
  node_table_read text is =
      let (header, rest, first, after, whole) = in_two (Some (codes "node,weight\n")) _ text is in
      let (body, end, lines, ending, parts) = in_two (lines_of (λ n w. node_row n (of_node w)) g.nodes (length g.nodes)) _ rest after in
      let nothing : Some end ≡ Some [] = sym ending ∙ ap (λ o. o ++? Some []) (no_lines g.edges (length g.edges)) in
      let none : end ≡ [] = cc nothing in
      let head : codes "node,weight\n" ≡ header = cc first in
      let read = all_lines (λ n w. node_row n (of_node w)) (node_of_row limit) (shown of_node) g.nodes
      (full_slots g.nodes (full_from g.nodes g.vacant_nodes well.node_slots compact.nodes)) node_reads body lines in
      let are : text ≡ codes "node,weight\n" ++ body =
      whole ∙ ap (λ l. l ++ rest) (sym head) ∙ ap (λ l. codes "node,weight\n" ++ l) (parts ∙ ap (λ l. body ++ l) none ∙ append-nil body) in
      table_said node_header (node_of_row limit) (codes "node,weight\n") body text read.0 _ node_header_read read.1 (ap strip_bom are ∙ sym are) are refl read.2

  edge_reads : (e : ℕ) (x : Edge E) (t : List ℕ) → e < length g.edges → slot g.edges e ≡ Some x → edge_row x.parent x.child (of_edge x.weight) ≡ Some t
      → (row : Row) × ReadsAs t (row ∷ []) × (edge_of_row limit (length g.nodes) NoSuchNode e row ≡ Ok (with_shown of_edge x))
  edge_reads e x t within at is_line =
      let (s, is, text) = shown_between (decimal x.parent ++ (codes "," ++ (decimal x.child ++ codes ",\""))) (codes "\"\n") (of_edge x.weight) t is_line in
      let utf8 = subst (λ o. IfSome o IsUtf8) is (display.edges e x at) in
      let below : e < limit = omega (arith, within, well.few_edges) in
      let parent = slot_within g.nodes x.parent (well.parents e x at) in
      let child = slot_within g.nodes x.child (well.children e x at) in
      let bound_fits : length g.nodes < 2 ^ 64 = omega (arith, fits, well.few_nodes) in
      let small : x.parent < 2 ^ 64 = omega (arith, bound_fits, parent) in
      let small_child : x.child < 2 ^ 64 = omega (arith, bound_fits, child) in
      let same : s ≡ shown of_edge x.weight = sym (ap (λ o. unwrap_or o []) is) in (
        decimal x.parent ∷ decimal x.child ∷ s ∷ [],
        subst (λ l. ReadsAs l ((decimal x.parent ∷ decimal x.child ∷ s ∷ []) ∷ [])) (sym text)
            (reads_row _ _ (λ tail. edge_row_read x.parent x.child s tail small small_child utf8)),
        edge_said limit (length g.nodes) e NoSuchNode (record { parent = x.parent; child = x.child; weight = s }) bound_fits below parent child utf8
            ∙ ap (λ (l : List ℕ). Ok (record { parent = x.parent; child = x.child; weight = l })) same,
      )

  pub edge_table_read : (text : List ℕ) → IsEdgeTable of_node of_edge g text
      → edges_said limit (length g.nodes) NoSuchNode (rows_of text) ≡ Ok (map (with_shown of_edge) (occupied g.edges))
  unfolding strip_bom
  edge_table_read text is =
      let (header, rest, first, after, whole) = in_two (Some (codes "parent,child,weight\n")) _ text is in
      let (before, lines_after, no_line, ending, parts) = in_two (lines_of (λ n w. Some []) g.nodes (length g.nodes)) _ rest after in
      let (body, end, lines, footer, split) = in_two (lines_of (λ e x. edge_row x.parent x.child (of_edge x.weight)) g.edges (length g.edges)) _ lines_after ending in
      let nothing : Some before ≡ Some [] = sym no_line ∙ no_lines g.nodes (length g.nodes) in
      let none : before ≡ [] = cc nothing in
      let none_after : end ≡ [] = cc footer in
      let head : codes "parent,child,weight\n" ≡ header = cc first in
      let read = all_lines (λ e x. edge_row x.parent x.child (of_edge x.weight)) (edge_of_row limit (length g.nodes) NoSuchNode) (with_shown of_edge) g.edges
      (full_slots g.edges (full_from g.edges g.vacant_edges well.edge_slots compact.edges)) edge_reads body lines in
      let are : text ≡ codes "parent,child,weight\n" ++ body =
      whole ∙ ap (λ l. l ++ rest) (sym head)
      ∙ ap (λ l. codes "parent,child,weight\n" ++ l) (parts ∙ ap (λ l. l ++ lines_after) none ∙ split ∙ ap (λ l. body ++ l) none_after ∙ append-nil body) in
      table_said edge_header (edge_of_row limit (length g.nodes) NoSuchNode) (codes "parent,child,weight\n") body text read.0 _ edge_header_read read.1
      (ap strip_bom are ∙ sym are) are refl read.2
