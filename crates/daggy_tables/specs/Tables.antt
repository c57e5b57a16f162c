-- What whole tables say.
use Rattle.std.specs.Prelude.{ℕ, ◌+◌, max, codes, if◌then◌else◌, Option, Some, None, Result, Ok, Err, List, [], ◌∷◌}
use Rattle.csv.specs.Reading.{default_config, records, strip_bom}
use Rattle.daggy_base.specs.Graph.{Edge}
use Rattle.daggy_tables.specs.declared.error.RowFault.{RowFault}
use Rattle.daggy_tables.specs.declared.error.RowFault.TheVariants.{Header}
use Rattle.daggy_tables.specs.Rows.{Field, Row, same_fields, node_of_row, edge_of_row}

-- the rows of a text of comma-separated values, after a byte order mark or not
abbrev pub rows_of : List ℕ → List Row
rows_of text = records default_config (strip_bom text)

-- what the row n says, before what the rows after it say: the first fault comes with the number of its row
abbrev pub row_then : {A : Type 0} → (n : ℕ) → Result A RowFault → Result (List A) (ℕ × RowFault) → Result (List A) (ℕ × RowFault)
row_then n (Err fault) after = Err (n + 1, fault)
row_then n (Ok x) (Err first) = Err first
row_then n (Ok x) (Ok xs) = Ok (x ∷ xs)

-- what the rows from row n on say in turn
abbrev pub rows_from : {A : Type 0} → (ℕ → Row → Result A RowFault) → (n : ℕ) → List Row → Result (List A) (ℕ × RowFault)
rows_from says n [] = Ok []
rows_from says n (row ∷ rows) = row_then n (says n row) (rows_from says (n + 1) rows)

-- the rows below a header, if the first row is that header
abbrev pub rows_below : (header : Row) → List Row → Option (List Row)
rows_below header [] = None
rows_below header (row ∷ rows) = if same_fields row header then Some rows else None

-- what these rows say; the header has number 0
abbrev pub said_below : {A : Type 0} → (ℕ → Row → Result A RowFault) → Option (List Row) → Result (List A) (ℕ × RowFault)
said_below says None = Err (0, Header)
said_below says (Some rows) = rows_from says 0 rows

-- the header of the table of nodes
abbrev pub node_header : Row
node_header = codes "node" ∷ codes "weight" ∷ []

-- the header of the table of edges
abbrev pub edge_header : Row
edge_header = codes "parent" ∷ codes "child" ∷ codes "weight" ∷ []

-- the weights of the nodes, or the first row at fault
abbrev pub nodes_said : (limit : ℕ) → List Row → Result (List Field) (ℕ × RowFault)
nodes_said limit rows = said_below (node_of_row limit) (rows_below node_header rows)

-- the edges between nodes below the bound, or the first row at fault
abbrev pub edges_said : (limit : ℕ) → (bound : ℕ) → (beyond : RowFault) → List Row → Result (List (Edge Field)) (ℕ × RowFault)
edges_said limit bound beyond rows =
    said_below (edge_of_row limit bound beyond) (rows_below edge_header rows)

-- one more than the greatest endpoint, or 0 if there is no edge
abbrev pub ends_bound : List (Edge Field) → ℕ
ends_bound [] = 0
ends_bound (x ∷ xs) = max (max (x.parent + 1) (x.child + 1)) (ends_bound xs)

-- a bound that one more edge raises, if there is one
abbrev pub bound_after : {E : Type 0} → (bound : ℕ) → Option (Edge E) → ℕ
bound_after bound None = bound
bound_after bound (Some x) = max (max bound (x.parent + 1)) (x.child + 1)
