-- What the rows of a table say. A row is a list of fields, and a field a list of bytes.
use Rattle.std.specs.Prelude.{ℕ, ◌^◌, ◌==◌, ◌&&◌, Bool, true, false, if◌then◌else◌, nat_lt, Option, Some, None, Result, Ok, Err, List, [], ◌∷◌, length}
use Rattle.std.specs.Char.{is_digit}
use Rattle.std.specs.List.{list_all}
use Rattle.std.specs.Str.{is_utf8, bytes_eq}
use Rattle.std.specs.Str.Parse.{without_leading_plus, digits_value}
use Rattle.daggy_base.specs.Graph.{Edge}
use Rattle.daggy_tables.specs.declared.error.RowFault.{RowFault}
use Rattle.daggy_tables.specs.declared.error.RowFault.TheVariants.{NotText, Full, FieldCount, NotAnIndex, NotInOrder}

-- a field, by its bytes
abbrev pub Field : Type 0
Field = List ℕ

-- a row, by its fields
abbrev pub Row : Type 0
Row = List Field

-- whether two rows have the same fields
abbrev pub same_fields : Row → Row → Bool
same_fields [] [] = true
same_fields [] (y ∷ ys) = false
same_fields (x ∷ xs) [] = false
same_fields (x ∷ xs) (y ∷ ys) = bytes_eq x y && same_fields xs ys

-- whether these are decimal digits of a number below 2 ^ 64
abbrev pub is_number : List ℕ → Bool
is_number digits = nat_lt 0 (length digits) && (list_all (λ c. is_digit c 10) digits && nat_lt (digits_value 10 digits) (2 ^ 64))

-- the number that a field writes in decimal digits, after a plus or not
unfoldable pub number_of : Field → Option ℕ
number_of field =
    if is_number (without_leading_plus field) then Some (digits_value 10 (without_leading_plus field)) else None

-- an index, which is below the bound, from the number of its field
abbrev pub index_below : (bound : ℕ) → (beyond : RowFault) → Option ℕ → Result ℕ RowFault
index_below bound beyond None = Err NotAnIndex
index_below bound beyond (Some n) = if nat_lt n bound then Ok n else Err beyond

-- an edge from its endpoints and its weight
abbrev pub edge_between : Result ℕ RowFault → Result ℕ RowFault → (weight : Field) → Result (Edge Field) RowFault
edge_between (Err fault) child weight = Err fault
edge_between (Ok parent) (Err fault) weight = Err fault
edge_between (Ok parent) (Ok child) weight = Ok (record { parent = parent; child = child; weight = weight })

-- the edge of three fields
abbrev pub edge_of_fields : (bound : ℕ) → (beyond : RowFault) → Row → Result (Edge Field) RowFault
edge_of_fields bound beyond (a ∷ b ∷ weight ∷ []) =
    edge_between (index_below bound beyond (number_of a)) (index_below bound beyond (number_of b)) weight
edge_of_fields bound beyond row = Err FieldCount

-- the weight of the node n, after the field of its index
abbrev pub weight_after : (n : ℕ) → Option ℕ → (weight : Field) → Result Field RowFault
weight_after n None weight = Err NotAnIndex
weight_after n (Some index) weight = if index == n then Ok weight else Err NotInOrder

-- the weight of the node n from two fields
abbrev pub node_of_fields : (n : ℕ) → Row → Result Field RowFault
node_of_fields n (index ∷ weight ∷ []) = weight_after n (number_of index) weight
node_of_fields n row = Err FieldCount

-- what a row says if an index is left for it
abbrev pub within : {A : Type 0} → (limit : ℕ) → (n : ℕ) → Result A RowFault → Result A RowFault
within limit n said = if nat_lt n limit then said else Err Full

-- what a row of text says; another is at fault
abbrev pub if_text : {A : Type 0} → Row → Result A RowFault → Result A RowFault
if_text row said = if list_all is_utf8 row then said else Err NotText

-- the weight that the row of node n says
abbrev pub node_of_row : (limit : ℕ) → (n : ℕ) → Row → Result Field RowFault
node_of_row limit n row = if_text row (within limit n (node_of_fields n row))

-- the edge that the row of edge e says
abbrev pub edge_of_row : (limit : ℕ) → (bound : ℕ) → (beyond : RowFault) → (e : ℕ) → Row → Result (Edge Field) RowFault
edge_of_row limit bound beyond e row = if_text row (within limit e (edge_of_fields bound beyond row))
