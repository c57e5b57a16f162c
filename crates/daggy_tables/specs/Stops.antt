-- Why reading a table stopped.
use Rattle.std.specs.Prelude.{◌≡◌, ℕ, Result, Err}
use Rattle.daggy_tables.specs.declared.error.RowFault.{RowFault}
use Rattle.daggy_tables.specs.declared.error.RowFault.TheVariants.{Header, NotText}
use Rattle.daggy_tables.specs.declared.error.TableError.{TableError}
use Rattle.daggy_tables.specs.declared.error.TableError.TheVariants as table
use Rattle.daggy_tables.specs.declared.fields.RowStop.{RowStop}
use Rattle.daggy_tables.specs.declared.fields.RowStop.TheVariants as row
use Rattle.daggy_tables.specs.declared.rows.Unread.{Unread}
use Rattle.daggy_tables.specs.declared.rows.Unread.TheVariants as unread
use Rattle.daggy_tables.specs.declared.rows.Stop.{Stop}
use Rattle.daggy_tables.specs.declared.rows.Stop.TheVariants.{Memory, Row}

-- memory, or the fault that a row has
abbrev pub StopsRow : {A : Type 0} → Result A RowFault → RowStop → Type 0
StopsRow said row.Memory = Unit {0}
StopsRow said (row.Fault fault) = said ≡ Err fault

-- this fault of the row of this number
abbrev pub IsFaultOf : ℕ → RowFault → Stop → Type 0
IsFaultOf number fault Memory = ⊥
IsFaultOf number fault (Row e) = (e.row ≡ number) × (e.fault ≡ fault)

-- memory, or the first row that is at fault
abbrev pub StopsTable : {A : Type 0} → Result A (ℕ × RowFault) → Stop → Type 0
StopsTable said Memory = Unit {0}
StopsTable said (Row e) = said ≡ Err (e.row, e.fault)

-- memory, or the header
abbrev pub StopsHeader : Stop → Type 0 → Type 0
StopsHeader Memory missing = Unit {0}
StopsHeader (Row e) missing = (e.row ≡ 0) × (e.fault ≡ Header) × missing

-- what stopped the row of this number
abbrev pub StopsAt : ℕ → RowStop → Stop → Type 0
StopsAt number row.Memory stop = stop ≡ Memory
StopsAt number (row.Fault fault) stop = IsFaultOf number fault stop

-- why the row of this number was not given
abbrev pub UnreadAt : ℕ → Unread → Stop → Type 0
UnreadAt number unread.Memory stop = stop ≡ Memory
UnreadAt number (unread.NotText line) stop = IsFaultOf number NotText stop

-- the error of the table of nodes
abbrev pub error_of_nodes : Stop → TableError
error_of_nodes Memory = table.Memory
error_of_nodes (Row e) = table.Nodes e

-- the error of the table of edges
abbrev pub error_of_edges : Stop → TableError
error_of_edges Memory = table.Memory
error_of_edges (Row e) = table.Edges e
