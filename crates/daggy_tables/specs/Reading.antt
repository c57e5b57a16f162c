-- The graph that is read from tables, and why none is.
use Rattle.std.specs.Prelude.{◌≡◌, ◌<◌, ℕ, Option, Some, Ok, Err, List, length, String, string_bytes}
use Rattle.std.specs.List.{flat_map}
use Rattle.std.specs.Option.{option_to_list}
use Rattle.daggy_base.specs.Graph.{Edge, slot}
use Rattle.daggy_tables.specs.declared.error.RowFault.TheVariants.{Full, NoSuchNode}
use Rattle.daggy_tables.specs.declared.error.TableError.{TableError}
use Rattle.daggy_tables.specs.declared.error.TableError.TheVariants.{Memory, Nodes, Edges}
use Rattle.daggy_tables.specs.Rows.{Field, Row}
use Rattle.daggy_tables.specs.Tables.{nodes_said, edges_said}

-- what the slots hold, without the vacant ones
abbrev pub occupied : {A : Type 0} → List (Option A) → List A
occupied slots = flat_map option_to_list slots

-- an edge by its ends and the text of its weight
abbrev pub with_text : {Z : Type 0} → Edge (String Z) → Edge Field
with_text x = record { parent = x.parent; child = x.child; weight = string_bytes x.weight }

-- both ends of each edge are below the bound
abbrev pub EndsBelow : {E : Type 0} → (bound : ℕ) → List (Option (Edge E)) → Type 0
EndsBelow {E} bound slots = (e : ℕ) → (x : Edge E) → slot slots e ≡ Some x → (x.parent < bound) × (x.child < bound)

-- memory, or the first fault: that of the nodes, or that of the edges between these nodes
abbrev pub Explains : (limit : ℕ) → (nodes edges : List Row) → TableError → Type 0
Explains limit nodes edges Memory = Unit {0}
Explains limit nodes edges (Nodes e) = nodes_said limit nodes ≡ Err (e.row, e.fault)
Explains limit nodes edges (Edges e) =
    (weights : List Field) × (nodes_said limit nodes ≡ Ok weights)
    × (edges_said limit (length weights) NoSuchNode edges ≡ Err (e.row, e.fault))

-- the same of a table of edges alone, whose endpoints are any indices
abbrev pub ExplainsEdges : (limit : ℕ) → (edges : List Row) → TableError → Type 0
ExplainsEdges limit edges Memory = Unit {0}
ExplainsEdges limit edges (Nodes e) = ⊥
ExplainsEdges limit edges (Edges e) = edges_said limit limit Full edges ≡ Err (e.row, e.fault)
