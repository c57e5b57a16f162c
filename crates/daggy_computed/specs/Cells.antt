-- The values and marks that are kept by index, and the graph whose nodes are cells.
use Rattle.std.specs.Prelude.{◌≡◌, ℕ, true, false, Option, None, List, [], ◌∷◌, slice_index_or, slice_set, IsSome}
use Rattle.std.specs.Option.{option_map}
use Rattle.daggy_base.specs.Graph.{Graph}
use Rattle.daggy_computed.specs.declared.cell.Cell.{Cell}
use Rattle.daggy_computed.specs.declared.entry.Entry.{Entry}
use Rattle.daggy_computed.specs.Inputs.{value_before}

-- what is kept of a node of which nothing is known
abbrev pub blank : {V : Type 0} → Entry V
blank = record { value = None; stale = false }

-- what is kept at an index
abbrev pub entry_at : {V : Type 0} → List (Entry V) → ℕ → Entry V
entry_at es i = slice_index_or es i blank

-- the value at an index
abbrev pub value_of : {V : Type 0} → List (Entry V) → ℕ → Option V
value_of es i = (entry_at es i).value

-- what is kept at an index is stale
abbrev pub IsStaleAt : {V : Type 0} → List (Entry V) → ℕ → Type 0
IsStaleAt es i = (entry_at es i).stale ≡ true

-- the entry at an index is stale
abbrev pub marked_at : {V : Type 0} → List (Entry V) → ℕ → List (Entry V)
marked_at es i = slice_set es i (record { value = value_of es i; stale = true })

-- the values at the indices of a list, where there are values
abbrev pub values_of : {V : Type 0} → List (Entry V) → List ℕ → List V
values_of es [] = []
values_of es (i ∷ is) = value_before (value_of es i) (values_of es is)

-- there is a value at each index of a list
abbrev pub HaveValues : {V : Type 0} → List (Entry V) → List ℕ → Type 0
HaveValues es [] = Unit {0}
HaveValues es (i ∷ is) = IsSome (value_of es i) × HaveValues es is

-- a node with this formula, and what is kept of it
abbrev pub cell_of : {K V : Type 0} → Entry V → K → Cell K V
cell_of e k = record { formula = k; value = e.value; stale = e.stale }

-- slots of formulas, each with what is kept at its index
abbrev pub with_entries : {K V : Type 0} → List (Option K) → List (Entry V) → List (Option (Cell K V))
with_entries [] es = []
with_entries (o ∷ os) [] = option_map (cell_of blank) o ∷ with_entries os []
with_entries (o ∷ os) (e ∷ es) = option_map (cell_of e) o ∷ with_entries os es

-- the graph of formulas, each with what is kept of its node
abbrev pub cells : {K V E : Type 0} → Graph K E → List (Entry V) → Graph (Cell K V) E
cells g es =
    record {
      nodes = with_entries g.nodes es;
      edges = g.edges;
      out_lists = g.out_lists;
      in_lists = g.in_lists;
      vacant_nodes = g.vacant_nodes;
      vacant_edges = g.vacant_edges;
    }
