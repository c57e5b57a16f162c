-- What the stages of reading find.
use Rattle.std.specs.Prelude.{◌≡◌, Ok, ℕ, ◌+◌, Bool, true, false, IsSome, length, slice_index_or, slice_set}
use Rattle.std.specs.Prelude.{replicate, nat_lt, if◌then◌else◌, Option, Some, None, option_and_then, List, [], ◌∷◌, map}
use Rattle.std.specs.Option.{option_map}
use Rattle.std.specs.Borrow.{Bor}
use Rattle.std.specs.Global.{Vec}
use Rattle.serde_json.specs.Data.{Data}
use Rattle.serde_json.specs.View.{view}
use Rattle.serde_json.specs.declared.value.Value.{Value}
use Rattle.daggy_base.specs.declared.index.Direction.{Direction}
use Rattle.daggy_base.specs.declared.index.Direction.TheVariants.{Outgoing, Incoming}
use Rattle.daggy_base.specs.Graph.{Graph, Edge, slot, near_end}
use Rattle.daggy_base.specs.FromSlots.{has_end}
use Rattle.daggy_base.specs.declared.kind.Kind.{Kind}
pub use Rattle.daggy_base.specs.FromSlots.{edge_of}
use Rattle.daggy_base.specs.Orders.{with_orders, numbers_of}
use Rattle.daggy_json.specs.Reading.{Parts, whole_in, array_in, all_in, IsLaidOut, ReadsEach, IsWeight, AreSlots}

-- the orders by their numbers
abbrev pub orders_by : {I : Type 0} → (number : I → ℕ) → Option (Vec (Vec I × Vec I)) → Option (List (List ℕ × List ℕ))
orders_by number o = option_map (λ v. map (numbers_of number) v.items) o

-- the parts of a document, from these values
abbrev pub parts_of : (nodes : List Value) (holes property : List ℕ) (edges : List Value) (orders : Option (Bor Value))
    → Parts
parts_of nodes holes property edges orders =
    record {
      nodes = map view nodes;
      holes = holes;
      property = property;
      edges = map view edges;
      orders = option_map (λ o. view o.now) orders;
    }

-- a whole number below a bound
abbrev pub index_in : ℕ → Data → Option ℕ
index_in bound d = option_and_then (λ n. if nat_lt n bound then Some n else None) (whole_in d)

-- an array of whole numbers below a bound
abbrev pub indices_in : ℕ → Data → Option (List ℕ)
indices_in bound d = option_and_then (all_in (index_in bound)) (array_in d)

-- two arrays of such numbers
abbrev pub row : ℕ → List Data → Option (List ℕ × List ℕ)
row bound (a ∷ b ∷ []) = option_and_then (λ p. option_map (λ c. (p, c)) (indices_in bound b)) (indices_in bound a)
row bound _ = None

-- an array of two arrays of such numbers
abbrev pub row_in : ℕ → Data → Option (List ℕ × List ℕ)
row_in bound d = option_and_then (row bound) (array_in d)

-- an array of such pairs
abbrev pub rows_in : ℕ → Data → Option (List (List ℕ × List ℕ))
rows_in bound d = option_and_then (all_in (row_in bound)) (array_in d)

-- ---- marks

-- the list in that direction
abbrev pub chosen : Direction → List ℕ × List ℕ → List ℕ
chosen Outgoing p = p.0
chosen Incoming p = p.1

-- each element of a list passes the test and is not marked yet, and is marked in turn
abbrev pub Marked : (passes : ℕ → Bool) → List Bool → List ℕ → Type 0
Marked passes marks [] = Unit {0}
Marked passes marks (e ∷ es) =
    (passes e ≡ true) × (slice_index_or marks e false ≡ false) × Marked passes (slice_set marks e true) es

-- the marks after each element of a list is marked
abbrev pub marked_with : List Bool → List ℕ → List Bool
marked_with marks [] = marks
marked_with marks (e ∷ es) = marked_with (slice_set marks e true) es

-- the same for the list of each node, with as many lists as nodes
abbrev pub AllMarked : {N : Type 0}
    → (passes : ℕ → ℕ → Bool) → (n : ℕ) → List Bool → List (Option N) → List (List ℕ) → Type 0
AllMarked passes n marks [] lists = lists ≡ []
AllMarked passes n marks (None ∷ slots) lists = AllMarked passes (n + 1) marks slots lists
AllMarked passes n marks (Some x ∷ slots) [] = ⊥
AllMarked passes n marks (Some x ∷ slots) (l ∷ lists) =
    Marked (passes n) marks l × AllMarked passes (n + 1) (marked_with marks l) slots lists

-- the marks after the lists of all nodes are marked
abbrev pub marked_by : {N : Type 0} → List Bool → List (Option N) → List (List ℕ) → List Bool
marked_by marks [] lists = marks
marked_by marks (None ∷ slots) lists = marked_by marks slots lists
marked_by marks (Some x ∷ slots) [] = marks
marked_by marks (Some x ∷ slots) (l ∷ lists) = marked_by (marked_with marks l) slots lists

-- each occupied slot is marked
abbrev pub LeavesNone : {A : Type 0} → List (Option A) → List Bool → Type 0
LeavesNone slots marks = (e : ℕ) → IsSome (slot slots e) → slice_index_or marks e false ≡ true

-- the lists in that direction have the edges of their nodes, each once, and no edge is left out
abbrev pub AreRearranged : {N E : Type 0}
    → Direction → List (Option N) → List (Option (Edge E)) → List (List ℕ × List ℕ) → Type 0
AreRearranged dir nodes edges rows =
    let none = replicate (length edges) false in
    AllMarked (has_end dir edges) 0 none nodes (map (chosen dir) rows)
    × LeavesNone edges (marked_by none nodes (map (chosen dir) rows))

-- the graph with these orders, if there are any
abbrev pub ordered : {N E : Type 0} → Graph N E → Option (List (List ℕ × List ℕ)) → Graph N E
ordered g None = g
ordered g (Some rows) = with_orders g rows

-- both endpoints of each edge exist
abbrev pub EndsExist : {N E : Type 0} → List (Option N) → List (Option (Edge E)) → Type 0
EndsExist {N} {E} nodes edges =
    (dir : Direction) (e : ℕ) (x : Edge E) → slot edges e ≡ Some x → IsSome (slot nodes (near_end dir x))

-- the nodes were read, in a document with a valid layout
abbrev pub AreNodesRead : {N : Type 0}
    → (limit : ℕ) (kind : Kind) (answers : Data → Option N → Type 0) → Parts → List (Option N) → Type 0
AreNodesRead {N} limit kind answers p nodes =
    IsLaidOut limit kind p None
    × ((weights : List N) × ReadsEach (IsWeight answers) p.nodes (Ok weights) × AreSlots nodes p.holes weights)
