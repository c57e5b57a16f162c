-- What the stages of reading say of a fault.
use Rattle.std.specs.Prelude.{◌≡◌, ℕ, ◌⊎◌, ◌<◌, ◌≤◌, Bool, true, false, Option, Some, None, List, length, Result, Err}
use Rattle.std.specs.Prelude.{slice_index_or}
use Rattle.std.specs.List.{AllZip}
use Rattle.serde_json.specs.Data.{Data}
use Rattle.daggy_base.specs.Graph.{Graph, Edge}
use Rattle.daggy_base.specs.Iterating.{node_identifiers}
use Rattle.daggy_base.specs.FromSlots.{down_from, has_end}
use Rattle.daggy_base.specs.Orders.{IsOrder}
use Rattle.daggy_base.specs.declared.index.Direction.TheVariants.{Outgoing, Incoming}
use Rattle.daggy_base.specs.declared.kind.Kind.{Kind}
use Rattle.daggy_json.specs.Reading.{Parts, slots_of, IsLaidOut, IsWeight, pair_in, IsOrdered}
use Rattle.daggy_json.specs.Fault.{StopsAt, IsWrongHole, HasLists, IsWrongRow, AreWrongAt}
use Rattle.daggy_json.specs.declared.error.ReadError.{ReadError}
use Rattle.daggy_json.specs.declared.error.ReadError.TheVariants.{Property, Holes, Full}
use Rattle.daggy_json.specs.declared.fault.Fault.{Fault}
use Rattle.daggy_json.specs.declared.fault.Member.{Member}
use Rattle.daggy_json.specs.declared.fault.Member.TheVariants.{Nodes, NodeHoles, EdgeProperty, Edges, Orders}

-- an entry of that member is not read, and each entry before it was read
abbrev pub StopsIn : {A : Type 0}
    → (reads : Data → Result A ReadError → Type 0) → List Data → Member → Fault → Type 0
StopsIn reads ds member f =
    (i : ℕ) × (f.place.member ≡ member) × (f.place.entry ≡ Some i) × StopsAt reads ds i f.error

-- the property, a hole or a number of slots is wrong
abbrev pub IsLayoutFault : (limit : ℕ) → (kind : Kind) → Parts → Fault → Type 0
IsLayoutFault limit kind p f =
    IsLaidOut limit kind p (Some f.error)
    × (((f.error ≡ Property) × (f.place.member ≡ EdgeProperty) × (f.place.entry ≡ None))
    ⊎ ((i : ℕ) × (f.error ≡ Holes) × (f.place.member ≡ NodeHoles) × (f.place.entry ≡ Some i)
    × IsWrongHole kind (slots_of p) p.holes i)
    ⊎ ((f.error ≡ Full) × (f.place.member ≡ Nodes) × (f.place.entry ≡ None) × (limit < slots_of p))
    ⊎ ((f.error ≡ Full) × (f.place.member ≡ Edges) × (f.place.entry ≡ None) × (slots_of p ≤ limit)))

-- the layout is wrong, or a weight of a node
abbrev pub IsNodesFault : {N : Type 0}
    → (limit : ℕ) (kind : Kind) (answers : Data → Option N → Type 0) → Parts → Fault → Type 0
IsNodesFault {N} limit kind answers p f =
    IsLayoutFault limit kind p f ⊎ (IsLaidOut limit kind p None × StopsIn {A = N} (IsWeight answers) p.nodes Nodes f)

-- the orders are wrong
abbrev pub AreWrongOrders : {N E : Type 0} → Graph N E → Option Data → Fault → Type 0
AreWrongOrders g o f =
    (d : Data) × (o ≡ Some d) × (f.place.member ≡ Orders) × IsOrdered g o (Err f.error)
    × AreWrongAt g d f.place.entry

-- ---- the lists of the nodes

-- how many of the first k edges each of the first n nodes has
pub record AreCounts (at : ℕ → ℕ → Bool) (n k : ℕ) (counts : List ℕ) : Type 0 where
  pub long : length counts ≡ n
  pub each : (i : ℕ) → i < n → slice_index_or counts i 0 ≡ length (down_from (at i) k)

-- a list is a permutation of the edges below k that pass
abbrev pub IsListOf : (passes : ℕ → Bool) → (k : ℕ) → List ℕ → Type 0
IsListOf passes k list = IsOrder (down_from passes k) list

-- what is marked now was so before, or passes
abbrev pub MarksOnly : (passes : ℕ → Bool) → List Bool → List Bool → Type 0
MarksOnly passes old new =
    (e : ℕ) → slice_index_or new e false ≡ true → (slice_index_or old e false ≡ true) ⊎ (passes e ≡ true)

-- nothing that passes is marked
abbrev pub AreFresh : (passes : ℕ → Bool) → List Bool → Type 0
AreFresh passes marks = (e : ℕ) → passes e ≡ true → slice_index_or marks e false ≡ false

-- an entry of the orders is a permutation of the edges of this node
abbrev pub HasEdges : {E : Type 0} → List (Option (Edge E)) → ℕ → Data → Type 0
HasEdges edges n d =
    (r : List ℕ × List ℕ) × (pair_in d ≡ Some r) × IsListOf (has_end Outgoing edges n) (length edges) r.0
    × IsListOf (has_end Incoming edges n) (length edges) r.1

-- there are as many entries as nodes, and one is wrong, or none
abbrev pub AreSearched : {N E : Type 0} → Graph N E → List Data → Option ℕ → Type 0
AreSearched g ds None = AllZip (HasLists g) (node_identifiers g) ds
AreSearched g ds (Some i) = IsWrongRow g ds i
