-- Where the first fault of a value is.
use Rattle.std.specs.Prelude.{◌≡◌, ℕ, ◌+◌, ◌<◌, ◌≤◌, Option, Some, None, IsSome, option_and_then, MatchOption}
use Rattle.std.specs.Prelude.{Result, Ok, Err, List, [], length, take, slice_get, codes}
use Rattle.std.specs.List.{AllZip}
use Rattle.std.specs.Option.{option_map}
use Rattle.serde_json.specs.Data.{Data}
use Rattle.serde_json.specs.Find.{get, as_object, as_str}
use Rattle.daggy_base.specs.Graph.{Graph, Edge, out_list, in_list, node_count}
use Rattle.daggy_base.specs.FromSlots.{graph_of_slots}
use Rattle.daggy_base.specs.Iterating.{node_identifiers}
use Rattle.daggy_base.specs.Orders.{IsOrder}
use Rattle.daggy_base.specs.declared.kind.Kind.{Kind}
use Rattle.daggy_base.specs.declared.kind.Kind.TheVariants.{Compact}
use Rattle.daggy_json.specs.Reading.{array_in, whole_in, array_at, Parts, parts_in, Ascend, slots_of, IsLaidOut}
use Rattle.daggy_json.specs.Reading.{ReadsEach, IsWeight, IsEntryRead, pair_in, IsOrdered}
use Rattle.daggy_json.specs.Found.{AreNodesRead}
use Rattle.daggy_json.specs.declared.error.ReadError.{ReadError}
use Rattle.daggy_json.specs.declared.error.ReadError.TheVariants.{Shape, Property, Holes, Full}
use Rattle.daggy_json.specs.declared.fault.Fault.{Fault}
use Rattle.daggy_json.specs.declared.fault.Member.{Member}
use Rattle.daggy_json.specs.declared.fault.Member.TheVariants.{Document, Nodes, NodeHoles, EdgeProperty, Edges, Orders}

-- the entry i of a list has this fault, and each entry before it was read
pub record StopsAt {A : Type 0} (reads : Data → Result A ReadError → Type 0) (ds : List Data) (i : ℕ) (e : ReadError)
    : Type 0 where
  pub entry : Data
  pub at : slice_get ds i ≡ Some entry
  pub fault : reads entry (Err e)
  pub before : List A
  pub earlier : AllZip (λ d x. reads d (Ok x)) (take i ds) before

-- ---- parts

-- a whole number, or a value of the wrong type
abbrev pub IsWhole : Data → Result ℕ ReadError → Type 0
IsWhole d (Ok n) = whole_in d ≡ Some n
IsWhole d (Err e) = (whole_in d ≡ None) × (e ≡ Shape)

-- the text at `edge_property`
abbrev pub property_in : Data → Option (List ℕ)
property_in d = option_and_then as_str (get (codes "edge_property") d)

-- `node_holes` is there and no array, or it has an entry that is no whole number
abbrev pub HasWrongHoles : Data → Option ℕ → Type 0
HasWrongHoles d None = IsSome (get (codes "node_holes") d) × (array_at (codes "node_holes") d ≡ None)
HasWrongHoles d (Some i) = (hs : List Data) × (array_at (codes "node_holes") d ≡ Some hs) × StopsAt IsWhole hs i Shape

-- the value is no object, or a member is missing or has the wrong type; members are looked at in this order
abbrev pub IsShapeFault : Data → Member → Option ℕ → Type 0
IsShapeFault d Document None = as_object d ≡ None
IsShapeFault d Nodes None = IsSome (as_object d) × (array_at (codes "nodes") d ≡ None)
IsShapeFault d EdgeProperty None = IsSome (array_at (codes "nodes") d) × (property_in d ≡ None)
IsShapeFault d Edges None =
    IsSome (array_at (codes "nodes") d) × IsSome (property_in d) × (array_at (codes "edges") d ≡ None)
IsShapeFault d NodeHoles entry =
    IsSome (array_at (codes "nodes") d) × IsSome (property_in d) × IsSome (array_at (codes "edges") d)
    × HasWrongHoles d entry
IsShapeFault d _ _ = ⊥

-- ---- layout

-- holes ascend below the number of slots; there are none in the compact kind
abbrev pub AreRight : Kind → (slots : ℕ) → List ℕ → Type 0
AreRight kind slots holes = Ascend 0 slots holes × (kind ≡ Compact → holes ≡ [])

-- the holes before the hole i are right, and with it they are not
pub record IsWrongHole (kind : Kind) (slots : ℕ) (holes : List ℕ) (i : ℕ) : Type 0 where
  pub within : i < length holes
  pub earlier : AreRight kind slots (take i holes)
  pub here : ¬ AreRight kind slots (take (i + 1) holes)

-- ---- orders

-- an entry of the orders is a permutation of the lists of this node
abbrev pub HasLists : {N E : Type 0} → Graph N E → ℕ → Data → Type 0
HasLists g n d =
    (r : List ℕ × List ℕ) × (pair_in d ≡ Some r) × IsOrder (out_list g n) r.0 × IsOrder (in_list g n) r.1

-- the entry i is not that of its node, and each entry before it is
pub record IsWrongRow {N E : Type 0} (g : Graph N E) (ds : List Data) (i : ℕ) : Type 0 where
  pub node : ℕ
  pub node_at : slice_get (node_identifiers g) i ≡ Some node
  pub entry : Data
  pub entry_at : slice_get ds i ≡ Some entry
  pub wrong : ¬ HasLists g node entry
  pub earlier : AllZip (HasLists g) (take i (node_identifiers g)) (take i ds)

-- the orders are not an array with an entry for each node, or one of its entries is wrong
abbrev pub AreWrongAt : {N E : Type 0} → Graph N E → Data → Option ℕ → Type 0
AreWrongAt g d None = (ds : List Data) → array_in d ≡ Some ds → ¬ (length ds ≡ node_count g)
AreWrongAt g d (Some i) =
    (ds : List Data) × (array_in d ≡ Some ds) × (length ds ≡ node_count g) × IsWrongRow g ds i

-- ---- the whole

module _ {N E : Type 0} (limit : ℕ) (kind : Kind) (node_answers : Data → Option N → Type 0)
    (edge_answers : Data → Option E → Type 0) where
  -- the edges were read, and the orders are wrong
  abbrev pub IsOrdersFault : Parts → ReadError → Option ℕ → Type 0
  IsOrdersFault p e entry =
      (nodes : List (Option N)) × (edges : List (Option (Edge E))) × (orders : Data)
      × AreNodesRead limit kind node_answers p nodes
      × ReadsEach (IsEntryRead kind nodes edge_answers) p.edges (Ok edges)
      × (p.orders ≡ Some orders) × IsOrdered (graph_of_slots nodes edges) (Some orders) (Err e)
      × AreWrongAt (graph_of_slots nodes edges) orders entry

  -- the value has these parts, and the fault is in this member, at this entry if it is one of its list
  abbrev pub IsFaultIn : Parts → ReadError → Member → Option ℕ → Type 0
  IsFaultIn p e EdgeProperty None = IsLaidOut limit kind p (Some e) × (e ≡ Property)
  IsFaultIn p e NodeHoles (Some i) =
      IsLaidOut limit kind p (Some e) × (e ≡ Holes) × IsWrongHole kind (slots_of p) p.holes i
  IsFaultIn p e Nodes None = IsLaidOut limit kind p (Some e) × (e ≡ Full) × (limit < slots_of p)
  IsFaultIn p e Edges None = IsLaidOut limit kind p (Some e) × (e ≡ Full) × (slots_of p ≤ limit)
  IsFaultIn p e Nodes (Some i) = IsLaidOut limit kind p None × StopsAt (IsWeight node_answers) p.nodes i e
  IsFaultIn p e Edges (Some i) =
      (nodes : List (Option N)) × AreNodesRead limit kind node_answers p nodes
      × StopsAt (IsEntryRead kind nodes edge_answers) p.edges i e
  IsFaultIn p e Orders entry = IsOrdersFault p e entry
  IsFaultIn p e _ _ = ⊥

  -- the first fault of the value, and its place
  abbrev pub IsFaultAt : Data → ReadError → Member → Option ℕ → Type 0
  IsFaultAt d e member entry =
      MatchOption (parts_in d) ((e ≡ Shape) × IsShapeFault d member entry) (λ p. IsFaultIn p e member entry)

-- ---- agreement

-- a value of this data is decoded in one way only
abbrev pub IsDecided : {W : Type 0} → (answers : Data → Option W → Type 0) → Type 0
IsDecided {W} answers = (d : Data) (o p : Option W) → answers d o → answers d p → o ≡ p

-- there is no fault if a graph was read, and otherwise it is the one that reading gave
abbrev pub Agrees : {G : Type 0} → Option Fault → Result G ReadError → Type 0
Agrees o (Ok g) = o ≡ None
Agrees o (Err e) = option_map (λ f. f.error) o ≡ Some e
