-- What a value is read as: a graph, or its first fault.
use Rattle.std.specs.Prelude.{◌≡◌, ℕ, ◌+◌, ◌<◌, ◌≤◌, Option, Some, None, IsSome, option_and_then}
use Rattle.std.specs.Prelude.{Result, Ok, Err, List, [], ◌∷◌, ◌++◌, length, map, codes, MatchOption, MatchResult}
use Rattle.std.specs.List.{AllZip}
use Rattle.std.specs.Option.{option_map}
use Rattle.serde_json.specs.Data.{Data, null, Items, no_items, item}
use Rattle.serde_json.specs.Find.{get, as_array, as_number, as_str, as_u64}
use Rattle.daggy_base.specs.Graph.{Graph, Edge, slot}
use Rattle.daggy_base.specs.FromSlots.{graph_of_slots}
use Rattle.daggy_base.specs.Iterating.{numbered}
use Rattle.daggy_base.specs.Path.{IsAcyclic}
use Rattle.daggy_base.specs.declared.kind.Kind.{Kind}
use Rattle.daggy_base.specs.declared.kind.Kind.TheVariants.{Compact, Stable}
use Rattle.daggy_json.specs.Document.{vacant_from}
use Rattle.daggy_base.specs.Orders.{AreOrders, with_orders}
use Rattle.daggy_json.specs.declared.error.ReadError.{ReadError}
use Rattle.daggy_json.specs.declared.error.ReadError.TheVariants.{Shape, Property, Holes, Full, Weight, BadEndpoint}
use Rattle.daggy_json.specs.declared.error.ReadError.TheVariants.{Orders, Cycle}

-- ---- the parts of a document

-- the items of an array as a list
abbrev pub list_of : Items → List Data
list_of no_items = []
list_of (item d ds) = d ∷ list_of ds

-- the items of an array
abbrev pub array_in : Data → Option (List Data)
array_in d = option_map list_of (as_array d)

-- a natural number
abbrev pub whole_in : Data → Option ℕ
whole_in d = option_and_then as_u64 (as_number d)

-- what a test returns for each element of a list, if it returns something for each
abbrev pub all_in : {A : Type 0} → (Data → Option A) → List Data → Option (List A)
all_in one [] = Some []
all_in one (d ∷ ds) = option_and_then (λ x. option_map (λ xs. x ∷ xs) (all_in one ds)) (one d)

-- an array of whole numbers
abbrev pub numbers_in : Data → Option (List ℕ)
numbers_in d = option_and_then (all_in whole_in) (array_in d)

-- the encoded weights of the nodes, the holes, the property, the entries of the edges, and the orders if there are any
pub record Parts : Type 0 where
  pub nodes : List Data
  pub holes : List ℕ
  pub property : List ℕ
  pub edges : List Data
  pub orders : Option Data

-- without `node_holes` there is none
abbrev pub holes_in : Option Data → Option (List ℕ)
holes_in None = Some []
holes_in (Some d) = numbers_in d

-- the array at a key of an object
abbrev pub array_at : List ℕ → Data → Option (List Data)
array_at key d = option_and_then array_in (get key d)

-- the parts of a document, if each is present and well formed
abbrev pub parts_in : Data → Option Parts
parts_in d =
    option_and_then
    (λ nodes. option_and_then
    (λ holes. option_and_then
    (λ property. option_map (λ edges. record {
      nodes = nodes;
      holes = holes;
      property = property;
      edges = edges;
      orders = get (codes "orders") d;
    }) (array_at (codes "edges") d))
    (option_and_then as_str (get (codes "edge_property") d)))
    (holes_in (get (codes "node_holes") d)))
    (array_at (codes "nodes") d)

-- ---- holes

-- strictly ascending, from low on and below high
abbrev pub Ascend : (low high : ℕ) → List ℕ → Type 0
Ascend low high [] = Unit {0}
Ascend low high (h ∷ hs) = (low ≤ h) × (h < high) × Ascend (h + 1) high hs

-- how many slots of nodes there are: one for each weight and for each hole
abbrev pub slots_of : Parts → ℕ
slots_of p = length p.nodes + length p.holes

-- the holes ascend below the number of slots; there are none in the compact kind
pub record AreHoles (kind : Kind) (p : Parts) : Type 0 where
  pub ascend : Ascend 0 (slots_of p) p.holes
  pub none : kind ≡ Compact → p.holes ≡ []

-- there is an index for each slot
pub record AreFew (limit : ℕ) (p : Parts) : Type 0 where
  pub nodes : slots_of p ≤ limit
  pub edges : length p.edges ≤ limit

-- the property, the holes and the numbers of slots, checked in this order
abbrev pub IsLaidOut : (limit : ℕ) (kind : Kind) → Parts → Option ReadError → Type 0
IsLaidOut limit kind p None = (p.property ≡ codes "directed") × AreHoles kind p × AreFew limit p
IsLaidOut limit kind p (Some Property) = ¬ (p.property ≡ codes "directed")
IsLaidOut limit kind p (Some Holes) = (p.property ≡ codes "directed") × ¬ AreHoles kind p
IsLaidOut limit kind p (Some Full) = (p.property ≡ codes "directed") × AreHoles kind p × ¬ AreFew limit p
IsLaidOut limit kind p (Some _) = ⊥

-- ---- weights and entries

-- each element of a list is read in turn, up to the first fault
abbrev pub ReadsEach : {A : Type 0}
    → (Data → Result A ReadError → Type 0) → List Data → Result (List A) ReadError → Type 0
ReadsEach reads ds (Ok xs) = AllZip (λ d x. reads d (Ok x)) ds xs
ReadsEach {A} reads ds (Err e) =
    (before : List Data) × (at : Data) × (after : List Data) × (xs : List A) × (ds ≡ before ++ at ∷ after)
    × AllZip (λ d x. reads d (Ok x)) before xs × reads at (Err e)

-- a weight, as the reading function may decode that data
abbrev pub IsWeight : {W : Type 0} → (answers : Data → Option W → Type 0) → Data → Result W ReadError → Type 0
IsWeight answers d (Ok w) = answers d (Some w)
IsWeight answers d (Err e) = answers d None × (e ≡ Weight)

-- two natural numbers and an encoded weight
abbrev pub triple : List Data → Option (ℕ × ℕ × Data)
triple (a ∷ b ∷ w ∷ []) = option_and_then (λ p. option_map (λ c. (p, c, w)) (whole_in b)) (whole_in a)
triple _ = None

-- an array of these three
abbrev pub triple_in : Data → Option (ℕ × ℕ × Data)
triple_in d = option_and_then triple (array_in d)

-- the slots are vacant at the holes, and hold the weights in order
pub record AreSlots {N : Type 0} (slots : List (Option N)) (holes : List ℕ) (weights : List N) : Type 0 where
  pub vacant : vacant_from 0 slots ≡ holes
  pub given : map (λ p. p.1) (numbered 0 slots) ≡ weights

-- both endpoints exist
abbrev pub HasEnds : {N : Type 0} → List (Option N) → ℕ × ℕ × Data → Type 0
HasEnds nodes t = IsSome (slot nodes t.0) × IsSome (slot nodes t.1)

-- the entry of an edge slot: its shape, its endpoints and its weight, checked in this order
abbrev pub IsEntryRead : {N E : Type 0} → (kind : Kind) → (nodes : List (Option N))
    → (answers : Data → Option E → Type 0) → Data → Result (Option (Edge E)) ReadError → Type 0
IsEntryRead kind nodes answers d (Ok None) = (kind ≡ Stable) × (d ≡ null)
IsEntryRead kind nodes answers d (Ok (Some x)) =
    (w : Data) × (triple_in d ≡ Some (x.parent, x.child, w)) × HasEnds nodes (x.parent, x.child, w)
    × answers w (Some x.weight)
IsEntryRead kind nodes answers d (Err Shape) = (triple_in d ≡ None) × ¬ ((kind ≡ Stable) × (d ≡ null))
IsEntryRead kind nodes answers d (Err BadEndpoint) = (t : ℕ × ℕ × Data) × (triple_in d ≡ Some t) × ¬ HasEnds nodes t
IsEntryRead kind nodes answers d (Err Weight) =
    (t : ℕ × ℕ × Data) × (triple_in d ≡ Some t) × HasEnds nodes t × answers t.2 None
IsEntryRead kind nodes answers d (Err _) = ⊥

-- ---- orders and cycles

-- two arrays of whole numbers
abbrev pub pair : List Data → Option (List ℕ × List ℕ)
pair (a ∷ b ∷ []) = option_and_then (λ p. option_map (λ c. (p, c)) (numbers_in b)) (numbers_in a)
pair _ = None

-- an array of these two
abbrev pub pair_in : Data → Option (List ℕ × List ℕ)
pair_in d = option_and_then pair (array_in d)

-- an array of such pairs, one for each node
abbrev pub orders_in : Data → Option (List (List ℕ × List ℕ))
orders_in d = option_and_then (all_in pair_in) (array_in d)

-- the graph with the lists that the orders give, if there are orders
abbrev pub IsOrdered : {N E : Type 0} → Graph N E → Option Data → Result (Graph N E) ReadError → Type 0
IsOrdered g None r = r ≡ Ok g
IsOrdered g (Some d) (Ok h) =
    (orders : List (List ℕ × List ℕ)) × (orders_in d ≡ Some orders) × AreOrders g orders × (h ≡ with_orders g orders)
IsOrdered g (Some d) (Err e) =
    ((orders : List (List ℕ × List ℕ)) → orders_in d ≡ Some orders → ¬ AreOrders g orders) × (e ≡ Orders)

-- the graph itself, whether or not it has cycles
abbrev pub IsItself : {N E : Type 0} → Graph N E → Result (Graph N E) ReadError → Type 0
IsItself g r = r ≡ Ok g

-- the graph itself if it is acyclic, otherwise the fault `Cycle`
abbrev pub IsTested : {N E : Type 0} → Graph N E → Result (Graph N E) ReadError → Type 0
IsTested g (Ok h) = IsAcyclic g × (h ≡ g)
IsTested g (Err e) = ¬ IsAcyclic g × (e ≡ Cycle)

-- ---- the whole

-- the result of one stage is passed to the next; its fault is the answer
abbrev pub Then : {A B : Type 0}
    → (Result A ReadError → Type 0) → (A → Result B ReadError → Type 0) → Result B ReadError → Type 0
Then {A} first next r = (x : Result A ReadError) × first x × MatchResult x (λ a. next a r) (λ e. r ≡ Err e)

module _ {N E : Type 0} (limit : ℕ) (kind : Kind) (node_answers : Data → Option N → Type 0)
    (edge_answers : Data → Option E → Type 0) (ends_as : Graph N E → Result (Graph N E) ReadError → Type 0) where
  -- the edges between these nodes, the orders, and what becomes of the graph
  abbrev pub IsLinked : Parts → List (Option N) → Result (Graph N E) ReadError → Type 0
  IsLinked p nodes =
      Then (ReadsEach (IsEntryRead kind nodes edge_answers) p.edges)
      (λ edges. Then (IsOrdered (graph_of_slots nodes edges) p.orders) ends_as)

  -- the weights of the nodes in their slots, and then the rest
  abbrev pub IsFilled : Parts → Result (Graph N E) ReadError → Type 0
  IsFilled p =
      Then (ReadsEach (IsWeight node_answers) p.nodes)
      (λ weights r. (nodes : List (Option N)) × AreSlots nodes p.holes weights × IsLinked p nodes r)

  -- the value is read up to the last stage
  abbrev pub IsReadTo : Data → Result (Graph N E) ReadError → Type 0
  IsReadTo d r =
      MatchOption (parts_in d) (r ≡ Err Shape) (λ p.
      (fault : Option ReadError) × IsLaidOut limit kind p fault × MatchOption fault (IsFilled p r) (λ e. r ≡ Err e))

-- the value is read as this graph, which may have cycles, or this is its first fault
abbrev pub IsGraphRead : {N E : Type 0} → (limit : ℕ) (kind : Kind) (node_answers : Data → Option N → Type 0)
    (edge_answers : Data → Option E → Type 0) → Data → Result (Graph N E) ReadError → Type 0
IsGraphRead limit kind node_answers edge_answers = IsReadTo limit kind node_answers edge_answers IsItself

-- the value is read as this graph, which is acyclic, or this is its first fault
abbrev pub IsRead : {N E : Type 0} → (limit : ℕ) (kind : Kind) (node_answers : Data → Option N → Type 0)
    (edge_answers : Data → Option E → Type 0) → Data → Result (Graph N E) ReadError → Type 0
IsRead limit kind node_answers edge_answers = IsReadTo limit kind node_answers edge_answers IsTested
