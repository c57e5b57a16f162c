-- Nodes that are computed again, one after another.
use Rattle.std.specs.Prelude.{◌≡◌, ℕ, ◌⊎◌, Bool, true, false, not, Option, Some, None, List, [], ◌∷◌, if◌then◌else◌}
use Rattle.std.specs.Prelude.{Result, Ok, Err, slice_set}
use Rattle.std.specs.Borrow.{Bor}
use Rattle.daggy_base.specs.Graph.{Graph, node_weight}
use Rattle.daggy_base.specs.Weights.{with_node_weight}
use Rattle.daggy_computed.specs.declared.cell.Cell.{Cell}
use Rattle.daggy_computed.specs.declared.entry.Entry.{Entry}
use Rattle.daggy_computed.specs.Cells.{value_of}
use Rattle.daggy_computed.specs.Marking.{all_marked, children_of}
use Rattle.daggy_computed.specs.Inputs.{inputs}

-- whether a value differs from the last one
abbrev pub is_new : {V : Type 0} → (eq : V → V → Bool) → Option V → V → Bool
is_new eq None v = true
is_new eq (Some last) v = not (eq last v)

-- the last value once v was computed: one that equals it is dropped
abbrev pub kept_value : {V : Type 0} → (eq : V → V → Bool) → Option V → V → Option V
kept_value eq last v = if is_new eq last v then Some v else last

-- a cell once v was computed for it
abbrev pub settled : {K V : Type 0} → (eq : V → V → Bool) → Cell K V → V → Cell K V
settled eq c v = record c { value = kept_value eq c.value v; stale = false }

-- what is kept, once v was computed for the index i
abbrev pub settled_at : {V : Type 0} → (eq : V → V → Bool) → List (Entry V) → ℕ → V → List (Entry V)
settled_at eq es i v = slice_set es i (record { value = kept_value eq (value_of es i) v; stale = false })

-- the graph once v was computed for the node n of this cell: where the value is new, the children of n are stale
abbrev pub computed : {K V E : Type 0} → (eq : V → V → Bool) → Graph (Cell K V) E → ℕ → Cell K V → V → Graph (Cell K V) E
computed eq g n c v =
    if is_new eq c.value v
    then all_marked (with_node_weight g n (settled eq c v)) (children_of g n)
    else with_node_weight g n (settled eq c v)

module _ {K V X F : Type 0} (post : F → Bor K → List V → Result V X → Type 0) (f : F) where
  -- f returned v when it was called with a formula and the values of the parents
  abbrev pub Gives : K → List V → V → Type 0
  Gives k vs v = (k' : Bor K) × (k'.now ≡ k) × post f k' vs (Ok v)

  -- f returned the error x then
  abbrev pub Refuses : K → List V → X → Type 0
  Refuses k vs x = (k' : Bor K) × (k'.now ≡ k) × post f k' vs (Err x)

module _ {K V E : Type 0} (eq : V → V → Bool) (gives : K → List V → V → Type 0) where
  -- The stale node n has its turn, which makes the graph old the graph new: a value is computed from its formula and from
  -- the values of its parents as they are then. is_kept says whether the value is new.
  pub record IsTurn (n : ℕ) (old new : Graph (Cell K V) E) (is_kept : Bool) : Type 0 where
    pub cell : Cell K V
    pub there : node_weight old n ≡ Some cell
    pub stale : cell.stale ≡ true
    pub value : V
    pub given : gives cell.formula (inputs old n) value
    pub kept : is_kept ≡ is_new eq cell.value value
    pub is : new ≡ computed eq old n cell value

  -- the nodes of a list have their turns, one after another; `changed` are those whose values are new
  abbrev pub Refreshes : List ℕ → (old new : Graph (Cell K V) E) → (changed : List ℕ) → Type 0
  Refreshes [] old new changed = (new ≡ old) × (changed ≡ [])
  Refreshes (n ∷ ns) old new changed =
      (mid : Graph (Cell K V) E) × (is_kept : Bool) × (rest : List ℕ) × IsTurn n old mid is_kept × Refreshes ns mid new rest
      × (changed ≡ (if is_kept then n ∷ rest else rest))

-- f returned the error x for the stale node n, and would be asked again
pub record IsRefused {K V X E : Type 0} (refuses : K → List V → X → Type 0) (g : Graph (Cell K V) E) (n : ℕ) (x : X) : Type 0
  where
    pub cell : Cell K V
    pub there : node_weight g n ≡ Some cell
    pub stale : cell.stale ≡ true
    pub refused : refuses cell.formula (inputs g n) x

module _ {K V E : Type 0} (eq : V → V → Bool) (allowed : K → List V → V → Bool) where
  -- the value of a node with this cell equals one that is allowed for its formula and the values of its parents
  pub record HasValue (g : Graph (Cell K V) E) (n : ℕ) (c : Cell K V) : Type 0 where
    pub last : V
    pub value : V
    pub there : c.value ≡ Some last
    pub allowed_here : allowed c.formula (inputs g n) value ≡ true
    pub equal : (last ≡ value) ⊎ (eq last value ≡ true)

  -- each node that is not stale has such a value
  abbrev pub AreValues : Graph (Cell K V) E → Type 0
  AreValues g = (n : ℕ) (c : Cell K V) → node_weight g n ≡ Some c → c.stale ≡ false → HasValue g n c
