-- Refreshing in an order.
use Rattle.std.specs.Prelude.{◌≡◌, ℕ, ◌<◌, Bool, List, [], ◌∷◌, Contains, length}
use Rattle.daggy_base.specs.Graph.{Graph, HasNode}
use Rattle.daggy_base.specs.Ordered.{place}
use Rattle.daggy_computed.specs.declared.cell.Cell.{Cell}
use Rattle.daggy_computed.specs.declared.entry.Entry.{Entry}
use Rattle.daggy_computed.specs.declared.error.RefreshError.{RefreshError}
use Rattle.daggy_computed.specs.declared.error.RefreshError.TheVariants.{Memory, Failed}
use Rattle.daggy_computed.specs.Cells.{cells, IsStaleAt}
use Rattle.daggy_computed.specs.Settling.{IsRefused, Refreshes}

-- why a refresh ended: there was no memory, or f returned an error for a node that is still stale
abbrev pub IsCause : {K V X E I : Type 0} → (number : I → ℕ) → (refuses : K → List V → X → Type 0) → Graph (Cell K V) E
    → RefreshError X I → Type 0
IsCause number refuses g Memory = Unit {0}
IsCause number refuses g (Failed n x) = IsRefused refuses g (number n) x

-- the places of the nodes in an order ascend
abbrev pub IsAscending : (order : List ℕ) → List ℕ → Type 0
IsAscending order [] = Unit {0}
IsAscending order (n ∷ ns) = ((m : ℕ) → Contains ns m → place order n < place order m) × IsAscending order ns

-- the values and marks kept fit a graph, and each stale node waits
pub record IsReady {K V E : Type 0} (g : Graph K E) (es : List (Entry V)) (slots : ℕ) (queue : List ℕ) : Type 0 where
  pub sized : (m : ℕ) → HasNode g m → m < length es
  pub slots_are : length es ≡ slots
  pub real : (m : ℕ) → IsStaleAt es m → HasNode g m
  pub waits : (m : ℕ) → IsStaleAt es m → Contains queue m

-- some nodes had their turns since es was kept, and stand before all that are stale now
pub record IsUnderWay {K V E : Type 0} (eq : V → V → Bool) (gives : K → List V → V → Type 0) (order : List ℕ) (g : Graph K E)
    (es now : List (Entry V)) (changed : List ℕ) : Type 0
  where
    pub turns : List ℕ
    pub ascending : IsAscending order turns
    pub refreshes : Refreshes eq gives turns (cells g es) (cells g now) changed
    pub later : (t m : ℕ) → Contains turns t → IsStaleAt now m → place order t < place order m
