-- Values that are what computing everything again would give.
use Rattle.std.specs.Prelude.{◌≡◌, ℕ, ◌⊎◌, ◌↔◌, Bool, true, List, Some}
use Rattle.daggy_base.specs.Graph.{Graph, node_weight}
use Rattle.daggy_base.specs.Ordered.{IsOrderOf}
use Rattle.daggy_base.specs.Path.{Reaches}
use Rattle.daggy_base.specs.WellFormed.{IsWellFormed}
use Rattle.daggy_computed.specs.declared.cell.Cell.{Cell}
use Rattle.daggy_computed.specs.Computation.{formulas}
use Rattle.daggy_computed.specs.Inputs.{value_at, inputs}
use Rattle.daggy_computed.specs.Marking.{IsStale}
use Rattle.daggy_computed.specs.Settling.{AreValues}

-- neither the node n nor a node that reaches it is stale
abbrev pub IsUpToDate : {K V E : Type 0} → Graph (Cell K V) E → ℕ → Type 0
IsUpToDate g n = (m : ℕ) → Reaches g m n → ¬ IsStale g m

-- a relation of formulas, the values of parents and values is that of a function, and a test is equality
pub record IsFunction {K V : Type 0} (eq : V → V → Bool) (gives : K → List V → V → Type 0) (compute : K → List V → V) : Type 0
  where
    pub results : (k : K) (vs : List V) (v : V) → gives k vs v → v ≡ compute k vs
    pub equality : (a b : V) → (eq a b ≡ true) ↔ (a ≡ b)

module _ {K V E : Type 0} (compute : K → List V → V) where
  -- the node n has the value that `compute` gives for its formula and the values of its parents
  abbrev pub IsComputed : Graph (Cell K V) E → ℕ → Type 0
  IsComputed g n = (c : Cell K V) → node_weight g n ≡ Some c → c.value ≡ Some (compute c.formula (inputs g n))

  -- each node has that value, so computing everything again would change nothing
  abbrev pub AreComputed : Graph (Cell K V) E → Type 0
  AreComputed g = (n : ℕ) → IsComputed g n

  -- each node is stale, or has that value
  abbrev pub AreComputedOrStale : Graph (Cell K V) E → Type 0
  AreComputedOrStale g =
      (n : ℕ) (c : Cell K V) → node_weight g n ≡ Some c
      → (c.stale ≡ true) ⊎ (c.value ≡ Some (compute c.formula (inputs g n)))

-- where each value is the one that a function gives, the formulas and the edges of a dag decide all values
abbrev pub AreDecided : (K V E : Type 0) → Type 0
AreDecided K V E =
    (limit : ℕ) (order : List ℕ) (dag : Graph K E) (compute : K → List V → V) (g h : Graph (Cell K V) E)
    → IsWellFormed limit dag → IsOrderOf dag order → formulas g ≡ dag → formulas h ≡ dag
    → AreComputed compute g → AreComputed compute h → (n : ℕ) → value_at h n ≡ value_at g n

-- what keeps values right, keeps them those of a function, if a test is equality
abbrev pub StayComputed : (K V E : Type 0) → Type 0
StayComputed K V E =
    (eq : V → V → Bool) (compute : K → List V → V) (g h : Graph (Cell K V) E)
    → ((a b : V) → (eq a b ≡ true) ↔ (a ≡ b))
    → ((allowed : K → List V → V → Bool) → AreValues eq allowed g → AreValues eq allowed h)
    → AreComputedOrStale compute g → AreComputedOrStale compute h
