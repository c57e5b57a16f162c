-- When closures that are called for one element after another may be called.
use Rattle.std.specs.Prelude.{◌≡◌, ◌⊎◌, ℕ, ◌<◌, Option, Some, List, length}
use Rattle.std.specs.Borrow.{Bor, MutBor}
use Rattle.std.specs.Iterator.{CallableAtEachTurn, YieldsFirst}
use Rattle.daggy_base.specs.Graph.{Graph, slot, bound_of}
use Rattle.daggy_base.specs.Iterating.{numbered}
use Rattle.daggy_base.specs.Mapping.{CalledAt, weight_in}
use Rattle.daggy_base.specs.Rewriting.{Leaves}

module _ {F I W V A : Type 0} (of : ℕ → I) (pre : F → I → Bor W → Type 0) (step : F → I → Bor W → V → F → Type 0)
    (weight : A → W) where
  -- f may be called with the index of an existing slot, which is below both bounds, and a `&` to its weight
  abbrev pub TakesSlot : List (Option A) → F → ℕ × A → Type 0
  TakesSlot xs f x =
      slot xs x.0 ≡ Some x.1 → x.0 < bound_of xs → x.0 < length xs
      → (shown : Bor W) → shown.now ≡ weight x.1 → pre f (of x.0) shown

  -- such a call turned f into next
  abbrev pub CalledAtSlot : F → ℕ × A → F → Type 0
  CalledAtSlot f x next = (v : V) × CalledAt step of f x.0 (weight x.1) v next

  -- f may be called for each existing slot in turn, whatever the earlier calls returned
  abbrev pub CanCallAtSlots : F → List (Option A) → Type 0
  CanCallAtSlots f xs = CallableAtEachTurn (YieldsFirst (λ l. l)) CalledAtSlot (TakesSlot xs) (numbered 0 xs) f

  -- the same if any of the calls may be left out
  abbrev pub CanCallAtSomeSlots : F → List (Option A) → Type 0
  CanCallAtSomeSlots f xs =
      CallableAtEachTurn (YieldsFirst (λ l. l)) (λ p x q. (p ≡ q) ⊎ CalledAtSlot p x q) (TakesSlot xs) (numbered 0 xs) f

module _ {F I W : Type 0} (pre : F → I → MutBor W → Type 0) where
  -- f may be called with an index and a `&mut` to this weight
  abbrev pub TakesToWrite : F → I → Bor W → Type 0
  TakesToWrite f i shown = (lent : MutBor W) → lent.now ≡ shown.now → pre f i lent

module _ {N E F I : Type 0} (of : ℕ → I) where
  -- f may be called for each node in ascending index order, whatever the earlier calls returned
  abbrev pub CanCallAtNodes : {V : Type 0} → (pre : F → I → Bor N → Type 0)
      → (step : F → I → Bor N → V → F → Type 0) → F → Graph N E → Type 0
  CanCallAtNodes pre step f g = CanCallAtSlots of pre step (λ w. w) f g.nodes

  -- the same for edges
  abbrev pub CanCallAtEdges : {V : Type 0} → (pre : F → I → Bor E → Type 0)
      → (step : F → I → Bor E → V → F → Type 0) → F → Graph N E → Type 0
  CanCallAtEdges pre step f g = CanCallAtSlots of pre step weight_in f g.edges

  -- f may be called for any of the edges in ascending index order, whatever the earlier calls returned
  abbrev pub CanCallAtSomeEdges : {V : Type 0} → (pre : F → I → Bor E → Type 0)
      → (step : F → I → Bor E → V → F → Type 0) → F → Graph N E → Type 0
  CanCallAtSomeEdges pre step f g = CanCallAtSomeSlots of pre step weight_in f g.edges

  -- f may be called for each node in ascending index order, with a `&mut` to its weight, whatever the earlier calls did
  abbrev pub CanLendNodes : (pre : F → I → MutBor N → Type 0)
      → (step : F → I → MutBor N → Unit {0} → MutBor N → F → Type 0) → F → Graph N E → Type 0
  CanLendNodes pre step f g = CanCallAtSlots of (TakesToWrite pre) (Leaves step) (λ w. w) f g.nodes

  -- the same for edges
  abbrev pub CanLendEdges : (pre : F → I → MutBor E → Type 0)
      → (step : F → I → MutBor E → Unit {0} → MutBor E → F → Type 0) → F → Graph N E → Type 0
  CanLendEdges pre step f g = CanCallAtSlots of (TakesToWrite pre) (Leaves step) weight_in f g.edges
