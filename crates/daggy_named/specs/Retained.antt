-- The nodes that are left after a closure was called with the key and the weight of each, to decide whether it stays.
use Rattle.std.specs.Prelude.{◌≡◌, ℕ, Bool, Option, Some, None, List, [], ◌∷◌, length, slice_set}
use Rattle.std.specs.Borrow.{Bor}
use Rattle.daggy_base.specs.Graph.{slot}
use Rattle.daggy_base.specs.Iterating.{numbered}
use Rattle.daggy_base.specs.Removal.{without_node}
use Rattle.daggy_base.specs.declared.kind.Kind.TheVariants.{Stable}
use Rattle.daggy_dag.specs.Retaining.{CanAskDown, AsksDown}
use Rattle.daggy_named.specs.Naming.{Naming}

module _ {K N : Type 0} where
  -- a key and a weight, if both are there
  abbrev pub both_of : Option K → Option N → Option (K × N)
  both_of None w = None
  both_of (Some k) None = None
  both_of (Some k) (Some w) = Some (k, w)

  -- the keys and the weights of nodes, by node slot
  abbrev pub keyed_slots : List (Option K) → List (Option N) → List (Option (K × N))
  keyed_slots [] ws = []
  keyed_slots (k ∷ ks) [] = []
  keyed_slots (k ∷ ks) (w ∷ ws) = both_of k w ∷ keyed_slots ks ws

  module _ {E : Type 0} where
    -- the key and the weight of each node, by node slot
    abbrev pub keyed_of : Naming K N E → List (Option (K × N))
    keyed_of s = keyed_slots s.keys s.graph.nodes

    -- without the node n, its edges and its key
    abbrev pub without_named : Naming K N E → ℕ → Naming K N E
    without_named s n =
        record { graph = without_node Stable s.graph n; keys = slice_set s.keys n None }

  module _ {F : Type 0} where
    -- f may be called with a `&` to the key and a `&` to the weight
    abbrev pub TakesBoth : (pre : F → Bor K → Bor N → Type 0) → F → ℕ → Bor (K × N) → Type 0
    TakesBoth pre f n shown =
        (key : Bor K) (weight : Bor N) → key.now ≡ shown.now.0 → weight.now ≡ shown.now.1 → pre f key weight

    -- f was called so
    abbrev pub CalledWithBoth : (step : F → Bor K → Bor N → Bool → F → Type 0) → F → ℕ → Bor (K × N) → Bool → F → Type 0
    CalledWithBoth step f n shown stays next =
        (key : Bor K) × (weight : Bor N) × (key.now ≡ shown.now.0) × (weight.now ≡ shown.now.1)
        × step f key weight stays next

    module _ {E : Type 0} where
      -- f may be called with the key and the weight of each node in descending index order, whatever it returned before
      abbrev pub CanAskKeys : (pre : F → Bor K → Bor N → Type 0) → (step : F → Bor K → Bor N → Bool → F → Type 0)
          → F → Naming K N E → Type 0
      CanAskKeys pre step f s =
          CanAskDown (λ n. n) (TakesBoth pre) (CalledWithBoth step) (λ x. x) (keyed_of s) f (numbered 0 (keyed_of s))

      -- f was called with the key and the weight of each node in descending index order, and each node for which it
      -- returned false was removed with its edges and its key
      abbrev pub RetainsKeys : (step : F → Bor K → Bor N → Bool → F → Type 0) → F → Naming K N E → Naming K N E → Type 0
      RetainsKeys step f s t =
          AsksDown (λ n. n) (CalledWithBoth step) (λ x. x) (λ z n. slot (keyed_of z) n) without_named f s
          (length (keyed_of s)) t
