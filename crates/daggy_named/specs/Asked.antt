-- Answers in terms of keys.
use Rattle.std.specs.Prelude.{◌≡◌, ℕ, Bool, Option, Some, List, map, option_and_then}
use Rattle.daggy_base.specs.Finding.{find_edge}
use Rattle.daggy_named.specs.Naming.{Naming, key_at, index_by}

-- a node whose key passes a test exists, and P holds of its index
abbrev pub ForNode : {K : Type 0} → (test : K → Bool) → List (Option K) → (ℕ → Type 0) → Type 0
ForNode test keys P = (n : ℕ) × (index_by test keys ≡ Some n) × P n

-- found has the keys of some nodes, in their order, and P holds of these nodes
abbrev pub AreKeysOf : {K : Type 0} → List (Option K) → (P : List ℕ → Type 0) → (found : List K) → Type 0
AreKeysOf keys P found = (nodes : List ℕ) × (map (key_at keys) nodes ≡ map Some found) × P nodes

-- the edge that is found from the node whose key passes a to the node whose key passes b, if there is one
abbrev pub edge_by : {K N E : Type 0} → (a b : K → Bool) → Naming K N E → Option ℕ
edge_by a b s =
    option_and_then (λ u. option_and_then (λ v. find_edge s.graph u v) (index_by b s.keys)) (index_by a s.keys)
