-- A graph whose nodes are named by keys.
use Rattle.std.specs.Prelude.{◌≡◌, ℕ, Bool, true, false, Option, Some, None, List, map, is_some, position}
use Rattle.std.specs.Prelude.{option_and_then}
use Rattle.daggy_base.specs.Graph.{Graph, slot, node_weight}
use Rattle.daggy_base.specs.Weights.{with_node_weight}

-- a graph, and for each node slot the key of its node
pub record Naming (K N E : Type 0) : Type 0 where
  pub graph : Graph N E
  pub keys : List (Option K)

-- the key of the node n, if there is such a node
abbrev pub key_at : {K : Type 0} → List (Option K) → ℕ → Option K
key_at keys n = slot keys n

-- whether a slot has a key that passes a test
abbrev pub is_named : {K : Type 0} → (K → Bool) → Option K → Bool
is_named test None = false
is_named test (Some x) = test x

-- the index of the node whose key passes a test, if there is one
abbrev pub index_by : {K : Type 0} → (K → Bool) → List (Option K) → Option ℕ
index_by test keys = position (is_named test) keys

-- the index of the node with the key k, if there is one
abbrev pub index_in : {K : Type 0} → (K → K → Bool) → List (Option K) → K → Option ℕ
index_in eq keys k = index_by (eq k) keys

-- the weight of the node whose key passes a test, if there is one
abbrev pub weight_by : {K N E : Type 0} → (K → Bool) → Naming K N E → Option N
weight_by test s = option_and_then (node_weight s.graph) (index_by test s.keys)

module _ {K N E : Type 0} (eq : K → K → Bool) where
  -- exactly the existing nodes have a key, and no two have equal keys
  pub record IsNamed (s : Naming K N E) : Type 0 where
    pub exact : map is_some s.keys ≡ map is_some s.graph.nodes
    pub once : (m n : ℕ) (a b : K) → key_at s.keys m ≡ Some a → key_at s.keys n ≡ Some b → eq a b ≡ true → m ≡ n

-- the node at an index, if there is one, with the weight w
abbrev pub with_weight : {K N E : Type 0} → Naming K N E → Option ℕ → N → Naming K N E
with_weight s None w = s
with_weight s (Some n) w = record { graph = with_node_weight s.graph n w; keys = s.keys }

-- nodes whose keys pass two tests exist, and P holds of their indices
abbrev pub ForNodes : {K : Type 0} → (a b : K → Bool) → List (Option K) → (ℕ → ℕ → Type 0) → Type 0
ForNodes a b keys P = (u : ℕ) × (v : ℕ) × (index_by a keys ≡ Some u) × (index_by b keys ≡ Some v) × P u v
