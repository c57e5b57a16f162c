-- Topological orders: every parent precedes its children.
use Rattle.std.specs.Prelude.{◌≡◌, ℕ, suc, ◌+◌, ◌<◌, ◌==◌, ◌↔◌, Bool, true, not, List, [], ◌∷◌, ◌++◌, length, take}
use Rattle.std.specs.Prelude.{drop, filter, Contains, if◌then◌else◌}
use Rattle.daggy_base.specs.Graph.{Graph, HasNode, out_list}
use Rattle.daggy_base.specs.Path.{AreJoined, Reaches}
use Rattle.daggy_base.specs.WellFormed.{AreDistinct}

-- the position of a node in a list, or the list's length
abbrev pub place : List ℕ → ℕ → ℕ
place [] n = 0
place (x ∷ xs) n = if x == n then 0 else suc (place xs n)

-- the existing nodes, each once, every parent before its children
pub record IsOrderOf {N E : Type 0} (g : Graph N E) (order : List ℕ) : Type 0 where
  pub exact : (n : ℕ) → Contains order n ↔ HasNode g n
  pub once : AreDistinct order
  pub sorted : (u v : ℕ) → AreJoined g u v → place order u < place order v

-- how many edges leave the nodes of a list
abbrev pub edges_from : {N E : Type 0} → Graph N E → List ℕ → ℕ
edges_from g [] = 0
edges_from g (n ∷ ns) = length (out_list g n) + edges_from g ns

-- the nodes from one position up to another
abbrev pub stretch : List ℕ → (low high : ℕ) → List ℕ
stretch order low high = drop low (take high order)

-- The nodes from the position low up to the position high rearranged: first those that fail the test, then those that
-- pass it, each group in its old order.
abbrev pub parted : (ℕ → Bool) → List ℕ → (low high : ℕ) → List ℕ
parted test order low high =
    take low order
    ++ (filter (λ n. not (test n)) (stretch order low high)
    ++ (filter test (stretch order low high) ++ drop high order))

-- from b's position to a's: first the nodes that b does not reach, then those that it reaches
pub record IsParted {N E : Type 0} (g : Graph N E) (a b : ℕ) (old new : List ℕ) : Type 0 where
  pub test : ℕ → Bool
  pub exact : (n : ℕ) → Contains (stretch old (place old b) (place old a + 1)) n → (test n ≡ true) ↔ Reaches g b n
  pub is : new ≡ parted test old (place old b) (place old a + 1)
