-- Orders by keys: of the nodes whose parents are in the list already, the one with the least key comes next.
use Rattle.std.specs.Prelude.{◌≡◌, ℕ, ◌≤◌, ◌⊎◌, Some, List, ◌∷◌, ◌++◌, map, All, Contains}
use Rattle.std.specs.Borrow.{Bor}
use Rattle.std.specs.declared.cmp.Ordering.{Ordering}
use Rattle.std.specs.declared.cmp.Ordering.TheVariants.{Less, Equal}
use Rattle.daggy_base.specs.Graph.{Graph, node_weight}
use Rattle.daggy_base.specs.Path.{AreJoined}

-- a key and a node that exists, for whose weight f may have returned the key
abbrev pub IsKeyOf : {N E F I K : Type 0} → (of : ℕ → I) (post : F → I → Bor N → K → Type 0) → F → Graph N E → K × ℕ → Type 0
IsKeyOf {N} of post f g p = (shown : Bor N) × (node_weight g p.1 ≡ Some shown.now) × post f (of p.1) shown p.0

-- p's key is less than q's, or they are equal and p's index is not greater
abbrev pub Precedes : {K : Type 0} → (cmp : K → K → Ordering) → (p q : K × ℕ) → Type 0
Precedes cmp p q = (cmp p.0 q.0 ≡ Less) ⊎ ((cmp p.0 q.0 ≡ Equal) × (p.1 ≤ q.1))

-- all parents of the node are in the list
abbrev pub HaveCome : {N E : Type 0} → Graph N E → (before : List ℕ) → ℕ → Type 0
HaveCome g before n = (u : ℕ) → AreJoined g u n → Contains before u

-- the nodes of a list of pairs of a key and a node
abbrev pub nodes_of : {K : Type 0} → List (K × ℕ) → List ℕ
nodes_of ps = map (λ p. p.1) ps

-- Each node of the order has a key that f returned, and comes first among the later nodes whose parents have come before.
pub record IsLeastFirst {N E F I K : Type 0} (of : ℕ → I) (post : F → I → Bor N → K → Type 0) (f : F)
    (cmp : K → K → Ordering) (g : Graph N E) (order : List ℕ) : Type 0 where
  pub keyed : List (K × ℕ)
  pub nodes : nodes_of keyed ≡ order
  pub keys : All (IsKeyOf of post f g) keyed
  pub least : (before after : List (K × ℕ)) (first : K × ℕ) → keyed ≡ before ++ first ∷ after
      → All (λ later. HaveCome g (nodes_of before) later.1 → Precedes cmp first later) after
