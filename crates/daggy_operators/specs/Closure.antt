-- The transitive closure of a dag, as a dag whose edges are the pairs of a node and one of its descendants.
use Rattle.std.specs.Prelude.{◌≡◌, ℕ, ◌<◌, ◌↔◌, ◌⊎◌, Some, List, [], ◌∷◌, length, map, Contains, option_copied}
use Rattle.std.specs.Option.{option_map}
use Rattle.std.specs.Borrow.{Bor}
use Rattle.daggy_base.specs.Graph.{Graph, node_weight, ends_of}
use Rattle.daggy_base.specs.FromSlots.{graph_of_slots}
use Rattle.daggy_reduction.specs.Descendants.{IsDescendantOf}

-- the first number is lower, or the same and the second number is lower
abbrev pub IsPairBelow : ℕ × ℕ → ℕ × ℕ → Type 0
IsPairBelow p q = (p.0 < q.0) ⊎ ((p.0 ≡ q.0) × (p.1 < q.1))

-- each pair is below the next
abbrev pub ArePairsAscending : List (ℕ × ℕ) → Type 0
ArePairsAscending [] = Unit {0}
ArePairsAscending (p ∷ []) = Unit {0}
ArePairsAscending (p ∷ q ∷ ps) = IsPairBelow p q × ArePairsAscending (q ∷ ps)

-- all pairs of that relation, in ascending order
pub record ListsPairs (Rel : ℕ → ℕ → Type 0) (pairs : List (ℕ × ℕ)) : Type 0 where
  pub exact : (u v : ℕ) → Contains pairs (u, v) ↔ Rel u v
  pub ascending : ArePairsAscending pairs

-- the relation has more than that many pairs
abbrev pub HasMorePairs : ℕ → (ℕ → ℕ → Type 0) → Type 0
HasMorePairs limit Rel = (pairs : List (ℕ × ℕ)) × ListsPairs Rel pairs × (limit < length pairs)

-- h has the nodes of g, with their weights, and an edge from each node to each of its descendants, in ascending order of
-- parent and child; each of its lists is in descending index order
pub record IsClosure {N E F : Type 0} (g : Graph N E) (h : Graph (Bor N) F) : Type 0 where
  pub nodes : (n : ℕ) → option_copied (node_weight h n) ≡ node_weight g n
  pub edges : (pairs : List (ℕ × ℕ)) × ListsPairs (IsDescendantOf g) pairs
      × (map (option_map ends_of) h.edges ≡ map Some pairs)
  pub lists : h ≡ graph_of_slots h.nodes h.edges
