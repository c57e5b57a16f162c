-- The parts of the answers.
use Rattle.std.specs.Prelude.{◌≡◌, ℕ, ◌↔◌, Some, List, [], Contains, map}
use Rattle.std.specs.List.Sorted.{IsSorted}
use Rattle.std.specs.Ordering.{nat_cmp, ordering_then}
use Rattle.daggy_base.specs.Graph.{Graph, ends_of}
use Rattle.daggy_base.specs.Iterating.{edge_references}
use Rattle.daggy_base.specs.Path.{Reaches}
use Rattle.daggy_base.specs.WellFormed.{AreDistinct}

-- exactly the nodes that the start reaches, each once
pub record AreReached {N E : Type 0} (g : Graph N E) (start : ℕ) (nodes : List ℕ) : Type 0 where
  pub exact : (n : ℕ) → Contains nodes n ↔ Reaches g start n
  pub once : AreDistinct nodes

-- the parent and the child of each edge, by ascending index
abbrev pub endpoints_of : {N E : Type 0} → Graph N E → List (ℕ × ℕ)
endpoints_of g = map (λ p. ends_of p.1) (edge_references g)

-- pairs by their first numbers, and those with the same first number by their second
abbrev pub AreAscending : List (ℕ × ℕ) → Type 0
AreAscending pairs = IsSorted (λ x y. ordering_then (nat_cmp x.0 y.0) (nat_cmp x.1 y.1)) pairs

-- nodes with these weights, and no edges
pub record HasOnly {N E : Type 0} (weights : List N) (g : Graph N E) : Type 0 where
  pub nodes : g.nodes ≡ map Some weights
  pub edges : g.edges ≡ []
