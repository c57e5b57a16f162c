-- The edges from one node to another.
use Rattle.std.specs.Prelude.{ℕ, ◌==◌, List}
use Rattle.std.specs.List.{filter, filter_map}
use Rattle.std.specs.Option.{option_map}
use Rattle.daggy_base.specs.Graph.{Graph, Edge, edge_at}
use Rattle.daggy_base.specs.Iterating.{edges_at}
use Rattle.daggy_base.specs.declared.index.Direction.TheVariants.{Outgoing}
use Rattle.daggy_dag.specs.Walks.{rest_of_walk}

-- the edges of u's out list that lead to v, each with its index, in list order
abbrev pub edges_connecting : {N E : Type 0} → Graph N E → ℕ → ℕ → List (ℕ × Edge E)
edges_connecting g u v = filter (λ p. p.1.child == v) (edges_at Outgoing g u)

-- those that lead to v from the edge e on
abbrev pub connecting_from : {N E : Type 0} → Graph N E → (e v : ℕ) → List (ℕ × Edge E)
connecting_from g e v =
    filter (λ p. p.1.child == v) (filter_map (λ i. option_map (λ x. (i, x)) (edge_at g i)) (rest_of_walk Outgoing g e))
