-- The graph of given slots.
use Rattle.std.specs.Prelude.{◌≡◌, ℕ, zero, suc, ◌≤◌, ◌==◌, Bool, false, not, Option, Some, IsSome, is_some, List, []}
use Rattle.std.specs.Prelude.{◌∷◌, length, map, unwrap_or, if◌then◌else◌}
use Rattle.std.specs.List.{range_with_len}
use Rattle.std.specs.Option.{option_map}
use Rattle.daggy_base.specs.declared.index.Direction.{Direction}
use Rattle.daggy_base.specs.declared.index.Direction.TheVariants.{Outgoing, Incoming}
use Rattle.daggy_base.specs.Graph.{Graph, Edge, slot, near_end}

-- the numbers below k that pass the test, in descending order
abbrev pub down_from : (ℕ → Bool) → ℕ → List ℕ
down_from passes zero = []
down_from passes (suc k) = if passes k then k ∷ down_from passes k else down_from passes k

-- the vacant slots, in descending order
abbrev pub vacant_down : {A : Type 0} → List (Option A) → List ℕ
vacant_down slots = down_from (λ i. not (is_some (slot slots i))) (length slots)

-- whether the slot e holds an edge with the endpoint n
abbrev pub has_end : {E : Type 0} → Direction → List (Option (Edge E)) → ℕ → ℕ → Bool
has_end dir edges n e = unwrap_or (option_map (λ x. near_end dir x == n) (slot edges e)) false

-- for each of the first nodes its edges, in descending index order
abbrev pub lists_down : {E : Type 0} → Direction → (nodes : ℕ) → List (Option (Edge E)) → List (List ℕ)
lists_down dir nodes edges = map (λ n. down_from (has_end dir edges n) (length edges)) (range_with_len 0 nodes)

-- the graph with these slots, in which every list is in descending index order, the lists of vacant slots too
abbrev pub graph_of_slots : {N E : Type 0} → List (Option N) → List (Option (Edge E)) → Graph N E
graph_of_slots nodes edges =
    record {
      nodes = nodes;
      edges = edges;
      out_lists = lists_down Outgoing (length nodes) edges;
      in_lists = lists_down Incoming (length nodes) edges;
      vacant_nodes = vacant_down nodes;
      vacant_edges = vacant_down edges;
    }

-- the edge from the first of two indices to the second
abbrev pub edge_of : {I E : Type 0} → (number : I → ℕ) → I × I × E → Edge E
edge_of number x = record { parent = number x.0; child = number x.1; weight = x.2 }

-- slots of edges, whose endpoints are indices
abbrev pub edges_by : {I E : Type 0} → (number : I → ℕ) → List (Option (I × I × E)) → List (Option (Edge E))
edges_by number edges = map (option_map (edge_of number)) edges

-- slots that make a graph: there is an index for each, and both endpoints of each edge exist
pub record MakeGraph {N E : Type 0} (limit : ℕ) (nodes : List (Option N))
    (edges : List (Option (Edge E))) : Type 0 where
  pub few_nodes : length nodes ≤ limit
  pub few_edges : length edges ≤ limit
  pub parents : (e : ℕ) (x : Edge E) → slot edges e ≡ Some x → IsSome (slot nodes x.parent)
  pub children : (e : ℕ) (x : Edge E) → slot edges e ≡ Some x → IsSome (slot nodes x.child)
