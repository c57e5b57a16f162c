-- The graph after its lists are permuted.
use Rattle.std.specs.Prelude.{◌≡◌, ℕ, ◌↔◌, Option, Some, None, List, [], ◌∷◌, length, map, Contains}
use Rattle.std.specs.Global.{Vec}
use Rattle.daggy_base.specs.declared.index.Direction.{Direction}
use Rattle.daggy_base.specs.Graph.{Graph, HasNode, list_at, node_count}
use Rattle.daggy_base.specs.WellFormed.{AreDistinct}

-- a list for each slot: the next of the given lists, or an empty one if the slot is vacant
abbrev pub lists_by_slots : {A : Type 0} → List (Option A) → List (List ℕ) → List (List ℕ)
lists_by_slots [] lists = []
lists_by_slots (None ∷ slots) lists = [] ∷ lists_by_slots slots lists
lists_by_slots (Some x ∷ slots) [] = [] ∷ lists_by_slots slots []
lists_by_slots (Some x ∷ slots) (l ∷ lists) = l ∷ lists_by_slots slots lists

-- with other lists: for each existing node, in ascending order, its out list and its in list
abbrev pub with_orders : {N E : Type 0} → Graph N E → List (List ℕ × List ℕ) → Graph N E
with_orders g orders =
    record {
      nodes = g.nodes;
      edges = g.edges;
      out_lists = lists_by_slots g.nodes (map (λ p. p.0) orders);
      in_lists = lists_by_slots g.nodes (map (λ p. p.1) orders);
      vacant_nodes = g.vacant_nodes;
      vacant_edges = g.vacant_edges;
    }

-- a permutation of a list
pub record IsOrder (list order : List ℕ) : Type 0 where
  pub exact : (e : ℕ) → Contains order e ↔ Contains list e
  pub once : AreDistinct order

-- two lists for each existing node, in ascending order: a permutation of its out list and one of its in list
pub record AreOrders {N E : Type 0} (g : Graph N E) (orders : List (List ℕ × List ℕ)) : Type 0 where
  pub count : length orders ≡ node_count g
  pub each : (dir : Direction) (n : ℕ) → HasNode g n → IsOrder (list_at dir g n) (list_at dir (with_orders g orders) n)

-- two lists of indices by their numbers
abbrev pub numbers_of : {I : Type 0} → (number : I → ℕ) → Vec I × Vec I → List ℕ × List ℕ
numbers_of number p = (map number p.0.items, map number p.1.items)
