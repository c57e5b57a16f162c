-- How a compact graph is stored.
use Rattle.std.specs.Prelude.{◌≡◌, ℕ, ◌≤◌, List, [], length, map}
use Rattle.daggy_base.specs.Graph.{Graph}
use Rattle.std.specs.List.{swap_remove}
use Rattle.daggy_base.specs.FromSlots.{graph_of_slots}
use Rattle.daggy_base.specs.Removal.{without_edge}
use Rattle.daggy_base.specs.declared.kind.Kind.TheVariants.{Compact}
use Rattle.daggy_cells.specs.Links.{AreLinkedLists, ListsEach}
use Rattle.daggy_cells.specs.declared.cell.Node.{Node}
use Rattle.daggy_cells.specs.declared.cell.Edge.{Edge}
use Rattle.daggy_base.specs.declared.index.Direction.{Direction}
use Rattle.daggy_base.specs.declared.index.Direction.TheVariants.{Outgoing, Incoming}
use Rattle.daggy_cells.specs.Fields.{weight_of, plain_edge, lists_at, firsts_of, nexts_of, ends_of, lists_from}

-- the graph that these nodes and edges store
abbrev pub stored_graph : {N E Ix : Type 0} → List (Node N Ix) → List (Edge E Ix) → Graph N E
stored_graph nodes edges =
    record {
      nodes = map weight_of nodes;
      edges = map plain_edge edges;
      out_lists = lists_from Outgoing nodes edges;
      in_lists = lists_from Incoming nodes edges;
      vacant_nodes = [];
      vacant_edges = [];
    }

-- these nodes and edges store the graph g
pub record Stores {N E Ix : Type 0} (end : ℕ) (nodes : List (Node N Ix)) (edges : List (Edge E Ix))
    (g : Graph N E) : Type 0 where
  pub nodes_are : g.nodes ≡ map weight_of nodes
  pub edges_are : g.edges ≡ map plain_edge edges
  pub no_vacant_node : g.vacant_nodes ≡ []
  pub no_vacant_edge : g.vacant_edges ≡ []
  pub linked : (dir : Direction) → AreLinkedLists end (firsts_of dir nodes) (nexts_of dir edges) (lists_at dir g)
  pub listed : (dir : Direction) → ListsEach (ends_of dir edges) (lists_at dir g)
  pub few_nodes : length nodes ≤ end
  pub few_edges : length edges ≤ end

-- once the last edge is moved to the index e, the nodes and edges store the graph without e
abbrev pub IsDetached : {N E Ix : Type 0} → (end : ℕ) → Graph N E → ℕ → List (Node N Ix) → List (Edge E Ix) → Type 0
IsDetached {N} {E} {Ix} end g e nodes edges =
    (x : Edge E Ix) → Stores end nodes (swap_remove edges e x) (without_edge Compact g e)

-- the nodes and edges store the graph made of these slots
abbrev pub IsBuilt : {N E Ix : Type 0} → (end : ℕ) → List (Node N Ix) → List (Edge E Ix) → Type 0
IsBuilt end nodes edges = Stores end nodes edges (graph_of_slots (map weight_of nodes) (map plain_edge edges))
