-- How a graph with vacant slots is stored.
use Rattle.std.specs.Prelude.{◌≡◌, ℕ, ◌≤◌, ◌↔◌, Option, Some, None, is_some, List, [], ◌∷◌, length, map, count_by}
use Rattle.std.specs.Prelude.{slice_get, slice_index, Contains}
use Rattle.std.specs.Option.{option_map}
use Rattle.daggy_base.specs.declared.index.Direction.{Direction}
use Rattle.daggy_base.specs.declared.index.Direction.TheVariants.{Outgoing, Incoming}
use Rattle.daggy_base.specs.Graph.{Graph, Edge as PlainEdge, edge_at, near_end}
use Rattle.daggy_cells.specs.declared.cell.Node.{Node}
use Rattle.daggy_cells.specs.declared.cell.Edge.{Edge}
use Rattle.daggy_cells.specs.Links.{follow, linked_lists, IsLinkedList, AreLinkedLists, ListsBy}
use Rattle.daggy_cells.specs.Fields.{weight_of as stored_weight, plain_edge as stored_edge, firsts_of, nexts_of, lists_at}
use Rattle.daggy_cells.specs.Fields.{Redirects}

-- the weight in a node slot, if the slot is not vacant
abbrev pub weight_of : {N Ix : Type 0} → Node (Option N) Ix → Option N
weight_of x = x.weight

-- a stored edge without its links, with the weight w
abbrev pub plain : {E Ix : Type 0} → Edge (Option E) Ix → E → PlainEdge E
plain x w = record { parent = x.parent; child = x.child; weight = w }

-- the edge in a slot, if the slot is not vacant
abbrev pub plain_edge : {E Ix : Type 0} → Edge (Option E) Ix → Option (PlainEdge E)
plain_edge x = option_map (plain x) x.weight

-- the links of occupied slots, with `end` for vacant ones
abbrev pub shown : {A : Type 0} → (end : ℕ) → List (Option A) → List ℕ → List ℕ
shown end [] links = []
shown end (x ∷ xs) [] = []
shown end (None ∷ xs) (l ∷ links) = end ∷ shown end xs links
shown end (Some x ∷ xs) (l ∷ links) = l ∷ shown end xs links

-- the first edge of each node's list
abbrev pub list_firsts : {N Ix : Type 0} → (end : ℕ) → Direction → List (Node (Option N) Ix) → List ℕ
list_firsts end dir nodes = shown end (map weight_of nodes) (firsts_of dir nodes)

-- the endpoint whose list in that direction has the edge, if the edge exists
abbrev pub end_of : {N E : Type 0} → Direction → Graph N E → ℕ → Option ℕ
end_of dir g e = option_map (near_end dir) (edge_at g e)

-- The stored graph. Vacant slots form linked lists that begin at the heads: a node slot is linked by the field that
-- otherwise has the first edge of the out list, an edge slot by the field that otherwise has the next edge of the out
-- list.
abbrev pub stored_graph : {N E Ix : Type 0}
    → (end : ℕ) → List (Node (Option N) Ix) → List (Edge (Option E) Ix) → (node_head edge_head : ℕ) → Graph N E
stored_graph end nodes edges node_head edge_head =
    record {
      nodes = map weight_of nodes;
      edges = map plain_edge edges;
      out_lists = linked_lists (list_firsts end Outgoing nodes) (nexts_of Outgoing edges);
      in_lists = linked_lists (list_firsts end Incoming nodes) (nexts_of Incoming edges);
      vacant_nodes = follow (firsts_of Outgoing nodes) (length (firsts_of Outgoing nodes)) node_head;
      vacant_edges = follow (nexts_of Outgoing edges) (length (nexts_of Outgoing edges)) edge_head;
    }

-- the node with empty lists, if it has a weight
abbrev pub with_links_emptied : {N Ix : Type 0} → (end : ℕ) → Option N → Node (Option N) Ix → Node (Option N) Ix
with_links_emptied end None x = x
with_links_emptied end (Some w) x = record x { first_out = end; first_in = end }

-- the node with empty lists, if its slot is not vacant
abbrev pub with_lists_emptied : {N Ix : Type 0} → (end : ℕ) → Node (Option N) Ix → Node (Option N) Ix
with_lists_emptied end x = with_links_emptied end x.weight x

-- the links form the list of vacant slots, and `count` slots are occupied
pub record IsFreeList {A : Type 0} (end : ℕ) (slots : List (Option A)) (links : List ℕ) (head count : ℕ)
    (vacant : List ℕ) : Type 0 where
  pub linked : IsLinkedList end links head vacant
  pub exact : (i : ℕ) → Contains vacant i ↔ (slice_get slots i ≡ Some None)
  pub counted : count ≡ count_by is_some slots
  pub long : length links ≡ length slots
  pub few : length slots ≤ end

-- these nodes and edges store the graph g
pub record Stores {N E Ix : Type 0} (end : ℕ) (nodes : List (Node (Option N) Ix)) (edges : List (Edge (Option E) Ix))
    (node_head edge_head nodes_counted edges_counted : ℕ) (g : Graph N E) : Type 0 where
  pub nodes_are : g.nodes ≡ map weight_of nodes
  pub edges_are : g.edges ≡ map plain_edge edges
  pub linked : (dir : Direction) → AreLinkedLists end (list_firsts end dir nodes) (nexts_of dir edges) (lists_at dir g)
  pub listed : (dir : Direction) → ListsBy (end_of dir g) (lists_at dir g)
  pub node_slots : IsFreeList end g.nodes (firsts_of Outgoing nodes) node_head nodes_counted g.vacant_nodes
  pub edge_slots : IsFreeList end g.edges (nexts_of Outgoing edges) edge_head edges_counted g.vacant_edges

-- the edge is taken out of its two lists, and all weights, endpoints and other links are unchanged
pub record IsUnlinked {N E Ix : Type 0} (nodes nodes' : List (Node N Ix)) (edges edges' : List (Edge E Ix)) (e : ℕ)
    : Type 0 where
  pub weights : map stored_weight nodes' ≡ map stored_weight nodes
  pub plains : map stored_edge edges' ≡ map stored_edge edges
  pub links : (dir : Direction) → Redirects dir nodes edges e (slice_index (nexts_of dir edges) e) nodes' edges'
