-- The fields of stored nodes and edges, and of lists of them.
use Rattle.std.specs.Prelude.{◌≡◌, ◌==◌, ℕ, ◌<◌, ◌≤◌, Bool, Option, Some, List, length, map, slice_index, slice_set}
use Rattle.std.specs.Prelude.{Contains}
use Rattle.daggy_base.specs.Graph.{Graph, Edge as PlainEdge}
use Rattle.daggy_base.specs.Removal.{renamed}
use Rattle.daggy_cells.specs.Raw.{raw_first, raw_next}
use Rattle.daggy_base.specs.Cursor.{first_of}
use Rattle.daggy_cells.specs.Links.{follow, linked_lists, IsLinkedList, Redirected, Relinked}
use Rattle.daggy_cells.specs.declared.cell.Node.{Node}
use Rattle.daggy_cells.specs.declared.cell.Edge.{Edge}
use Rattle.daggy_base.specs.declared.index.Direction.{Direction}
use Rattle.daggy_base.specs.declared.index.Direction.TheVariants.{Outgoing, Incoming}

-- the other direction
abbrev pub other : Direction → Direction
other Outgoing = Incoming
other Incoming = Outgoing

-- the weight of a compact node, whose slot is never vacant
abbrev pub weight_of : {N Ix : Type 0} → Node N Ix → Option N
weight_of x = Some x.weight

-- a stored edge without its links
abbrev pub plain : {E Ix : Type 0} → Edge E Ix → PlainEdge E
plain x = record { parent = x.parent; child = x.child; weight = x.weight }

-- the edge in a compact slot, which is never vacant
abbrev pub plain_edge : {E Ix : Type 0} → Edge E Ix → Option (PlainEdge E)
plain_edge x = Some (plain x)

-- the node with the weight v, and the same links
abbrev pub node_with : {N V Ix : Type 0} → Node N Ix → V → Node V Ix
node_with x v = record { weight = v; first_out = x.first_out; first_in = x.first_in }

-- the edge with the weight v, and the same endpoints and links
abbrev pub edge_with : {E V Ix : Type 0} → Edge E Ix → V → Edge V Ix
edge_with x v = record { weight = v; parent = x.parent; child = x.child; next_out = x.next_out; next_in = x.next_in }

-- the node with e as the first edge of its list in that direction
abbrev pub with_first : {N Ix : Type 0} → Direction → Node N Ix → ℕ → Node N Ix
with_first Outgoing x e = record x { first_out = e }
with_first Incoming x e = record x { first_in = e }

-- the edge with e after it in its list in that direction
abbrev pub with_next : {E Ix : Type 0} → Direction → Edge E Ix → ℕ → Edge E Ix
with_next Outgoing x e = record x { next_out = e }
with_next Incoming x e = record x { next_in = e }

-- the endpoint whose list in that direction has the edge
abbrev pub end_at : {E Ix : Type 0} → Direction → Edge E Ix → ℕ
end_at Outgoing x = x.parent
end_at Incoming x = x.child

-- the edge with n as that endpoint
abbrev pub with_end : {E Ix : Type 0} → Direction → Edge E Ix → ℕ → Edge E Ix
with_end Outgoing x n = record x { parent = n }
with_end Incoming x n = record x { child = n }

-- the edge with that endpoint renamed
abbrev pub with_end_renamed : {E Ix : Type 0} → Direction → (from to : ℕ) → Edge E Ix → Edge E Ix
with_end_renamed dir from to x = with_end dir x (renamed from to (end_at dir x))

-- the node with empty lists
abbrev pub with_lists_emptied : {N Ix : Type 0} → (end : ℕ) → Node N Ix → Node N Ix
with_lists_emptied end x = record x { first_out = end; first_in = end }

-- the lists in that direction, one for each node
abbrev pub lists_at : {N E : Type 0} → Direction → Graph N E → List (List ℕ)
lists_at Outgoing g = g.out_lists
lists_at Incoming g = g.in_lists

-- the first edge of each node's list in that direction
abbrev pub firsts_of : {N Ix : Type 0} → Direction → List (Node N Ix) → List ℕ
firsts_of dir nodes = map (raw_first dir) nodes

-- for each edge, the edge after it in its list in that direction
abbrev pub nexts_of : {E Ix : Type 0} → Direction → List (Edge E Ix) → List ℕ
nexts_of dir edges = map (raw_next dir) edges

-- for each edge, the endpoint whose list in that direction has it
abbrev pub ends_of : {E Ix : Type 0} → Direction → List (Edge E Ix) → List ℕ
ends_of dir edges = map (end_at dir) edges

-- whether the e-th edge enters the node n
abbrev pub enters : {E Ix : Type 0} → List (Edge E Ix) → (n e : ℕ) → Bool
enters edges n e = slice_index (ends_of Incoming edges) e == n

-- the list that begins with this edge
abbrev pub list_from : {E Ix : Type 0} → Direction → List (Edge E Ix) → ℕ → List ℕ
list_from dir edges first = follow (nexts_of dir edges) (length (nexts_of dir edges)) first

-- the lists of all nodes, found by following the links
abbrev pub lists_from : {N E Ix : Type 0} → Direction → List (Node N Ix) → List (Edge E Ix) → List (List ℕ)
lists_from dir nodes edges = linked_lists (firsts_of dir nodes) (nexts_of dir edges)

-- only the links of one direction differ
pub record KeepsNodes {N Ix : Type 0} (dir : Direction) (old new : List (Node N Ix)) : Type 0 where
  pub weights : map weight_of new ≡ map weight_of old
  pub firsts : firsts_of (other dir) new ≡ firsts_of (other dir) old

-- only the links of one direction differ
pub record KeepsEdges {E Ix : Type 0} (dir : Direction) (old new : List (Edge E Ix)) : Type 0 where
  pub edges : map plain_edge new ≡ map plain_edge old
  pub ends : (d : Direction) → ends_of d new ≡ ends_of d old
  pub nexts : nexts_of (other dir) new ≡ nexts_of (other dir) old

-- the precondition of `redirect`
pub record IsReady {N E Ix : Type 0} (end : ℕ) (dir : Direction) (nodes : List (Node N Ix)) (edges : List (Edge E Ix))
    (old : ℕ) : Type 0 where
  pub edge : old < length edges
  pub node : slice_index (ends_of dir edges) old < length nodes
  pub linked : let first = slice_index (firsts_of dir nodes) (slice_index (ends_of dir edges) old) in
      IsLinkedList end (nexts_of dir edges) first (list_from dir edges first)
  pub listed : let first = slice_index (firsts_of dir nodes) (slice_index (ends_of dir edges) old) in
      Contains (list_from dir edges first) old
  pub few : length edges ≤ end

-- the list in that direction that has the edge e is that of `node`, and begins with `first`
pub record IsHead {N E Ix : Type 0} (dir : Direction) (nodes : List (Node N Ix)) (edges : List (Edge E Ix))
    (e node first : ℕ) : Type 0 where
  pub node_is : node ≡ slice_index (ends_of dir edges) e
  pub first_is : first ≡ slice_index (firsts_of dir nodes) (slice_index (ends_of dir edges) e)

-- the link to old is replaced by a link to new
abbrev pub Redirects : {N E Ix : Type 0}
    → Direction → List (Node N Ix) → List (Edge E Ix) → (old new : ℕ) → List (Node N Ix) → List (Edge E Ix) → Type 0
Redirects dir nodes edges old new nodes' edges' =
    let n = slice_index (ends_of dir edges) old in
    Redirected (list_from dir edges (slice_index (firsts_of dir nodes) n)) n old new (firsts_of dir nodes)
    (nexts_of dir edges) (firsts_of dir nodes') (nexts_of dir edges')

-- the postcondition of `redirect`: the link to old is replaced by a link to new, and nothing else changes
pub record IsRedirected {N E Ix : Type 0} (dir : Direction) (nodes : List (Node N Ix)) (edges : List (Edge E Ix))
    (old new : ℕ) (nodes' : List (Node N Ix)) (edges' : List (Edge E Ix)) : Type 0 where
  pub links : Redirects dir nodes edges old new nodes' edges'
  pub keeps : KeepsNodes dir nodes nodes'
  pub keeps_edges : KeepsEdges dir edges edges'

-- e is now the first edge in the out list of a and in the in list of b, and nothing else of the nodes changed
pub record AreLedTo {N Ix : Type 0} (nodes nodes' : List (Node N Ix)) (a b e : ℕ) : Type 0 where
  pub weights : map weight_of nodes' ≡ map weight_of nodes
  pub outs : firsts_of Outgoing nodes' ≡ slice_set (firsts_of Outgoing nodes) a e
  pub ins : firsts_of Incoming nodes' ≡ slice_set (firsts_of Incoming nodes) b e

-- the stored edge from a to b that is put first in their lists
abbrev pub edge_put_first : {N E Ix : Type 0} → List (Node N Ix) → (a b : ℕ) → E → Edge E Ix
edge_put_first nodes a b w = record {
  weight = w;
  parent = a;
  child = b;
  next_out = slice_index (firsts_of Outgoing nodes) a;
  next_in = slice_index (firsts_of Incoming nodes) b;
}

-- the postcondition of `relink`: the list is linked as that of n
pub record Relinks {N E Ix : Type 0} (end : ℕ) (dir : Direction) (nodes : List (Node N Ix)) (edges : List (Edge E Ix))
    (n : ℕ) (list : List ℕ) (nodes' : List (Node N Ix)) (edges' : List (Edge E Ix)) : Type 0 where
  pub first : firsts_of dir nodes' ≡ slice_set (firsts_of dir nodes) n (first_of end list)
  pub nexts : Relinked end list (nexts_of dir edges) (nexts_of dir edges')

-- of a node's two lists, the one in that direction
abbrev pub order_at : Direction → List ℕ × List ℕ → List ℕ
order_at Outgoing p = p.0
order_at Incoming p = p.1
