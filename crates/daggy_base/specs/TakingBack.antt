-- The graph after an edge or a node that was just added is taken back.
use Rattle.std.specs.Prelude.{◌≡◌, ℕ, Bool, true, false, None, Option, List, [], ◌∷◌, take, slice_set}
use Rattle.daggy_base.specs.Graph.{Graph}
use Rattle.daggy_base.specs.Adding.{with_node, with_edge, next_node, next_edge}
use Rattle.daggy_base.specs.Removal.{with_edge_unlinked}
use Rattle.daggy_base.specs.WellFormed.{IsWellFormed}

-- whether the slot that is used next is a new one: no slot is vacant
abbrev pub is_slot_made : List ℕ → Bool
is_slot_made [] = true
is_slot_made (v ∷ vs) = false

-- the slots without the one at e if it was new, or with it vacant otherwise
abbrev pub slots_taken_back : {A : Type 0} → Bool → List (Option A) → ℕ → List (Option A)
slots_taken_back true slots e = take e slots
slots_taken_back false slots e = slice_set slots e None

-- the vacant slots, with e in front unless its slot was new
abbrev pub vacant_taken_back : Bool → List ℕ → ℕ → List ℕ
vacant_taken_back true vacant e = vacant
vacant_taken_back false vacant e = e ∷ vacant

-- without the most recently added edge
abbrev pub with_edge_taken_back : {N E : Type 0} → (made : Bool) → Graph N E → ℕ → Graph N E
with_edge_taken_back made g e =
    let u = with_edge_unlinked g e in
    record {
      nodes = g.nodes;
      edges = slots_taken_back made g.edges e;
      out_lists = u.out_lists;
      in_lists = u.in_lists;
      vacant_nodes = g.vacant_nodes;
      vacant_edges = vacant_taken_back made g.vacant_edges e;
    }

-- the lists without the one at n if its slot was new
abbrev pub lists_taken_back : Bool → List (List ℕ) → ℕ → List (List ℕ)
lists_taken_back true rows n = take n rows
lists_taken_back false rows n = rows

-- without the most recently added node, which has no edges
abbrev pub with_node_taken_back : {N E : Type 0} → (made : Bool) → Graph N E → ℕ → Graph N E
with_node_taken_back made g n =
    record {
      nodes = slots_taken_back made g.nodes n;
      edges = g.edges;
      out_lists = lists_taken_back made g.out_lists n;
      in_lists = lists_taken_back made g.in_lists n;
      vacant_nodes = vacant_taken_back made g.vacant_nodes n;
      vacant_edges = g.vacant_edges;
    }

-- new is the graph that gave old when an edge was added at e, in a new slot or in a vacant one
abbrev pub UndoesEdge : {N E : Type 0}
    → (limit : ℕ) → (made : Bool) → (old : Graph N E) → ℕ → (new : Graph N E) → Type 0
UndoesEdge {N} {E} limit made old e new =
    (before : Graph N E) (u v : ℕ) (w : E) → IsWellFormed limit before → old ≡ with_edge before u v w
    → e ≡ next_edge before → made ≡ is_slot_made before.vacant_edges → new ≡ before

-- new is the graph that gave old when a node was added at n, in a new slot or in a vacant one
abbrev pub UndoesNode : {N E : Type 0}
    → (limit : ℕ) → (made : Bool) → (old : Graph N E) → ℕ → (new : Graph N E) → Type 0
UndoesNode {N} {E} limit made old n new =
    (before : Graph N E) (w : N) → IsWellFormed limit before → old ≡ with_node before w
    → n ≡ next_node before → made ≡ is_slot_made before.vacant_nodes → new ≡ before
