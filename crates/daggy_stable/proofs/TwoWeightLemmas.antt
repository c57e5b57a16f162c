-- Writing the weights in two slots at once.
use Rattle.std.proofs.Common.{◌≡◌, ◌≢◌, ℕ, zero, suc, ◌<◌, List, [], ◌∷◌, ◌++◌, map, take, drop, length, get_or, set}
use Rattle.std.proofs.Common.{slice_get, Option, Some, None, IsSome, refl, sym, ap, subst, ◌∙◌, arith}
use Rattle.std.proofs.lemmas.Option.{same_Some, none-some}
use Rattle.std.specs.Borrow.{MutBor}
use Rattle.std.specs.Fn.{Once}
use Rattle.std.specs.Option.{option_map}
use Rattle.daggy_base.specs.Graph.{Graph, slot, node_weight, edge_at}
use Rattle.daggy_base.specs.State.{State}
use Rattle.daggy_base.specs.Weights.{edge_weight, with_node_weight, with_edge_weight, edge_with_weight}
use Rattle.daggy_cells.specs.declared.cell.Node.{Node}
use Rattle.daggy_cells.specs.declared.cell.Edge.{Edge}
use Rattle.daggy_base.specs.Calls.{CalledAtTwo}
use Rattle.daggy_cells.specs.Cells.{node_of_weight, edge_of_weight}
use Rattle.daggy_cells.proofs.Weights.{changed_at}
use Rattle.daggy_cells.proofs.CellLemmas.{changed_is_set, item_at, called_at, called_through, twice_changed}
use Rattle.daggy_base.proofs.MappedSlots.{slot_read}
use Rattle.daggy_stable.proofs.SlotWeights.{node_weight_in, edge_weight_in, with_node_weights, with_edge_weights}
use Rattle.daggy_stable.specs.Stored.{weight_of, plain_edge, stored_graph, Stores}
use Rattle.daggy_stable.proofs.Changes.{node_inside}
use Rattle.daggy_stable.proofs.StoredRemoval.{weight_plain}
use Rattle.daggy_stable.proofs.Stores.{some_is, edge_within}
use Rattle.daggy_stable.proofs.StoredWeights.{node_weighed, edge_weighed}

pub slot_got : {A B : Type 0} (f : A → Option B) (xs : List A) (i : ℕ) (x : A)
    → slice_get xs i ≡ Some x → slot (map f xs) i ≡ f x
slot_got f [] i x at = absurd (none-some x at)
slot_got f (y ∷ ys) zero x at = ap f (same_Some y x at)
slot_got f (y ∷ ys) (suc i) x at = slot_got f ys i x at

pub edge_weight_got : {E Ix : Type 0} (edges : List (Edge (Option E) Ix)) (e : ℕ) (x : Edge (Option E) Ix)
    → slice_get edges e ≡ Some x → edge_weight_in edges e ≡ x.weight
edge_weight_got edges e x at = ap (option_map (λ z. z.weight)) (slot_got plain_edge edges e x at) ∙ weight_plain x

pub edge_weight_read : {E Ix : Type 0} (edges : List (Edge (Option E) Ix)) (e : ℕ) (x : Edge (Option E) Ix)
    → e < length edges → x ≡ get_or edges e x → edge_weight_in edges e ≡ x.weight
edge_weight_read edges e x within is =
    ap (option_map (λ z. z.weight)) (slot_read plain_edge edges e x within is) ∙ weight_plain x

-- A call at what two slots hold, which leaves all but the weights as it was. A cell c shows weight c, and put o c is c
-- with o in place of its weight; read says what is shown at a place of a list.
module _ {C W F R : Type 0} (weight : C → Option W) (put : Option W → C → C) (read : List C → ℕ → Option W)
    (got : (xs : List C) (i : ℕ) (x : C) → slice_get xs i ≡ Some x → read xs i ≡ weight x)
    (g : Once F (MutBor W × (MutBor W × Unit {0})) (R × (MutBor W × (MutBor W × Unit {0})))) (f : F) where
  pub slots_called : {old new : List C} {a b : ℕ} {x y x' y' : C} {r : R}
      → a ≢ b → slice_get old a ≡ Some x → slice_get old b ≡ Some y → new ≡ set (set old a x') b y'
      → CalledAtTwo g f (weight x) (weight y) {S = Option W × Option W} r (λ v w. (Some v, Some w))
      (weight x', weight y')
      → x' ≡ put (weight x') x → y' ≡ put (weight y') y
      → CalledAtTwo g f (read old a) (read old b) r
      (λ v w. changed_at (put (Some w)) (changed_at (put (Some v)) old a) b) new
  slots_called {old} {new} {a} {b} {x} {y} {x'} {y'} other x_is y_is new_is call x'_is y'_is =
      called_through weight (λ v z. put (Some v) z) g f old other x_is y_is new_is (got old a x x_is) (got old b y y_is)
      (called_at call.first call.second call.first_left call.second_left call.shows.0 call.shows.1 call.called
      (ap (λ z. (z, y')) x'_is ∙ ap (λ z. (put (weight x') x, z)) y'_is
      ∙ ap (λ z. (put z.0 x, put z.1 y)) call.leaves))

pub still_some : {A B : Type 0} (f : A → B) (o : Option A) → IsSome o → IsSome (option_map f o)
still_some f None has = has
still_some f (Some x) has = refl

still_there : {A : Type 0} (xs : List (Option A)) (a b : ℕ) (o : Option A)
    → IsSome o → IsSome (slot xs b) → IsSome (slot (set xs a o) b)
still_there [] a b o some there = there
still_there (x ∷ xs) zero zero o some there = some
still_there (x ∷ xs) zero (suc b) o some there = there
still_there (x ∷ xs) (suc a) zero o some there = there
still_there (x ∷ xs) (suc a) (suc b) o some there = still_there xs a b o some there

module _ {N E Ix : Type 0} {end : ℕ} {nodes : List (Node (Option N) Ix)} {edges : List (Edge (Option E) Ix)}
    {node_head edge_head nodes_counted edges_counted : ℕ} {g : Graph N E}
    (s : Stores end nodes edges node_head edge_head nodes_counted edges_counted g) where
  node_changed : (n : ℕ) (w : N) → IsSome (slot g.nodes n)
      → Stores end (changed_at (node_of_weight (Some w)) nodes n) edges node_head edge_head nodes_counted edges_counted
      (with_node_weight g n w)
  node_changed n w has =
      let x = item_at nodes n (node_inside s n has) in
      rw (changed_is_set (node_of_weight (Some w)) nodes n x.0 x.1) (node_weighed s n w x.0 has x.1)

  edge_changed : (e : ℕ) (w : E) → IsSome (edge_at g e)
      → Stores end nodes (changed_at (edge_of_weight (Some w)) edges e) node_head edge_head nodes_counted edges_counted
      (with_edge_weight g e w)
  edge_changed e w has =
      let found = some_is _ has in
      let x = item_at edges e (edge_within s e found.0 found.1) in
      rw (changed_is_set (edge_of_weight (Some w)) edges e x.0 x.1) (edge_weighed s e w x.0 has x.1)

module _ {N E Ix : Type 0} {end : ℕ} {nodes : List (Node (Option N) Ix)} {edges : List (Edge (Option E) Ix)}
    {node_head edge_head nodes_counted edges_counted : ℕ} {g : Graph N E}
    (s : Stores end nodes edges node_head edge_head nodes_counted edges_counted g) (a b : ℕ) {i j : ℕ} (i_is : i ≡ a)
    (j_is : j ≡ b) where
  -- two weights of nodes, in the words of the code
  pub nodes_updated : {n : ℕ} {lent new : List (Node (Option N) Ix)} (v w : N) → IsSome (slot g.nodes a)
      → IsSome (slot g.nodes b) → n ≡ length nodes → lent ≡ nodes → new ≡ with_node_weights lent i j v w
      → Stores end (take n (new ++ drop (length new) nodes)) edges node_head edge_head nodes_counted edges_counted
      (with_node_weight (with_node_weight g a v) b w)
  nodes_updated v w first second n_is lent_is new_is =
      rw (twice_changed (node_of_weight (Some v)) (node_of_weight (Some w)) i_is j_is n_is lent_is new_is)
      (node_changed (node_changed s a v first) b w (still_there g.nodes a b (Some v) refl second))

  -- two of edges
  pub edges_updated : {n : ℕ} {lent new : List (Edge (Option E) Ix)} (v w : E) → IsSome (edge_at g a)
      → IsSome (edge_at g b) → n ≡ length edges → lent ≡ edges → new ≡ with_edge_weights lent i j v w
      → Stores end nodes (take n (new ++ drop (length new) edges)) node_head edge_head nodes_counted edges_counted
      (with_edge_weight (with_edge_weight g a v) b w)
  edges_updated v w first second n_is lent_is new_is =
      rw (twice_changed (edge_of_weight (Some v)) (edge_of_weight (Some w)) i_is j_is n_is lent_is new_is)
      (edge_changed (edge_changed s a v first) b w
      (still_there g.edges a b (option_map (edge_with_weight v) (edge_at g a))
      (still_some (edge_with_weight v) (edge_at g a) first) second))

  -- one of a node and one of an edge
  pub both_updated : {x : Node (Option N) Ix} {y : Edge (Option E) Ix} {v' : Option N} {w' : Option E} {v : N} {w : E}
      → IsSome (slot g.nodes a) → IsSome (edge_at g b) → x ≡ get_or nodes i x → y ≡ get_or edges j y → v' ≡ Some v
      → w' ≡ Some w
      → Stores end (set nodes i (node_of_weight v' x)) (set edges j (edge_of_weight w' y)) node_head edge_head
      nodes_counted edges_counted (with_edge_weight (with_node_weight g a v) b w)
  both_updated {x} {y} first second x_is y_is v_is w_is =
      rw (i_is, j_is, v_is, w_is)
      (edge_weighed (node_weighed s a _ x first (rw i_is at x_is)) b _ y second (rw j_is at y_is))

-- what is seen of a state, where it is stored
module _ {N E Ix : Type 0} {end : ℕ} {nodes : List (Node (Option N) Ix)} {edges : List (Edge (Option E) Ix)}
    {node_head edge_head nodes_counted edges_counted : ℕ} (stored : Stores end nodes edges node_head edge_head
    nodes_counted edges_counted (stored_graph end nodes edges node_head edge_head)) {k : ℕ} {s : State N E}
    (view : record { graph = stored_graph end nodes edges node_head edge_head; looks = k } ≡ s) {n i : ℕ}
    (i_is : i ≡ n) where
  pub node_stands : IsSome (node_weight s.graph n) → i < length nodes
  node_stands has =
      omega (arith, node_inside stored n (subst (λ z. IsSome (node_weight z.graph n)) (sym view) has), i_is)

  pub edge_stands : IsSome (edge_at s.graph n) → i < length edges
  edge_stands has =
      let found =
      some_is (slot (map plain_edge edges) n) (subst (λ z. IsSome (edge_at z.graph n)) (sym view) has) in
      omega (arith, edge_within stored n found.0 found.1, i_is)

  pub node_seen : {lent : List (Node (Option N) Ix)} → lent ≡ nodes → node_weight s.graph n ≡ node_weight_in lent i
  node_seen lent_is =
      ap (λ z. node_weight z.graph n) (sym view) ∙ ap (node_weight_in nodes) (sym i_is)
      ∙ ap (λ l. node_weight_in l i) (sym lent_is)

  pub edge_seen : {lent : List (Edge (Option E) Ix)} → lent ≡ edges → edge_weight s.graph n ≡ edge_weight_in lent i
  edge_seen lent_is =
      ap (λ z. edge_weight z.graph n) (sym view) ∙ ap (edge_weight_in edges) (sym i_is)
      ∙ ap (λ l. edge_weight_in l i) (sym lent_is)

  pub node_cell : {x : Node (Option N) Ix}
      → IsSome (node_weight s.graph n) → x ≡ get_or nodes i x → node_weight s.graph n ≡ x.weight
  node_cell {x} has is = node_seen refl ∙ slot_read weight_of nodes i x (node_stands has) is

  pub edge_cell : {x : Edge (Option E) Ix}
      → IsSome (edge_at s.graph n) → x ≡ get_or edges i x → edge_weight s.graph n ≡ x.weight
  edge_cell {x} has is = edge_seen refl ∙ edge_weight_read edges i x (edge_stands has) is
