-- Writing two weights at once.
use Rattle.std.proofs.Common.{◌≡◌, ℕ, zero, suc, ◌<◌, List, [], ◌∷◌, ◌++◌, map, take, drop, length, get_or, set}
use Rattle.std.proofs.Common.{slice_get, Option, Some, None, refl, sym, ap, ◌∙◌, arith}
use Rattle.std.proofs.lemmas.Option.{slice_get_read}
use Rattle.std.specs.Option.{option_map}
use Rattle.daggy_base.specs.Graph.{Graph, slot, node_weight}
use Rattle.daggy_base.specs.State.{State}
use Rattle.daggy_base.specs.Weights.{edge_weight, with_node_weight, with_edge_weight}
use Rattle.daggy_cells.specs.declared.cell.Node.{Node}
use Rattle.daggy_cells.specs.declared.cell.Edge.{Edge}
use Rattle.daggy_cells.specs.Fields.{plain}
use Rattle.daggy_graph.specs.Stored.{stored_graph, Stores}
use Rattle.daggy_cells.specs.Cells.{node_of_weight, edge_of_weight}
use Rattle.daggy_cells.proofs.Weights.{changed_at, node_weight_at, edge_weight_at, with_node_weights, with_edge_weights}
use Rattle.daggy_cells.proofs.CellLemmas.{changed_is_set, length-changed, item_at, twice_changed}
use Rattle.daggy_graph.proofs.StoredLemmas.{Stores-weight, Stores-edge_weight}

pub slots_read : {A B : Type 0} (f : A → B) (xs : List A) (i : ℕ)
    → slot (map (λ x. Some (f x)) xs) i ≡ option_map f (slice_get xs i)
slots_read f [] i = refl
slots_read f (x ∷ xs) zero = refl
slots_read f (x ∷ xs) (suc i) = slots_read f xs i

mapped_twice : {A B C : Type 0} (f : A → B) (h : B → C) (o : Option A)
    → option_map h (option_map f o) ≡ option_map (λ x. h (f x)) o
mapped_twice f h None = refl
mapped_twice f h (Some x) = refl

module _ {N E Ix : Type 0} (end : ℕ) (nodes : List (Node N Ix)) (edges : List (Edge E Ix)) (g : Graph N E)
    (s : Stores end nodes edges g) where
  node_stored : (a : ℕ) (v : N)
      → a < length nodes → Stores end (changed_at (node_of_weight v) nodes a) edges (with_node_weight g a v)
  node_stored a v within =
      let x = item_at nodes a within in
      rw (changed_is_set (node_of_weight v) nodes a x.0 x.1) (Stores-weight end nodes edges g s a v x.0 x.1)

  edge_stored : (a : ℕ) (v : E)
      → a < length edges → Stores end nodes (changed_at (edge_of_weight v) edges a) (with_edge_weight g a v)
  edge_stored a v within =
      let x = item_at edges a within in
      rw (changed_is_set (edge_of_weight v) edges a x.0 x.1) (Stores-edge_weight s a v within x.1)

module _ {N E Ix : Type 0} {end : ℕ} {nodes : List (Node N Ix)} {edges : List (Edge E Ix)} {g : Graph N E}
    (s : Stores end nodes edges g) {n a b i j : ℕ} (i_is : i ≡ a) (j_is : j ≡ b) where
  pub nodes_updated : {lent new : List (Node N Ix)} (v w : N)
      → a < length nodes → b < length nodes → n ≡ length nodes → lent ≡ nodes → new ≡ with_node_weights lent i j v w
      → Stores end (take n (new ++ drop (length new) nodes)) edges (with_node_weight (with_node_weight g a v) b w)
  nodes_updated v w a_in b_in n_is lent_is new_is =
      rw (twice_changed (node_of_weight v) (node_of_weight w) i_is j_is n_is lent_is new_is) (node_stored end _ edges
      (with_node_weight g a v) (node_stored end nodes edges g s a v a_in) b w
      (omega (arith, length-changed (node_of_weight v) nodes a, b_in)))

  pub edges_updated : {lent new : List (Edge E Ix)} (v w : E)
      → a < length edges → b < length edges → n ≡ length edges → lent ≡ edges → new ≡ with_edge_weights lent i j v w
      → Stores end nodes (take n (new ++ drop (length new) edges)) (with_edge_weight (with_edge_weight g a v) b w)
  edges_updated v w a_in b_in n_is lent_is new_is =
      rw (twice_changed (edge_of_weight v) (edge_of_weight w) i_is j_is n_is lent_is new_is) (edge_stored end nodes _
      (with_edge_weight g a v) (edge_stored end nodes edges g s a v a_in) b w
      (omega (arith, length-changed (edge_of_weight v) edges a, b_in)))

module _ {N E Ix : Type 0} {end : ℕ} {nodes : List (Node N Ix)} {edges : List (Edge E Ix)} {g : Graph N E}
    (s : Stores end nodes edges g) {n e i j : ℕ} (i_is : i ≡ n) (j_is : j ≡ e) where
  pub both_updated : {x : Node N Ix} {y : Edge E Ix} (v : N) (w : E)
      → e < length edges → x ≡ get_or nodes i x → y ≡ get_or edges j y
      → Stores end (set nodes i (node_of_weight v x)) (set edges j (edge_of_weight w y))
      (with_edge_weight (with_node_weight g n v) e w)
  both_updated {x} v w within x_is y_is =
      rw (← i_is, ← j_is) (Stores-edge_weight (Stores-weight end nodes edges g s i v x x_is) j w
      (omega (arith, within, j_is)) y_is)

module _ {N E Ix : Type 0} (nodes : List (Node N Ix)) (edges : List (Edge E Ix)) (k : ℕ) (s : State N E)
    (view : record { graph = stored_graph nodes edges; looks = k } ≡ s) (n i : ℕ) (i_is : i ≡ n) where
  pub node_shown : (lent : List (Node N Ix)) (w : N)
      → lent ≡ nodes → node_weight_at lent i ≡ Some w → node_weight s.graph n ≡ Some w
  node_shown lent w lent_is shown =
      ap (λ z. node_weight z.graph n) (sym view) ∙ slots_read (λ x. x.weight) nodes n
      ∙ ap (λ m. node_weight_at nodes m) (sym i_is) ∙ ap (λ l. node_weight_at l i) (sym lent_is) ∙ shown

  pub edge_shown : (lent : List (Edge E Ix)) (w : E)
      → lent ≡ edges → edge_weight_at lent i ≡ Some w → edge_weight s.graph n ≡ Some w
  edge_shown lent w lent_is shown =
      ap (λ z. edge_weight z.graph n) (sym view) ∙ ap (option_map (λ x. x.weight)) (slots_read plain edges n)
      ∙ mapped_twice plain (λ x. x.weight) (slice_get edges n)
      ∙ ap (λ m. edge_weight_at edges m) (sym i_is) ∙ ap (λ l. edge_weight_at l i) (sym lent_is) ∙ shown

  pub node_read : (x : Node N Ix) → n < length nodes → x ≡ get_or nodes i x → node_weight s.graph n ≡ Some x.weight
  node_read x within is =
      node_shown nodes x.weight refl
      (ap (option_map (λ z. z.weight)) (slice_get_read nodes (length nodes) i x refl (omega (arith, within, i_is)) is))

  pub edge_read : (x : Edge E Ix) → n < length edges → x ≡ get_or edges i x → edge_weight s.graph n ≡ Some x.weight
  edge_read x within is =
      edge_shown edges x.weight refl
      (ap (option_map (λ z. z.weight)) (slice_get_read edges (length edges) i x refl (omega (arith, within, i_is)) is))
