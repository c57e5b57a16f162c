-- What the slices of stored nodes and edges show.
use Rattle.std.proofs.Common.{◌≡◌, ℕ, zero, suc, List, [], ◌∷◌, map, get_or, Some, slice_get, refl, sym, ap}
use Rattle.std.proofs.lemmas.List.{length-map}
use Rattle.std.proofs.lemmas.Option.{slice_get_within, same_Some, none-some}
use Rattle.daggy_base.specs.Graph.{slot}
use Rattle.daggy_cells.specs.declared.cell.Node.{Node}
use Rattle.daggy_cells.specs.declared.cell.Edge.{Edge}
use Rattle.daggy_cells.specs.Raw.{ShowsNodes, ShowsEdges}
use Rattle.daggy_cells.specs.Fields.{weight_of, plain, plain_edge}
use Rattle.daggy_graph.specs.Stored.{stored_graph, Stores}
use Rattle.daggy_graph.proofs.WellFormedLemmas.{first_listed, cursor_shown}

slot_shown : {A B : Type 0} (f : A → B) (xs : List A) (i : ℕ) (x : A)
    → slice_get xs i ≡ Some x → slot (map (λ x. Some (f x)) xs) i ≡ Some (f x)
slot_shown f [] i x p = absurd (none-some x p)
slot_shown f (y ∷ ys) zero x p = ap (λ z. Some (f z)) (same_Some y x p)
slot_shown f (y ∷ ys) (suc i) x p = slot_shown f ys i x p

read : {A : Type 0} (xs : List A) (i : ℕ) (x : A) → slice_get xs i ≡ Some x → x ≡ get_or xs i x
read [] i x p = refl
read (y ∷ ys) zero x p = sym (same_Some y x p)
read (y ∷ ys) (suc i) x p = read ys i x p

module _ {N E Ix : Type 0} (end : ℕ) (nodes : List (Node N Ix)) (edges : List (Edge E Ix))
    (s : Stores end nodes edges (stored_graph nodes edges)) where
  pub ShowsNodes-stored : ShowsNodes end (stored_graph nodes edges) nodes
  ShowsNodes-stored =
      record {
        count = sym (length-map nodes weight_of);
        weight = λ n x p. slot_shown (λ z. z.weight) nodes n x p;
        first = λ dir n x p. first_listed end nodes edges dir s n x (slice_get_within nodes n x p) (read nodes n x p);
      }

  pub ShowsEdges-stored : ShowsEdges end (stored_graph nodes edges) edges
  ShowsEdges-stored =
      record {
        count = sym (length-map edges plain_edge);
        edge = λ e x p. slot_shown plain edges e x p;
        next = λ dir e x p. cursor_shown end nodes edges dir s e x (slice_get_within edges e x p) (read edges e x p);
      }
