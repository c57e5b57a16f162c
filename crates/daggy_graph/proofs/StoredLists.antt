-- What is stored at an index, in terms of the graph.
use Rattle.std.proofs.Common.{◌≡◌, ℕ, ◌<◌, ◌≤◌, List, [], length, map, get_or, slice_get, Option, Some, None, unwrap_or}
use Rattle.std.proofs.Common.{refl, sym, ap, ◌∙◌, arith}
use Rattle.std.proofs.lemmas.Option.{slice_get_past, slice_get_read}
use Rattle.std.proofs.lemmas.List.{length-map}
use Rattle.std.specs.Option.{option_map}
use Rattle.daggy_base.specs.declared.index.Direction.{Direction}
use Rattle.daggy_base.specs.declared.index.Direction.TheVariants.{Outgoing, Incoming}
use Rattle.daggy_base.specs.Cursor.{first_of}
use Rattle.daggy_base.specs.Graph.{node_weight, edge_at, list_at}
use Rattle.daggy_base.specs.State.{State}
use Rattle.daggy_cells.specs.Raw.{raw_first}
use Rattle.daggy_cells.specs.Fields.{plain, weight_of}
use Rattle.daggy_graph.specs.Stored.{stored_graph, Stores}
use Rattle.daggy_cells.specs.declared.cell.Node.{Node}
use Rattle.daggy_cells.specs.declared.cell.Edge.{Edge}
use Rattle.daggy_graph.proofs.TwoWeightLemmas.{slots_read}
use Rattle.daggy_graph.proofs.RawLemmas.{ShowsNodes-stored}
use Rattle.daggy_graph.proofs.WellFormedLemmas.{IsWellFormed-stored}

-- what `get` gives is the item there, and nothing past the end
pub got : {A : Type 0} (xs : List A) (i : ℕ) (x : A) → i < length xs → x ≡ get_or xs i x → Some x ≡ slice_get xs i
got xs i x within is = sym (slice_get_read xs (length xs) i x refl within is)

pub got_none : {A : Type 0} (xs : List A) (i : ℕ) → length xs ≤ i → None ≡ slice_get xs i
got_none xs i past = sym (slice_get_past xs i past)

module _ {N E Ix : Type 0} (nodes : List (Node N Ix)) (edges : List (Edge E Ix)) (k : ℕ) (s : State N E)
    (view : record { graph = stored_graph nodes edges; looks = k } ≡ s) {i n : ℕ} (i_is : i ≡ n) where
  pub node_got : {lent : List (Node N Ix)} {o : Option (Node N Ix)}
      → lent ≡ nodes → o ≡ slice_get lent i → option_map (λ x. x.weight) o ≡ node_weight s.graph n
  node_got lent_is o_is =
      ap (option_map (λ x. x.weight)) (o_is ∙ ap (λ l. slice_get l i) lent_is ∙ ap (slice_get nodes) i_is)
      ∙ sym (slots_read (λ x. x.weight) nodes n) ∙ ap (λ z. node_weight z.graph n) view

  pub edge_got : {lent : List (Edge E Ix)} {o : Option (Edge E Ix)}
      → lent ≡ edges → o ≡ slice_get lent i → option_map plain o ≡ edge_at s.graph n
  edge_got lent_is o_is =
      ap (option_map plain) (o_is ∙ ap (λ l. slice_get l i) lent_is ∙ ap (slice_get edges) i_is)
      ∙ sym (slots_read plain edges n) ∙ ap (λ z. edge_at z.graph n) view

  module _ {end : ℕ} (stored : Stores end nodes edges (stored_graph nodes edges)) (dir : Direction)
      {lent : List (Node N Ix)} (lent_is : lent ≡ nodes) where
    pub first_got : {x : Node N Ix} → Some x ≡ slice_get lent i → raw_first dir x ≡ first_of end (list_at dir s.graph n)
    first_got {x} x_is =
        (ShowsNodes-stored end nodes edges stored).first dir n x
        (sym (x_is ∙ ap (λ l. slice_get l i) lent_is ∙ ap (slice_get nodes) i_is))
        ∙ ap (λ z. first_of end (list_at dir z.graph n)) view

    pub no_first_got : length lent ≤ i → end ≡ first_of end (list_at dir s.graph n)
    no_first_got past =
        let w = IsWellFormed-stored end nodes edges (stored_graph nodes edges) stored in
        let beyond : length (map weight_of nodes) ≤ n =
        omega (arith, length-map nodes weight_of, ap length lent_is, i_is, past) in
        let empty : list_at dir (stored_graph nodes edges) n ≡ [] =
        elim dir as (λ d. list_at d (stored_graph nodes edges) n ≡ []) [
          | Outgoing ↦ ap (λ o. unwrap_or o []) (slice_get_past _ n (omega (arith, w.out_list_count, beyond)))
          | Incoming ↦ ap (λ o. unwrap_or o []) (slice_get_past _ n (omega (arith, w.in_list_count, beyond)))
        ] in
        sym (ap (first_of end) empty) ∙ ap (λ z. first_of end (list_at dir z.graph n)) view
