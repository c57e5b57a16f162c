-- One more than the greatest endpoint, edge by edge.
use Rattle.std.proofs.Common.{◌≡◌, ℕ, zero, suc, ◌+◌, ◌<◌, ◌≤◌, subst, max, List, [], ◌∷◌, ◌++◌, length, take, map, slice_index_or, Option, Some, None, String, refl, sym, ap, ◌∙◌, arith}
use Rattle.std.proofs.lemmas.Grind.{flat_map-append}
use Rattle.std.proofs.lemmas.List.{append-nil, map-append, take_more}
use Rattle.std.specs.Option.{option_map, option_to_list}
use Rattle.std.specs.Prelude.{IfSome}
use Rattle.daggy_base.specs.FromSlots.{edge_of, edges_by}
use Rattle.daggy_base.specs.Graph.{Edge, slot}
use Rattle.daggy_tables.specs.Reading.{occupied, with_text, EndsBelow}
use Rattle.daggy_tables.specs.Rows.{Field}
use Rattle.daggy_tables.specs.Tables.{ends_bound, bound_after}

ends_snoc : (xs : List (Edge Field)) (x : Edge Field) → ends_bound (xs ++ x ∷ []) ≡ max (max (ends_bound xs) (x.parent + 1)) (x.child + 1)
ends_snoc [] x = omega arith
ends_snoc (y ∷ xs) x = let more = ends_snoc xs x in omega (arith, more)

module _ {I Z : Type 0} (number : I → ℕ) where
  -- the edges by the texts of their weights
  abbrev pub texts_of : List (Option (I × I × String Z)) → List (Edge Field)
  texts_of edges = map with_text (occupied (edges_by number edges))

  texts_snoc : (edges : List (Option (I × I × String Z))) (o : Option (I × I × String Z))
      → texts_of (edges ++ o ∷ []) ≡ texts_of edges ++ map with_text (option_to_list (option_map (edge_of number) o))
  texts_snoc edges o =
      ap (λ slots. map with_text (occupied slots)) (map-append (option_map (edge_of number)) edges (o ∷ []))
      ∙ ap (map with_text) (flat_map-append option_to_list (edges_by number edges) (option_map (edge_of number) o ∷ []))
      ∙ ap (λ l. map with_text (occupied (edges_by number edges) ++ l)) (append-nil (option_to_list (option_map (edge_of number) o)))
      ∙ map-append with_text (occupied (edges_by number edges)) (option_to_list (option_map (edge_of number) o))

  one_edge : (xs : List (Edge Field)) (o : Option (I × I × String Z))
      → bound_after (ends_bound xs) (option_map (edge_of number) o) ≡ ends_bound (xs ++ map with_text (option_to_list (option_map (edge_of number) o)))
  one_edge xs None = ap ends_bound (sym (append-nil xs))
  one_edge xs (Some x) = sym (ends_snoc xs (with_text (edge_of number x)))

  pub bound_more : (edges : List (Option (I × I × String Z))) (i : ℕ) (d : Option (I × I × String Z)) (bound next : ℕ) → i < length edges
      → bound ≡ ends_bound (texts_of (take i edges)) → next ≡ bound_after bound (option_map (edge_of number) (slice_index_or edges i d))
      → next ≡ ends_bound (texts_of (take (i + 1) edges))
  bound_more edges i d bound next within is step =
      step ∙ ap (λ b. bound_after b (option_map (edge_of number) (slice_index_or edges i d))) is
      ∙ one_edge (texts_of (take i edges)) (slice_index_or edges i d)
      ∙ ap ends_bound (sym (texts_snoc (take i edges) (slice_index_or edges i d)))
      ∙ ap (λ l. ends_bound (texts_of l)) (sym (take_more edges i d within))

module _ {I : Type 0} (number : I → ℕ) where
  item_slot : {E : Type 0} (edges : List (Option (I × I × E))) (i : ℕ) (x : I × I × E) → i < length edges
      → Some x ≡ slice_index_or edges i (Some x) → slot (edges_by number edges) i ≡ Some (edge_of number x)
  item_slot [] i x within is = absurd (omega (arith, within))
  item_slot (o ∷ edges) zero x within is = ap (option_map (edge_of number)) (sym is)
  item_slot (o ∷ edges) (suc i) x within is = item_slot edges i x (omega (arith, within)) is

  pub item_ends : {E : Type 0} (limit : ℕ) (edges : List (Option (I × I × E))) (i : ℕ) (o : Option (I × I × E))
      → EndsBelow limit (edges_by number edges) → i < length edges → o ≡ slice_index_or edges i o
      → IfSome o (λ x. (number x.0 < limit) × (number x.1 < limit))
  item_ends limit edges i None ends within is = tt
  item_ends limit edges i (Some x) ends within is = ends i (edge_of number x) (item_slot edges i x within is)

-- each endpoint is below the bound, which is no greater than any other
module _ {Z : Type 0} where
  pub below_bound : (slots : List (Option (Edge (String Z)))) → EndsBelow (ends_bound (map with_text (occupied slots))) slots
  below_bound [] e x at = cc at
  below_bound (None ∷ slots) zero x at = cc at
  below_bound (None ∷ slots) (suc e) x at = below_bound slots e x at
  below_bound (Some y ∷ slots) zero x at =
      let same : y ≡ x = cc at in
      let rest = ends_bound (map with_text (occupied slots)) in
      let P : Edge (String Z) → Type 0 = λ z. (z.parent < max (max (y.parent + 1) (y.child + 1)) rest) × (z.child < max (max (y.parent + 1) (y.child + 1)) rest) in
      subst P same (omega arith, omega arith)
  below_bound (Some y ∷ slots) (suc e) x at = let later = below_bound slots e x at in (omega (arith, later.0), omega (arith, later.1))

  pub bound_at_most : (limit : ℕ) (slots : List (Option (Edge (String Z)))) → EndsBelow limit slots
      → ends_bound (map with_text (occupied slots)) ≤ limit
  bound_at_most limit [] ends = omega arith
  bound_at_most limit (None ∷ slots) ends = bound_at_most limit slots (λ e x at. ends (suc e) x at)
  bound_at_most limit (Some y ∷ slots) ends =
      let here = ends zero y refl in
      let later = bound_at_most limit slots (λ e x at. ends (suc e) x at) in
      omega (arith, here.0, here.1, later)
