-- Noting an edge between two components.
use Rattle.std.proofs.Common.{◌≡◌, ◌≢◌, ℕ, zero, suc, ◌<◌, ◌≤◌, inl, inr, List, [], ◌∷◌, ◌++◌, length, set}
use Rattle.std.proofs.Common.{Option, Some, refl, sym, ap, ◌∙◌, arith}
use Rattle.std.specs.Option.{option_map}
use Rattle.std.proofs.lemmas.List.{length-map, length-set}
use Rattle.daggy_base.specs.Graph.{Edge, slot}
use Rattle.daggy_base.specs.FromSlots.{edge_of, edges_by}
use Rattle.daggy_components.specs.Noting.{IsLowered}

module _ {A : Type 0} where
  pub slot_set_same : (xs : List (Option A)) (i : ℕ) (x : A) → i < length xs → slot (set xs i (Some x)) i ≡ Some x
  slot_set_same [] i x low = absurd (omega arith)
  slot_set_same (y ∷ xs) zero x low = refl
  slot_set_same (y ∷ xs) (suc i) x low = slot_set_same xs i x (omega arith)

  pub slot_set_other : (xs : List (Option A)) (i j : ℕ) (x : Option A) → j ≢ i → slot (set xs i x) j ≡ slot xs j
  slot_set_other [] i j x other = refl
  slot_set_other (y ∷ xs) zero zero x other = absurd (other refl)
  slot_set_other (y ∷ xs) zero (suc j) x other = refl
  slot_set_other (y ∷ xs) (suc i) zero x other = refl
  slot_set_other (y ∷ xs) (suc i) (suc j) x other = slot_set_other xs i j x (λ same. other (ap suc same))

  pub slot_low : (xs : List (Option A)) (i : ℕ) (x : A) → slot xs i ≡ Some x → i < length xs
  slot_low [] i x is = absurd cc
  slot_low (y ∷ xs) zero x is = omega arith
  slot_low (y ∷ xs) (suc i) x is = let h = slot_low xs i x is in omega (arith, h)

module _ {I : Type 0} (number : I → ℕ) where
  pub slot_by : (items : List (Option (I × I × I))) (i : ℕ)
      → slot (edges_by number items) i ≡ option_map (edge_of number) (slot items i)
  slot_by [] i = refl
  slot_by (x ∷ items) zero = refl
  slot_by (x ∷ items) (suc i) = slot_by items i

  -- an edge that was noted stays
  pub stays_least : {slots : List (Option (Edge I))} {at j k : ℕ} (least e : I)
      → slot slots at ≡ Some (record { parent = j; child = k; weight = least }) → number least ≤ number e
      → IsLowered number slots slots at j k e
  stays_least {slots} {at} {j} {k} least e is low =
      record {
        was = (record { parent = j; child = k; weight = least }, is, refl, refl);
        weight = least;
        is = is;
        one_of = inl is;
        least = λ x at_x.
            let same : Some x ≡ Some (record { parent = j; child = k; weight = least }) = sym at_x ∙ is in
            let whole : x ≡ record { parent = j; child = k; weight = least } = cc in
            omega (arith, ap (λ (z : Edge I). number z.weight) whole);
        low = low;
        others = λ i other. refl;
        long = refl;
      }

  -- or the new one takes its place
  pub takes_place : (items : List (Option (I × I × I))) {at j k : ℕ} (a b least e : I)
      → slot (edges_by number items) at ≡ Some (record { parent = j; child = k; weight = least }) → number a ≡ j
      → number b ≡ k → number e < number least
      → IsLowered number (edges_by number items) (edges_by number (set items at (Some (a, b, e)))) at j k e
  takes_place items {at} {j} {k} a b least e old from to low =
      let within : at < length items =
      omega (arith, slot_low (edges_by number items) at _ old, length-map items (option_map (edge_of number))) in
      let new : slot (edges_by number (set items at (Some (a, b, e)))) at
      ≡ Some (record { parent = j; child = k; weight = e }) =
      slot_by (set items at (Some (a, b, e))) at
      ∙ (ap (option_map (edge_of number)) (slot_set_same items at (a, b, e) within)
      ∙ (ap (λ z. Some (record { parent = z; child = number b; weight = e })) from
      ∙ ap (λ z. Some (record { parent = j; child = z; weight = e })) to)) in
      record {
        was = (record { parent = j; child = k; weight = least }, old, refl, refl);
        weight = e;
        is = new;
        one_of = inr refl;
        least = λ x at_x.
            let same : Some x ≡ Some (record { parent = j; child = k; weight = least }) = sym at_x ∙ old in
            let whole : x ≡ record { parent = j; child = k; weight = least } = cc in
            omega (arith, ap (λ (z : Edge I). number z.weight) whole, low);
        low = omega arith;
        others = λ i other.
            slot_by (set items at (Some (a, b, e))) i
            ∙ (ap (option_map (edge_of number)) (slot_set_other items at i (Some (a, b, e)) other)
            ∙ sym (slot_by items i));
        long =
            length-map (set items at (Some (a, b, e))) (option_map (edge_of number))
            ∙ (length-set items at (Some (a, b, e)) ∙ sym (length-map items (option_map (edge_of number))));
      }

  -- one more slot
  pub push_by : (items : List (Option (I × I × I))) (a b e : I) {j k : ℕ} → number a ≡ j → number b ≡ k
      → edges_by number (items ++ Some (a, b, e) ∷ [])
      ≡ edges_by number items ++ Some (record { parent = j; child = k; weight = e }) ∷ []
  push_by [] a b e {j} {k} from to =
      ap (λ z. Some (record { parent = z; child = number b; weight = e }) ∷ []) from
      ∙ ap (λ z. Some (record { parent = j; child = z; weight = e }) ∷ []) to
  push_by (x ∷ items) a b e from to = ap (λ z. option_map (edge_of number) x ∷ z) (push_by items a b e from to)
