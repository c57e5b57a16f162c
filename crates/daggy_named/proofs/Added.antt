-- A key that is entered, last in the entries, for the node in the slot that is used next.
use Rattle.std.proofs.Common.{◌≡◌, ℕ, zero, suc, ◌<◌, ◌≤◌, Bool, List, [], ◌∷◌, ◌++◌, length, set, inl, inr}
use Rattle.std.proofs.Common.{Option, Some, None, is_some, slice_get, option_and_then, refl, sym, ap, subst, ◌∙◌, arith}
use Rattle.std.proofs.lemmas.Bool.{cases_lt}
use Rattle.std.proofs.lemmas.List.{length_push}
use Rattle.std.proofs.lemmas.Option.{slice_get_within}
use Rattle.std.specs.List.{IsDistinct}
use Rattle.std.specs.Map.{keys_of}
use Rattle.std.specs.Option.{option_map}
use Rattle.daggy_base.specs.Graph.{slot}
use Rattle.daggy_base.specs.Adding.{with_slot_filled, next_slot}
use Rattle.daggy_base.proofs.Lists.{slice_get-push_old, slice_get-push_new}
use Rattle.daggy_base.proofs.Slots.{IsFree, slot_taken, slot_taken_kept, slot_taken_new}
use Rattle.daggy_named.specs.Places.{IsKept, key_in, keys_at}
use Rattle.daggy_named.proofs.Entries.{same_node}
use Rattle.daggy_named.proofs.Slots.{free_too, next_too, same_length, map-with_slot_filled}

-- one more entry does not change the keys at the places of the others
keys_at_push : {K I : Type 0} (entries : List (K × I)) (e : K × I) (places : List (Option ℕ))
    → ((n p : ℕ) → slot places n ≡ Some p → p < length entries)
    → keys_at (entries ++ e ∷ []) places ≡ keys_at entries places
keys_at_push entries e [] low = refl
keys_at_push entries e (None ∷ xs) low = ap (λ l. None ∷ l) (keys_at_push entries e xs (λ n. low (suc n)))
keys_at_push entries e (Some p ∷ xs) low =
    let head : key_in (entries ++ e ∷ []) p ≡ key_in entries p =
    ap (option_map (λ e. e.0)) (slice_get-push_old entries e p (low zero p refl)) in
    λ j. head j ∷ keys_at_push entries e xs (λ n. low (suc n)) j

module _ {K I N : Type 0} {eq : K → K → Bool} {number : I → ℕ} {nodes : List (Option N)} {entries : List (K × I)}
    {places : List (Option ℕ)} (kept : IsKept eq number nodes entries places) (vacant : List ℕ)
    (free : IsFree nodes vacant)
    (k : K) (i : I) (at : number i ≡ next_slot nodes vacant) where
  within : (n p : ℕ) → slot places n ≡ Some p → p < length entries
  within n p is = let e = kept.forth n p is in slice_get_within entries p (e.0, e.1) e.2

  free_place : IsFree places vacant
  free_place = free_too places nodes kept.slots vacant free

  at_place : number i ≡ next_slot places vacant
  at_place = at ∙ sym (next_too places nodes (same_length places nodes kept.slots) vacant)

  pub keys_added : keys_at (entries ++ (k, i) ∷ []) (with_slot_filled places vacant (Some (length entries)))
      ≡ with_slot_filled (keys_at entries places) vacant (Some k)
  keys_added =
      let new : List (K × I) = entries ++ (k, i) ∷ [] in
      let key : key_in new (length entries) ≡ Some k = ap (option_map (λ e. e.0)) (slice_get-push_new entries (k, i)) in
      map-with_slot_filled (option_and_then (key_in new)) places vacant (Some (length entries))
      ∙ (λ j. with_slot_filled (keys_at_push entries (k, i) places within j) vacant (key j))

  pub kept_added : (w : N) → IsDistinct eq (keys_of (entries ++ (k, i) ∷ []))
      → IsKept eq number (with_slot_filled nodes vacant (Some w)) (entries ++ (k, i) ∷ [])
      (with_slot_filled places vacant (Some (length entries)))
  kept_added w once =
      let new : List (K × I) = entries ++ (k, i) ∷ [] in
      record {
        slots =
            map-with_slot_filled is_some places vacant (Some (length entries))
            ∙ (λ j. with_slot_filled (kept.slots j) vacant (is_some (Some w)))
            ∙ sym (map-with_slot_filled is_some nodes vacant (Some w));
        back = λ p k' i' is. elim (cases_lt p (length entries)) [
          | inl below ↦
              slot_taken_kept places vacant (length entries) (number i') p free_place
              (kept.back p k' i' (sym (slice_get-push_old entries (k, i) p below) ∙ is))
          | inr past ↦
              let last : p ≡ length entries =
              omega (arith, past, slice_get_within new p (k', i') is, length_push entries (k, i)) in
              let same : i' ≡ i =
              same_node k' k i' i is (ap (slice_get new) last ∙ slice_get-push_new entries (k, i)) in
              ap (slot (with_slot_filled places vacant (Some (length entries)))) (ap number same ∙ at_place)
              ∙ slot_taken_new places vacant (length entries) free_place ∙ ap Some (sym last)
        ];
        forth = λ n p is. elim (slot_taken places vacant (length entries) n p is) [
          | inl new_is ↦
              (k, i, ap (slice_get new) new_is.1 ∙ slice_get-push_new entries (k, i), at_place ∙ sym new_is.0)
          | inr old_is ↦
              let e = kept.forth n p old_is in
              (e.0, e.1, slice_get-push_old entries (k, i) p (within n p old_is) ∙ e.2, e.3)
        ];
        once = once;
      }

  -- the place is written, or pushed where it is the first past the end
  pub place_filled : (places' : List (Option ℕ)) (x : Option ℕ)
      → (number i < length places → places' ≡ set places (number i) x)
      → (number i ≡ length places → places' ≡ places ++ x ∷ []) → places' ≡ with_slot_filled places vacant x
  place_filled places' x written pushed = by vacant free_place at_place
    where
      by : (vacant : List ℕ) → IsFree places vacant → number i ≡ next_slot places vacant
          → places' ≡ with_slot_filled places vacant x
      by [] f a = pushed a
      by (v ∷ vs) f a =
          written (omega (arith, a, slice_get_within places v None f)) ∙ ap (λ n. set places n x) a

  pub place_low : number i ≤ length places
  place_low = by vacant free_place at_place
    where
      by : (vacant : List ℕ) → IsFree places vacant → number i ≡ next_slot places vacant → number i ≤ length places
      by [] f a = omega (arith, a)
      by (v ∷ vs) f a = omega (arith, a, slice_get_within places v None f)

  module _ {entries' : List (K × I)} {places' : List (Option ℕ)} (same : entries' ≡ entries)
      (same_places : places' ≡ places) where
    pub low_entered : number i ≤ length places'
    low_entered = omega (arith, place_low, ap length same_places)

    module _ (left : List (K × I)) (left_places : List (Option ℕ)) (entered : left ≡ entries' ++ (k, i) ∷ [])
        (filled : number i < length places' → left_places ≡ set places' (number i) (Some (length entries')))
        (pushed : number i ≡ length places' → left_places ≡ places' ++ Some (length entries') ∷ []) where
      entries_are : left ≡ entries ++ (k, i) ∷ []
      entries_are = entered ∙ ap (λ l. l ++ (k, i) ∷ []) same

      places_are : left_places ≡ with_slot_filled places vacant (Some (length entries))
      places_are =
          place_filled left_places (Some (length entries))
          (λ low. filled (omega (arith, low, ap length same_places))
          ∙ (λ j. set (same_places j) (number i) (Some (length (same j)))))
          (λ last. pushed (last ∙ sym (ap length same_places)) ∙ (λ j. same_places j ++ Some (length (same j)) ∷ []))

      -- the same, in the words of the code
      pub keys_entered : keys_at left left_places ≡ with_slot_filled (keys_at entries places) vacant (Some k)
      keys_entered = (λ j. keys_at (entries_are j) (places_are j)) ∙ keys_added

      pub kept_entered : (w : N) → IsDistinct eq (keys_of left)
          → IsKept eq number (with_slot_filled nodes vacant (Some w)) left left_places
      kept_entered w once =
          let kept' = kept_added w (subst (λ l. IsDistinct eq (keys_of l)) entries_are once) in
          let P : List (K × I) → List (Option ℕ) → Type 0 =
          λ l m. IsKept eq number (with_slot_filled nodes vacant (Some w)) l m in
          subst (λ l. P l left_places) (sym entries_are)
          (subst (λ m. P (entries ++ (k, i) ∷ []) m) (sym places_are) kept')
