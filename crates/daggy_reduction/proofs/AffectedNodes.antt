-- The nodes of a queue, sorted by their positions in an order, or read off it.
use Rattle.std.proofs.Common.{◌≡◌, ℕ, ◌<◌, ◌↔◌, inl, inr, Bool, true, false, List, [], ◌∷◌, ◌++◌, length, get_or, map}
use Rattle.std.proofs.Common.{refl, sym, ap, ◌∙◌, subst, arith, append_assoc, append-nil, Contains}
use Rattle.std.specs.List.{filter}
use Rattle.std.specs.List.Sorted.{IsPermutation, IsNonDecreasingBy}
use Rattle.std.proofs.lemmas.Bool.{cases_lt}
use Rattle.std.proofs.lemmas.List.Elements.{filter-append}
use Rattle.std.proofs.lemmas.List.Sorted.{Contains-permutation, IsPermutation-sym, IsPermutation-map, length_permutation}
use Rattle.std.proofs.lemmas.List.Sorted.{IsNonDecreasingBy-from_default}
use Rattle.daggy_base.specs.Graph.{Graph, HasNode}
use Rattle.daggy_base.specs.Ordered.{place}
use Rattle.daggy_base.specs.Reduction.{IsBelow}
use Rattle.daggy_base.specs.WellFormed.{AreDistinct, IsWellFormed}
use Rattle.daggy_base.proofs.Lists.{Unique, mem_at, mem_contains, contains_mem, unique_from_distinct, distinct_from_unique}
use Rattle.daggy_base.proofs.ListParts.{filter_yes, filter_no}
use Rattle.daggy_base.proofs.Sorted.{filter_mem, unique_filter}
use Rattle.daggy_order.proofs.MovedNodes.{unique_same}
use Rattle.daggy_order.proofs.OrderSteps.{place_read}
use Rattle.daggy_search.proofs.Entries.{map_sorted}
use Rattle.daggy_reduction.specs.Descendants.{IsSortedPart, IsChildOfAny, IsDescendantOfAny}
use Rattle.daggy_reduction.proofs.PlacedNodes.{filter_exact, filter_places}

module _ {X : Type 0} (number : X → ℕ) (order : List ℕ) {Part : ℕ → Type 0} (queue : List ℕ)
    (part : (n : ℕ) → Contains queue n ↔ Part n) (once : AreDistinct queue) (items sorted : List X)
    (are : map number items ≡ queue) (same : IsPermutation items sorted) where
  into : (n : ℕ) → Contains queue n → Contains (map number sorted) n
  into n c =
      let P : List ℕ → Type 0 = λ z. Contains z n in
      Contains-permutation (map number items) (map number sorted) n (IsPermutation-map number items sorted same)
      (subst P (sym are) c)

  out : (n : ℕ) → Contains (map number sorted) n → Contains queue n
  out n c =
      let P : List ℕ → Type 0 = λ z. Contains z n in
      subst P are (Contains-permutation (map number sorted) (map number items) n
      (IsPermutation-map number sorted items (IsPermutation-sym items sorted same)) c)

  pub part_sorted : IsNonDecreasingBy (λ x. place order (number x)) sorted
      → IsSortedPart order Part (map number sorted)
  part_sorted places =
      let P : List ℕ → Type 0 = λ z. Unique z in
      record {
        exact = λ n. (λ c. (part n).0 (out n c), λ p. into n ((part n).1 p));
        once =
            distinct_from_unique (map number sorted)
            (unique_same (map number items) (map number sorted) (subst P (sym are) (unique_from_distinct queue once))
            (omega (arith, length_permutation (map number items) (map number sorted) (IsPermutation-map number items sorted same)))
            (λ n m. contains_mem _ n (let Q : List ℕ → Type 0 = λ z. Contains z n in
            into n (subst Q are (mem_contains (map number items) n m)))));
        sorted = map_sorted number (place order) sorted places;
      }

-- what the children of some nodes reach are their descendants
pub below_children : {N E : Type 0} (g : Graph N E) (given children : List ℕ)
    → ((n : ℕ) → Contains children n ↔ IsChildOfAny g given n)
    → ((n : ℕ) → IsChildOfAny g given n → HasNode g n)
    → (n : ℕ) → IsBelow g children n ↔ IsDescendantOfAny g given n
below_children g given children exact exist n = (
  λ b. (let child = (exact b.0).0 b.1 in (child.0, child.1, (b.0, child.2, b.3))),
  λ d. (
      let child : IsChildOfAny g given d.2.0 = (d.0, d.1, d.2.1) in
      (d.2.0, (exact d.2.0).1 child, exist d.2.0 child, d.2.2)
      ),
)

pub child_exists : {N E : Type 0} (limit : ℕ) (g : Graph N E) → IsWellFormed limit g → (given : List ℕ) (n : ℕ)
    → IsChildOfAny g given n → HasNode g n
child_exists limit g w given n child = w.children child.2.0 _ child.2.2

pub part_same : {order nodes : List ℕ} {P Q : ℕ → Type 0} → ((n : ℕ) → P n ↔ Q n)
    → IsSortedPart order P nodes → IsSortedPart order Q nodes
part_same same s =
    record {
      exact = λ n. (λ c. (same n).0 ((s.exact n).0 c), λ q. (s.exact n).1 ((same n).1 q));
      once = s.once;
      sorted = s.sorted;
    }

-- the members of an order that pass a test stand in the order
pub filter_sorted : (p : ℕ → Bool) (order : List ℕ)
    → Unique order → IsNonDecreasingBy (place order) (filter p order)
filter_sorted p order once =
    let part = filter p order in
    let distinct : Unique part = unique_filter p order once in
    IsNonDecreasingBy-from_default (place order) part 0 (λ i j le low.
    let u = get_or part i 0 in
    let v = get_or part j 0 in
    let first : i < length part = omega (arith, le, low) in
    elim (cases_lt (place order v) (place order u)) [
      | inl before ↦
          (let less =
          filter_places p order v u (filter_mem p order v (mem_at part j 0 low)).1
          (filter_mem p order u (mem_at part i 0 first)).1 before in
          absurd (omega (arith, le, less, place_read part i distinct first, place_read part j distinct low)))
      | inr up ↦ up
    ])

pub part_read : {order : List ℕ} {Part : ℕ → Type 0} (p : ℕ → Bool) → AreDistinct order
    → ((n : ℕ) → (p n ≡ true) ↔ Part n) → ((n : ℕ) → Part n → Contains order n) → IsSortedPart order Part (filter p order)
part_read {order} p distinct part held =
    let once : Unique order = unique_from_distinct order distinct in
    record {
      exact = filter_exact p order part held;
      once = distinct_from_unique (filter p order) (unique_filter p order once);
      sorted = filter_sorted p order once;
    }

-- some nodes of an order are read, and those found that pass the test
pub record Reading (p : ℕ → Bool) (order rest found : List ℕ) : Type 0 where
  pub done : List ℕ
  pub whole : order ≡ done ++ rest
  pub read : found ≡ filter p done

pub reading_start : (p : ℕ → Bool) (order : List ℕ) → Reading p order order []
reading_start p order = record { done = []; whole = refl; read = refl }

pub reading_done : {p : ℕ → Bool} {order rest found : List ℕ}
    → Reading p order rest found → rest ≡ [] → found ≡ filter p order
reading_done {p} s none = s.read ∙ ap (filter p) (sym (s.whole ∙ ap (λ z. s.done ++ z) none ∙ append-nil s.done))

module _ {p : ℕ → Bool} {order rest found : List ℕ} (s : Reading p order rest found) {n : ℕ} {rest' : List ℕ}
    (next : rest ≡ n ∷ rest') where
  whole' : order ≡ (s.done ++ n ∷ []) ++ rest'
  whole' = s.whole ∙ ap (λ z. s.done ++ z) next ∙ sym (append_assoc s.done (n ∷ []) rest')

  pub reading_found : p n ≡ true → Reading p order rest' (found ++ n ∷ [])
  reading_found passes =
      record {
        done = s.done ++ n ∷ [];
        whole = whole';
        read =
            ap (λ z. z ++ n ∷ []) s.read
            ∙ sym (filter-append p s.done (n ∷ []) ∙ ap (λ z. filter p s.done ++ z) (filter_yes p n [] passes));
      }

  pub reading_passed : p n ≡ false → Reading p order rest' found
  reading_passed fails =
      record {
        done = s.done ++ n ∷ [];
        whole = whole';
        read =
            s.read
            ∙ sym (filter-append p s.done (n ∷ []) ∙ ap (λ z. filter p s.done ++ z) (filter_no p n [] fails)
            ∙ append-nil (filter p s.done));
      }
