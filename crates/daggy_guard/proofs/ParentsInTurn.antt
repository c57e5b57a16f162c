-- The parents of some items, one after another: which of them stands last in an order, and whether all precede a node.
use Rattle.std.proofs.Common.{◌≡◌, ℕ, ◌+◌, ◌<◌, ◌≤◌, ◌⊎◌, inl, inr, List, [], length, get_or, refl, sym, ap, subst, ◌∙◌, arith}
use Rattle.std.specs.List.{All, Contains}
use Rattle.std.proofs.lemmas.List.Elements.{All-contains}
use Rattle.std.proofs.lemmas.Bool.{cases_lt}
use Rattle.std.proofs.lemmas.List.{get_or_default}
use Rattle.daggy_base.specs.Graph.{Graph, HasNode}
use Rattle.daggy_base.specs.Ordered.{IsOrderOf, place}
use Rattle.daggy_base.specs.Path.{Reaches}
use Rattle.daggy_base.proofs.Lists.{contains_mem}
use Rattle.daggy_base.proofs.Sorted.{same_place}

module _ {I E : Type 0} (number : I → ℕ) (items : List (I × E)) where
  -- the parent of an item
  pub of_item : (P : ℕ → Type 0) → All (λ x. P (number x.0)) items → (x : I × E) → Contains items x → P (number x.0)
  of_item P all x at = All-contains (λ (y : I × E). P (number y.0)) items x all at

  -- the parent of one item more
  pub of_more : (P : ℕ → Type 0) {count : ℕ} (d₀ : I × E) → count < length items
      → ((k : ℕ) (d : I × E) → k < count → P (number (get_or items k d).0)) → P (number (get_or items count d₀).0)
      → (k : ℕ) (d : I × E) → k < count + 1 → P (number (get_or items k d).0)
  of_more P {count} d₀ low passed here k d h =
      elim (cases_lt k count) [
        | inl a ↦ passed k d a
        | inr b ↦ (
            let at : k ≡ count = omega (arith, b, h) in
            let same : get_or items count d₀ ≡ get_or items k d =
            get_or_default items count d₀ d low ∙ ap (λ z. get_or items z d) (sym at) in
            let Q : I × E → Type 0 = λ z. P (number z.0) in
            subst Q same here
            )
      ]

-- only n itself stands where n does
pub reaches_same : {N E : Type 0} {g : Graph N E} {order : List ℕ} → IsOrderOf g order → (n u : ℕ) → HasNode g n
    → HasNode g u → place order n ≤ place order u → place order u ≤ place order n → Reaches g n u
reaches_same {order = order} ord n u has_n has_u low high =
    let held_n = contains_mem order n ((ord.exact n).1 has_n) in
    let held_u = contains_mem order u ((ord.exact u).1 has_u) in
    ([], has_n, same_place order n u held_n held_u (omega arith))

-- the last of n and of the parents of the first items
pub record IsLastSoFar {I E : Type 0} (number : I → ℕ) (order : List ℕ) (n : ℕ) (items : List (I × E)) (count last : ℕ)
    : Type 0 where
  pub one : (last ≡ n) ⊎ ((x : I × E) × Contains items x × (number x.0 ≡ last))
  pub held : Contains order last
  pub behind : place order n ≤ place order last
  pub passed : (k : ℕ) (d : I × E) → k < count → place order (number (get_or items k d).0) ≤ place order last

module _ {I E : Type 0} {number : I → ℕ} {order : List ℕ} {n : ℕ} {items : List (I × E)} where
  pub last_begun : Contains order n → IsLastSoFar number order n items 0 n
  last_begun held =
      record { one = inl refl; held = held; behind = omega arith; passed = λ k d h. absurd (omega (arith, h)) }

  module _ {count last : ℕ} (s : IsLastSoFar number order n items count last) (d : I × E) (low : count < length items)
    where
      -- the next parent stands no later
      pub last_kept : place order (number (get_or items count d).0) ≤ place order last
          → IsLastSoFar number order n items (count + 1) last
      last_kept before = record {
        one = s.one;
        held = s.held;
        behind = s.behind;
        passed = of_more number items (λ z. place order z ≤ place order last) d low s.passed before;
      }

      -- or it does
      pub last_passed : place order last < place order (number (get_or items count d).0)
          → Contains order (number (get_or items count d).0)
          → IsLastSoFar number order n items (count + 1) (number (get_or items count d).0)
      last_passed after held =
          let parent = number (get_or items count d).0 in
          record {
            one = inr (get_or items count d, (count, low, get_or_default items count _ d low), refl);
            held = held;
            behind = omega (arith, s.behind, after);
            passed = of_more number items (λ z. place order z ≤ place order parent) d low
                (λ k e h. omega (arith, s.passed k e h, after)) (omega arith);
          }
