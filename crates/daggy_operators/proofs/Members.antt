-- Members of lists of any type.
use Rattle.std.proofs.Common.{◌≡◌, ℕ, zero, suc, ◌<◌, ◌⊎◌, inl, inr, List, [], ◌∷◌, map, length, Contains, get_or, refl, ap}
use Rattle.std.proofs.Common.{arith}
use Rattle.std.specs.List.{flat_map}
use Rattle.std.proofs.lemmas.List.Elements.{Contains-append_left, Contains-append_right, Contains-append_cases}

module _ {X : Type 0} where
  pub none_in : (x : X) → Contains [] x → ⊥
  none_in x c = omega (arith, c.1)

  pub first_in : (x : X) (xs : List X) → Contains (x ∷ xs) x
  first_in x xs = (0, omega arith, refl)

  pub later_in : (y x : X) (xs : List X) → Contains xs x → Contains (y ∷ xs) x
  later_in y x xs c = (suc c.0, omega (arith, c.1), c.2)

  pub in_cases : (y x : X) (xs : List X) → Contains (y ∷ xs) x → (y ≡ x) ⊎ Contains xs x
  in_cases y x xs c = by_index c.0 c.1 c.2
    where
      by_index : (k : ℕ) → k < suc (length xs) → get_or (y ∷ xs) k x ≡ x → (y ≡ x) ⊎ Contains xs x
      by_index zero low is = inl is
      by_index (suc k) low is = inr (k, omega (arith, low), is)

  pub only_in : (y x : X) → Contains (y ∷ []) x → y ≡ x
  only_in y x c = elim (in_cases y x [] c) [ inl here ↦ here | inr none ↦ absurd (none_in x none) ]

module _ {X Y : Type 0} where
  pub in_map : (f : X → Y) (xs : List X) (x : X) → Contains xs x → Contains (map f xs) (f x)
  in_map f [] x c = absurd (none_in x c)
  in_map f (z ∷ xs) x c =
      elim (in_cases z x xs c) [
        | inl here ↦ (0, omega arith, ap f here)
        | inr later ↦ later_in (f z) (f x) (map f xs) (in_map f xs x later)
      ]

  pub from_map : (f : X → Y) (xs : List X) (y : Y) → Contains (map f xs) y → (x : X) × Contains xs x × (f x ≡ y)
  from_map f [] y c = absurd (none_in y c)
  from_map f (z ∷ xs) y c =
      elim (in_cases (f z) y (map f xs) c) [
        | inl here ↦ (z, first_in z xs, here)
        | inr later ↦ (let more = from_map f xs y later in (more.0, later_in z more.0 xs more.1, more.2))
      ]

  pub in_flat_map : (f : X → List Y) (xs : List X) (x : X) (y : Y) → Contains xs x → Contains (f x) y → Contains (flat_map f xs) y
  in_flat_map f [] x y c there = absurd (none_in x c)
  in_flat_map f (z ∷ xs) x y c there =
      elim (in_cases z x xs c) [
        | inl here ↦ (
            Contains-append_left (f z) (flat_map f xs) y (rw here there)
            )
        | inr later ↦ Contains-append_right (f z) (flat_map f xs) y (in_flat_map f xs x y later there)
      ]

  pub from_flat_map : (f : X → List Y) (xs : List X) (y : Y) → Contains (flat_map f xs) y
      → (x : X) × Contains xs x × Contains (f x) y
  from_flat_map f [] y c = absurd (none_in y c)
  from_flat_map f (z ∷ xs) y c =
      elim (Contains-append_cases (f z) (flat_map f xs) y c) [
        | inl here ↦ (z, first_in z xs, here)
        | inr later ↦ (let more = from_flat_map f xs y later in (more.0, later_in z more.0 xs more.1, more.2))
      ]
