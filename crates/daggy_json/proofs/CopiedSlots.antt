-- What slots hold in which something stands for each weight.
use Rattle.std.proofs.Common.{◌≡◌, ℕ, zero, suc, ◌+◌, ◌≤◌, ◌↔◌, not, Option, Some, None, is_some, List, [], ◌∷◌, length}
use Rattle.std.proofs.Common.{map, take, slice_get, refl, sym, ap, subst, ◌∙◌, arith}
use Rattle.std.specs.Prelude.{option_and_then, Contains}
use Rattle.std.specs.List.{AllZip}
use Rattle.std.proofs.lemmas.Option.{same_Some, none-some}
use Rattle.daggy_base.specs.Graph.{slot, bound_of, bound_step}
use Rattle.daggy_base.specs.Iterating.{numbered}
use Rattle.daggy_base.specs.FromSlots.{down_from, vacant_down}
use Rattle.daggy_base.specs.Mapping.{CalledAt, MapsSlots}
use Rattle.daggy_json.specs.Document.{vacant_from}
use Rattle.daggy_json.specs.Restoring.{stand_in}

module _ {A B W V : Type 0} (weight_as : W → V → Type 0) (weight : A → W) (with : A → V → B) where
  -- each slot has what may stand for that at its place
  abbrev pub AreCopied : ℕ → List (Option A) → List (Option B) → Type 0
  AreCopied i xs ys = MapsSlots (stand_in weight_as) (λ k. k) weight with tt i xs ys

  -- what may stand for a slot
  abbrev pub SlotAs : Option A → Option B → Type 0
  SlotAs None y = y ≡ None
  SlotAs (Some x) y = (v : V) × weight_as (weight x) v × (y ≡ Some (with x v))

  -- what may stand at a place
  abbrev PlaceAs : Option (Option A) → Option (Option B) → Type 0
  PlaceAs None q = q ≡ None
  PlaceAs (Some x) q = (y : Option B) × SlotAs x y × (q ≡ Some y)

  pub stands : (w : W) (v : V) (i : ℕ) → weight_as w v → CalledAt (stand_in weight_as) (λ k. k) tt i w v tt
  stands w v i h = record { shown = record { ref_ptr = (0, 0); now = w }; shows = refl; called = h }

  pub copied_zip : (i : ℕ) (xs : List (Option A)) (ys : List (Option B)) → AllZip SlotAs xs ys → AreCopied i xs ys
  copied_zip i [] [] z = refl
  copied_zip i (None ∷ xs) (y ∷ ys) z = (ys, ap (λ k. k ∷ ys) z.0, copied_zip (i + 1) xs ys z.1)
  copied_zip i (Some x ∷ xs) (y ∷ ys) z = (
    z.0.0,
    tt,
    stands (weight x) z.0.0 i z.0.1,
    ys,
    ap (λ k. k ∷ ys) z.0.2,
    copied_zip (i + 1) xs ys z.1,
  )
  copied_zip i _ _ z = absurd z

  -- ---- at a place

  copied_at : (i : ℕ) (xs : List (Option A)) (ys : List (Option B))
      → AreCopied i xs ys → (k : ℕ) → PlaceAs (slice_get xs k) (slice_get ys k)
  copied_at i [] ys m k = ap (λ l. slice_get l k) m
  copied_at i (None ∷ xs) ys (later, is, more) zero = (None, refl, ap (λ l. slice_get l zero) is)
  copied_at i (None ∷ xs) ys (later, is, more) (suc k) = rw is (copied_at (i + 1) xs later more k)
  copied_at i (Some x ∷ xs) ys (v, next, called, later, is, more) zero =
      (Some (with x v), (v, rw called.shows at called.called, refl), ap (λ l. slice_get l zero) is)
  copied_at i (Some x ∷ xs) ys (v, next, called, later, is, more) (suc k) =
      rw is (copied_at (i + 1) xs later more k)

  there_at : (p : Option (Option A)) (q : Option (Option B)) → PlaceAs p q
      → is_some (option_and_then (λ z. z) q) ≡ is_some (option_and_then (λ z. z) p)
  there_at None q e = ap (λ o. is_some (option_and_then (λ z. z) o)) e
  there_at (Some None) q (y, is, e) = ap (λ o. is_some (option_and_then (λ z. z) o)) (e ∙ ap Some is)
  there_at (Some (Some x)) q (y, is, e) = ap (λ o. is_some (option_and_then (λ z. z) o)) (e ∙ ap Some is.2)

  after_at : (p : Option (Option A)) (q : Option (Option B)) → PlaceAs p q → (x : A)
      → option_and_then (λ z. z) p ≡ Some x
      → (v : V) × weight_as (weight x) v × (option_and_then (λ z. z) q ≡ Some (with x v))
  after_at None q e x at = absurd (none-some x at)
  after_at (Some None) q m x at = absurd (none-some x at)
  after_at (Some (Some z)) q (y, is, e) x at =
      let same : z ≡ x = same_Some z x at in (
        is.0,
        subst (λ k. weight_as (weight k) is.0) same is.1,
        ap (option_and_then (λ o. o)) (e ∙ ap Some is.2) ∙ ap (λ k. Some (with k is.0)) same,
      )

  before_at : (p : Option (Option A)) (q : Option (Option B)) → PlaceAs p q → (y : B)
      → option_and_then (λ z. z) q ≡ Some y
      → (x : A) × (v : V) × (option_and_then (λ z. z) p ≡ Some x) × (with x v ≡ y)
  before_at None q e y at = absurd (none-some y (sym (ap (option_and_then (λ z. z)) e) ∙ at))
  before_at (Some None) q (z, is, e) y at =
      absurd (none-some y (sym (ap (option_and_then (λ o. o)) (e ∙ ap Some is)) ∙ at))
  before_at (Some (Some x)) q (z, is, e) y at = (
    x,
    is.0,
    refl,
    same_Some (with x is.0) y (sym (ap (option_and_then (λ o. o)) (e ∙ ap Some is.2)) ∙ at),
  )

  vacant_at : (p : Option (Option A)) (q : Option (Option B)) → PlaceAs p q → (q ≡ Some None) ↔ (p ≡ Some None)
  vacant_at None q e = (λ h. absurd (none-some None (sym e ∙ h)), λ h. absurd (none-some None h))
  vacant_at (Some None) q (y, is, e) = (λ h. refl, λ h. e ∙ ap Some is)
  vacant_at (Some (Some x)) q (y, is, e) = (
    λ h. absurd (none-some (with x is.0) (same_Some None (Some (with x is.0)) (sym h ∙ e ∙ ap Some is.2))),
    λ h. absurd (none-some x (sym (same_Some (Some x) None h))),
  )

  module _ (i : ℕ) (xs : List (Option A)) (ys : List (Option B)) (m : AreCopied i xs ys) where
    -- no slot is vacated, and none is filled
    pub copied_there : (k : ℕ) → is_some (slot ys k) ≡ is_some (slot xs k)
    copied_there k = there_at (slice_get xs k) (slice_get ys k) (copied_at i xs ys m k)

    pub copied_after : (k : ℕ) (x : A)
        → slot xs k ≡ Some x → (v : V) × weight_as (weight x) v × (slot ys k ≡ Some (with x v))
    copied_after k = after_at (slice_get xs k) (slice_get ys k) (copied_at i xs ys m k)

    pub copied_before : (k : ℕ) (y : B) → slot ys k ≡ Some y → (x : A) × (v : V) × (slot xs k ≡ Some x) × (with x v ≡ y)
    copied_before k = before_at (slice_get xs k) (slice_get ys k) (copied_at i xs ys m k)

    pub copied_none : (k : ℕ) → (slice_get ys k ≡ Some None) ↔ (slice_get xs k ≡ Some None)
    copied_none k = vacant_at (slice_get xs k) (slice_get ys k) (copied_at i xs ys m k)

  -- ---- the whole list

  pub copied_length : (i : ℕ) (xs : List (Option A)) (ys : List (Option B)) → AreCopied i xs ys → length ys ≡ length xs
  copied_length i [] ys m = ap length m
  copied_length i (None ∷ xs) ys (later, is, more) = ap length is ∙ ap suc (copied_length (i + 1) xs later more)
  copied_length i (Some x ∷ xs) ys (v, next, called, later, is, more) =
      ap length is ∙ ap suc (copied_length (i + 1) xs later more)

  pub copied_numbers : (i : ℕ) (xs : List (Option A)) (ys : List (Option B))
      → AreCopied i xs ys → map (λ p. p.0) (numbered i ys) ≡ map (λ p. p.0) (numbered i xs)
  copied_numbers i [] ys m = ap (λ (l : List (Option B)). map (λ p. p.0) (numbered i l)) m
  copied_numbers i (None ∷ xs) ys (later, is, more) = rw is (copied_numbers (i + 1) xs later more)
  copied_numbers i (Some x ∷ xs) ys (v, next, called, later, is, more) =
      rw is (ap (λ l. i ∷ l) (copied_numbers (i + 1) xs later more))

  pub copied_vacant : (i : ℕ) (xs : List (Option A)) (ys : List (Option B))
      → AreCopied i xs ys → vacant_from i ys ≡ vacant_from i xs
  copied_vacant i [] ys m = ap (vacant_from i) m
  copied_vacant i (None ∷ xs) ys (later, is, more) = rw is (ap (λ l. i ∷ l) (copied_vacant (i + 1) xs later more))
  copied_vacant i (Some x ∷ xs) ys (v, next, called, later, is, more) = rw is (copied_vacant (i + 1) xs later more)

  pub copied_down : (i : ℕ) (xs : List (Option A)) (ys : List (Option B))
      → AreCopied i xs ys → vacant_down ys ≡ vacant_down xs
  copied_down i xs ys m =
      ap (down_from (λ k. not (is_some (slot ys k)))) (copied_length i xs ys m)
      ∙ ap (λ p. down_from p (length xs)) (λ j k. not (copied_there i xs ys m k j))

  none_bound : (n : ℕ) → bound_step {A = B} None n ≡ bound_step {A = A} None n
  none_bound zero = refl
  none_bound (suc n) = refl

  some_bound : (x : A) (y : B) (n : ℕ) → bound_step (Some y) n ≡ bound_step (Some x) n
  some_bound x y zero = refl
  some_bound x y (suc n) = refl

  pub copied_bound : (i : ℕ) (xs : List (Option A)) (ys : List (Option B))
      → AreCopied i xs ys → bound_of ys ≡ bound_of xs
  copied_bound i [] ys m = ap bound_of m
  copied_bound i (None ∷ xs) ys (later, is, more) =
      ap bound_of is ∙ ap (bound_step {A = B} None) (copied_bound (i + 1) xs later more) ∙ none_bound (bound_of xs)
  copied_bound i (Some x ∷ xs) ys (v, next, called, later, is, more) =
      ap bound_of is ∙ ap (bound_step (Some (with x v))) (copied_bound (i + 1) xs later more)
      ∙ some_bound x (with x v) (bound_of xs)

  pub copied_front : (n i : ℕ) (xs : List (Option A)) (ys : List (Option B))
      → AreCopied i xs ys → AreCopied i (take n xs) (take n ys)
  copied_front zero i xs ys m = refl
  copied_front (suc n) i [] ys m = ap (take (suc n)) m
  copied_front (suc n) i (None ∷ xs) ys (later, is, more) =
      (take n later, ap (take (suc n)) is, copied_front n (i + 1) xs later more)
  copied_front (suc n) i (Some x ∷ xs) ys (v, next, called, later, is, more) =
      (v, next, called, take n later, ap (take (suc n)) is, copied_front n (i + 1) xs later more)

  pub copied_cut : (i : ℕ) (xs : List (Option A)) (ys : List (Option B))
      → AreCopied i xs ys → AreCopied i (take (bound_of xs) xs) (take (bound_of ys) ys)
  copied_cut i xs ys m = rw (copied_bound i xs ys m) (copied_front (bound_of xs) i xs ys m)

  -- what is held stands for something
  module _ (weight_of : B → V) (given : (x : A) (v : V) → weight_of (with x v) ≡ v) where
    pub copied_from : (i : ℕ) (xs : List (Option A)) (ys : List (Option B)) → AreCopied i xs ys → (v : V)
        → Contains (map (λ p. weight_of p.1) (numbered i ys)) v → (w : W) × weight_as w v
    copied_from i [] ys m v c =
        let none = rw m at c in let within = none.1 in absurd (omega (arith, within))
    copied_from i (None ∷ xs) ys (later, is, more) v c =
        copied_from (i + 1) xs later more v (rw is at c)
    copied_from i (Some x ∷ xs) ys (u, next, called, later, is, more) v c =
        go (copied_from (i + 1) xs later more v) (rw is at c)
      where
        go : (Contains (map (λ p. weight_of p.1) (numbered (i + 1) later)) v → (w : W) × weight_as w v)
            → Contains (weight_of (with x u) ∷ map (λ p. weight_of p.1) (numbered (i + 1) later)) v
            → (w : W) × weight_as w v
        go rest (zero, low, e) = (
          weight x,
          subst (weight_as (weight x)) (sym (given x u) ∙ e) (subst (λ w. weight_as w u) called.shows called.called),
        )
        go rest (suc k, low, e) = rest (k, omega (arith, low), e)

-- ---- the vacant places and what the others hold say it all

pub low_first : {A : Type 0} (k i : ℕ) (ys : List (Option A)) (l : List ℕ) → vacant_from k ys ≡ i ∷ l → k ≤ i
low_first k i [] l e = absurd cc
low_first k i (None ∷ ys) l e = let same : k ≡ i = cc in omega arith
low_first k i (Some y ∷ ys) l e = let more = low_first (k + 1) i ys l e in omega arith

module _ {W V : Type 0} (weight_as : W → V → Type 0) where
  pub copied_nodes : (i : ℕ) (xs : List (Option W)) (ys : List (Option V)) → vacant_from i ys ≡ vacant_from i xs
      → AllZip weight_as (map (λ p. p.1) (numbered i xs)) (map (λ p. p.1) (numbered i ys))
      → AreCopied weight_as (λ w. w) (λ w v. v) i xs ys
  copied_nodes i [] [] e z = refl
  copied_nodes i [] (None ∷ ys) e z = absurd cc
  copied_nodes i [] (Some y ∷ ys) e z = absurd z
  copied_nodes i (None ∷ xs) [] e z = absurd cc
  copied_nodes i (Some x ∷ xs) [] e z = absurd z
  copied_nodes i (None ∷ xs) (None ∷ ys) e z =
      let tail : vacant_from (i + 1) ys ≡ vacant_from (i + 1) xs = cc in
      (ys, refl, copied_nodes (i + 1) xs ys tail z)
  copied_nodes i (None ∷ xs) (Some y ∷ ys) e z =
      absurd (let low = low_first (i + 1) i ys (vacant_from (i + 1) xs) e in omega arith)
  copied_nodes i (Some x ∷ xs) (None ∷ ys) e z =
      absurd (let low = low_first (i + 1) i xs (vacant_from (i + 1) ys) (sym e) in omega arith)
  copied_nodes i (Some x ∷ xs) (Some y ∷ ys) e z =
      (y, tt, stands weight_as (λ w. w) (λ w v. v) x y i z.0, ys, refl, copied_nodes (i + 1) xs ys e z.1)

  -- slots that hold what may stand for each weight
  pub filled_nodes : (i : ℕ) (xs : List (Option W)) (vs : List V) → AllZip weight_as (map (λ p. p.1) (numbered i xs)) vs
      → (ys : List (Option V)) × AreCopied weight_as (λ w. w) (λ w v. v) i xs ys × (map (λ p. p.1) (numbered i ys) ≡ vs)
  filled_nodes i [] [] z = ([], refl, refl)
  filled_nodes i [] (v ∷ vs) z = absurd z
  filled_nodes i (None ∷ xs) vs z =
      let more = filled_nodes (i + 1) xs vs z in (None ∷ more.0, (more.0, refl, more.1), more.2)
  filled_nodes i (Some x ∷ xs) [] z = absurd z
  filled_nodes i (Some x ∷ xs) (v ∷ vs) z =
      let more = filled_nodes (i + 1) xs vs z.1 in (
        Some v ∷ more.0,
        (v, tt, stands weight_as (λ w. w) (λ w v. v) x v i z.0, more.0, refl, more.1),
        ap (λ l. v ∷ l) more.2,
      )
