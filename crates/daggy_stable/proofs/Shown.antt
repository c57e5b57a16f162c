-- The links of occupied slots, with `end` for vacant ones.
use Rattle.std.proofs.Common.{◌≡◌, ℕ, zero, suc, ◌<◌, List, [], ◌∷◌, ◌++◌, length, get_or, set, take, Option, Some}
use Rattle.std.proofs.Common.{None, slice_get, refl, sym, ap, arith}
use Rattle.std.proofs.lemmas.Option.{same_Some, none-some}
use Rattle.daggy_base.specs.Graph.{slot}
use Rattle.daggy_stable.specs.Stored.{shown}

module _ {A : Type 0} (end : ℕ) where
  pub length-shown : (slots : List (Option A)) (links : List ℕ)
      → length links ≡ length slots → length (shown end slots links) ≡ length slots
  length-shown [] links long = refl
  length-shown (x ∷ xs) [] long = absurd (omega (arith, long))
  length-shown (None ∷ xs) (l ∷ links) long = ap suc (length-shown xs links (omega (arith, long)))
  length-shown (Some x ∷ xs) (l ∷ links) long = ap suc (length-shown xs links (omega (arith, long)))

  -- a node that exists
  pub shown_some : (slots : List (Option A)) (links : List ℕ) (i : ℕ) (x : A)
      → length links ≡ length slots → slot slots i ≡ Some x → get_or (shown end slots links) i 0 ≡ get_or links i 0
  shown_some [] links i x long at = absurd (none-some x at)
  shown_some (z ∷ zs) [] i x long at = absurd (omega (arith, long))
  shown_some (None ∷ zs) (l ∷ links) zero x long at = absurd (none-some x at)
  shown_some (Some z ∷ zs) (l ∷ links) zero x long at = refl
  shown_some (None ∷ zs) (l ∷ links) (suc i) x long at = shown_some zs links i x (omega (arith, long)) at
  shown_some (Some z ∷ zs) (l ∷ links) (suc i) x long at = shown_some zs links i x (omega (arith, long)) at

  -- one that does not
  pub shown_none : (slots : List (Option A)) (links : List ℕ) (i : ℕ)
      → length links ≡ length slots → i < length slots → slot slots i ≡ None → get_or (shown end slots links) i 0 ≡ end
  shown_none [] links i long within at = absurd (omega (arith, within))
  shown_none (z ∷ zs) [] i long within at = absurd (omega (arith, long))
  shown_none (None ∷ zs) (l ∷ links) zero long within at = refl
  shown_none (Some z ∷ zs) (l ∷ links) zero long within at = absurd (none-some z (sym at))
  shown_none (None ∷ zs) (l ∷ links) (suc i) long within at =
      shown_none zs links i (omega (arith, long)) (omega (arith, within)) at
  shown_none (Some z ∷ zs) (l ∷ links) (suc i) long within at =
      shown_none zs links i (omega (arith, long)) (omega (arith, within)) at

  -- a link of a node that exists is written
  pub shown-set : (slots : List (Option A)) (links : List ℕ) (i new : ℕ) (x : A)
      → slot slots i ≡ Some x → shown end slots (set links i new) ≡ set (shown end slots links) i new
  shown-set [] links i new x at = absurd (none-some x at)
  shown-set (z ∷ zs) [] i new x at = refl
  shown-set (None ∷ zs) (l ∷ links) zero new x at = absurd (none-some x at)
  shown-set (Some z ∷ zs) (l ∷ links) zero new x at = refl
  shown-set (None ∷ zs) (l ∷ links) (suc i) new x at = ap (λ ls. end ∷ ls) (shown-set zs links i new x at)
  shown-set (Some z ∷ zs) (l ∷ links) (suc i) new x at = ap (λ ls. l ∷ ls) (shown-set zs links i new x at)

  -- a vacant slot is filled
  pub shown-fill : (slots : List (Option A)) (links : List ℕ) (i : ℕ) (x : A)
      → slice_get slots i ≡ Some None → shown end (set slots i (Some x)) (set links i end) ≡ shown end slots links
  shown-fill [] links i x at = absurd (none-some None at)
  shown-fill (z ∷ zs) [] zero x at = refl
  shown-fill (z ∷ zs) [] (suc i) x at = refl
  shown-fill (None ∷ zs) (l ∷ links) zero x at = refl
  shown-fill (Some z ∷ zs) (l ∷ links) zero x at = absurd (none-some z (sym (same_Some (Some z) None at)))
  shown-fill (None ∷ zs) (l ∷ links) (suc i) x at = ap (λ ls. end ∷ ls) (shown-fill zs links i x at)
  shown-fill (Some z ∷ zs) (l ∷ links) (suc i) x at = ap (λ ls. l ∷ ls) (shown-fill zs links i x at)

  -- a slot whose link leads nowhere is vacated
  pub shown-vacate : (slots : List (Option A)) (links : List ℕ) (i : ℕ) → length links ≡ length slots
      → get_or links i 0 ≡ end → shown end (set slots i None) links ≡ shown end slots links
  shown-vacate [] links i long at = refl
  shown-vacate (z ∷ zs) [] i long at = absurd (omega (arith, long))
  shown-vacate (None ∷ zs) (l ∷ links) zero long at = refl
  shown-vacate (Some z ∷ zs) (l ∷ links) zero long at = ap (λ w. w ∷ shown end zs links) (sym at)
  shown-vacate (None ∷ zs) (l ∷ links) (suc i) long at =
      ap (λ ls. end ∷ ls) (shown-vacate zs links i (omega (arith, long)) at)
  shown-vacate (Some z ∷ zs) (l ∷ links) (suc i) long at =
      ap (λ ls. l ∷ ls) (shown-vacate zs links i (omega (arith, long)) at)

  -- a link of a vacant slot is written
  pub shown-set_vacant : (slots : List (Option A)) (links : List ℕ) (i new : ℕ)
      → slot slots i ≡ None → shown end slots (set links i new) ≡ shown end slots links
  shown-set_vacant [] links i new at = refl
  shown-set_vacant (z ∷ zs) [] i new at = refl
  shown-set_vacant (None ∷ zs) (l ∷ links) zero new at = refl
  shown-set_vacant (Some z ∷ zs) (l ∷ links) zero new at = absurd (none-some z (sym at))
  shown-set_vacant (None ∷ zs) (l ∷ links) (suc i) new at = ap (λ ls. end ∷ ls) (shown-set_vacant zs links i new at)
  shown-set_vacant (Some z ∷ zs) (l ∷ links) (suc i) new at = ap (λ ls. l ∷ ls) (shown-set_vacant zs links i new at)

  -- another weight
  pub shown-renew : (slots : List (Option A)) (links : List ℕ) (i : ℕ) (x y : A)
      → slot slots i ≡ Some x → shown end (set slots i (Some y)) links ≡ shown end slots links
  shown-renew [] links i x y at = refl
  shown-renew (z ∷ zs) [] zero x y at = refl
  shown-renew (z ∷ zs) [] (suc i) x y at = refl
  shown-renew (None ∷ zs) (l ∷ links) zero x y at = absurd (none-some x at)
  shown-renew (Some z ∷ zs) (l ∷ links) zero x y at = refl
  shown-renew (None ∷ zs) (l ∷ links) (suc i) x y at = ap (λ ls. end ∷ ls) (shown-renew zs links i x y at)
  shown-renew (Some z ∷ zs) (l ∷ links) (suc i) x y at = ap (λ ls. l ∷ ls) (shown-renew zs links i x y at)

  pub shown_push : (slots : List (Option A)) (links : List ℕ) (x : A) (new : ℕ) → length links ≡ length slots
      → shown end (slots ++ Some x ∷ []) (links ++ new ∷ []) ≡ shown end slots links ++ new ∷ []
  shown_push [] [] x new long = refl
  shown_push [] (l ∷ links) x new long = absurd (omega (arith, long))
  shown_push (z ∷ zs) [] x new long = absurd (omega (arith, long))
  shown_push (None ∷ zs) (l ∷ links) x new long = ap (λ ls. end ∷ ls) (shown_push zs links x new (omega (arith, long)))
  shown_push (Some z ∷ zs) (l ∷ links) x new long = ap (λ ls. l ∷ ls) (shown_push zs links x new (omega (arith, long)))

  pub shown-take : (k : ℕ) (slots : List (Option A)) (links : List ℕ)
      → shown end (take k slots) (take k links) ≡ take k (shown end slots links)
  shown-take zero slots links = refl
  shown-take (suc k) [] links = refl
  shown-take (suc k) (z ∷ zs) [] = refl
  shown-take (suc k) (None ∷ zs) (l ∷ links) = ap (λ ls. end ∷ ls) (shown-take k zs links)
  shown-take (suc k) (Some z ∷ zs) (l ∷ links) = ap (λ ls. l ∷ ls) (shown-take k zs links)
