-- The times that a closure returned for nodes or edges, one by one.
use Rattle.std.proofs.Common.{◌≡◌, ℕ, ◌+◌, ◌<◌, Option, Some, None, List, length, get_or, set, sym, ap, subst, ◌∙◌, arith}
use Rattle.std.proofs.Common.{inl, inr}
use Rattle.std.specs.Borrow.{Bor}
use Rattle.std.proofs.lemmas.Bool.{cases_eq}
use Rattle.std.proofs.lemmas.List.{get_or-set_same, get_or-set_other}

-- each existing weight below i has a time that f returned for it
abbrev pub AreBelow : {W F I : Type 0} → (of : ℕ → I) (post : F → I → Bor W → ℕ → Type 0) → F → (weight : ℕ → Option W)
    → (i : ℕ) (times : List ℕ) → Type 0
AreBelow {W} of post f weight i times =
    (n : ℕ) (w : W) → weight n ≡ Some w → n < i → (shown : Bor W) × (shown.now ≡ w) × post f (of n) shown (get_or times n 0)

module _ {W F I : Type 0} (of : ℕ → I) (post : F → I → Bor W → ℕ → Type 0) (f : F) (weight : ℕ → Option W) (i : ℕ)
    (times : List ℕ) (below : AreBelow of post f weight i times) where
  pub called_one : (here : W) (shown : Bor W) → Some here ≡ weight i → shown.now ≡ here → (d : ℕ) → post f (of i) shown d
      → i < length times → (more : List ℕ) → more ≡ set times i d → AreBelow of post f weight (i + 1) more
  called_one here shown at shows d returned low more is n w has less =
      elim (cases_eq n i) [
        | inl same ↦ (
            let whole : Some w ≡ Some here = sym has ∙ (ap weight same ∙ sym at) in
            let weighs : w ≡ here = cc in
            let read : get_or more n 0 ≡ d =
            ap (λ z. get_or z n 0) is ∙ (ap (λ z. get_or (set times i d) z 0) same
            ∙ get_or-set_same times i d 0 low) in
            let P : ℕ → ℕ → Type 0 = λ k r. post f (of k) shown r in
            (shown, shows ∙ sym weighs, subst (λ k. P k (get_or more n 0)) (sym same) (subst (λ r. P i r) (sym read) returned))
            )
        | inr other ↦ (
            let kept : get_or more n 0 ≡ get_or times n 0 =
            ap (λ z. get_or z n 0) is ∙ get_or-set_other times i n d 0 other in
            let P : ℕ → Type 0 = λ r. (shown : Bor W) × (shown.now ≡ w) × post f (of n) shown r in
            subst P (sym kept) (below n w has (omega (arith, less, other)))
            )
      ]

  pub called_none : None ≡ weight i → (more : List ℕ) → more ≡ times → AreBelow of post f weight (i + 1) more
  called_none none more is n w has less =
      elim (cases_eq n i) [
        | inl same ↦ (
            let whole : Some w ≡ None = sym has ∙ (ap weight same ∙ sym none) in
            absurd cc
            )
        | inr other ↦ (
            let P : List ℕ → Type 0 = λ z. (shown : Bor W) × (shown.now ≡ w) × post f (of n) shown (get_or z n 0) in
            subst P (sym is) (below n w has (omega (arith, less, other)))
            )
      ]
