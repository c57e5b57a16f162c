-- Each number of a list where it occurs last.
use Rattle.std.proofs.Common.{◌≡◌, ◌≢◌, ℕ, Bool, true, false, cond, ◌||◌, inl, inr, List, [], ◌∷◌, ◌++◌}
use Rattle.std.proofs.Common.{eqb, refl, sym, ap, ◌∙◌}
use Rattle.std.specs.List.{filter}
use Rattle.std.proofs.lemmas.Bool.{eq-eqb, ne_eqb, cases_eq}
use Rattle.daggy_base.proofs.Lists.{Mem}
use Rattle.daggy_schedule.specs.Work.{is_among, each_last}

pub filter_same : (p q : ℕ → Bool) (xs : List ℕ) → ((k : ℕ) → Mem k xs → q k ≡ p k) → filter q xs ≡ filter p xs
filter_same p q [] h = refl
filter_same p q (x ∷ xs) h =
    ap (λ b. cond b (x ∷ filter q xs) (filter q xs)) (h x (inl refl))
    ∙ ap (λ z. cond (p x) (x ∷ z) z) (filter_same p q xs (λ k m. h k (inr m)))

-- one item more that fails
pub filter_past : (p q : ℕ → Bool) (c : ℕ) (xs : List ℕ) → ((k : ℕ) → q k ≡ p k) → q c ≡ false
    → filter q (xs ++ c ∷ []) ≡ filter p xs
filter_past p q c [] same none = ap (λ b. cond b (c ∷ []) []) none
filter_past p q c (x ∷ xs) same none =
    ap (λ b. cond b (x ∷ filter q (xs ++ c ∷ [])) (filter q (xs ++ c ∷ []))) (same x)
    ∙ ap (λ z. cond (p x) (x ∷ z) z) (filter_past p q c xs same none)

module _ (p q : ℕ → Bool) (c : ℕ) (other : (k : ℕ) → k ≢ c → q k ≡ p k) (was : p c ≡ false) (now : q c ≡ true) where
  -- a number that is not c is among those that pass as it was
  among_same : (x : ℕ) (xs : List ℕ) → x ≢ c → is_among (filter q (xs ++ c ∷ [])) x ≡ is_among (filter p xs) x
  among_same x [] ne =
      ap (λ b. is_among (cond b (c ∷ []) []) x) now ∙ ap (λ b. b || false) (ne_eqb c x (λ e. ne (sym e)))
  among_same x (y ∷ ys) ne =
      elim (cases_eq y c) [
        | inl same ↦
            ap (λ b. is_among (cond b (y ∷ filter q (ys ++ c ∷ [])) (filter q (ys ++ c ∷ []))) x) (ap q same ∙ now)
            ∙ (ap (λ b. b || is_among (filter q (ys ++ c ∷ [])) x) (ne_eqb y x (λ e. ne (sym e ∙ same)))
            ∙ (among_same x ys ne
            ∙ ap (λ b. is_among (cond b (y ∷ filter p ys) (filter p ys)) x) (sym (ap p same ∙ was))))
        | inr diff ↦
            ap (λ b. is_among (cond b (y ∷ filter q (ys ++ c ∷ [])) (filter q (ys ++ c ∷ []))) x) (other y diff)
            ∙ by (p y) (among_same x ys ne)
      ]
    where
      by : (b : Bool) → is_among (filter q (ys ++ c ∷ [])) x ≡ is_among (filter p ys) x
          → is_among (cond b (y ∷ filter q (ys ++ c ∷ [])) (filter q (ys ++ c ∷ []))) x
          ≡ is_among (cond b (y ∷ filter p ys) (filter p ys)) x
      by true h = ap (λ b. eqb y x || b) h
      by false h = h

  among_c : (xs : List ℕ) → is_among (filter q (xs ++ c ∷ [])) c ≡ true
  among_c [] = ap (λ b. is_among (cond b (c ∷ []) []) c) now ∙ ap (λ b. b || false) (eq-eqb c c refl)
  among_c (x ∷ xs) = by (q x) (among_c xs)
    where
      or_true : (b : Bool) → (b || true) ≡ true
      or_true true = refl
      or_true false = refl

      by : (b : Bool) → is_among (filter q (xs ++ c ∷ [])) c ≡ true
          → is_among (cond b (x ∷ filter q (xs ++ c ∷ [])) (filter q (xs ++ c ∷ []))) c ≡ true
      by true h = ap (λ b. eqb x c || b) h ∙ or_true (eqb x c)
      by false h = h

  -- one item more that passes from now on
  pub last_more : (xs : List ℕ) → each_last (filter q (xs ++ c ∷ [])) ≡ each_last (filter p xs) ++ c ∷ []
  last_more [] = ap (λ b. each_last (cond b (c ∷ []) [])) now
  last_more (x ∷ xs) =
      elim (cases_eq x c) [
        | inl same ↦
            ap (λ b. each_last (cond b (x ∷ filter q (xs ++ c ∷ [])) (filter q (xs ++ c ∷ [])))) (ap q same ∙ now)
            ∙ (ap (λ b. cond b (each_last (filter q (xs ++ c ∷ []))) (x ∷ each_last (filter q (xs ++ c ∷ []))))
            (ap (λ z. is_among (filter q (xs ++ c ∷ [])) z) same ∙ among_c xs)
            ∙ (last_more xs
            ∙ ap (λ b. each_last (cond b (x ∷ filter p xs) (filter p xs)) ++ c ∷ []) (sym (ap p same ∙ was))))
        | inr diff ↦
            ap (λ b. each_last (cond b (x ∷ filter q (xs ++ c ∷ [])) (filter q (xs ++ c ∷ [])))) (other x diff)
            ∙ by (p x) diff (last_more xs)
      ]
    where
      kept : (b : Bool) → each_last (filter q (xs ++ c ∷ [])) ≡ each_last (filter p xs) ++ c ∷ []
          → cond b (each_last (filter q (xs ++ c ∷ []))) (x ∷ each_last (filter q (xs ++ c ∷ [])))
          ≡ cond b (each_last (filter p xs)) (x ∷ each_last (filter p xs)) ++ c ∷ []
      kept true h = h
      kept false h = ap (λ z. x ∷ z) h

      by : (b : Bool) → x ≢ c → each_last (filter q (xs ++ c ∷ [])) ≡ each_last (filter p xs) ++ c ∷ []
          → each_last (cond b (x ∷ filter q (xs ++ c ∷ [])) (filter q (xs ++ c ∷ [])))
          ≡ each_last (cond b (x ∷ filter p xs) (filter p xs)) ++ c ∷ []
      by true ne h =
          ap (λ b. cond b (each_last (filter q (xs ++ c ∷ []))) (x ∷ each_last (filter q (xs ++ c ∷ []))))
          (among_same x xs ne)
          ∙ kept (is_among (filter p xs) x) h
      by false ne h = h
