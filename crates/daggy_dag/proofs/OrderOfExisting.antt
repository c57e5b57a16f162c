-- Nodes taken out of an order one by one, in ascending order, of which a graph has none.
use Rattle.std.proofs.Common.{◌≡◌, ℕ, ◌+◌, ◌<◌, ◌≤◌, ◌&&◌, ◌||◌, inl, inr, Bool, true, false, not, cond, eqb, ltb, List}
use Rattle.std.proofs.Common.{[], ◌∷◌, Option, is_some, refl, sym, ap, subst, ◌∙◌, arith}
use Rattle.std.specs.List.{filter}
use Rattle.std.proofs.lemmas.Bool.{cases_eq, cases_lt, eq-eqb, ne_eqb, lt-ltb, le-ltb}
use Rattle.daggy_base.specs.Removal.{without}
use Rattle.daggy_base.proofs.Lists.{Mem}
use Rattle.daggy_base.proofs.Sorted.{mem_filter}

-- lists filtered by tests that agree on their elements
filter_same : (p q : ℕ → Bool) (xs : List ℕ) → ((x : ℕ) → Mem x xs → p x ≡ q x) → filter p xs ≡ filter q xs
filter_same p q [] same = refl
filter_same p q (x ∷ xs) same =
    ap (λ (b : Bool). cond b (x ∷ filter p xs) (filter p xs)) (same x (inl refl))
    ∙ ap (λ (z : List ℕ). cond (q x) (x ∷ z) z) (filter_same p q xs (λ y m. same y (inr m)))

filter_all : (p : ℕ → Bool) (xs : List ℕ) → ((x : ℕ) → Mem x xs → p x ≡ true) → filter p xs ≡ xs
filter_all p [] all = refl
filter_all p (x ∷ xs) all =
    ap (λ (b : Bool). cond b (x ∷ filter p xs) (filter p xs)) (all x (inl refl))
    ∙ ap (λ (z : List ℕ). x ∷ z) (filter_all p xs (λ y m. all y (inr m)))

-- a list filtered twice
filter_one : (p : ℕ → Bool) (x : ℕ) (b : Bool) (ys zs : List ℕ)
    → filter p ys ≡ zs → filter p (cond b (x ∷ ys) ys) ≡ cond (b && p x) (x ∷ zs) zs
filter_one p x true ys zs rest = ap (λ (z : List ℕ). cond (p x) (x ∷ z) z) rest
filter_one p x false ys zs rest = rest

filter_both : (p q : ℕ → Bool) (xs : List ℕ) → filter p (filter q xs) ≡ filter (λ x. q x && p x) xs
filter_both p q [] = refl
filter_both p q (x ∷ xs) = filter_one p x (q x) (filter q xs) (filter (λ y. q y && p y) xs) (filter_both p q xs)

filter_filter : (p q r : ℕ → Bool) (xs : List ℕ)
    → ((x : ℕ) → Mem x xs → (q x && p x) ≡ r x) → filter p (filter q xs) ≡ filter r xs
filter_filter p q r xs same = filter_both p q xs ∙ filter_same (λ x. q x && p x) r xs same

and_true : (b : Bool) → (b && true) ≡ b
and_true true = refl
and_true false = refl

module _ {V : Type 0} (at : ℕ → Option V) where
  -- the nodes from i on stay, and of those below it the ones that hold something
  abbrev pub stays_to : ℕ → ℕ → Bool
  stays_to i n = not (ltb n i) || is_some (at n)

  stays_low : (i n : ℕ) → n < i → stays_to i n ≡ is_some (at n)
  stays_low i n low = ap (λ (b : Bool). not b || is_some (at n)) (lt-ltb n i low)

  stays_high : (i n : ℕ) → i ≤ n → stays_to i n ≡ true
  stays_high i n high = ap (λ (b : Bool). not b || is_some (at n)) (le-ltb n i high)

  stays_next : (i n : ℕ) → (n ≡ i → ⊥) → stays_to i n ≡ stays_to (i + 1) n
  stays_next i n differs =
      elim (cases_lt n i) [
        | inl low ↦ stays_low i n low ∙ sym (stays_low (i + 1) n (omega arith))
        | inr high ↦ stays_high i n high ∙ sym (stays_high (i + 1) n (omega (arith, differs)))
      ]

  module _ (old : List ℕ) where
    pub stays_start : old ≡ filter (stays_to 0) old
    stays_start = sym (filter_all (stays_to 0) old (λ n m. stays_high 0 n (omega arith)))

    pub stays_end : (i : ℕ) → ((n : ℕ) → Mem n old → n < i) → filter (stays_to i) old ≡ filter (λ n. is_some (at n)) old
    stays_end i low = filter_same (stays_to i) (λ n. is_some (at n)) old (λ n m. stays_low i n (low n m))

    -- the node i does not stand, or holds something
    pub stays_past : (i : ℕ) → (Mem i (filter (stays_to i) old) → is_some (at i) ≡ true)
        → filter (stays_to i) old ≡ filter (stays_to (i + 1)) old
    stays_past i there =
        filter_same (stays_to i) (stays_to (i + 1)) old (λ n m.
        elim (cases_eq n i) [
          | inl e ↦ (
              let P : ℕ → Type 0 = λ z. Mem z old in
              let Q : ℕ → Type 0 = λ z. stays_to i z ≡ stays_to (i + 1) z in
              let high : stays_to i i ≡ true = stays_high i i (omega arith) in
              subst Q (sym e) (high
              ∙ sym (stays_low (i + 1) i (omega arith) ∙ there (mem_filter (stays_to i) old i (subst P e m) high)))
              )
          | inr d ↦ stays_next i n d
        ])

    -- the node i holds nothing
    pub stays_not : (i : ℕ)
        → is_some (at i) ≡ false → without i (filter (stays_to i) old) ≡ filter (stays_to (i + 1)) old
    stays_not i none =
        filter_filter (λ n. not (eqb n i)) (stays_to i) (stays_to (i + 1)) old (λ n m.
        elim (cases_eq n i) [
          | inl e ↦ (
              let Q : ℕ → Type 0 = λ z. (stays_to i z && not (eqb z i)) ≡ stays_to (i + 1) z in
              let here : not (eqb i i) ≡ false = ap not (eq-eqb i i refl) in
              subst Q (sym e) (ap (λ (b : Bool). b && not (eqb i i)) (stays_high i i (omega arith))
              ∙ (here ∙ sym (stays_low (i + 1) i (omega arith) ∙ none)))
              )
          | inr d ↦
              ap (λ (b : Bool). stays_to i n && not b) (ne_eqb n i d) ∙ (and_true (stays_to i n) ∙ stays_next i n d)
        ])
