-- A list of numbers, and those of another that are not in it.
use Rattle.std.proofs.Common.{◌≡◌, ℕ, inl, inr, Option, Some, None, List, [], ◌∷◌, ◌++◌, refl, sym}
use Rattle.std.proofs.Common.{ap, subst, ◌∙◌, append_assoc}
use Rattle.std.proofs.lemmas.List.{append-nil}
use Rattle.std.proofs.lemmas.Bool.{cond-true, cond-false}
use Rattle.daggy_base.proofs.Lists.{Mem, Unique, mem_left, mem_mid, unique_mid}
use Rattle.daggy_traversal.specs.Traversal.{is_among, first_new}
use Rattle.daggy_traversal.specs.Breadth.{fresh}
use Rattle.daggy_traversal.proofs.Members.{mem_among, not_among, mem_or_not}

-- a list, and then what is new in another
abbrev pub with_fresh : (old xs : List ℕ) → List ℕ
with_fresh old xs = old ++ fresh old xs

pub fresh_met : (old xs : List ℕ) (x : ℕ) → Mem x old → fresh old (x ∷ xs) ≡ fresh old xs
fresh_met old xs x m =
    cond-true {A = List ℕ} (is_among old x) (fresh old xs) (x ∷ fresh (old ++ x ∷ []) xs) (mem_among old x m)

pub fresh_unmet : (old xs : List ℕ) (x : ℕ) → (Mem x old → ⊥) → fresh old (x ∷ xs) ≡ x ∷ fresh (old ++ x ∷ []) xs
fresh_unmet old xs x none =
    cond-false {A = List ℕ} (is_among old x) (fresh old xs) (x ∷ fresh (old ++ x ∷ []) xs) (not_among old x none)

pub met_already : (old xs : List ℕ) (x : ℕ) → Mem x old → with_fresh old (x ∷ xs) ≡ with_fresh old xs
met_already old xs x m = ap (λ z. old ++ z) (fresh_met old xs x m)

pub met_now : (old xs : List ℕ) (x : ℕ) → (Mem x old → ⊥) → with_fresh old (x ∷ xs) ≡ with_fresh (old ++ x ∷ []) xs
met_now old xs x none =
    ap (λ z. old ++ z) (fresh_unmet old xs x none) ∙ sym (append_assoc old (x ∷ []) (fresh (old ++ x ∷ []) xs))

pub fresh_append : (old xs ys : List ℕ) → with_fresh old (xs ++ ys) ≡ with_fresh (with_fresh old xs) ys
fresh_append old [] ys = ap (λ z. with_fresh z ys) (sym (append-nil old))
fresh_append old (x ∷ xs) ys =
    elim (mem_or_not old x) [
      | inl m ↦
          met_already old (xs ++ ys) x m ∙ fresh_append old xs ys
          ∙ ap (λ z. with_fresh z ys) (sym (met_already old xs x m))
      | inr none ↦
          met_now old (xs ++ ys) x none ∙ fresh_append (old ++ x ∷ []) xs ys
          ∙ ap (λ z. with_fresh z ys) (sym (met_now old xs x none))
    ]

unique_more : (old : List ℕ) (x : ℕ) → Unique old → (Mem x old → ⊥) → Unique (old ++ x ∷ [])
unique_more old x u none =
    let P : List ℕ → Type 0 = λ z. Unique z in
    let Q : List ℕ → Type 0 = λ z. Mem x z → ⊥ in
    unique_mid old [] x (subst P (sym (append-nil old)) u) (subst Q (sym (append-nil old)) none)

pub fresh_once : (old xs : List ℕ) → Unique old → Unique (with_fresh old xs)
fresh_once old [] u = let P : List ℕ → Type 0 = λ z. Unique z in subst P (sym (append-nil old)) u
fresh_once old (x ∷ xs) u =
    let P : List ℕ → Type 0 = λ z. Unique z in
    elim (mem_or_not old x) [
      | inl m ↦ subst P (sym (met_already old xs x m)) (fresh_once old xs u)
      | inr none ↦ subst P (sym (met_now old xs x none)) (fresh_once (old ++ x ∷ []) xs (unique_more old x u none))
    ]

pub fresh_has : (old xs : List ℕ) (x : ℕ) → Mem x xs → Mem x (with_fresh old xs)
fresh_has old [] x m = absurd m
fresh_has old (y ∷ ys) x m =
    let P : List ℕ → Type 0 = λ z. Mem x z in
    elim (mem_or_not old y) [
      | inl met ↦ subst P (sym (met_already old ys y met)) (elim m [
        | inl same ↦ (let Q : ℕ → Type 0 = λ z. Mem z old in mem_left old (fresh old ys) x (subst Q (sym same) met))
        | inr there ↦ fresh_has old ys x there
      ])
      | inr none ↦ subst P (sym (met_now old ys y none)) (elim m [
        | inl same ↦ (let Q : ℕ → Type 0 = λ z. Mem z (old ++ y ∷ []) in
            mem_left (old ++ y ∷ []) (fresh (old ++ y ∷ []) ys) x (subst Q (sym same) (mem_mid old [] y)))
        | inr there ↦ fresh_has (old ++ y ∷ []) ys x there
      ])
    ]

-- what is new is in the other list, and not in the first
pub fresh_only : (old xs : List ℕ) (x : ℕ) → Mem x (fresh old xs) → Mem x xs × (Mem x old → ⊥)
fresh_only old [] x m = absurd m
fresh_only old (y ∷ ys) x m =
    let P : List ℕ → Type 0 = λ z. Mem x z in
    elim (mem_or_not old y) [
      | inl met ↦ (let r = fresh_only old ys x (subst P (fresh_met old ys y met) m) in (inr r.0, r.1))
      | inr none ↦ elim (subst P (fresh_unmet old ys y none) m) [
        | inl same ↦ (
          inl same,
          let Q : ℕ → Type 0 = λ z. Mem z old → ⊥ in subst Q (sym same) none,
        )
        | inr there ↦ (
            let r = fresh_only (old ++ y ∷ []) ys x there in
            (inr r.0, λ o. r.1 (mem_left old (y ∷ []) x o))
            )
      ]
    ]

-- the first of a list
abbrev pub first_in : List ℕ → Option ℕ
first_in [] = None
first_in (x ∷ xs) = Some x

pub new_met : (old xs : List ℕ) (x : ℕ) → Mem x old → first_new old (x ∷ xs) ≡ first_new old xs
new_met old xs x m = cond-true {A = Option ℕ} (is_among old x) (first_new old xs) (Some x) (mem_among old x m)

pub new_unmet : (old xs : List ℕ) (x : ℕ) → (Mem x old → ⊥) → first_new old (x ∷ xs) ≡ Some x
new_unmet old xs x none = cond-false {A = Option ℕ} (is_among old x) (first_new old xs) (Some x) (not_among old x none)

-- the first that is not among the given ones waits first
pub next_waits : (acc more waiting xs : List ℕ)
    → more ++ waiting ≡ fresh acc xs → first_new (acc ++ more) xs ≡ first_in waiting
next_waits acc [] [] [] h = refl
next_waits acc [] (w ∷ ws) [] h = cc
next_waits acc (m ∷ more) waiting [] h = cc
next_waits acc more waiting (x ∷ xs) h =
    elim (mem_or_not acc x) [
      | inl m ↦
          new_met (acc ++ more) xs x (mem_left acc more x m)
          ∙ next_waits acc more waiting xs (h ∙ fresh_met acc xs x m)
      | inr none ↦ by_more more waiting none (λ rest tail. next_waits (acc ++ x ∷ []) rest waiting xs tail)
          (h ∙ fresh_unmet acc xs x none)
    ]
  where
    by_more : (more waiting : List ℕ) → (Mem x acc → ⊥)
        → ((rest : List ℕ) → rest ++ waiting ≡ fresh (acc ++ x ∷ []) xs
        → first_new ((acc ++ x ∷ []) ++ rest) xs ≡ first_in waiting)
        → more ++ waiting ≡ x ∷ fresh (acc ++ x ∷ []) xs → first_new (acc ++ more) (x ∷ xs) ≡ first_in waiting
    by_more [] waiting none later is =
        let P : List ℕ → Type 0 = λ z. Mem x z → ⊥ in
        new_unmet (acc ++ []) xs x (subst P (sym (append-nil acc)) none) ∙ sym (ap first_in is)
    by_more (y ∷ rest) waiting none later is =
        let same : y ≡ x = cc in
        let tail : rest ++ waiting ≡ fresh (acc ++ x ∷ []) xs = cc in
        let at : acc ++ y ∷ rest ≡ (acc ++ x ∷ []) ++ rest =
        ap (λ z. acc ++ z ∷ rest) same ∙ sym (append_assoc acc (x ∷ []) rest) in
        let P : List ℕ → Type 0 = λ z. Mem x z in
        new_met (acc ++ y ∷ rest) xs x
        (subst P (sym at) (mem_left (acc ++ x ∷ []) rest x (mem_mid acc [] x)))
        ∙ (ap (λ z. first_new z xs) at ∙ later rest tail)
