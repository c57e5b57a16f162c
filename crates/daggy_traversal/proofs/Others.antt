-- The numbers of a list that are not among others.
use Rattle.std.proofs.Common.{◌≡◌, ℕ, not, Some, None, inl, inr, List, [], ◌∷◌, ◌++◌, refl, sym, ap, subst, ◌∙◌}
use Rattle.std.proofs.lemmas.Bool.{cond-true, cond-false}
use Rattle.std.proofs.lemmas.List.Elements.{filter-append}
use Rattle.daggy_base.proofs.Lists.{Mem, mem_left, mem_right, mem_cases}
use Rattle.daggy_traversal.specs.Traversal.{is_among, without_old, first_new}
use Rattle.daggy_traversal.proofs.Members.{mem_among, not_among, mem_or_not}
use Rattle.daggy_traversal.proofs.Fresh.{first_in, new_met, new_unmet}

pub others_old : (old xs : List ℕ) (x : ℕ) → Mem x old → without_old old (x ∷ xs) ≡ without_old old xs
others_old old xs x m =
    cond-false {A = List ℕ} (not (is_among old x)) (x ∷ without_old old xs) (without_old old xs)
    (ap not (mem_among old x m))

pub others_new : (old xs : List ℕ) (x : ℕ) → (Mem x old → ⊥) → without_old old (x ∷ xs) ≡ x ∷ without_old old xs
others_new old xs x none =
    cond-true {A = List ℕ} (not (is_among old x)) (x ∷ without_old old xs) (without_old old xs)
    (ap not (not_among old x none))

pub others_append : (old xs ys : List ℕ) → without_old old (xs ++ ys) ≡ without_old old xs ++ without_old old ys
others_append old xs ys = filter-append (λ x. not (is_among old x)) xs ys

pub others_first : (old xs : List ℕ) → first_new old xs ≡ first_in (without_old old xs)
others_first old [] = refl
others_first old (x ∷ xs) =
    elim (mem_or_not old x) [
      | inl m ↦ new_met old xs x m ∙ (others_first old xs ∙ sym (ap first_in (others_old old xs x m)))
      | inr none ↦ new_unmet old xs x none ∙ sym (ap first_in (others_new old xs x none))
    ]

pub others_more : (old more xs : List ℕ) → without_old (old ++ more) xs ≡ without_old more (without_old old xs)
others_more old more [] = refl
others_more old more (x ∷ xs) =
    elim (mem_or_not old x) [
      | inl m ↦
          others_old (old ++ more) xs x (mem_left old more x m)
          ∙ (others_more old more xs ∙ sym (ap (λ z. without_old more z) (others_old old xs x m)))
      | inr none ↦ elim (mem_or_not more x) [
        | inl m ↦
            others_old (old ++ more) xs x (mem_right old more x m)
            ∙ (others_more old more xs
            ∙ sym (ap (λ z. without_old more z) (others_new old xs x none)
            ∙ others_old more (without_old old xs) x m))
        | inr out ↦
            others_new (old ++ more) xs x (λ m. elim (mem_cases old more x m) [ inl a ↦ none a | inr b ↦ out b ])
            ∙ (ap (λ z. x ∷ z) (others_more old more xs)
            ∙ sym (ap (λ z. without_old more z) (others_new old xs x none)
            ∙ others_new more (without_old old xs) x out))
      ]
    ]

-- what agrees but for old numbers agrees but for more of them
pub others_still : (old more xs ys : List ℕ)
    → without_old old xs ≡ without_old old ys → without_old (old ++ more) xs ≡ without_old (old ++ more) ys
others_still old more xs ys same =
    others_more old more xs ∙ (ap (λ z. without_old more z) same ∙ sym (others_more old more ys))

-- the first that is new is in the list, and there is none if all are old
pub new_is : (old xs : List ℕ) (n : ℕ) → first_new old xs ≡ Some n → Mem n xs × (Mem n old → ⊥)
new_is old [] n is = cc
new_is old (x ∷ xs) n is =
    elim (mem_or_not old x) [
      | inl m ↦ (let r = new_is old xs n (sym (new_met old xs x m) ∙ is) in (inr r.0, r.1))
      | inr none ↦ (
          let found : Some x ≡ Some n = sym (new_unmet old xs x none) ∙ is in
          let same : x ≡ n = cc in
          let P : ℕ → Type 0 = λ z. Mem z old → ⊥ in
          (inl (sym same), subst P same none)
          )
    ]

pub none_new : (old xs : List ℕ) (x : ℕ) → first_new old xs ≡ None → Mem x xs → Mem x old
none_new old [] x none m = absurd m
none_new old (y ∷ ys) x none m =
    elim (mem_or_not old y) [
      | inl met ↦ elim m [
        | inl same ↦ (let P : ℕ → Type 0 = λ z. Mem z old in subst P (sym same) met)
        | inr there ↦ none_new old ys x (sym (new_met old ys y met) ∙ none) there
      ]
      | inr new ↦ (let found : Some y ≡ None = sym (new_unmet old ys y new) ∙ none in cc)
    ]

-- the first of those that are not old is not old
pub first_not_old : (old xs : List ℕ) {v : ℕ} {rest : List ℕ} → without_old old xs ≡ v ∷ rest → Mem v old → ⊥
first_not_old old [] h m = cc
first_not_old old (x ∷ xs) {v} {rest} h m =
    elim (mem_or_not old x) [
      | inl o ↦ first_not_old old xs (sym (others_old old xs x o) ∙ h) m
      | inr none ↦ (
          let heads : x ∷ without_old old xs ≡ v ∷ rest = sym (others_new old xs x none) ∙ h in
          let same : x ≡ v = cc in
          none (let P : ℕ → Type 0 = λ z. Mem z old in subst P (sym same) m)
          )
    ]
