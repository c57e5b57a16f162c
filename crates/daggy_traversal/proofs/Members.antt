-- The members of a list, by a test and by a fact.
use Rattle.std.proofs.Common.{◌≡◌, ℕ, Bool, true, false, ◌||◌, ◌⊎◌, inl, inr, List, [], ◌∷◌, eqb, refl, sym, ap, ◌∙◌}
use Rattle.std.proofs.Common.{◌++◌, ◌&&◌, not, subst, append_assoc}
use Rattle.std.proofs.Common.{map}
use Rattle.std.proofs.lemmas.Bool.{eq-eqb, eqb-true, false≢true}
use Rattle.daggy_base.proofs.Lists.{Mem, Unique, mem_left, mem_right, mem_cases, mem_mid, unique_mid}
use Rattle.daggy_traversal.specs.Traversal.{is_among, are_distinct}

either : (a b : Bool) → (a || b) ≡ true → (a ≡ true) ⊎ (b ≡ true)
either true b h = inl refl
either false b h = inr h

or_true : (a : Bool) → (a || true) ≡ true
or_true true = refl
or_true false = refl

pub among_mem : (xs : List ℕ) (x : ℕ) → is_among xs x ≡ true → Mem x xs
among_mem [] x h = absurd (false≢true h)
among_mem (y ∷ ys) x h =
    elim (either (eqb y x) (is_among ys x) h) [
      | inl here ↦ inl (sym (eqb-true y x here))
      | inr there ↦ inr (among_mem ys x there)
    ]

pub mem_among : (xs : List ℕ) (x : ℕ) → Mem x xs → is_among xs x ≡ true
mem_among [] x m = absurd m
mem_among (y ∷ ys) x m =
    elim m [
      | inl same ↦ ap (λ b. b || is_among ys x) (eq-eqb y x (sym same))
      | inr there ↦ ap (λ b. eqb y x || b) (mem_among ys x there) ∙ or_true (eqb y x)
    ]

pub not_among : (xs : List ℕ) (x : ℕ) → (Mem x xs → ⊥) → is_among xs x ≡ false
not_among xs x none = by_test (is_among xs x) refl
  where
    by_test : (b : Bool) → is_among xs x ≡ b → is_among xs x ≡ false
    by_test true h = absurd (none (among_mem xs x h))
    by_test false h = h

pub mem_or_not : (xs : List ℕ) (x : ℕ) → Mem x xs ⊎ (Mem x xs → ⊥)
mem_or_not xs x = by_test (is_among xs x) refl
  where
    by_test : (b : Bool) → is_among xs x ≡ b → Mem x xs ⊎ (Mem x xs → ⊥)
    by_test true h = inl (among_mem xs x h)
    by_test false h = inr (λ m. false≢true (sym h ∙ mem_among xs x m))

pub mem_map : (f : ℕ → ℕ) (xs : List ℕ) (x : ℕ) → Mem x xs → Mem (f x) (map f xs)
mem_map f [] x m = absurd m
mem_map f (y ∷ ys) x m = elim m [ inl same ↦ inl (ap f same) | inr there ↦ inr (mem_map f ys x there) ]

pub mem_of_map : (f : ℕ → ℕ) (xs : List ℕ) (z : ℕ) → Mem z (map f xs) → (x : ℕ) × Mem x xs × (f x ≡ z)
mem_of_map f [] z m = absurd m
mem_of_map f (y ∷ ys) z m =
    elim m [
      | inl same ↦ (y, inl refl, sym same)
      | inr there ↦ let p = mem_of_map f ys z there in (p.0, inr p.1, p.2)
    ]

both : (a b : Bool) → (a && b) ≡ true → (a ≡ true) × (b ≡ true)
both true b h = (refl, h)
both false b h = absurd (false≢true h)

pub and_left : (a b : Bool) → (a && b) ≡ true → a ≡ true
and_left a b h = (both a b h).0

pub and_right : (a b : Bool) → (a && b) ≡ true → b ≡ true
and_right a b h = (both a b h).1

pub and_both : (a b : Bool) → a ≡ true → b ≡ true → (a && b) ≡ true
and_both true b x y = y
and_both false b x y = absurd (false≢true x)

pub distinct_unique : (xs : List ℕ) → are_distinct xs ≡ true → Unique xs
distinct_unique [] h = tt
distinct_unique (x ∷ xs) h = (
  λ m. false≢true (ap not (sym (mem_among xs x m)) ∙ and_left (not (is_among xs x)) (are_distinct xs) h),
  distinct_unique xs (and_right (not (is_among xs x)) (are_distinct xs) h),
)

pub unique_distinct : (xs : List ℕ) → Unique xs → are_distinct xs ≡ true
unique_distinct [] u = refl
unique_distinct (x ∷ xs) u =
    and_both (not (is_among xs x)) (are_distinct xs) (ap not (not_among xs x u.0)) (unique_distinct xs u.1)

-- a number from the end of one list moved to the end of another
pub turned : (xs ys : List ℕ) (n x : ℕ) → Mem x (xs ++ (ys ++ n ∷ [])) → Mem x ((xs ++ n ∷ []) ++ ys)
turned xs ys n x m =
    let P : List ℕ → Type 0 = λ z. Mem x z in
    subst P (sym (append_assoc xs (n ∷ []) ys)) (elim (mem_cases xs (ys ++ n ∷ []) x m) [
      | inl a ↦ mem_left xs (n ∷ ys) x a
      | inr b ↦ mem_right xs (n ∷ ys) x (elim (mem_cases ys (n ∷ []) x b) [
        | inl there ↦ inr there
        | inr last ↦ elim last [ inl same ↦ inl same | inr none ↦ absurd none ]
      ])
    ])

pub turned_back : (xs ys : List ℕ) (n x : ℕ) → Mem x ((xs ++ n ∷ []) ++ ys) → Mem x (xs ++ (ys ++ n ∷ []))
turned_back xs ys n x m =
    let P : List ℕ → Type 0 = λ z. Mem x z in
    elim (mem_cases xs (n ∷ ys) x (subst P (append_assoc xs (n ∷ []) ys) m)) [
      | inl a ↦ mem_left xs (ys ++ n ∷ []) x a
      | inr b ↦ mem_right xs (ys ++ n ∷ []) x (elim b [
        | inl same ↦ (let Q : ℕ → Type 0 = λ z. Mem z (ys ++ n ∷ []) in subst Q (sym same) (mem_mid ys [] n))
        | inr there ↦ mem_left ys (n ∷ []) x there
      ])
    ]

pub turned_once : (xs ys : List ℕ) (n : ℕ) → Unique (xs ++ (ys ++ n ∷ [])) → Unique ((xs ++ n ∷ []) ++ ys)
turned_once xs ys n u =
    let P : List ℕ → Type 0 = λ z. Unique z in
    let parts = front (xs ++ ys) (subst P (sym (append_assoc xs ys (n ∷ []))) u) in
    subst P (sym (append_assoc xs (n ∷ []) ys)) (unique_mid xs ys n parts.0 parts.1)
  where
    front : (zs : List ℕ) → Unique (zs ++ n ∷ []) → Unique zs × (Mem n zs → ⊥)
    front [] v = (tt, λ m. m)
    front (x ∷ zs) v =
        let r = front zs v.1 in (
          (λ m. v.0 (mem_left zs (n ∷ []) x m), r.0),
          λ m. elim m [
            | inl same ↦ v.0 (let Q : ℕ → Type 0 = λ z. Mem z (zs ++ n ∷ []) in subst Q same (mem_mid zs [] n))
            | inr there ↦ r.1 there
          ],
        )

-- what is at the end of a list without repetition is not before it
pub not_before : (xs ys : List ℕ) (n : ℕ) → Unique ((xs ++ n ∷ []) ++ ys) → Mem n xs → ⊥
not_before [] ys n u m = m
not_before (x ∷ xs) ys n u m =
    elim m [
      | inl same ↦ u.0 (let P : ℕ → Type 0 = λ z. Mem z ((xs ++ n ∷ []) ++ ys) in
          subst P same (mem_left (xs ++ n ∷ []) ys n (mem_mid xs [] n)))
      | inr there ↦ not_before xs ys n u.1 there
    ]

pub not_both : (xs ys : List ℕ) (x : ℕ) → Unique (xs ++ ys) → Mem x xs → Mem x ys → ⊥
not_both [] ys x u m n = m
not_both (y ∷ xs) ys x u m n =
    elim m [
      | inl same ↦ u.0 (mem_right xs ys y (let P : ℕ → Type 0 = λ z. Mem z ys in subst P same n))
      | inr there ↦ not_both xs ys x u.1 there n
    ]
