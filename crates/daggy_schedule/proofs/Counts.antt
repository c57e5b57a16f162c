-- How many members of a list pass a test.
use Rattle.std.proofs.Common.{◌≡◌, ◌≢◌, ℕ, suc, ◌+◌, ◌<◌, Bool, true, false, cond, inl, inr, List, []}
use Rattle.std.proofs.Common.{◌∷◌, ◌++◌, length, refl, sym, ap, subst, ◌∙◌, arith}
use Rattle.std.proofs.Common.{eqb, ◌-◌, ◌≤◌, map}
use Rattle.std.specs.List.{count_by}
use Rattle.std.proofs.lemmas.List.Sums.{sum_by-cons}
use Rattle.std.proofs.lemmas.Bool.{eq-eqb, ne_eqb, cond-true, cond-false}
use Rattle.std.proofs.lemmas.List.{length-append}
use Rattle.daggy_base.specs.Cursor.{first_of, after}
use Rattle.daggy_base.specs.Ordered.{place}
use Rattle.daggy_base.proofs.Lists.{Mem, Unique, mem_mid, unique_right}
use Rattle.daggy_base.proofs.Sorted.{place_same, place_other, place_right, unique_cross}
use Rattle.std.proofs.lemmas.Bool.Decides.{nat_tests}
use Rattle.std.specs.Bool.{if◌then◌else◌}
use Rattle.daggy_schedule.specs.Queue.{count_of}

abbrev one : Bool → ℕ
one b = if b then 1 else 0

pub count_same : (p q : ℕ → Bool) (xs : List ℕ) → ((k : ℕ) → Mem k xs → q k ≡ p k) → count_of q xs ≡ count_of p xs
count_same p q [] h = refl
count_same p q (x ∷ xs) h =
    let here : one (q x) ≡ one (p x) = ap one (h x (inl refl)) in
    let rest = count_same p q xs (λ k m. h k (inr m)) in
    omega (arith, here, rest)

pub count_falls : (p q : ℕ → Bool) (e : ℕ) (xs : List ℕ) → Unique xs → Mem e xs → p e ≡ true → q e ≡ false
    → ((k : ℕ) → k ≢ e → q k ≡ p k) → count_of p xs ≡ suc (count_of q xs)
count_falls p q e [] u m yes_p no_q other = absurd m
count_falls p q e (x ∷ xs) u m yes_p no_q other =
    elim m [
      | inl same ↦ (
          let a : one (p x) ≡ 1 = ap (λ z. one (p z)) (sym same) ∙ ap one yes_p in
          let b : one (q x) ≡ 0 = ap (λ z. one (q z)) (sym same) ∙ ap one no_q in
          let rest = count_same p q xs (λ k n. other k (λ is.
          u.0 (let P : ℕ → Type 0 = λ z. Mem z xs in subst P (is ∙ same) n))) in
          omega (arith, a, b, rest)
          )
      | inr b ↦ (
          let ne : x ≢ e = λ is. u.0 (let P : ℕ → Type 0 = λ z. Mem z xs in subst P (sym is) b) in
          let here : one (q x) ≡ one (p x) = ap one (other x ne) in
          let rest = count_falls p q e xs u.1 b yes_p no_q other in
          omega (arith, here, rest)
          )
    ]

pub count_zero : (p : ℕ → Bool) (xs : List ℕ) → count_of p xs ≡ 0 → (k : ℕ) → Mem k xs → p k ≡ false
count_zero p [] z k m = absurd m
count_zero p (x ∷ xs) z k m =
    elim m [
      | inl same ↦ ap p same ∙ none (p x) (omega (arith, z))
      | inr b ↦ count_zero p xs (omega (arith, z)) k b
    ]
  where
    none : (b : Bool) → one b ≡ 0 → b ≡ false
    none true h = absurd (omega (arith, h))
    none false h = refl

pub count_none : (p : ℕ → Bool) (xs : List ℕ) → ((k : ℕ) → Mem k xs → p k ≡ false) → count_of p xs ≡ 0
count_none p [] h = refl
count_none p (x ∷ xs) h =
    let here : one (p x) ≡ 0 = ap one (h x (inl refl)) in
    omega (arith, here, count_none p xs (λ k m. h k (inr m)))

pub count_all : (p : ℕ → Bool) (xs : List ℕ) → ((k : ℕ) → Mem k xs → p k ≡ true) → count_of p xs ≡ length xs
count_all p [] h = refl
count_all p (x ∷ xs) h =
    let here : one (p x) ≡ 1 = ap one (h x (inl refl)) in
    omega (arith, here, count_all p xs (λ k m. h k (inr m)))

-- what follows an edge of a list
pub after_split : (end : ℕ) (ds : List ℕ) (e : ℕ) (es : List ℕ) → Unique (ds ++ e ∷ es)
    → after end (ds ++ e ∷ es) e ≡ first_of end es
after_split end [] e es u = grind (arith, nat_tests)
after_split end (x ∷ ds) e es u =
    let ne : x ≢ e = λ is. u.0 (let P : ℕ → Type 0 = λ z. Mem z (ds ++ e ∷ es) in subst P (sym is) (mem_mid ds es e)) in
    let next = after_split end ds e es u.1 in
    grind (arith, nat_tests)

pub place_split : (ds : List ℕ) (e : ℕ) (es : List ℕ) → Unique (ds ++ e ∷ es)
    → place (ds ++ e ∷ es) e ≡ length ds
place_split ds e es u =
    omega (
      arith,
      place_right ds (e ∷ es) e (λ m. unique_cross ds (e ∷ es) u e m (inl refl)),
      place_same e e es refl,
    )

pub place_none : (xs : List ℕ) (n : ℕ) → (Mem n xs → ⊥) → place xs n ≡ length xs
place_none [] n h = refl
place_none (x ∷ xs) n h =
    omega (arith, place_other x n xs (λ e. h (inl (sym e))), place_none xs n (λ m. h (inr m)))

-- a test that one number more fails
abbrev pub less : (ℕ → Bool) → ℕ → ℕ → Bool
less p e k = cond (eqb k e) false (p k)

pub less_same : (p : ℕ → Bool) (e k : ℕ) → k ≡ e → less p e k ≡ false
less_same p e k h = cond-true {A = Bool} (eqb k e) false (p k) (eq-eqb k e h)

pub less_other : (p : ℕ → Bool) (e k : ℕ) → k ≢ e → less p e k ≡ p k
less_other p e k h = cond-false {A = Bool} (eqb k e) false (p k) (ne_eqb k e h)

-- the list that is left is shorter at the next
pub next_closer : (end : ℕ) (ds : List ℕ) (e : ℕ) (es : List ℕ) (next : ℕ) → Unique (ds ++ e ∷ es)
    → (Mem end (ds ++ e ∷ es) → ⊥) → next ≡ first_of end es
    → length (ds ++ e ∷ es) - place (ds ++ e ∷ es) next < length (ds ++ e ∷ es) - place (ds ++ e ∷ es) e
next_closer end ds e [] next u absent is =
    let all = ds ++ e ∷ [] in
    let there : place all next ≡ length all = ap (λ z. place all z) is ∙ place_none all end absent in
    omega (arith, there, place_split ds e [] u, length-append ds (e ∷ []))
next_closer end ds e (y ∷ ys) next u absent is =
    let all = ds ++ e ∷ y ∷ ys in
    let ne : e ≢ y = λ same. (unique_right ds (e ∷ y ∷ ys) u).0 (inl same) in
    let there : place all next ≡ length ds + 1 =
    ap (λ z. place all z) is
    ∙ (place_right ds (e ∷ y ∷ ys) y (λ m. unique_cross ds (e ∷ y ∷ ys) u y m (inr (inl refl)))
    ∙ ap (λ z. length ds + z) (place_other e y (y ∷ ys) ne ∙ ap suc (place_same y y ys refl))) in
    omega (arith, there, place_split ds e (y ∷ ys) u, length-append ds (e ∷ y ∷ ys))

pub count_map : (p : ℕ → Bool) (f : ℕ → ℕ) (xs : List ℕ) → count_of p (map f xs) ≡ count_of (λ k. p (f k)) xs
count_map p f [] = refl
count_map p f (x ∷ xs) = ap (λ k. one (p (f x)) + k) (count_map p f xs)

pub count_is : (p : ℕ → Bool) (xs : List ℕ) → count_by p xs ≡ count_of p xs
count_is p [] = refl
count_is p (x ∷ xs) = sum_by-cons (λ k. cond (p k) 1 0) x xs ∙ ap (λ k. one (p x) + k) (count_is p xs)

-- one more of a list passes
pub count_rises : (p q : ℕ → Bool) (e : ℕ) (xs : List ℕ) → Unique xs → Mem e xs → p e ≡ false → q e ≡ true
    → ((k : ℕ) → k ≢ e → q k ≡ p k) → count_of q xs ≡ suc (count_of p xs)
count_rises p q e xs u m no_p yes_q other = count_falls q p e xs u m yes_q no_p (λ k d. sym (other k d))

pub count_most : (p : ℕ → Bool) (xs : List ℕ) → count_of p xs ≤ length xs
count_most p [] = omega arith
count_most p (x ∷ xs) = omega (arith, at_most (p x), count_most p xs)
  where
    at_most : (b : Bool) → one b ≤ 1
    at_most true = omega arith
    at_most false = omega arith

pub count_full : (p : ℕ → Bool) (xs : List ℕ) → count_of p xs ≡ length xs → (k : ℕ) → Mem k xs → p k ≡ true
count_full p [] h k m = absurd m
count_full p (x ∷ xs) h k m =
    elim m [
      | inl same ↦ ap p same ∙ yes_here (p x) (omega (arith, h, count_most p xs))
      | inr b ↦ count_full p xs (omega (arith, h, at_most (p x), count_most p xs)) k b
    ]
  where
    yes_here : (b : Bool) → 1 ≤ one b → b ≡ true
    yes_here true h = refl
    yes_here false h = absurd (omega (arith, h))

    at_most : (b : Bool) → one b ≤ 1
    at_most true = omega arith
    at_most false = omega arith

pub count_append : (p : ℕ → Bool) (xs ys : List ℕ) → count_of p (xs ++ ys) ≡ count_of p xs + count_of p ys
count_append p [] ys = omega arith
count_append p (x ∷ xs) ys = omega (arith, count_append p xs ys)
