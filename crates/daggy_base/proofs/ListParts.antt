-- What passes a test, and parts of a list.
use Rattle.std.proofs.Common.{◌≡◌, ℕ, ◌+◌, ◌-◌, ◌<◌, ◌≤◌, Bool, true, false, not, List, ◌∷◌, ◌++◌, length, get_or, take}
use Rattle.std.proofs.Common.{drop, sym, ap, subst, ◌∙◌, arith, eqb, append_assoc}
use Rattle.std.specs.List.{filter}
use Rattle.std.proofs.lemmas.List.{take-append-drop, take-take, length-take, length-drop, get_or-drop, get_or-take}
use Rattle.std.proofs.lemmas.Bool.{false≢true, eq-eqb, ne_eqb, cond-true, cond-false}
use Rattle.daggy_base.proofs.Lists.{Mem, mem_at}

pub filter_yes : (p : ℕ → Bool) (x : ℕ) (xs : List ℕ) → p x ≡ true → filter p (x ∷ xs) ≡ x ∷ filter p xs
filter_yes p x xs t = cond-true (p x) (x ∷ filter p xs) (filter p xs) t

pub filter_no : (p : ℕ → Bool) (x : ℕ) (xs : List ℕ) → p x ≡ false → filter p (x ∷ xs) ≡ filter p xs
filter_no p x xs f = cond-false (p x) (x ∷ filter p xs) (filter p xs) f

-- a list in three parts
pub split_three : (xs : List ℕ) (i j : ℕ) → i ≤ j → xs ≡ take i xs ++ (drop i (take j xs) ++ drop j xs)
split_three xs i j h =
    let front : take i xs ++ drop i (take j xs) ≡ take j xs =
    ap (λ (z : List ℕ). z ++ drop i (take j xs)) (sym (take-take i j xs h)) ∙ take-append-drop i (take j xs) in
    sym (sym (append_assoc (take i xs) (drop i (take j xs)) (drop j xs))
    ∙ (ap (λ (z : List ℕ). z ++ drop j xs) front ∙ take-append-drop j xs))

-- a stretch, by index
pub in_stretch : (xs : List ℕ) (i j k : ℕ) → i ≤ k → k < j → k < length xs → Mem (get_or xs k 0) (drop i (take j xs))
in_stretch xs i j k above below within =
    let n : ℕ = k - i in
    let sum : i + n ≡ k = omega arith in
    let short : n < length (drop i (take j xs)) = omega (arith, length-drop i (take j xs), length-take j xs) in
    let is : get_or (drop i (take j xs)) n 0 ≡ get_or xs k 0 =
    get_or-drop i (take j xs) n 0 ∙ (ap (λ z. get_or (take j xs) z 0) sum ∙ get_or-take j xs k 0 below) in
    let P : ℕ → Type 0 = λ z. Mem z (drop i (take j xs)) in
    subst P is (mem_at (drop i (take j xs)) n 0 short)

-- the test of a list without an element
pub is_held : (end n : ℕ) → (n ≡ end → ⊥) → not (eqb n end) ≡ true
is_held end n d = ap not (ne_eqb n end d)

pub held_is : (end n : ℕ) → not (eqb n end) ≡ true → n ≡ end → ⊥
held_is end n h e = false≢true (sym (ap not (eq-eqb n end e)) ∙ h)
