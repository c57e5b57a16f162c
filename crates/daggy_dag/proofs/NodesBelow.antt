-- The nodes below a number, listed in turn.
use Rattle.std.proofs.Common.{◌≡◌, ℕ, ◌+◌, ◌<◌, inl, inr, List, [], ◌∷◌, ◌++◌, map, sym, ap, subst, ◌∙◌, arith}
use Rattle.std.proofs.Common.{Contains}
use Rattle.std.proofs.lemmas.List.{map-append}
use Rattle.std.proofs.lemmas.Bool.{cases_lt}
use Rattle.daggy_base.proofs.Lists.{mem_left, mem_right, mem_contains, contains_mem}

pub nodes_more : {A : Type 0} (number : A → ℕ) (items : List A) {new : List A} {n : ℕ} (x : A)
    → new ≡ items ++ x ∷ [] → number x ≡ n → ((m : ℕ) → m < n → Contains (map number items) m) → (m : ℕ) → m < n + 1
    → Contains (map number new) m
nodes_more number items {new} {n} x is last before m low =
    let all : map number new ≡ map number items ++ number x ∷ [] =
    ap (map number) is ∙ map-append number items (x ∷ []) in
    let P : List ℕ → Type 0 = λ z. Contains z m in
    subst P (sym all) (mem_contains (map number items ++ number x ∷ []) m (elim (cases_lt m n) [
      | inl early ↦ mem_left (map number items) (number x ∷ []) m (contains_mem (map number items) m (before m early))
      | inr late ↦ mem_right (map number items) (number x ∷ []) m (inl (omega (arith, low, late, last)))
    ]))
