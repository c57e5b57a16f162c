-- The edges that enter a node, listed and sorted by their indices.
use Rattle.std.proofs.Common.{◌≡◌, ℕ, suc, ◌≤◌, ◌↔◌, inl, inr, List, [], ◌∷◌, map, Some, arith}
use Rattle.std.proofs.Common.{sym, subst, Contains}
use Rattle.std.specs.List.Sorted.{IsPermutation, IsNonDecreasingBy}
use Rattle.std.proofs.lemmas.Bool.{cases_eq}
use Rattle.std.proofs.lemmas.List.Sorted.{Contains-permutation, IsPermutation-map, IsPermutation-sym, length_permutation}
use Rattle.daggy_base.specs.Cursor.{IsWalkStep}
use Rattle.daggy_base.specs.Graph.{Graph, pair_of}
use Rattle.daggy_base.specs.WellFormed.{AreDistinct, IsWellFormed}
use Rattle.daggy_base.specs.declared.index.Direction.TheVariants.{Incoming}
use Rattle.daggy_base.proofs.Lists.{Unique, contains_mem, mem_contains, unique_from_distinct}
use Rattle.daggy_order.proofs.MovedNodes.{unique_same}
use Rattle.daggy_redundant.specs.Comparison.{IsAscending}
use Rattle.daggy_dag.specs.Walks.{rest_of_walk}
use Rattle.daggy_dag.proofs.WalkSteps.{step_gives}

-- numbers that do not fall and differ ascend
ascends : {I : Type 0} (number : I → ℕ) (xs : List I)
    → IsNonDecreasingBy number xs → Unique (map number xs) → IsAscending (map number xs)
ascends number [] sorted once = tt
ascends number (x ∷ []) sorted once = tt
ascends number (x ∷ y ∷ xs) sorted once =
    let up : number x ≤ number y = sorted 0 1 x (omega arith) (omega arith) in
    let rest = ascends number (y ∷ xs)
    (λ i j d le low. sorted (suc i) (suc j) d (omega (arith, le)) (omega (arith, low))) once.1 in
    elim (cases_eq (number x) (number y)) [
      | inl same ↦ absurd (once.0 (inl same))
      | inr differs ↦ (omega (arith, up, differs), rest)
    ]

module _ {I : Type 0} (number : I → ℕ) (old new : List I) (edges : List ℕ) (is : map number old ≡ edges)
    (same : IsPermutation old new) where
  numbers : IsPermutation (map number old) (map number new)
  numbers = IsPermutation-map number old new same

  pub sorted_exact : (e : ℕ) → Contains (map number new) e ↔ Contains edges e
  sorted_exact e =
      let P : List ℕ → Type 0 = λ z. Contains z e in (
        λ c. subst P is (Contains-permutation (map number new) (map number old) e
            (IsPermutation-sym (map number old) (map number new) numbers) c),
        λ c. Contains-permutation (map number old) (map number new) e numbers (subst P (sym is) c),
      )

  pub sorted_ascends : IsNonDecreasingBy number new → AreDistinct edges → IsAscending (map number new)
  sorted_ascends sorted distinct =
      let P : List ℕ → Type 0 = λ z. Unique z in
      ascends number new sorted (unique_same (map number old) (map number new)
      (subst P (sym is) (unique_from_distinct edges distinct))
      (omega (arith, length_permutation (map number old) (map number new) numbers))
      (λ x m. contains_mem (map number new) x
      (Contains-permutation (map number old) (map number new) x numbers (mem_contains (map number old) x m))))

-- a step of a walk over the edges that enter a node gives the first of those that are left
pub steps_to : {I N E : Type 0} (number : I → ℕ) (end : ℕ) (g : Graph N E) → IsWellFormed end g → (cursor next : ℕ)
    (item : I × I) → IsWalkStep Incoming end g cursor (Some (pair_of number item)) next
    → rest_of_walk Incoming g cursor ≡ number item.0 ∷ rest_of_walk Incoming g next
steps_to number end g w cursor next item s = step_gives end g w Incoming cursor (Some (pair_of number item)) next s
