-- The nodes that a search for cycles sorted.
use Rattle.std.proofs.Common.{◌≡◌, ℕ, zero, suc, ◌<◌, inl, inr, List, [], ◌∷◌, length, take, get_or}
use Rattle.std.proofs.Common.{sym, subst, arith}
use Rattle.std.specs.List.{Contains}
use Rattle.daggy_base.specs.Graph.{Graph}
use Rattle.daggy_base.specs.Path.{AreJoined}
use Rattle.daggy_search.specs.Sorting.{LeadsOnward, IsSorted}
use Rattle.daggy_base.specs.WellFormed.{AreDistinct, IsWellFormed}
use Rattle.daggy_base.proofs.Lists.{Mem, Unique, mem_at, contains_mem, unique_from_distinct}
use Rattle.daggy_base.proofs.OutEdgesRead.{below_bound}
use Rattle.daggy_base.proofs.PathsWithNode.{bound_low}
use Rattle.daggy_base.specs.Ordered.{IsOrderOf, place}
use Rattle.daggy_base.proofs.Sorted.{place_same, place_other}

-- a node of a list does not stand before itself
pub not_before : (xs : List ℕ)
    → AreDistinct xs → (i d x : ℕ) → i < length xs → x ≡ get_or xs i d → Mem x (take i xs) → ⊥
not_before xs distinct i d x low is m = go xs (unique_from_distinct xs distinct) i low is m
  where
    go : (xs : List ℕ) → Unique xs → (i : ℕ) → i < length xs → x ≡ get_or xs i d → Mem x (take i xs) → ⊥
    go [] u i low is m = absurd (omega arith)
    go (y ∷ xs) u zero low is m = m
    go (y ∷ xs) u (suc i) low is m =
        elim m [
          | inl e ↦ (
              let there : Mem (get_or xs i d) xs = mem_at xs i d (omega arith) in
              let P : ℕ → Type 0 = λ z. Mem z xs in
              u.0 (subst P e (subst P (sym is) there))
              )
          | inr b ↦ go xs u.1 i (omega arith) is b
        ]

-- each leads to later ones alone, so each stands before its children
onward_places : {N E : Type 0} (g : Graph N E) (xs : List ℕ)
    → Unique xs → LeadsOnward g xs → (u v : ℕ) → Mem u xs → AreJoined g u v → place xs u < place xs v
onward_places g [] once onward u v m j = absurd m
onward_places g (x ∷ xs) once onward u v m j =
    elim m [
      | inl e ↦ (
          let P : ℕ → Type 0 = λ z. AreJoined g z v in
          let later : Mem v xs = contains_mem xs v (onward.0 v (subst P e j)) in
          omega (
            arith,
            place_same x u xs (sym e),
            place_other x v xs (λ same. once.0 (let Q : ℕ → Type 0 = λ z. Mem z xs in subst Q (sym same) later)),
          )
          )
      | inr b ↦ (
          let differs : x ≡ u → ⊥ = λ same. once.0 (let Q : ℕ → Type 0 = λ z. Mem z xs in subst Q (sym same) b) in
          let later : Mem v xs = stays xs onward.1 b in
          let other : x ≡ v → ⊥ = λ same. once.0 (let Q : ℕ → Type 0 = λ z. Mem z xs in subst Q (sym same) later) in
          omega (
            arith,
            place_other x u xs differs,
            place_other x v xs other,
            onward_places g xs once.1 onward.1 u v b j,
          )
          )
    ]
  where
    stays : (ys : List ℕ) → LeadsOnward g ys → Mem u ys → Mem v ys
    stays [] o n = absurd n
    stays (y ∷ ys) o n =
        elim n [
          | inl e ↦ inr (contains_mem ys v (o.0 v (let P : ℕ → Type 0 = λ z. AreJoined g z v in subst P e j)))
          | inr b ↦ inr (stays ys o.1 b)
        ]

pub order_from_sorted : {N E : Type 0} {end : ℕ} {g : Graph N E}
    → IsWellFormed end g → (nodes : List ℕ) → IsSorted g nodes → IsOrderOf g nodes
order_from_sorted {N} {E} {end} {g} w nodes s =
    record {
      exact = s.exact;
      once = s.once;
      sorted = λ u v j.
          onward_places g nodes (unique_from_distinct nodes s.once) s.onward u v
          (contains_mem nodes u ((s.exact u).1 (w.parents j.0 _ j.2))) j;
    }

-- its nodes have indices
pub sorted_real : {N E : Type 0} {end : ℕ} {g : Graph N E}
    → IsWellFormed end g → (nodes : List ℕ) → IsSorted g nodes → (n : ℕ) → Contains nodes n → n < end
sorted_real {N} {E} {end} {g} w nodes s n c =
    omega (arith, below_bound g.nodes n ((s.exact n).0 c), bound_low g.nodes, w.few_nodes)
