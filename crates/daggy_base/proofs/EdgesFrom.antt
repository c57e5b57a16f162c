-- How many edges leave the nodes of a list.
use Rattle.std.proofs.Common.{◌≡◌, ℕ, ◌+◌, ◌≤◌, inl, inr, List, [], ◌∷◌, ◌++◌, length, take, drop, refl, sym, ap, subst, ◌∙◌, arith}
use Rattle.std.proofs.lemmas.List.{length-append, take-append-drop}
use Rattle.daggy_base.specs.Graph.{Graph, out_list, edge_count}
use Rattle.daggy_base.specs.Ordered.{IsOrderOf, edges_from, stretch}
use Rattle.daggy_base.specs.WellFormed.{IsWellFormed}
use Rattle.daggy_base.proofs.Lists.{Mem, Unique, mem_out, split_at, unique_right, unique_from_distinct}
use Rattle.daggy_base.proofs.Sorted.{unique_left}
use Rattle.daggy_base.proofs.OutEdgesRead.{lists_of, lists_few}

-- sums over the nodes of a list
edges_mid : {N E : Type 0} (g : Graph N E) (p : List ℕ) (x : ℕ) (q : List ℕ)
    → edges_from g (p ++ x ∷ q) ≡ length (out_list g x) + edges_from g (p ++ q)
edges_mid g [] x q = refl
edges_mid g (y ∷ p) x q = let rest = edges_mid g p x q in omega arith

-- differing members of a list have no more edges than all of it
pub edges_few : {N E : Type 0} (g : Graph N E) (xs ys : List ℕ)
    → Unique xs → ((x : ℕ) → Mem x xs → Mem x ys) → edges_from g xs ≤ edges_from g ys
edges_few g [] ys u h = omega arith
edges_few {N} {E} g (x ∷ xs) ys u h =
    let s = split_at ys x (h x (inl refl)) in
    let rest : edges_from g xs ≤ edges_from g (s.0 ++ s.1) = edges_few g xs (s.0 ++ s.1) u.1 (λ y m.
    let P : List ℕ → Type 0 = λ z. Mem y z in
    elim (mem_out s.0 s.1 x y (subst P s.2 (h y (inr m)))) [
      | inl e ↦ absurd (u.0 (let Q : ℕ → Type 0 = λ z. Mem z xs in subst Q e m))
      | inr b ↦ b
    ]) in
    let whole : edges_from g ys ≡ length (out_list g x) + edges_from g (s.0 ++ s.1) =
    ap (edges_from g) s.2 ∙ edges_mid g s.0 x s.1 in
    omega arith

-- so many edges stand in their lists
pub lists_length : {N E : Type 0} (g : Graph N E) (xs : List ℕ) → length (lists_of g xs) ≡ edges_from g xs
lists_length g [] = refl
lists_length g (x ∷ xs) = let rest = lists_length g xs in omega (arith, length-append (out_list g x) (lists_of g xs))

-- the edges that leave a stretch of an order
pub few_edges : {N E : Type 0} {end : ℕ} {g : Graph N E} {order : List ℕ}
    → IsWellFormed end g → IsOrderOf g order → (low high : ℕ) → edges_from g (stretch order low high) ≤ edge_count g
few_edges {N} {E} {end} {g} {order} f ord low high =
    let P : List ℕ → Type 0 = λ z. Unique z in
    let front : Unique (take high order) =
    unique_left (take high order) (drop high order)
    (subst P (sym (take-append-drop high order)) (unique_from_distinct order ord.once)) in
    let part : Unique (drop low (take high order)) =
    unique_right (take low (take high order)) (drop low (take high order))
    (subst P (sym (take-append-drop low (take high order))) front) in
    omega (arith, lists_length g (drop low (take high order)), lists_few end g f (drop low (take high order)) part)
