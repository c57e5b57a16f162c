-- How many edges are read by the searches that stay before the last child.
use Rattle.std.proofs.Common.{◌≡◌, ℕ, zero, suc, ◌+◌, ◌*◌, ◌≤◌, ◌↔◌, inl, inr, List, [], ◌∷◌, ◌++◌, length}
use Rattle.std.proofs.Common.{drop, take, refl, sym, ap, subst, ◌∙◌, arith, Contains}
use Rattle.std.proofs.Math.Nat.{add-mul, mul-le-mul_right}
use Rattle.daggy_base.specs.Graph.{Graph, out_list, edge_count}
use Rattle.daggy_base.specs.Reduction.{IsBelow}
use Rattle.daggy_base.specs.WellFormed.{IsWellFormed, AreDistinct}
use Rattle.daggy_base.proofs.Lists.{Mem, Unique, mem_out, mem_contains, contains_mem, unique_from_distinct, split_at}
use Rattle.daggy_base.proofs.Lists.{unique_right}
use Rattle.daggy_base.proofs.OutEdgesRead.{lists_few, leaves, joins}
use Rattle.daggy_base.specs.Ordered.{IsOrderOf, place, stretch, edges_from}
use Rattle.daggy_base.specs.Path.{end_of}
use Rattle.daggy_base.proofs.EdgesFrom.{lists_length}
use Rattle.daggy_base.proofs.Sorted.{unique_left, place_same, place_other, place_at}
use Rattle.daggy_base.proofs.ListParts.{split_three}
use Rattle.daggy_reduction.specs.SearchSpan.{latest, last_place, edges_spanned, all_spanned}
use Rattle.daggy_reduction.proofs.BoundedQueue.{latest_from}
use Rattle.daggy_redundant.proofs.SweptNodes.{total, below_exists}

-- sums over the nodes of a list
total_mid : (cost : ℕ → ℕ) (p : List ℕ) (x : ℕ) (q : List ℕ) → total cost (p ++ x ∷ q) ≡ cost x + total cost (p ++ q)
total_mid cost [] x q = omega arith
total_mid cost (y ∷ p) x q = omega (arith, total_mid cost p x q)

total_within : (cost : ℕ → ℕ) (xs ys : List ℕ)
    → Unique xs → ((x : ℕ) → Mem x xs → Mem x ys) → total cost xs ≤ total cost ys
total_within cost [] ys u h = omega arith
total_within cost (x ∷ xs) ys u h =
    let s = split_at ys x (h x (inl refl)) in
    let rest = total_within cost xs (s.0 ++ s.1) u.1 (λ y m.
    let P : List ℕ → Type 0 = λ z. Mem y z in
    elim (mem_out s.0 s.1 x y (subst P s.2 (h y (inr m)))) [
      | inl e ↦ absurd (u.0 (let Q : ℕ → Type 0 = λ z. Mem z xs in subst Q e m))
      | inr b ↦ b
    ]) in
    omega (arith, rest, ap (total cost) s.2, total_mid cost s.0 x s.1)

pub total_is : {N E : Type 0} (g : Graph N E) (order us : List ℕ)
    → all_spanned g order us ≡ total (edges_spanned g order) us
total_is g order [] = refl
total_is g order (u ∷ us) = omega (arith, total_is g order us)

-- the last node of a list
end_there : (x : ℕ) (xs : List ℕ) → Mem (end_of x xs) (x ∷ xs)
end_there x [] = inl refl
end_there x (y ∷ ys) = inr (end_there y ys)

place_end : (x : ℕ) (xs : List ℕ) → Unique (x ∷ xs) → place (x ∷ xs) (end_of x xs) ≡ length xs
place_end x [] once = place_same x x [] refl
place_end x (y ∷ ys) once =
    let M : ℕ → Type 0 = λ z. Mem z (y ∷ ys) in
    omega (
      arith,
      place_other x (end_of y ys) (y ∷ ys) (λ e. once.0 (subst M (sym e) (end_there y ys))),
      place_end y ys once.1,
    )

total_front : (cost : ℕ → ℕ) (m : ℕ) → ((u : ℕ) → cost u ≤ m) → (x : ℕ) (xs : List ℕ) → cost (end_of x xs) ≡ 0
    → total cost (x ∷ xs) ≤ length xs * m
total_front cost m each x [] none = omega (arith, none)
total_front cost m each x (y ∷ ys) none =
    omega (arith, each x, total_front cost m each y ys none, add-mul (length ys) 1 m)

no_stretch : (order : List ℕ) (i : ℕ) → stretch order i i ≡ []
no_stretch xs zero = refl
no_stretch [] (suc i) = refl
no_stretch (x ∷ xs) (suc i) = no_stretch xs i

module _ {N E : Type 0} {end : ℕ} {g : Graph N E} (w : IsWellFormed end g) {order : List ℕ}
    (ord : IsOrderOf g order) where
  pub spanned_few : (u : ℕ) → edges_spanned g order u ≤ edge_count g
  spanned_few u =
      let i = place order u in
      let j = last_place g order u in
      let seg = stretch order i j in
      let U : List ℕ → Type 0 = λ z. Unique z in
      let parts = split_three order i j (latest_from g order i (out_list g u)) in
      let once : Unique seg =
      unique_left seg (drop j order)
      (unique_right (take i order) (seg ++ drop j order) (subst U parts (unique_from_distinct order ord.once))) in
      omega (arith, lists_few end g w seg once, lists_length g seg)

  -- no edge leaves the last node
  none_behind : (u : ℕ) → Mem u order → length order ≤ place order u + 1 → (es : List ℕ) → out_list g u ≡ es
      → edges_spanned g order u ≡ 0
  none_behind u there behind [] is =
      ap (λ z. edges_from g (stretch order (place order u) (latest g order (place order u) z))) is
      ∙ ap (edges_from g) (no_stretch order (place order u))
  none_behind u there behind (e ∷ es) is =
      let M : List ℕ → Type 0 = λ z. Mem e z in
      let l = leaves end g w u e (subst M (sym is) (inl refl)) in
      let child : Mem l.0.child order = contains_mem order l.0.child ((ord.exact l.0.child).1 (w.children e l.0 l.1)) in
      absurd (omega (
        arith,
        behind,
        ord.sorted u l.0.child (joins end g w e u l.0 l.1 l.2),
        (place_at order l.0.child child).0,
      ))

  -- the other nodes span all edges at most
  spanned_rest : (x : ℕ) (xs : List ℕ) → order ≡ x ∷ xs → all_spanned g order (x ∷ xs) ≤ length xs * edge_count g
  spanned_rest x xs is =
      let M : List ℕ → Type 0 = λ z. Mem (end_of x xs) z in
      let U : List ℕ → Type 0 = λ z. Unique z in
      let once = subst U is (unique_from_distinct order ord.once) in
      let none : edges_spanned g order (end_of x xs) ≡ 0 =
      none_behind (end_of x xs) (subst M (sym is) (end_there x xs))
      (omega (arith, ap length is, ap (λ z. place z (end_of x xs)) is, place_end x xs once)) _ refl in
      omega (arith, total_is g order (x ∷ xs), total_front (edges_spanned g order) (edge_count g) spanned_few x xs none)

  pub spanned_short : (nodes : ℕ) → 1 ≤ nodes → length order ≤ nodes
      → all_spanned g order order + edge_count g ≤ nodes * edge_count g
  spanned_short nodes some few = by_order order refl
    where
      by_order : (us : List ℕ) → order ≡ us → all_spanned g order us + edge_count g ≤ nodes * edge_count g
      by_order [] is = let h : 1 * edge_count g ≤ nodes * edge_count g = mul-le-mul_right (edge_count g) some in
          omega (arith, h)
      by_order (x ∷ xs) is =
          let h : (length xs + 1) * edge_count g ≤ nodes * edge_count g =
          mul-le-mul_right (edge_count g) (omega (arith, few, ap length is)) in
          omega (arith, spanned_rest x xs is, h, add-mul (length xs) 1 (edge_count g))

  pub total_spanned : (roots below : List ℕ) → ((n : ℕ) → Contains below n ↔ IsBelow g roots n) → AreDistinct below
      → total (edges_spanned g order) below ≤ all_spanned g order order
  total_spanned roots below exact distinct =
      let within = total_within (edges_spanned g order) below order (unique_from_distinct below distinct) (λ x m.
      contains_mem order x ((ord.exact x).1 (below_exists g roots x ((exact x).0 (mem_contains below x m))))) in
      omega (arith, within, total_is g order order)
