-- When an order of a graph stays one after a node is moved to the front, or right before another.
use Rattle.std.proofs.Common.{◌≡◌, ◌≢◌, ℕ, ◌<◌, ◌≤◌, inl, inr, Bool, true, not, eqb, List, ◌∷◌, ◌++◌}
use Rattle.std.proofs.Common.{refl, sym, ap, subst, ◌∙◌, arith, append_assoc}
use Rattle.std.proofs.lemmas.Bool.{cases_eq}
use Rattle.daggy_base.specs.Graph.{Graph, HasNode}
use Rattle.daggy_base.specs.Path.{AreJoined}
use Rattle.daggy_base.specs.Removal.{without}
use Rattle.daggy_base.specs.WellFormed.{IsWellFormed}
use Rattle.daggy_base.proofs.Lists.{Mem, Unique, mem_mid, mem_into, mem_out, mem_cases, unique_mid, split_at}
use Rattle.daggy_base.proofs.Lists.{unique_from_distinct}
use Rattle.daggy_base.specs.Ordered.{IsOrderOf, place}
use Rattle.daggy_base.proofs.Sorted.{Sorted, place_same, place_other, place_left, place_right, unique_cross}
use Rattle.daggy_base.proofs.Sorted.{sorted_append, sorted_left, sorted_right, sorted_cross}
use Rattle.daggy_base.proofs.ListParts.{is_held, held_is}
use Rattle.daggy_order.proofs.SortedListChanges.{Lists, lists_filtered, lists_first}
use Rattle.daggy_order.proofs.LinkedNodes.{without_mid, unique_without, not_before, not_behind}
use Rattle.daggy_order.proofs.OrderLaws.{ends_exist, lists_from_order, order_from_lists}

-- a node to which no edge leads is put first
pub order_moved_first : {N E : Type 0} {end : ℕ} {g : Graph N E} → IsWellFormed end g → (order : List ℕ) (n : ℕ)
    → IsOrderOf g order → HasNode g n → ((u : ℕ) → AreJoined g u n → ⊥) → IsOrderOf g (n ∷ without n order)
order_moved_first {N} {E} {end} {g} f order n ord exists parentless =
    let test : ℕ → Bool = λ m. not (eqb m n) in
    let Other : ℕ → Type 0 = λ m. HasNode g m × (test m ≡ true) in
    let Apart : ℕ → ℕ → Type 0 = λ u v. AreJoined g u v × ((test u ≡ true) × (test v ≡ true)) in
    let ends = ends_exist f in
    let others : Lists Other Apart (without n order) =
    lists_filtered order (lists_from_order order ord) test (λ m. (λ h. h, λ h. h)) (λ u v j. j.0) in
    let child : (u v : ℕ) → AreJoined g u v → test v ≡ true = λ u v j.
    is_held n v (λ e. parentless u (let P : ℕ → Type 0 = λ z. AreJoined g u z in subst P e j)) in
    order_from_lists (n ∷ without n order) ends (lists_first (without n order) others n (λ h. held_is n n h.1 refl)
    (λ m. (
      λ h. elim (cases_eq m n) [ inl e ↦ inr e | inr d ↦ inl (h, is_held n m d) ],
      λ h. elim h [
        | inl o ↦ o.0
        | inr e ↦ (let P : ℕ → Type 0 = λ z. HasNode g z in subst P (sym e) exists)
      ],
    )) (λ u v j. elim (cases_eq u n) [
      | inl e ↦ inr (e, ((ends u v j).1, child u v j))
      | inr d ↦ inl (j, (is_held n u d, child u v j))
    ]) (λ u v s. let both = ends u v s.0 in ((both.0, s.1.0), (both.1, s.1.1))))

-- a node whose parents all stand before another is put right before that one
module _ {N E : Type 0} {end : ℕ} {g : Graph N E} (f : IsWellFormed end g) (order : List ℕ) (a b : ℕ)
    (ord : IsOrderOf g order) (differs : a ≢ b) (behind : place order b ≤ place order a)
    (parents : (u : ℕ) → AreJoined g u a → place order u < place order b) where
  once_all : Unique order
  once_all = unique_from_distinct order ord.once

  module _ (xs ys zs : List ℕ) (is : order ≡ xs ++ b ∷ (ys ++ a ∷ zs)) where
    abbrev moved_list : List ℕ
    moved_list = xs ++ a ∷ (b ∷ (ys ++ zs))

    whole_is : order ≡ (xs ++ b ∷ ys) ++ a ∷ zs
    whole_is = is ∙ sym (append_assoc xs (b ∷ ys) (a ∷ zs))

    once_split : Unique (xs ++ b ∷ (ys ++ a ∷ zs))
    once_split = let P : List ℕ → Type 0 = λ z. Unique z in subst P is once_all

    once_whole : Unique ((xs ++ b ∷ ys) ++ a ∷ zs)
    once_whole = let P : List ℕ → Type 0 = λ z. Unique z in subst P whole_is once_all

    rest_is : (xs ++ b ∷ ys) ++ zs ≡ xs ++ b ∷ (ys ++ zs)
    rest_is = append_assoc xs (b ∷ ys) zs

    pub without_is : without a order ≡ xs ++ b ∷ (ys ++ zs)
    without_is =
        ap (without a) whole_is
        ∙ (without_mid a (xs ++ b ∷ ys) zs (not_before (xs ++ b ∷ ys) a zs once_whole)
        (not_behind (xs ++ b ∷ ys) a zs once_whole) ∙ rest_is)

    -- of what stood at b's place or behind it
    late : (y : ℕ) → Mem y (b ∷ (ys ++ a ∷ zs)) → place order b ≤ place order y
    late y m =
        let apart : (z : ℕ) → Mem z (b ∷ (ys ++ a ∷ zs)) → Mem z xs → ⊥ = λ z n h.
        unique_cross xs (b ∷ (ys ++ a ∷ zs)) once_split z h n in
        let P : List ℕ → Type 0 = λ z. place z b ≤ place z y in
        subst P (sym is) (omega (
          arith,
          place_right xs (b ∷ (ys ++ a ∷ zs)) b (apart b (inl refl)),
          place_right xs (b ∷ (ys ++ a ∷ zs)) y (apart y m),
          place_same b b (ys ++ a ∷ zs) refl,
        ))

    forward : (y : ℕ) → Mem y (a ∷ (b ∷ (ys ++ zs))) → Mem y (b ∷ (ys ++ a ∷ zs))
    forward y m =
        elim m [
          | inl e ↦ (let P : ℕ → Type 0 = λ z. Mem z (b ∷ (ys ++ a ∷ zs)) in subst P (sym e) (inr (mem_mid ys zs a)))
          | inr r ↦ elim r [ inl e ↦ inl e | inr n ↦ inr (mem_into ys zs a y n) ]
        ]

    moved_sorted : Sorted (AreJoined g) (xs ++ b ∷ (ys ++ a ∷ zs)) → Sorted (AreJoined g) moved_list
    moved_sorted s =
        let J : ℕ → ℕ → Type 0 = AreJoined g in
        let t = sorted_right J xs (b ∷ (ys ++ a ∷ zs)) s in
        let first : (y : ℕ) → Mem y (a ∷ (b ∷ (ys ++ zs))) → AreJoined g y a → ⊥ = λ y m j.
        absurd (omega (arith, parents y j, late y (forward y m))) in
        let rest : Sorted J (ys ++ zs) =
        sorted_append J ys zs (sorted_left J ys (a ∷ zs) t.1) (sorted_right J ys (a ∷ zs) t.1).1
        (λ x y m n r. sorted_cross J ys (a ∷ zs) t.1 x y m (inr n) r) in
        sorted_append J xs (a ∷ (b ∷ (ys ++ zs))) (sorted_left J xs (b ∷ (ys ++ a ∷ zs)) s)
        (first, ((λ y m r. t.0 y (forward y (inr m)) r), rest))
        (λ x y m n r. sorted_cross J xs (b ∷ (ys ++ a ∷ zs)) s x y m (forward y n) r)

    moved_in : (n : ℕ) → Mem n order → Mem n moved_list
    moved_in n m =
        let P : List ℕ → Type 0 = λ z. Mem n z in
        elim (mem_out (xs ++ b ∷ ys) zs a n (subst P whole_is m)) [
          | inl e ↦
              (let Q : ℕ → Type 0 = λ z. Mem z moved_list in subst Q (sym e) (mem_mid xs (b ∷ (ys ++ zs)) a))
          | inr r ↦ mem_into xs (b ∷ (ys ++ zs)) a n (subst P rest_is r)
        ]

    moved_out : (n : ℕ) → Mem n moved_list → Mem n order
    moved_out n m =
        let P : List ℕ → Type 0 = λ z. Mem n z in
        subst P (sym whole_is) (elim (mem_out xs (b ∷ (ys ++ zs)) a n m) [
          | inl e ↦ (
              let Q : ℕ → Type 0 = λ z. Mem z ((xs ++ b ∷ ys) ++ a ∷ zs) in
              subst Q (sym e) (mem_mid (xs ++ b ∷ ys) zs a)
              )
          | inr r ↦ mem_into (xs ++ b ∷ ys) zs a n (subst P (sym rest_is) r)
        ])

    moved_once : Unique moved_list
    moved_once =
        let P : List ℕ → Type 0 = λ z. Unique z in
        let Q : List ℕ → Type 0 = λ z. Mem a z in
        unique_mid xs (b ∷ (ys ++ zs)) a (subst P rest_is (unique_without (xs ++ b ∷ ys) a zs once_whole)) (λ m.
        elim (mem_cases (xs ++ b ∷ ys) zs a (subst Q (sym rest_is) m)) [
          | inl l ↦ not_before (xs ++ b ∷ ys) a zs once_whole l
          | inr r ↦ not_behind (xs ++ b ∷ ys) a zs once_whole r
        ])

    pub moved_order : IsOrderOf g moved_list × (place moved_list a < place moved_list b)
    moved_order =
        let s = lists_from_order order ord in
        let P : List ℕ → Type 0 = λ z. Sorted (AreJoined g) z in
        let absent : (z : ℕ) → Mem z (b ∷ (ys ++ a ∷ zs)) → Mem z xs → ⊥ = λ z n h.
        unique_cross xs (b ∷ (ys ++ a ∷ zs)) once_split z h n in (
          order_from_lists moved_list (ends_exist f) (record {
            exact = λ n. (λ m. (s.exact n).0 (moved_out n m), λ h. moved_in n ((s.exact n).1 h));
            once = moved_once;
            sorted = moved_sorted (subst P is s.sorted);
          }),
          omega (
            arith,
            place_right xs (a ∷ (b ∷ (ys ++ zs))) a (absent a (inr (mem_mid ys zs a))),
            place_right xs (a ∷ (b ∷ (ys ++ zs))) b (absent b (inl refl)),
            place_same a a (b ∷ (ys ++ zs)) refl,
            place_other a b (b ∷ (ys ++ zs)) differs,
          ),
        )

  -- where the two stand
  split_two : HasNode g a → HasNode g b
      → (xs : List ℕ) × (ys : List ℕ) × (zs : List ℕ) × (order ≡ xs ++ b ∷ (ys ++ a ∷ zs))
  split_two has_a has_b =
      let s = lists_from_order order ord in
      let at_b = split_at order b ((s.exact b).1 has_b) in
      let xs = at_b.0 in
      let rest = at_b.1 in
      let P : List ℕ → Type 0 = λ z. Mem a z in
      let Q : List ℕ → Type 0 = λ z. place z b ≤ place z a in
      let U : List ℕ → Type 0 = λ z. Unique z in
      let after : place (xs ++ b ∷ rest) b ≤ place (xs ++ b ∷ rest) a = subst Q at_b.2 behind in
      let b_at = place_right xs (b ∷ rest) b (not_before xs b rest (subst U at_b.2 once_all)) in
      elim (mem_cases xs (b ∷ rest) a (subst P at_b.2 ((s.exact a).1 has_a))) [
        | inl early ↦ absurd (omega (arith, after, b_at, place_left xs (b ∷ rest) a early))
        | inr m ↦ elim m [
          | inl e ↦ absurd (differs e)
          | inr r ↦ (
              let at_a = split_at rest a r in
              (xs, at_a.0, at_a.1, at_b.2 ∙ ap (λ (z : List ℕ). xs ++ b ∷ z) at_a.2)
              )
        ]
      ]

  pub order_moved_before : HasNode g a → HasNode g b → (new : List ℕ)
      → ((ns ms : List ℕ) → without a order ≡ ns ++ b ∷ ms → new ≡ ns ++ a ∷ (b ∷ ms))
      → IsOrderOf g new × (place new a < place new b)
  order_moved_before has_a has_b new moved =
      let at = split_two has_a has_b in
      let is = moved at.0 (at.1 ++ at.2) (without_is at.0 at.1 at.2 at.3) in
      let P : List ℕ → Type 0 = λ z. IsOrderOf g z × (place z a < place z b) in
      subst P (sym is) (moved_order at.0 at.1 at.2 at.3)
