-- The order after `order_edge`.
use Rattle.std.proofs.Common.{◌≡◌, ◌≢◌, ℕ, ◌+◌, ◌<◌, ◌≤◌, Bool, true, false, not, ◌⊎◌, ◌↔◌, ◌^◌, inl, inr, List, [], ◌∷◌}
use Rattle.std.proofs.Common.{◌++◌, length, get_or, take, drop, refl, sym, ap, subst, ◌∙◌, arith, append_assoc}
use Rattle.std.specs.List.{filter, Contains}
use Rattle.std.proofs.lemmas.List.{length-append, take_at, drop_at, append-nil}
use Rattle.std.proofs.lemmas.List.Elements.{filter-append}
use Rattle.std.proofs.lemmas.Bool.{cases_Bool}
use Rattle.daggy_base.specs.Graph.{Graph, HasNode}
use Rattle.daggy_base.specs.Path.{AreJoined, Reaches}
use Rattle.daggy_base.specs.WellFormed.{IsWellFormed}
use Rattle.daggy_base.proofs.Lists.{Mem, Unique, mem_right, mem_cases, contains_mem, mem_contains, split_at}
use Rattle.daggy_base.proofs.Lists.{unique_from_distinct}
use Rattle.daggy_search.proofs.SearchProgress.{reaches_stays}
use Rattle.daggy_base.proofs.LongerPaths.{reaches_more}
use Rattle.daggy_base.specs.Ordered.{IsOrderOf, IsParted, place, stretch}
use Rattle.daggy_order.specs.Links.{LabelsAscend, IsLabelled, IsMoved, StandBefore}
use Rattle.daggy_base.proofs.PathEnds.{reached_exists}
use Rattle.daggy_base.proofs.Sorted.{place_at, Sorted, distinct_from_unique, unique_cross, sorted_from_places}
use Rattle.daggy_base.proofs.Sorted.{same_place, places_from_sorted, parts, parts_in, parts_out, parts_unique, parts_sorted}
use Rattle.daggy_base.proofs.Sorted.{parts_before, apart, place_same, place_right}
use Rattle.daggy_base.proofs.ListParts.{filter_yes, filter_no, in_stretch}
use Rattle.daggy_order.proofs.AscendingLabels.{asc_before, asc_behind}
use Rattle.daggy_order.proofs.Labelled.{label_within, label_places}

-- a test that all pass, or none
all_pass : (test : ℕ → Bool) (xs : List ℕ) → ((n : ℕ) → Mem n xs → test n ≡ true) → filter test xs ≡ xs
all_pass test [] h = refl
all_pass test (x ∷ xs) h =
    filter_yes test x xs (h x (inl refl)) ∙ ap (λ (z : List ℕ). x ∷ z) (all_pass test xs (λ n m. h n (inr m)))

none_pass : (test : ℕ → Bool) (xs : List ℕ) → ((n : ℕ) → Mem n xs → test n ≡ false) → filter test xs ≡ []
none_pass test [] h = refl
none_pass test (x ∷ xs) h = filter_no test x xs (h x (inl refl)) ∙ none_pass test xs (λ n m. h n (inr m))

-- no path leads to an earlier place
pub reached_later : {N E : Type 0} (g : Graph N E) (order : List ℕ) → IsOrderOf g order
    → (u v : ℕ) → Reaches g u v → place order u ≤ place order v
reached_later g order ord u v r =
    let P : ℕ → Type 0 = λ z. place order u ≤ place order z in
    reaches_stays g P (λ x y h j. omega (arith, h, ord.sorted x y j)) u v r (omega arith)

-- nor to another node that does not come later
pub not_reached : {N E : Type 0} (g : Graph N E) (order : List ℕ) → IsOrderOf g order
    → (u v : ℕ) → HasNode g u → HasNode g v → u ≢ v → (place order u < place order v → ⊥) → Reaches g u v → ⊥
not_reached g order ord u v has_u has_v differ late r =
    let m = contains_mem order u ((ord.exact u).1 has_u) in
    let n = contains_mem order v ((ord.exact v).1 has_v) in
    differ (same_place order u v m n (omega (arith, late, reached_later g order ord u v r)))

module _ {N E : Type 0} {end : ℕ} {g : Graph N E} (w : IsWellFormed end g) {labels nodes : List ℕ}
    (ord : IsOrderOf g nodes) (s : IsLabelled labels nodes) where
  pub stands_in : (n : ℕ) → HasNode g n → Mem n nodes
  stands_in n h = contains_mem nodes n ((ord.exact n).1 h)

  -- labels by places
  pub lower_label : (u v : ℕ)
      → HasNode g u → HasNode g v → place nodes u < place nodes v → get_or labels u 0 < get_or labels v 0
  lower_label u v has_u has_v before =
      elim (label_places s u v (stands_in u has_u) (stands_in v has_v)) [
        | inl e ↦ absurd (omega (arith, before, ap (place nodes) e))
        | inr r ↦ elim r [ inl up ↦ up.0 | inr down ↦ absurd (omega (arith, before, down.1)) ]
      ]

  pub ascending : (u v : ℕ) → AreJoined g u v → get_or labels u 0 < get_or labels v 0
  ascending u v j = lower_label u v (w.parents j.0 _ j.2) (w.children j.0 _ j.2) (ord.sorted u v j)

  pub placed : (n : ℕ) → HasNode g n → n < length labels
  placed n h = label_within s n (stands_in n h)

  pub no_earlier : (u v : ℕ) → Reaches g u v → get_or labels u 0 ≤ get_or labels v 0
  no_earlier u v r =
      let P : ℕ → Type 0 = λ z. get_or labels u 0 ≤ get_or labels z 0 in
      reaches_stays g P (λ x y h j. omega (arith, h, ascending x y j)) u v r (omega arith)

  -- places by labels
  pub stood_before : (u v : ℕ)
      → Mem u nodes → Mem v nodes → get_or labels u 0 < get_or labels v 0 → place nodes u < place nodes v
  stood_before u v m n h =
      elim (label_places s u v m n) [
        | inl e ↦ absurd (omega (arith, h, ap (λ z. get_or labels z 0) e))
        | inr r ↦ elim r [ inl up ↦ up.1 | inr down ↦ absurd (omega (arith, h, down.0)) ]
      ]

  stood_no_later : (u v : ℕ)
      → Mem u nodes → Mem v nodes → get_or labels u 0 ≤ get_or labels v 0 → place nodes u ≤ place nodes v
  stood_no_later u v m n h =
      elim (label_places s u v m n) [
        | inl e ↦ omega (arith, ap (place nodes) e)
        | inr r ↦ elim r [ inl up ↦ omega (arith, up.1) | inr down ↦ absurd (omega (arith, h, down.0)) ]
      ]

  one_node : (u v : ℕ) → Mem u nodes → Mem v nodes → get_or labels u 0 ≡ get_or labels v 0 → u ≡ v
  one_node u v m n h =
      elim (label_places s u v m n) [
        | inl e ↦ e
        | inr r ↦ elim r [ inl up ↦ absurd (omega (arith, h, up.0)) | inr down ↦ absurd (omega (arith, h, down.0)) ]
      ]

  module _ (a b : ℕ) (has_a : HasNode g a) (has_b : HasNode g b) where
    pub same_node : get_or labels a 0 ≡ get_or labels b 0 → Reaches g b a
    same_node e = ([], has_b, one_node b a (stands_in b has_b) (stands_in a has_a) (sym e))

    -- the nodes whose edges may be looked at
    pub between : (n : ℕ) → HasNode g n → get_or labels b 0 ≤ get_or labels n 0 → get_or labels n 0 < get_or labels a 0
        → Contains (stretch nodes (place nodes b) (place nodes a)) n
    between n h above below =
        let at = place_at nodes n (stands_in n h) in
        let P : ℕ → Type 0 = λ z. Mem z (stretch nodes (place nodes b) (place nodes a)) in
        mem_contains _ n (subst P at.1 (in_stretch nodes (place nodes b) (place nodes a) (place nodes n)
        (stood_no_later b n (stands_in b has_b) (stands_in n h) above)
        (stood_before n a (stands_in n h) (stands_in a has_a) below) at.0))

    -- a lower label is an earlier place
    pub lower_earlier : (n : ℕ) → HasNode g n → (get_or labels n 0 < get_or labels a 0) ↔ (place nodes n < place nodes a)
    lower_earlier n h = (stood_before n a (stands_in n h) (stands_in a has_a), lower_label n a h has_a)

    module _ (ns : List ℕ) (found : (n : ℕ) → Contains ns n ↔ (Reaches g b n × (place nodes n < place nodes a))) where
      exact : (n : ℕ) → Contains ns n ↔ (Reaches g b n × (get_or labels n 0 < get_or labels a 0))
      exact n = (
        λ c. (let e = (found n).0 c in (e.0, (lower_earlier n (reached_exists g b n e.0)).1 e.1)),
        λ r. (found n).1 (r.0, (lower_earlier n (reached_exists g b n r.0)).0 r.1),
      )

      pub found_before : StandBefore nodes a ns
      found_before =
          let at = split_at nodes a (stands_in a has_a) in
          let P : List ℕ → Type 0 = λ z. LabelsAscend labels 0 z (2 ^ 64) in
          let up = subst P at.2 s.ascending in
          record {
            before = at.0;
            behind = at.1;
            is = at.2;
            stand = λ n c. (
                let e = (exact n).0 c in
                let Q : List ℕ → Type 0 = λ z. Mem n z in
                mem_contains at.0 n
                (elim (mem_cases at.0 (a ∷ at.1) n (subst Q at.2 (stands_in n (reached_exists g b n e.0)))) [
                  | inl k ↦ k
                  | inr k ↦ elim k [
                    | inl is ↦ absurd (omega (arith, e.1, ap (λ z. get_or labels z 0) is))
                    | inr l ↦ absurd (omega (arith, e.1, asc_behind labels 0 at.0 a at.1 (2 ^ 64) up n l))
                  ]
                ])
                );
          }

      module _ (missed : Reaches g b a → ⊥) (behind : place nodes b < place nodes a) (new : List ℕ)
          (m : IsMoved a ns nodes new) where
        before : get_or labels b 0 < get_or labels a 0
        before = lower_label b a has_b has_a behind

        b_found : Contains ns b
        b_found = (exact b).1 (([], has_b, refl), before)

        up_was : LabelsAscend labels 0 (m.before ++ a ∷ m.behind) (2 ^ 64)
        up_was = let P : List ℕ → Type 0 = λ z. LabelsAscend labels 0 z (2 ^ 64) in subst P m.was s.ascending

        b_before : Mem b m.before
        b_before =
            let Q : List ℕ → Type 0 = λ z. Mem b z in
            elim (mem_cases m.before (a ∷ m.behind) b (subst Q m.was (stands_in b has_b))) [
              | inl k ↦ k
              | inr k ↦ elim k [
                | inl is ↦ absurd (omega (arith, before, ap (λ z. get_or labels z 0) is))
                | inr l ↦ absurd (omega (arith, before, asc_behind labels 0 m.before a m.behind (2 ^ 64) up_was b l))
              ]
            ]

        module _ (p q : List ℕ) (at : m.before ≡ p ++ b ∷ q) where
          abbrev seg : List ℕ
          seg = b ∷ (q ++ a ∷ [])

          old_is : nodes ≡ p ++ (seg ++ m.behind)
          old_is =
              m.was
              ∙ (ap (λ (z : List ℕ). z ++ a ∷ m.behind) at
              ∙ (append_assoc p (b ∷ q) (a ∷ m.behind)
              ∙ ap (λ (z : List ℕ). p ++ (b ∷ z)) (sym (append_assoc q (a ∷ []) m.behind))))

          old_unique : Unique (p ++ (seg ++ m.behind))
          old_unique = let P : List ℕ → Type 0 = λ z. Unique z in subst P old_is (unique_from_distinct nodes ord.once)

          old_up : LabelsAscend labels 0 (p ++ b ∷ ((q ++ a ∷ []) ++ m.behind)) (2 ^ 64)
          old_up = let P : List ℕ → Type 0 = λ z. LabelsAscend labels 0 z (2 ^ 64) in subst P old_is s.ascending

          a_seg : Mem a seg
          a_seg = inr (mem_right q (a ∷ []) a (inl refl))

          below_a : (x : ℕ) → Mem x seg → (x ≡ a) ⊎ (get_or labels x 0 < get_or labels a 0)
          below_a x k =
              elim (mem_cases (b ∷ q) (a ∷ []) x k) [
                | inl l ↦ (
                    let P : List ℕ → Type 0 = λ z. Mem x z in
                    inr (asc_before labels 0 m.before a m.behind (2 ^ 64) up_was x
                    (subst P (sym at) (mem_right p (b ∷ q) x l)))
                    )
                | inr l ↦ elim l [ inl is ↦ inl is | inr none ↦ absurd none ]
              ]

          test_is : (x : ℕ) → Mem x seg → (m.test x ≡ true) ↔ Reaches g b x
          test_is x k = (
            λ t. ((exact x).0 ((m.exact x).0 t)).0,
            λ r. (m.exact x).1 ((exact x).1 (
              r,
              elim (below_a x k) [
                | inl is ↦ absurd (missed (let P : ℕ → Type 0 = λ z. Reaches g b z in subst P is r))
                | inr low ↦ low
              ],
            )),
          )

          untested : (x : ℕ) → Mem x p → m.test x ≡ false
          untested x k =
              elim (cases_Bool (m.test x)) [
                | inl t ↦ absurd (omega (
                  arith,
                  no_earlier b x ((exact x).0 ((m.exact x).0 t)).0,
                  asc_before labels 0 p b ((q ++ a ∷ []) ++ m.behind) (2 ^ 64) old_up x k,
                ))
                | inr f ↦ f
              ]

          a_fails : m.test a ≡ false
          a_fails = elim (cases_Bool (m.test a)) [ inl t ↦ absurd (missed ((test_is a a_seg).0 t)) | inr f ↦ f ]

          new_is : new ≡ parts m.test p seg m.behind
          new_is =
              let fails : ℕ → Bool = λ n. not (m.test n) in
              let left : filter fails m.before ≡ p ++ filter fails (b ∷ q) =
              ap (filter fails) at
              ∙ (filter-append fails p (b ∷ q)
              ∙ ap (λ (z : List ℕ). z ++ filter fails (b ∷ q)) (all_pass fails p (λ n k. ap not (untested n k)))) in
              let right : filter m.test m.before ≡ filter m.test (b ∷ q) =
              ap (filter m.test) at
              ∙ (filter-append m.test p (b ∷ q)
              ∙ ap (λ (z : List ℕ). z ++ filter m.test (b ∷ q)) (none_pass m.test p untested)) in
              let seg_fails : filter fails seg ≡ filter fails (b ∷ q) ++ a ∷ [] =
              filter-append fails (b ∷ q) (a ∷ [])
              ∙ ap (λ (z : List ℕ). filter fails (b ∷ q) ++ z) (filter_yes fails a [] (ap not a_fails)) in
              let seg_passes : filter m.test seg ≡ filter m.test (b ∷ q) =
              filter-append m.test (b ∷ q) (a ∷ [])
              ∙ (ap (λ (z : List ℕ). filter m.test (b ∷ q) ++ z) (filter_no m.test a [] a_fails)
              ∙ append-nil (filter m.test (b ∷ q))) in
              m.is
              ∙ (ap (λ (z : List ℕ). z ++ a ∷ (filter m.test m.before ++ m.behind)) left
              ∙ (ap (λ (z : List ℕ). (p ++ filter fails (b ∷ q)) ++ a ∷ (z ++ m.behind)) right
              ∙ (append_assoc p (filter fails (b ∷ q)) (a ∷ (filter m.test (b ∷ q) ++ m.behind))
              ∙ ap (λ (z : List ℕ). p ++ z)
              (sym (append_assoc (filter fails (b ∷ q)) (a ∷ []) (filter m.test (b ∷ q) ++ m.behind))
              ∙ (ap (λ (z : List ℕ). z ++ (filter m.test (b ∷ q) ++ m.behind)) (sym seg_fails)
              ∙ ap (λ (z : List ℕ). filter fails seg ++ (z ++ m.behind)) (sym seg_passes))))))

          new_unique : Unique new
          new_unique = let P : List ℕ → Type 0 = λ z. Unique z in
              subst P (sym new_is) (parts_unique m.test p seg m.behind old_unique)

          old_sorted : Sorted (AreJoined g) (p ++ (seg ++ m.behind))
          old_sorted =
              let P : List ℕ → Type 0 = λ z. Sorted (AreJoined g) z in
              subst P old_is (sorted_from_places (AreJoined g) nodes (unique_from_distinct nodes ord.once)
              (λ u v k l j. ord.sorted u v j))

          new_sorted : Sorted (AreJoined g) new
          new_sorted =
              let P : List ℕ → Type 0 = λ z. Sorted (AreJoined g) z in
              subst P (sym new_is) (parts_sorted m.test p seg m.behind (AreJoined g) old_sorted (λ x y k l f t r.
              apart m.test x f ((test_is x k).1 (reaches_more g b y x ((test_is y l).0 t) r (w.children r.0 _ r.2)))))

          out_of_new : (n : ℕ) → Mem n new → Mem n nodes
          out_of_new n k =
              let P : List ℕ → Type 0 = λ z. Mem n z in
              subst P (sym old_is) (parts_out m.test p seg m.behind n (subst P new_is k))

          into_new : (n : ℕ) → Mem n nodes → Mem n new
          into_new n k =
              let P : List ℕ → Type 0 = λ z. Mem n z in
              subst P (sym new_is) (parts_in m.test p seg m.behind n (subst P old_is k))

          order_at : IsOrderOf g new
          order_at =
              record {
                exact = λ n. (
                  λ c. (ord.exact n).0 (mem_contains nodes n (out_of_new n (contains_mem new n c))),
                  λ h. mem_contains new n (into_new n (stands_in n h)),
                );
                once = distinct_from_unique new new_unique;
                sorted = λ u v j.
                    places_from_sorted (AreJoined g) new new_sorted u v (into_new u (stands_in u (w.parents j.0 _ j.2)))
                    (into_new v (stands_in v (w.children j.0 _ j.2))) j;
              }

          before_at : place new a < place new b
          before_at =
              let P : List ℕ → Type 0 = λ z. place z a < place z b in
              subst P (sym new_is) (parts_before m.test p seg m.behind old_unique a b a_seg (inl refl) (ap not a_fails)
              ((m.exact b).1 b_found))

          b_place : place nodes b ≡ length p
          b_place =
              let at_b = place_same b b ((q ++ a ∷ []) ++ m.behind) refl in
              let right =
              place_right p (seg ++ m.behind) b (λ k. unique_cross p (seg ++ m.behind) old_unique b k (inl refl)) in
              omega (arith, ap (λ (z : List ℕ). place z b) old_is, right, at_b)

          a_place : place nodes a + 1 ≡ length p + length seg
          a_place =
              let whole = m.was ∙ ap (λ (z : List ℕ). z ++ a ∷ m.behind) at in
              let U : List ℕ → Type 0 = λ z. Unique z in
              let u = subst U whole (unique_from_distinct nodes ord.once) in
              let at_a = place_same a a m.behind refl in
              let right =
              place_right (p ++ b ∷ q) (a ∷ m.behind) a
              (λ k. unique_cross (p ++ b ∷ q) (a ∷ m.behind) u a k (inl refl)) in
              omega (
                arith,
                ap (λ (z : List ℕ). place z a) whole,
                right,
                at_a,
                length-append p (b ∷ q),
                length-append q (a ∷ []),
              )

          old_parts : nodes ≡ (p ++ seg) ++ m.behind
          old_parts = old_is ∙ sym (append_assoc p seg m.behind)

          seg_end : place nodes a + 1 ≡ length (p ++ seg)
          seg_end = a_place ∙ sym (length-append p seg)

          take_is : take (place nodes b) nodes ≡ p
          take_is = ap (take (place nodes b)) old_is ∙ take_at p (seg ++ m.behind) (place nodes b) (sym b_place)

          drop_is : drop (place nodes a + 1) nodes ≡ m.behind
          drop_is =
              ap (drop (place nodes a + 1)) old_parts ∙ drop_at (p ++ seg) m.behind (place nodes a + 1) (sym seg_end)

          seg_is : stretch nodes (place nodes b) (place nodes a + 1) ≡ seg
          seg_is =
              ap (drop (place nodes b))
              (ap (take (place nodes a + 1)) old_parts ∙ take_at (p ++ seg) m.behind (place nodes a + 1) (sym seg_end))
              ∙ drop_at p seg (place nodes b) (sym b_place)

          parted_at : IsParted g a b nodes new
          parted_at =
              let fails : ℕ → Bool = λ n. not (m.test n) in
              record {
                test = m.test;
                exact = λ n c.
                    (let P : List ℕ → Type 0 = λ z. Mem n z in test_is n (subst P seg_is (contains_mem _ n c)));
                is = new_is
                    ∙ (ap (λ (z : List ℕ). z ++ (filter fails seg ++ (filter m.test seg ++ m.behind))) (sym take_is)
                    ∙ (ap
                    (λ (z : List ℕ). take (place nodes b) nodes ++ (filter fails z ++ (filter m.test z ++ m.behind)))
                    (sym seg_is)
                    ∙ ap (λ (z : List ℕ).
                    take (place nodes b) nodes ++ (filter fails (stretch nodes (place nodes b) (place nodes a + 1))
                    ++ (filter m.test (stretch nodes (place nodes b) (place nodes a + 1)) ++ z))) (sym drop_is)));
              }

        pub new_order : IsOrderOf g new
        new_order = let at = split_at m.before b b_before in order_at at.0 at.1 at.2

        pub new_before : place new a < place new b
        new_before = let at = split_at m.before b b_before in before_at at.0 at.1 at.2

        pub new_parted : IsParted g a b nodes new
        new_parted = let at = split_at m.before b b_before in parted_at at.0 at.1 at.2
