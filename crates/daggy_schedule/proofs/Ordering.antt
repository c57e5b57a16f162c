-- An order by keys as it is built.
use Rattle.std.proofs.Common.{◌≡◌, ℕ, ◌<◌, ◌↔◌, ◌⊎◌, inl, inr, suc, true, false, eqb, List, [], ◌∷◌, ◌++◌, length}
use Rattle.std.proofs.Common.{append-nil, refl, sym, ap, subst, ◌∙◌, arith, Contains, IsPermutation, All}
use Rattle.std.proofs.lemmas.Bool.{false≢true, cases_eq, eq-eqb, ne_eqb}
use Rattle.std.proofs.lemmas.Bool.Decides.{nat_tests}
use Rattle.std.proofs.lemmas.List.{map-append}
use Rattle.std.proofs.lemmas.List.Sorted.{IsPermutation-map, IsPermutation-sym, IsPermutation-pop_more, IsPermutation-refl}
use Rattle.std.proofs.lemmas.List.Sorted.{Contains-permutation, IsPermutation-append_right, IsPermutation-trans}
use Rattle.std.proofs.lemmas.List.Sorted.{IsPermutation-middle}
use Rattle.std.proofs.lemmas.List.Elements.{All-from_recursion}
use Rattle.std.proofs.lemmas.Map.Keys.{IsDistinct-IsPermutation}
use Rattle.std.proofs.Permutation.{every_shuffled}
use Rattle.std.specs.List.{AllByRecursion, IsDistinct}
use Rattle.std.specs.Borrow.{Bor}
use Rattle.std.specs.declared.cmp.Ordering.{Ordering}
use Rattle.daggy_base.specs.Graph.{Graph, HasNode, edge_at, in_list, node_bound}
use Rattle.daggy_base.specs.Path.{AreJoined}
use Rattle.daggy_base.specs.Ordered.{IsOrderOf, place}
use Rattle.daggy_base.specs.WellFormed.{IsWellFormed}
use Rattle.daggy_base.proofs.Lists.{Mem, Unique, mem_left, mem_cases, mem_contains, contains_mem, distinct_from_unique}
use Rattle.daggy_base.proofs.OutEdgesRead.{below_bound}
use Rattle.daggy_base.proofs.Lists.{fewer_than, unique_append, Contains-from_map, Contains-map}
use Rattle.daggy_base.proofs.Sorted.{place_left, place_right, place_same, place_other}
use Rattle.daggy_schedule.specs.Work.{Work, IsSet, IsOut, IsUnderWay, MayBegin, parents_of, parent_or}
use Rattle.daggy_schedule.specs.LeastFirst.{IsKeyOf, Precedes, HaveCome, IsLeastFirst, nodes_of}
use Rattle.daggy_schedule.proofs.Led.{AllBefore, before_weaker, before_more, AllLead, lead_wait, lead_next, lead_split}

-- members of a list with one more at its end
mem_more : (xs : List ℕ) (x y : ℕ) → Mem y (xs ++ x ∷ []) ↔ (Mem y xs ⊎ (y ≡ x))
mem_more xs x y = (
  λ m. elim (mem_cases xs (x ∷ []) y m) [
    | inl a ↦ inl a
    | inr b ↦ elim b [ inl e ↦ inr e | inr none ↦ absurd none ]
  ],
  λ h. elim h [
    | inl a ↦ mem_left xs (x ∷ []) y a
    | inr e ↦ (
        let P : ℕ → Type 0 = λ z. Mem z (xs ++ x ∷ []) in subst P (sym e) (at_end xs)
        )
  ],
)
  where
    at_end : (zs : List ℕ) → Mem x (zs ++ x ∷ [])
    at_end [] = inl refl
    at_end (z ∷ zs) = inr (at_end zs)

-- nodes that differ stay so when they change places
apart : (x : ℕ) (xs : List ℕ) → (Mem x xs → ⊥) → AllByRecursion (λ y. eqb x y ≡ false) xs
apart x [] none = tt
apart x (y ∷ ys) none = (ne_eqb x y (λ e. none (inl e)), apart x ys (λ m. none (inr m)))

still_apart : (x : ℕ) (xs : List ℕ) → AllByRecursion (λ y. eqb x y ≡ false) xs → Mem x xs → ⊥
still_apart x [] a m = m
still_apart x (y ∷ ys) a m =
    elim m [ inl e ↦ false≢true (sym a.0 ∙ eq-eqb x y e) | inr b ↦ still_apart x ys a.1 b ]

distinct_by : (xs : List ℕ) → Unique xs → IsDistinct eqb xs
unfolding IsDistinct
distinct_by [] u = tt
distinct_by (x ∷ xs) u = (apart x xs u.0, distinct_by xs u.1)

by_distinct : (xs : List ℕ) → IsDistinct eqb xs → Unique xs
unfolding IsDistinct
by_distinct [] u = tt
by_distinct (x ∷ xs) u = (still_apart x xs u.0, by_distinct xs u.1)

pub unique_shuffled : (xs ys : List ℕ) → IsPermutation xs ys → Unique xs → Unique ys
unique_shuffled xs ys perm u =
    by_distinct ys (IsDistinct-IsPermutation eqb (λ x y. grind (arith, nat_tests)) xs ys perm (distinct_by xs u))

pub mem_shuffled : (xs ys : List ℕ) (x : ℕ) → IsPermutation xs ys → Mem x xs → Mem x ys
mem_shuffled xs ys x perm m = contains_mem ys x (Contains-permutation xs ys x perm (mem_contains xs x m))

-- a member keeps its place in a longer list
place_kept : (xs ys : List ℕ) (x : ℕ) → Mem x xs → place (xs ++ ys) x ≡ place xs x
place_kept [] ys x m = absurd m
place_kept (y ∷ xs) ys x m =
    elim (cases_eq y x) [
      | inl e ↦ place_same y x (xs ++ ys) e ∙ sym (place_same y x xs e)
      | inr d ↦ (
          let b : Mem x xs = elim m [ inl e ↦ absurd (d (sym e)) | inr b ↦ b ] in
          place_other y x (xs ++ ys) d ∙ (ap suc (place_kept xs ys x b) ∙ sym (place_other y x xs d))
          )
    ]

module _ {N E : Type 0} {end : ℕ} {g : Graph N E} (w : IsWellFormed end g) where
  pub joined_parent : (u n : ℕ) → AreJoined g u n → Contains (parents_of g n) u
  joined_parent u n j =
      let P : ℕ → Type 0 = λ z. Contains (parents_of g n) z in
      subst P (ap parent_or j.2)
      (Contains-map (λ e. parent_or (edge_at g e)) (in_list g n) j.0 ((w.in_of.exact n j.0).1 (_, j.2, refl)))

  pub parent_joined : (u n : ℕ) → Contains (parents_of g n) u → AreJoined g u n
  parent_joined u n c =
      let p = Contains-from_map (λ k. parent_or (edge_at g k)) (in_list g n) u c in
      let q = (w.in_of.exact n p.0).0 p.1 in
      let is : q.0.parent ≡ u = sym (ap parent_or q.1) ∙ p.2 in
      let P : ℕ → Type 0 = λ z. AreJoined g z n in
      let Q : ℕ → Type 0 = λ z. AreJoined g q.0.parent z in
      subst P is (subst Q q.2 (p.0, q.0.weight, q.1))

-- What is out waits with its key; what is done has come, each node after its parents, and first of those that could.
pub record IsOrdering {N E K : Type 0} (cmp : K → K → Ordering) (IsKey : K × ℕ → Type 0) (g : Graph N E) (work : Work)
    (waiting : List (K × ℕ)) (order : List ℕ) : Type 0 where
  pub keyed : List (K × ℕ)
  pub nodes : nodes_of keyed ≡ order
  pub keys : AllByRecursion IsKey (keyed ++ waiting)
  pub waits : (n : ℕ) → Mem n (nodes_of waiting) ↔ IsOut work n
  pub waits_once : Unique (nodes_of waiting)
  pub came : (n : ℕ) → Mem n order ↔ IsSet work.done n
  pub once : Unique order
  pub sorted : (u v : ℕ) → AreJoined g u v → Mem v order → Mem u order × (place order u < place order v)
  pub lead : AllLead cmp g [] keyed waiting
  pub none_later : AllBefore (λ b. (n : ℕ) → HasNode g n → (IsSet work.out n → ⊥) → HaveCome g b n → ⊥) [] keyed

module _ {N E K : Type 0} {cmp : K → K → Ordering} {IsKey : K × ℕ → Type 0} {g : Graph N E} where
  pub ordering_from : {work : Work} → ((n : ℕ) → IsSet work.out n → ⊥) → ((n : ℕ) → IsSet work.done n → IsSet work.out n)
      → IsOrdering cmp IsKey g work [] []
  ordering_from {work} none begun =
      record {
        keyed = [];
        nodes = refl;
        keys = tt;
        waits = λ n. (λ m. absurd m, λ o. none n o.0);
        waits_once = tt;
        came = λ n. (λ m. absurd m, λ d. none n (begun n d));
        once = tt;
        sorted = λ u v j m. absurd m;
        lead = tt;
        none_later = tt;
      }

  module _ {work : Work} {waiting : List (K × ℕ)} {order : List ℕ} (s : IsOrdering cmp IsKey g work waiting order) where
    -- a node is handed out
    pub ordering_wait : (new : Work) (more : List (K × ℕ)) (k : K) (n : ℕ) → HasNode g n → IsKey (k, n)
        → (IsSet work.out n → ⊥) → IsOut new n → ((m : ℕ) → IsSet new.out m ↔ (IsSet work.out m ⊎ (m ≡ n)))
        → new.done ≡ work.done → IsPermutation ((k, n) ∷ waiting) more → IsOrdering cmp IsKey g new more order
    ordering_wait new more k n has key fresh is_out outs dones perm =
        let nodes_more : IsPermutation (n ∷ nodes_of waiting) (nodes_of more) =
        IsPermutation-map (λ p. p.1) ((k, n) ∷ waiting) more perm in
        let all : IsPermutation ((k, n) ∷ (s.keyed ++ waiting)) (s.keyed ++ more) =
        IsPermutation-trans _ _ _ (IsPermutation-sym _ _ (IsPermutation-middle s.keyed (k, n) waiting))
        (IsPermutation-append_right s.keyed ((k, n) ∷ waiting) more perm) in
        let undone : (m : ℕ) → IsSet new.done m → IsSet work.done m = λ m d.
        (let P : List _ → Type 0 = λ z. IsSet z m in subst P dones d) in
        let still : (m : ℕ) → IsSet work.done m → IsSet new.done m = λ m d.
        (let P : List _ → Type 0 = λ z. IsSet z m in subst P (sym dones) d) in
        record {
          keyed = s.keyed;
          nodes = s.nodes;
          keys = every_shuffled IsKey ((k, n) ∷ (s.keyed ++ waiting)) (s.keyed ++ more) all (key, s.keys);
          waits = λ m. (
            λ h. elim (mem_shuffled (nodes_of more) (n ∷ nodes_of waiting) m (IsPermutation-sym _ _ nodes_more) h) [
              | inl same ↦ (let P : ℕ → Type 0 = λ z. IsOut new z in subst P (sym same) is_out)
              | inr old ↦
                  (let o = (s.waits m).0 old in ((outs m).1 (inl o.0), λ d. o.1 (undone m d)))
            ],
            λ o. mem_shuffled (n ∷ nodes_of waiting) (nodes_of more) m nodes_more (elim ((outs m).0 o.0) [
              | inl was ↦ inr ((s.waits m).1 (was, λ d. o.1 (still m d)))
              | inr same ↦ inl same
            ]),
          );
          waits_once = unique_shuffled (n ∷ nodes_of waiting) (nodes_of more) nodes_more
              (λ m. fresh ((s.waits n).0 m).0, s.waits_once);
          came = λ m. (λ h. still m ((s.came m).0 h), λ d. (s.came m).1 (undone m d));
          once = s.once;
          sorted = s.sorted;
          lead = lead_wait cmp g [] s.keyed waiting more (k, n) s.lead
              (before_weaker _ _ (λ b h. h n has fresh) [] s.keyed s.none_later) perm;
          none_later = before_weaker _ _ (λ b h m there not_out. h m there (λ o. not_out ((outs m).1 (inl o)))) [] s.keyed
              s.none_later;
        }

    module _ {end : ℕ} (w : IsWellFormed end g) (under : IsUnderWay g work) (none_ready : work.ready ≡ []) where
      -- none that is not out could come next
      none_next : (m : ℕ) → HasNode g m → (IsSet work.out m → ⊥) → HaveCome g order m → ⊥
      none_next m has not_out come =
          let may : MayBegin g work.done m =
          (has, λ u c. (s.came u).0 (contains_mem order u (come u (parent_joined w u m c)))) in
          let P : List ℕ → Type 0 = λ z. Rattle.daggy_schedule.specs.Work.is_among z m ≡ true in
          false≢true (subst P none_ready ((under.ready m).1 (may, not_out)))

      -- the one that comes first is done
      pub ordering_next : (new : Work) (left : List (K × ℕ)) (k : K) (n : ℕ) → IsPermutation waiting ((k, n) ∷ left)
          → AllByRecursion (Precedes cmp (k, n)) left
          → ((m : ℕ) → IsSet new.done m ↔ (IsSet work.done m ⊎ (m ≡ n))) → new.out ≡ work.out
          → IsOrdering cmp IsKey g new left (order ++ n ∷ [])
      ordering_next new left k n perm first dones outs =
          let nodes_left : IsPermutation (nodes_of waiting) (n ∷ nodes_of left) =
          IsPermutation-map (λ p. p.1) waiting ((k, n) ∷ left) perm in
          let once_left = unique_shuffled (nodes_of waiting) (n ∷ nodes_of left) nodes_left s.waits_once in
          let was_out : IsOut work n =
          (s.waits n).0 (mem_shuffled (n ∷ nodes_of left) (nodes_of waiting) n (IsPermutation-sym _ _ nodes_left) (inl refl)) in
          let may : MayBegin g work.done n = under.out n was_out.0 in
          let absent : Mem n order → ⊥ = λ m. was_out.1 ((s.came n).0 m) in
          let still : (m : ℕ) → IsSet new.out m → IsSet work.out m = λ m o.
          (let P : List _ → Type 0 = λ z. IsSet z m in subst P outs o) in
          let again : (m : ℕ) → IsSet work.out m → IsSet new.out m = λ m o.
          (let P : List _ → Type 0 = λ z. IsSet z m in subst P (sym outs) o) in
          let place_last : place (order ++ n ∷ []) n ≡ length order =
          omega (arith, place_right order (n ∷ []) n absent, place_same n n [] refl) in
          let Q : List ℕ → Type 0 = λ b. (m : ℕ) → HasNode g m → (IsSet work.out m → ⊥) → HaveCome g b m → ⊥ in
          let none_now : Q (nodes_of s.keyed) = subst Q (sym s.nodes) none_next in
          record {
            keyed = s.keyed ++ (k, n) ∷ [];
            nodes = map-append (λ (p : K × ℕ). p.1) s.keyed ((k, n) ∷ []) ∙ ap (λ z. z ++ n ∷ []) s.nodes;
            keys = every_shuffled IsKey (s.keyed ++ waiting) ((s.keyed ++ (k, n) ∷ []) ++ left)
                (IsPermutation-pop_more (s.keyed ++ waiting) s.keyed waiting left (k, n) (IsPermutation-refl _) perm) s.keys;
            waits = λ m. (
              λ h. (
                  let o = (s.waits m).0 (mem_shuffled (n ∷ nodes_of left) (nodes_of waiting) m
                  (IsPermutation-sym _ _ nodes_left) (inr h)) in (
                    again m o.0,
                    λ d. elim ((dones m).0 d) [
                      | inl before ↦ o.1 before
                      | inr same ↦
                          once_left.0 (let P : ℕ → Type 0 = λ z. Mem z (nodes_of left) in subst P same h)
                    ],
                  )
                  ),
              λ o. elim (mem_shuffled (nodes_of waiting) (n ∷ nodes_of left) m nodes_left
                  ((s.waits m).1 (still m o.0, λ d. o.1 ((dones m).1 (inl d))))) [
                    | inl same ↦ absurd (o.1 ((dones m).1 (inr same)))
                    | inr b ↦ b
                  ],
            );
            waits_once = once_left.1;
            came = λ m. (
              λ h. (dones m).1 (elim ((mem_more order n m).0 h) [ inl a ↦ inl ((s.came m).0 a) | inr e ↦ inr e ]),
              λ d. (mem_more order n m).1 (elim ((dones m).0 d) [ inl a ↦ inl ((s.came m).1 a) | inr e ↦ inr e ]),
            );
            once = unique_append order (n ∷ []) s.once (λ m. absurd m, tt) (λ z a b.
                elim b [ inl e ↦ absent (let P : ℕ → Type 0 = λ y. Mem y order in subst P e a) | inr none ↦ none ]);
            sorted = λ u v j m.
                elim ((mem_more order n v).0 m) [
                  | inl old ↦
                      (let before = s.sorted u v j old in (
                        (mem_more order n u).1 (inl before.0),
                        omega (
                          arith,
                          before.1,
                          place_kept order (n ∷ []) u before.0,
                          place_kept order (n ∷ []) v old,
                        ),
                      ))
                  | inr last ↦ (
                      let J : ℕ → Type 0 = λ z. AreJoined g u z in
                      let there = (s.came u).1 (may.1 u (joined_parent w u n (subst J last j))) in (
                        (mem_more order n u).1 (inl there),
                        omega (
                          arith,
                          place_left order (n ∷ []) u there,
                          ap (place (order ++ n ∷ [])) last,
                          place_last,
                        ),
                      )
                      )
                ];
            lead = lead_next cmp g [] s.keyed waiting left (k, n) s.lead perm (leads left first);
            none_later = before_weaker Q _ (λ b h m there not_out. h m there (λ o. not_out (again m o))) []
                (s.keyed ++ (k, n) ∷ []) (before_more Q [] s.keyed (k, n) s.none_later none_now);
          }
        where
          leads : (ps : List (K × ℕ)) → AllByRecursion (Precedes cmp (k, n)) ps
              → AllByRecursion (λ q. HaveCome g (nodes_of s.keyed) q.1 → Precedes cmp (k, n) q) ps
          leads [] h = tt
          leads (p ∷ ps) h = (λ _. h.0, leads ps h.1)

      -- there are no more nodes than indices
      pub ordering_room : (left : List (K × ℕ)) (k : K) (n : ℕ) → IsPermutation waiting ((k, n) ∷ left)
          → length order < node_bound g
      ordering_room left k n perm =
          let nodes_left : IsPermutation (nodes_of waiting) (n ∷ nodes_of left) =
          IsPermutation-map (λ p. p.1) waiting ((k, n) ∷ left) perm in
          let was_out : IsOut work n =
          (s.waits n).0 (mem_shuffled (n ∷ nodes_of left) (nodes_of waiting) n (IsPermutation-sym _ _ nodes_left) (inl refl)) in
          let few = fewer_than (n ∷ order) (node_bound g) ((λ m. was_out.1 ((s.came n).0 m)), s.once) (λ x m.
          below_bound g.nodes x (elim m [
            | inl same ↦ (let P : ℕ → Type 0 = λ z. HasNode g z in subst P (sym same) (under.out n was_out.0).0)
            | inr b ↦ (under.out x (under.done x ((s.came x).0 b))).0
          ])) in
          omega (arith, few)

      pub waits_out : (left : List (K × ℕ)) (k : K) (n : ℕ) → IsPermutation waiting ((k, n) ∷ left) → IsOut work n
      waits_out left k n perm =
          (s.waits n).0 (mem_shuffled (n ∷ nodes_of left) (nodes_of waiting) n
          (IsPermutation-sym _ _ (IsPermutation-map (λ p. p.1) waiting ((k, n) ∷ left) perm)) (inl refl))

      -- the order is whole
      module _ (none_waits : waiting ≡ []) where
        all_done : (n : ℕ) → HasNode g n → IsSet work.done n
        all_done =
            let none : (n : ℕ) → IsOut work n → ⊥ = λ n o.
            (let P : List (K × ℕ) → Type 0 = λ z. Mem n (nodes_of z) in subst P none_waits ((s.waits n).1 o)) in
            under.idle.0 (none_ready, none)

        pub ordering_whole : IsOrderOf g order
        ordering_whole =
            record {
              exact = λ n. (
                λ c. (under.out n (under.done n ((s.came n).0 (contains_mem order n c)))).0,
                λ h. mem_contains order n ((s.came n).1 (all_done n h)),
              );
              once = distinct_from_unique order s.once;
              sorted = λ u v j.
                  (s.sorted u v j ((s.came v).1 (all_done v
                  (let P : ℕ → Type 0 = λ z. HasNode g z in w.children j.0 _ j.2)))).1;
            }

        pub ordering_keys : All IsKey s.keyed
        ordering_keys =
            let P : List (K × ℕ) → Type 0 = λ z. AllByRecursion IsKey z in
            All-from_recursion IsKey s.keyed
            (subst P (append-nil s.keyed) (subst P (ap (λ z. s.keyed ++ z) none_waits) s.keys))

        pub ordering_least : (before after : List (K × ℕ)) (first : K × ℕ) → s.keyed ≡ before ++ first ∷ after
            → All (λ later. HaveCome g (nodes_of before) later.1 → Precedes cmp first later) after
        ordering_least before after first split =
            let P : List (K × ℕ) → Type 0 = λ z. AllLead cmp g [] z waiting in
            let Q : List (K × ℕ) → Type 0 = λ z. AllLead cmp g [] (before ++ first ∷ after) z in
            All-from_recursion _ after
            (lead_split cmp g [] before first after (subst Q none_waits (subst P split s.lead)))

-- the whole order is least first
pub ordering_least_first : {N E F I K : Type 0} (of : ℕ → I) (post : F → I → Bor N → K → Type 0) (f : F)
    (cmp : K → K → Ordering) {g : Graph N E} {work : Work} {waiting : List (K × ℕ)} {order : List ℕ}
    (s : IsOrdering cmp (IsKeyOf of post f g) g work waiting order) {end : ℕ} → IsWellFormed end g → IsUnderWay g work
    → work.ready ≡ [] → waiting ≡ [] → IsLeastFirst of post f cmp g order
ordering_least_first of post f cmp s w under none_ready none_waits =
    record {
      keyed = s.keyed;
      nodes = s.nodes;
      keys = ordering_keys s w under none_ready none_waits;
      least = ordering_least s w under none_ready none_waits;
    }
