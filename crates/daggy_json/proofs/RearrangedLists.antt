-- Orders that can be marked are rearrangements of the lists of a graph of slots.
use Rattle.std.proofs.Common.{◌≡◌, ℕ, zero, suc, ◌+◌, ◌<◌, inl, inr, Bool, true, false, eqb, Option, Some, None, IsSome}
use Rattle.std.proofs.Common.{is_some, List, [], ◌∷◌, length, get_or, map, replicate, count_by, unwrap_or, refl, sym}
use Rattle.std.proofs.Common.{ap, subst, ◌∙◌, arith, cond}
use Rattle.std.proofs.lemmas.List.{length-replicate, length-map}
use Rattle.std.specs.Prelude.{Contains}
use Rattle.std.specs.Option.{option_map}
use Rattle.std.proofs.lemmas.Bool.{false≢true, cases_eq, eqb-true, eq-eqb}
use Rattle.std.proofs.lemmas.Option.{slice_get_within, unwrap_or-slice_get}
use Rattle.std.proofs.lemmas.List.FromFn.{get_or-map-range_with_len}
use Rattle.daggy_base.proofs.OutEdgesRead.{slot_get}
use Rattle.daggy_base.specs.declared.index.Direction.{Direction}
use Rattle.daggy_base.specs.declared.index.Direction.TheVariants.{Outgoing, Incoming}
use Rattle.daggy_base.specs.Graph.{Edge, slot, near_end, list_at}
use Rattle.daggy_base.specs.FromSlots.{down_from, has_end, lists_down, graph_of_slots}
use Rattle.daggy_base.proofs.Lists.{Contains-nil, Contains-here, Contains-there, Contains-cases}
use Rattle.daggy_base.specs.Orders.{lists_by_slots, with_orders, IsOrder, AreOrders}
use Rattle.daggy_json.specs.Found.{chosen, AllMarked, marked_by, LeavesNone, AreRearranged, EndsExist}
use Rattle.daggy_json.proofs.MarkedLists.{row, rows_count, rows_are, stands_in, gets_marked, all_from, slot_within}
use Rattle.daggy_json.proofs.Parts.{slot_some}

-- ---- numbers below k that pass

down_has_at : (l : List ℕ) (p : ℕ → Bool) (k e : ℕ) (b : Bool)
    → p k ≡ b → e < suc k → p e ≡ true → (e < k → Contains l e) → Contains (cond b (k ∷ l) l) e
down_has_at l p k e true is low h before =
    elim (cases_eq e k) [
      | inl same ↦ subst (λ z. Contains (k ∷ l) z) (sym same) (Contains-here k l)
      | inr other ↦ Contains-there k e l (before (omega (arith, other)))
    ]
down_has_at l p k e false is low h before =
    elim (cases_eq e k) [
      | inl same ↦ absurd (false≢true (sym is ∙ (ap p (sym same) ∙ h)))
      | inr other ↦ before (omega (arith, other))
    ]

pub down_has : (p : ℕ → Bool) (k e : ℕ) → e < k → p e ≡ true → Contains (down_from p k) e
down_has p zero e low h = absurd (omega arith)
down_has p (suc k) e low h = down_has_at (down_from p k) p k e (p k) refl low h (λ q. down_has p k e q h)

down_passes_at : (l : List ℕ) (p : ℕ → Bool) (k e : ℕ) (b : Bool)
    → p k ≡ b → (Contains l e → p e ≡ true) → Contains (cond b (k ∷ l) l) e → p e ≡ true
down_passes_at l p k e true is before c = elim (Contains-cases k e l c) [
  | inl same ↦ ap p (sym same) ∙ is
  | inr there ↦ before there
]
down_passes_at l p k e false is before c = before c

pub down_passes : (p : ℕ → Bool) (k e : ℕ) → Contains (down_from p k) e → p e ≡ true
down_passes p zero e c = absurd (Contains-nil e c)
down_passes p (suc k) e c = down_passes_at (down_from p k) p k e (p k) refl (down_passes p k e) c

-- ---- ends

module _ {E : Type 0} (dir : Direction) (edges : List (Option (Edge E))) where
  pub end_some : (n e : ℕ)
      → has_end dir edges n e ≡ true → (x : Edge E) × (slot edges e ≡ Some x) × (near_end dir x ≡ n)
  end_some n e h = at (slot edges e) refl h
    where
      at : (o : Option (Edge E))
          → slot edges e ≡ o → unwrap_or (option_map (λ x. eqb (near_end dir x) n) o) false ≡ true
          → (x : Edge E) × (slot edges e ≡ Some x) × (near_end dir x ≡ n)
      at None is q = absurd (false≢true q)
      at (Some x) is q = (x, is, eqb-true _ _ q)

  pub end_is : (e : ℕ) (x : Edge E) → slot edges e ≡ Some x → has_end dir edges (near_end dir x) e ≡ true
  end_is e x is =
      ap (λ o. unwrap_or (option_map (λ z. eqb (near_end dir z) (near_end dir x)) o) false) is ∙ eq-eqb _ _ refl

  pub one_end : (k k' e : ℕ) → has_end dir edges k e ≡ true → has_end dir edges k' e ≡ true → k ≡ k'
  one_end k k' e h h' =
      let a = end_some k e h in
      let b = end_some k' e h' in
      let same : Some a.0 ≡ Some b.0 = sym a.1 ∙ b.1 in
      let whole : a.0 ≡ b.0 = cc in
      sym a.2 ∙ (ap (near_end dir) whole ∙ b.2)

  pub end_below : (n e : ℕ) → has_end dir edges n e ≡ true → e < length edges
  end_below n e h = let a = end_some n e h in slice_get_within edges e (Some a.0) (slot_get edges e a.0 a.1)

  -- the list of a node
  module _ {N : Type 0} (nodes : List (Option N)) where
    pub lists_at : (n : ℕ) → n < length nodes
        → row (lists_down dir (length nodes) edges) n ≡ down_from (has_end dir edges n) (length edges)
    lists_at n low =
        unwrap_or-slice_get (lists_down dir (length nodes) edges) n []
        ∙ get_or-map-range_with_len (λ k. down_from (has_end dir edges k) (length edges)) 0 (length nodes) n n [] low
        (omega arith)

    pub at_dir : (d : Direction) (n : ℕ)
        → list_at d (graph_of_slots nodes edges) n ≡ row (lists_down d (length nodes) edges) n
    at_dir Outgoing n = refl
    at_dir Incoming n = refl

    pub in_list_has : (n e : ℕ)
        → n < length nodes → has_end dir edges n e ≡ true → Contains (list_at dir (graph_of_slots nodes edges) n) e
    in_list_has n e low h =
        rw (at_dir dir n ∙ lists_at n low) (down_has (has_end dir edges n) (length edges) e (end_below n e h) h)

    pub in_list_ends : (n e : ℕ)
        → n < length nodes → Contains (list_at dir (graph_of_slots nodes edges) n) e → has_end dir edges n e ≡ true
    in_list_ends n e low c =
        down_passes (has_end dir edges n) (length edges) e (subst (λ k. Contains k e) (at_dir dir n ∙ lists_at n low) c)

    pub ordered_at : (d : Direction) (rows : List (List ℕ × List ℕ)) (n : ℕ)
        → list_at d (with_orders (graph_of_slots nodes edges) rows) n
        ≡ row (lists_by_slots nodes (map (chosen d) rows)) n
    ordered_at Outgoing rows n = refl
    ordered_at Incoming rows n = refl

    none_marked : (k e : ℕ) → get_or (replicate k false) e false ≡ true → ⊥
    none_marked zero e h = false≢true h
    none_marked (suc k) zero h = false≢true h
    none_marked (suc k) (suc e) h = none_marked k e h

    low_marks : (k e : ℕ) → has_end dir edges k e ≡ true → e < length (replicate (length edges) false)
    low_marks k e h = omega (arith, end_below k e h, length-replicate (length edges) false)

    module _ (rows : List (List ℕ × List ℕ)) where
      pub orders_from_marks : AreRearranged dir nodes edges rows → (n : ℕ) → IsSome (slot nodes n)
          → IsOrder (list_at dir (graph_of_slots nodes edges) n)
          (list_at dir (with_orders (graph_of_slots nodes edges) rows) n)
      orders_from_marks h n exists =
          let lists = map (chosen dir) rows in
          let none = replicate (length edges) false in
          let r = rows_are (has_end dir edges) 0 none nodes lists low_marks h.0 in
          let low = slot_within nodes n exists in
          let start : (e : ℕ) → has_end dir edges (0 + n) e ≡ true → has_end dir edges n e ≡ true = λ e q.
          ap (λ k. has_end dir edges k e) (let z : n ≡ 0 + n = omega arith in z) ∙ q in
          let found : (e : ℕ)
          → Contains (list_at dir (graph_of_slots nodes edges) n) e → Contains (row (lists_by_slots nodes lists) n) e =
          λ e c. let here = in_list_ends n e low c in
          let x = end_some n e here in
          elim (stands_in (has_end dir edges) none nodes lists e (h.1 e (ap is_some x.1))) [
            | inl old ↦ absurd (none_marked (length edges) e old)
            | inr new ↦ (
                let there : has_end dir edges new.0 e ≡ true =
                ap (λ k. has_end dir edges k e) (let z : new.0 ≡ 0 + new.0 = omega arith in z)
                ∙ r.pass new.0 new.1.exists e new.1.listed in
                subst (λ k. Contains (row (lists_by_slots nodes lists) k) e) (one_end new.0 n e there here) new.1.listed
                )
          ] in
          rw (ordered_at dir rows n) (record {
            exact = λ e. (λ c. in_list_has n e low (start e (r.pass n exists e c)), found e);
            once = r.once n exists;
          })

      pub rows_from_marks : AreRearranged dir nodes edges rows → length (map (chosen dir) rows) ≡ count_by is_some nodes
      rows_from_marks h = rows_count (has_end dir edges) 0 _ nodes _ h.0

      pub marks_from_orders : length (map (chosen dir) rows) ≡ count_by is_some nodes
          → ((n : ℕ) → IsSome (slot nodes n)
          → IsOrder (list_at dir (graph_of_slots nodes edges) n)
          (list_at dir (with_orders (graph_of_slots nodes edges) rows) n))
          → ((e : ℕ) (x : Edge E) → slot edges e ≡ Some x → IsSome (slot nodes (near_end dir x)))
          → AreRearranged dir nodes edges rows
      marks_from_orders count orders ends = (all, none_left)
        where
          lists : List (List ℕ)
          lists = map (chosen dir) rows

          order_of : (n : ℕ) → IsSome (slot nodes n)
              → IsOrder (list_at dir (graph_of_slots nodes edges) n)
              (row (lists_by_slots nodes (map (chosen dir) rows)) n)
          order_of n s = rw (ordered_at dir rows n) at (orders n s)

          all : AllMarked (has_end dir edges) 0 (replicate (length edges) false) nodes (map (chosen dir) rows)
          all =
              all_from (has_end dir edges) one_end 0 _ nodes _ count
              (record {
                pass = λ n s e c.
                    ap (λ k. has_end dir edges k e) (let z : 0 + n ≡ n = omega arith in z)
                    ∙ in_list_ends n e (slot_within nodes n s) (((order_of n s).exact e).0 c);
                once = λ n s. (order_of n s).once;
              }) (λ e h. absurd (none_marked (length edges) e h))

          none_left : LeavesNone edges (marked_by (replicate (length edges) false) nodes (map (chosen dir) rows))
          none_left e s =
              let x = slot_some (slot edges e) s in
              let n = near_end dir x.0 in
              let exists = ends e x.0 x.1 in
              let here = in_list_has n e (slot_within nodes n exists) (end_is e x.0 x.1) in
              gets_marked (has_end dir edges) 0 _ nodes _ low_marks all n
              (record { exists = exists; listed = ((order_of n exists).exact e).1 here })

-- ---- both directions

pub are_orders_from : {N E : Type 0} (nodes : List (Option N)) (edges : List (Option (Edge E)))
    (rows : List (List ℕ × List ℕ))
    → AreRearranged Outgoing nodes edges rows → AreRearranged Incoming nodes edges rows
    → AreOrders (graph_of_slots nodes edges) rows
are_orders_from nodes edges rows out into =
    record {
      count = sym (length-map rows (chosen Outgoing)) ∙ rows_from_marks Outgoing edges nodes rows out;
      each = λ dir.
          elim dir as (λ dir. (n : ℕ) → IsSome (slot nodes n) → IsOrder (list_at dir (graph_of_slots nodes edges) n)
          (list_at dir (with_orders (graph_of_slots nodes edges) rows) n)) [
            | Outgoing ↦ orders_from_marks Outgoing edges nodes rows out
            | Incoming ↦ orders_from_marks Incoming edges nodes rows into
          ];
    }

pub rearranged_from : {N E : Type 0} (dir : Direction) (nodes : List (Option N)) (edges : List (Option (Edge E)))
    (rows : List (List ℕ × List ℕ))
    → EndsExist nodes edges → AreOrders (graph_of_slots nodes edges) rows → AreRearranged dir nodes edges rows
rearranged_from dir nodes edges rows ends h =
    marks_from_orders dir edges nodes rows (length-map rows (chosen dir) ∙ h.count) (h.each dir) (ends dir)
