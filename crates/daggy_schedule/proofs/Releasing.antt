-- The edges that leave a node that is done, counted off one after the other.
use Rattle.std.proofs.Common.{◌≡◌, ◌≢◌, ℕ, suc, ◌-◌, ◌<◌, ◌≤◌, Bool, ◌↔◌, inl, inr, List, []}
use Rattle.std.proofs.Common.{◌∷◌, ◌++◌, length, get_or, set, Some, refl, sym, ap, subst, ◌∙◌, arith, Contains}
use Rattle.std.proofs.Common.{append_assoc, append-nil, eqb, false, map}
use Rattle.std.specs.List.{filter}
use Rattle.std.proofs.lemmas.List.{get_or-set_same, get_or-set_other, map-append}
use Rattle.std.proofs.lemmas.Bool.{cases_eq, eq-eqb, ne_eqb}
use Rattle.daggy_schedule.proofs.Released.{filter_past, last_more}
use Rattle.std.specs.Option.{option_map}
use Rattle.daggy_base.specs.Graph.{ends_of}
use Rattle.daggy_base.specs.Graph.{Graph, Edge, HasNode, edge_at, in_list, out_list}
use Rattle.daggy_base.specs.Cursor.{first_of, after, cursor_after}
use Rattle.daggy_base.specs.declared.index.Direction.TheVariants.{Outgoing}
use Rattle.daggy_base.specs.Ordered.{place}
use Rattle.daggy_base.specs.WellFormed.{IsWellFormed, AreDistinct}
use Rattle.daggy_base.proofs.Lists.{Mem, Unique, mem_left, mem_right, mem_cases, mem_mid, mem_contains, contains_mem}
use Rattle.daggy_base.proofs.Lists.{unique_from_distinct, distinct_from_unique, unique_append, unique_right, fewer_than}
use Rattle.daggy_base.proofs.OutEdgesRead.{leaves, out_unique, edge_below}
use Rattle.daggy_schedule.proofs.Counts.{count_same, count_falls, after_split, less, less_same, less_other, next_closer}
use Rattle.daggy_schedule.specs.Work.{IsSet, child_or, children_of, each_last}
use Rattle.daggy_schedule.specs.Queue.{IsCounted, count_of, waits_for_none}

-- ---- one edge less is counted

module _ {N E : Type 0} {end : ℕ} {g : Graph N E} (w : IsWellFormed end g) {done : List Bool} {e : ℕ} {rest waiting : List ℕ}
    {queue : List ℕ} (s : IsCounted g done (e ∷ rest) waiting queue) (x : Edge E) (at : edge_at g e ≡ Some x)
    (parent_done : IsSet done x.parent) (once : Unique (e ∷ rest)) where
  enters : Mem e (in_list g x.child)
  enters = contains_mem (in_list g x.child) e ((w.in_of.exact x.child e).1 (x, at, refl))

  enters_one : (m : ℕ) → Mem e (in_list g m) → x.child ≡ m
  enters_one m h =
      let p = (w.in_of.exact m e).0 (mem_contains (in_list g m) e h) in
      let same : Some p.0 ≡ Some x = sym p.1 ∙ at in
      let whole : p.0 ≡ x = cc in
      ap (λ (y : Edge E). y.child) (sym whole) ∙ p.2

  falls : count_of s.still (in_list g x.child) ≡ suc (count_of (less s.still e) (in_list g x.child))
  falls =
      count_falls s.still (less s.still e) e (in_list g x.child) (unique_from_distinct _ (w.in_of.once x.child)) enters
      (s.to_come e (mem_contains (e ∷ rest) e (inl refl))) (less_same s.still e e refl)
      (λ k d. less_other s.still e k d)

  pub child_there : HasNode g x.child
  child_there = w.children e x at

  pub child_waits : 1 ≤ get_or waiting x.child 0
  child_waits = omega (arith, s.waits x.child child_there, falls)

  module _ (low : x.child < length waiting) (one_less : ℕ) (is : suc one_less ≡ get_or waiting x.child 0) where
    waits_now : (m : ℕ) → HasNode g m → get_or (set waiting x.child one_less) m 0 ≡ count_of (less s.still e) (in_list g m)
    waits_now m h =
        elim (cases_eq m x.child) [
          | inl same ↦ (
              let P : ℕ → Type 0 = λ z.
              get_or (set waiting x.child one_less) z 0 ≡ count_of (less s.still e) (in_list g z) in
              let here : P x.child =
              omega (arith, get_or-set_same waiting x.child one_less 0 low, is, s.waits x.child child_there, falls) in
              subst P (sym same) here
              )
          | inr other ↦
              get_or-set_other waiting x.child m one_less 0 other ∙ s.waits m h
              ∙ sym (count_same s.still (less s.still e) (in_list g m) (λ k n. less_other s.still e k (λ k_is.
              let P : ℕ → Type 0 = λ z. Mem z (in_list g m) in
              other (sym (enters_one m (subst P k_is n))))))
        ]

    counted_by : (queue_now : List ℕ)
        → ((n : ℕ) → Contains queue_now n ↔ (HasNode g n × (get_or (set waiting x.child one_less) n 0 ≡ 0)))
        → AreDistinct queue_now → IsCounted g done rest (set waiting x.child one_less) queue_now
    counted_by queue_now queued once_now =
        record {
          still = less s.still e;
          settled = λ k y at_k d none.
              elim (cases_eq k e) [
                | inl same ↦ less_same s.still e k same
                | inr other ↦
                    less_other s.still e k other ∙ s.settled k y at_k d (λ c.
                    elim (contains_mem (e ∷ rest) k c) [
                      | inl same ↦ other same
                      | inr there ↦ none (mem_contains rest k there)
                    ])
              ];
          unsettled = λ k y at_k d.
              less_other s.still e k (λ same.
              let whole : Some y ≡ Some x = sym at_k ∙ (ap (λ z. edge_at g z) same ∙ at) in
              let is_x : y ≡ x = cc in
              let P : Edge E → Type 0 = λ z. IsSet done z.parent in
              d (subst P (sym is_x) parent_done))
              ∙ s.unsettled k y at_k d;
          to_come = λ k c.
              less_other s.still e k (λ same.
              let P : ℕ → Type 0 = λ z. Mem z rest in
              once.0 (subst P same (contains_mem rest k c)))
              ∙ s.to_come k (mem_contains (e ∷ rest) k (inr (contains_mem rest k c)));
          waits = waits_now;
          queued = queued;
          once = once_now;
        }

    not_queued : (m : ℕ) → Contains queue m → m ≢ x.child
    not_queued m c same =
        let z = (s.queued m).0 c in
        let there : get_or waiting m 0 ≡ get_or waiting x.child 0 = ap (λ k. get_or waiting k 0) same in
        omega (arith, z.1, there, is)

    -- the child still waits
    pub counted_past : one_less ≢ 0 → IsCounted g done rest (set waiting x.child one_less) queue
    counted_past more =
        counted_by queue (λ m. (
          λ c. (
            ((s.queued m).0 c).0,
            get_or-set_other waiting x.child m one_less 0 (not_queued m c) ∙ ((s.queued m).0 c).1,
          ),
          λ r. elim (cases_eq m x.child) [
            | inl same ↦
                absurd (more (sym (get_or-set_same waiting x.child one_less 0 low)
                ∙ (ap (λ k. get_or (set waiting x.child one_less) k 0) (sym same) ∙ r.1)))
            | inr other ↦
                (s.queued m).1 (r.0, sym (get_or-set_other waiting x.child m one_less 0 other) ∙ r.1)
          ],
        )) s.once

    -- the child waits for nothing more
    pub counted_queued : one_less ≡ 0 → IsCounted g done rest (set waiting x.child one_less) (queue ++ x.child ∷ [])
    counted_queued none =
        let c = x.child in
        counted_by (queue ++ c ∷ []) (λ m. (
          λ h. elim (mem_cases queue (c ∷ []) m (contains_mem (queue ++ c ∷ []) m h)) [
            | inl a ↦ (
                let k = mem_contains queue m a in (
                  ((s.queued m).0 k).0,
                  get_or-set_other waiting c m one_less 0 (not_queued m k) ∙ ((s.queued m).0 k).1,
                )
                )
            | inr b ↦
                elim b [
                  | inl same ↦ (
                      let P : ℕ → Type 0 = λ z. HasNode g z in (
                        subst P (sym same) child_there,
                        ap (λ k. get_or (set waiting c one_less) k 0) same
                            ∙ (get_or-set_same waiting c one_less 0 low ∙ none),
                      )
                      )
                  | inr none_there ↦ absurd none_there
                ]
          ],
          λ r. mem_contains (queue ++ c ∷ []) m (elim (cases_eq m c) [
            | inl same ↦ mem_right queue (c ∷ []) m (inl same)
            | inr other ↦
                mem_left queue (c ∷ []) m
                (contains_mem queue m ((s.queued m).1 (r.0, sym (get_or-set_other waiting c m one_less 0 other) ∙ r.1)))
          ]),
        )) (distinct_from_unique (queue ++ c ∷ [])
        (unique_append queue (c ∷ []) (unique_from_distinct queue s.once) (λ m. absurd m, tt) (λ z a b.
        not_queued z (mem_contains queue z a) (elim b [ inl same ↦ same | inr none_there ↦ absurd none_there ]))))

    -- there is room for it
    pub queue_room : (size : ℕ) → ((m : ℕ) → HasNode g m → m < size) → length queue < size
    queue_room size within =
        let c = x.child in
        let few = fewer_than (c ∷ queue) size (
          λ m. not_queued c (mem_contains queue c m) refl,
          unique_from_distinct queue s.once,
        ) (λ z m. elim m [
          | inl same ↦ within z (let P : ℕ → Type 0 = λ k. HasNode g k in subst P (sym same) child_there)
          | inr b ↦ within z ((s.queued z).0 (mem_contains queue z b)).0
        ]) in
        omega (arith, few)

    zero_waiting : (m : ℕ) → m ≢ x.child → waits_for_none (set waiting x.child one_less) m ≡ waits_for_none waiting m
    zero_waiting m other = ap (λ k. eqb k 0) (get_or-set_other waiting x.child m one_less 0 other)

    zero_child : waits_for_none (set waiting x.child one_less) x.child ≡ eqb one_less 0
    zero_child = ap (λ k. eqb k 0) (get_or-set_same waiting x.child one_less 0 low)

    waited : waits_for_none waiting x.child ≡ false
    waited = ne_eqb (get_or waiting x.child 0) 0 (λ z. let both : suc one_less ≡ 0 = is ∙ z in absurd (omega (arith, both)))

    pub freed_past : one_less ≢ 0 → (xs : List ℕ)
        → filter (waits_for_none (set waiting x.child one_less)) (xs ++ x.child ∷ []) ≡ filter (waits_for_none waiting) xs
    freed_past more xs =
        let fails : waits_for_none (set waiting x.child one_less) x.child ≡ false = zero_child ∙ ne_eqb one_less 0 more in
        filter_past (waits_for_none waiting) (waits_for_none (set waiting x.child one_less)) x.child xs (λ m.
        elim (cases_eq m x.child) [
          | inl same ↦
              ap (λ z. waits_for_none (set waiting x.child one_less) z) same
              ∙ (fails ∙ sym (ap (λ z. waits_for_none waiting z) same ∙ waited))
          | inr other ↦ zero_waiting m other
        ]) fails

    pub freed_queued : one_less ≡ 0 → (xs : List ℕ)
        → each_last (filter (waits_for_none (set waiting x.child one_less)) (xs ++ x.child ∷ []))
        ≡ each_last (filter (waits_for_none waiting) xs) ++ x.child ∷ []
    freed_queued none xs =
        last_more (waits_for_none waiting) (waits_for_none (set waiting x.child one_less)) x.child zero_waiting waited
        (zero_child ∙ eq-eqb one_less 0 none) xs

-- ---- along the list

abbrev children_at : {N E : Type 0} → Graph N E → List ℕ → List ℕ
children_at g es = map (λ e. child_or (edge_at g e)) es

pub record Releasing {N E : Type 0} (end : ℕ) (g : Graph N E) (n : ℕ) (done : List Bool) (was : List ℕ) (e : ℕ)
    (waiting queue : List ℕ) : Type 0 where
  pub before : List ℕ
  pub rest : List ℕ
  pub split : out_list g n ≡ before ++ rest
  pub at_rest : e ≡ first_of end rest
  pub counted : IsCounted g done rest waiting queue
  pub queued : queue ≡ was ++ each_last (filter (waits_for_none waiting) (children_at g before))

pub releasing_from : {N E : Type 0} {end : ℕ} {g : Graph N E} {n : ℕ} {done : List Bool} {e : ℕ} {waiting queue : List ℕ}
    → e ≡ first_of end (out_list g n) → IsCounted g done (out_list g n) waiting queue
    → Releasing end g n done queue e waiting queue
releasing_from {N} {E} {end} {g} {n} {done} {e} {waiting} {queue} is counted =
    record {
      before = [];
      rest = out_list g n;
      split = refl;
      at_rest = is;
      counted = counted;
      queued = sym (append-nil queue);
    }

first_rest : (end e : ℕ) (xs : List ℕ) → e ≡ first_of end xs → e ≢ end → (es : List ℕ) × (xs ≡ e ∷ es)
first_rest end e [] is ne = absurd (ne is)
first_rest end e (x ∷ xs) is ne = (xs, ap (λ z. z ∷ xs) (sym is))

module _ {N E : Type 0} {end : ℕ} {g : Graph N E} (w : IsWellFormed end g) {n : ℕ} {done : List Bool}
    {was : List ℕ} {e : ℕ} {waiting queue : List ℕ} (s : Releasing end g n done was e waiting queue) where
  nothing_left : e ≡ end → (xs : List ℕ) → out_list g n ≡ s.before ++ xs → e ≡ first_of end xs → xs ≡ []
  nothing_left h [] split is = refl
  nothing_left h (y ∷ ys) split is =
      let M : List ℕ → Type 0 = λ z. Mem y z in
      let p = leaves end g w n y (subst M (sym split) (mem_mid s.before ys y)) in
      let low = edge_below end g w y p.0 p.1 in
      absurd (omega (arith, low, is, h))

  -- at the end all are counted off
  pub all_released : e ≡ end → IsCounted g done [] waiting queue
  all_released h =
      let P : List ℕ → Type 0 = λ z. IsCounted g done z waiting queue in
      subst P (nothing_left h s.rest s.split s.at_rest) s.counted

  pub all_queued : e ≡ end → queue ≡ was ++ each_last (filter (waits_for_none waiting) (children_of g n))
  all_queued h =
      let all : out_list g n ≡ s.before =
      s.split ∙ (ap (λ z. s.before ++ z) (nothing_left h s.rest s.split s.at_rest) ∙ append-nil s.before) in
      s.queued ∙ ap (λ z. was ++ each_last (filter (waits_for_none waiting) (children_at g z))) (sym all)

  module _ (here : e ≢ end) where
    tail : (es : List ℕ) × (s.rest ≡ e ∷ es)
    tail = first_rest end e s.rest s.at_rest here

    split_here : out_list g n ≡ s.before ++ e ∷ tail.0
    split_here = s.split ∙ ap (λ z. s.before ++ z) tail.1

    once_all : Unique (s.before ++ e ∷ tail.0)
    once_all = let P : List ℕ → Type 0 = λ z. Unique z in subst P split_here (out_unique end g w n)

    once_rest : Unique (e ∷ tail.0)
    once_rest = unique_right s.before (e ∷ tail.0) once_all

    counted_here : IsCounted g done (e ∷ tail.0) waiting queue
    counted_here =
        let P : List ℕ → Type 0 = λ z. IsCounted g done z waiting queue in subst P tail.1 s.counted

    pub released_edge : (x : Edge E) × (edge_at g e ≡ Some x) × (x.parent ≡ n)
    released_edge =
        let M : List ℕ → Type 0 = λ z. Mem e z in
        leaves end g w n e (subst M (sym split_here) (mem_mid s.before tail.0 e))

    module _ (x : Edge E) (at : edge_at g e ≡ Some x) where
      parent_is : x.parent ≡ n
      parent_is =
          let p = released_edge in
          let same : Some x ≡ Some p.0 = sym at ∙ p.1 in
          let whole : x ≡ p.0 = cc in
          ap (λ (y : Edge E). y.parent) whole ∙ p.2

      next_is : (next : ℕ) → next ≡ cursor_after Outgoing end g e (edge_at g e) → next ≡ first_of end tail.0
      next_is next is =
          is
          ∙ (ap (λ z. cursor_after Outgoing end g e z) at
          ∙ (ap (λ (z : ℕ). after end (out_list g z) e) parent_is
          ∙ (ap (λ (z : List ℕ). after end z e) split_here ∙ after_split end s.before e tail.0 once_all)))

      -- the list that is left is shorter
      pub shorter : (next : ℕ) → next ≡ cursor_after Outgoing end g e (edge_at g e)
          → length (out_list g n) - place (out_list g n) next < length (out_list g n) - place (out_list g n) e
      shorter next is =
          let P : List ℕ → Type 0 = λ z. length z - place z next < length z - place z e in
          let absent : Mem end (s.before ++ e ∷ tail.0) → ⊥ = λ m.
          (let M : List ℕ → Type 0 = λ z. Mem end z in
          let p = leaves end g w n end (subst M (sym split_here) m) in
          let low = edge_below end g w end p.0 p.1 in
          omega (arith, low)) in
          subst P (sym split_here) (next_closer end s.before e tail.0 next once_all absent (next_is next is))

      module _ (set_done : IsSet done n) where
        parent_done : IsSet done x.parent
        parent_done = let P : ℕ → Type 0 = λ z. IsSet done z in subst P (sym parent_is) set_done

        pub release_child : HasNode g x.child
        release_child = w.children e x at

        pub release_waits : 1 ≤ get_or waiting x.child 0
        release_waits = child_waits w counted_here x at parent_done once_rest

        module _ (low : x.child < length waiting) (one_less : ℕ) (is : suc one_less ≡ get_or waiting x.child 0)
            (next : ℕ) (next_at : next ≡ cursor_after Outgoing end g e (edge_at g e)) where
          pub release_room : (size : ℕ) → ((m : ℕ) → HasNode g m → m < size) → length queue < size
          release_room = queue_room w counted_here x at parent_done once_rest low one_less is

          children_more : children_at g (s.before ++ e ∷ []) ≡ children_at g s.before ++ x.child ∷ []
          children_more =
              map-append (λ k. child_or (edge_at g k)) s.before (e ∷ [])
              ∙ ap (λ z. children_at g s.before ++ child_or z ∷ []) at

          moved : (queue_now : List ℕ) → IsCounted g done tail.0 (set waiting x.child one_less) queue_now
              → queue_now ≡ was ++ each_last (filter (waits_for_none (set waiting x.child one_less))
              (children_at g s.before ++ x.child ∷ []))
              → Releasing end g n done was next (set waiting x.child one_less) queue_now
          moved queue_now c queued_now =
              record {
                before = s.before ++ e ∷ [];
                rest = tail.0;
                split = split_here ∙ sym (append_assoc s.before (e ∷ []) tail.0);
                at_rest = next_is next next_at;
                counted = c;
                queued = queued_now
                    ∙ ap (λ z. was ++ each_last (filter (waits_for_none (set waiting x.child one_less)) z))
                    (sym children_more);
              }

          pub released_past : one_less ≢ 0 → Releasing end g n done was next (set waiting x.child one_less) queue
          released_past more =
              moved queue (counted_past w counted_here x at parent_done once_rest low one_less is more)
              (s.queued ∙ ap (λ z. was ++ each_last z)
              (sym (freed_past w counted_here x at parent_done once_rest low one_less is more (children_at g s.before))))

          pub released_queued : one_less ≡ 0
              → Releasing end g n done was next (set waiting x.child one_less) (queue ++ x.child ∷ [])
          released_queued none =
              moved (queue ++ x.child ∷ []) (counted_queued w counted_here x at parent_done once_rest low one_less is none)
              (ap (λ z. z ++ x.child ∷ []) s.queued
              ∙ (append_assoc was (each_last (filter (waits_for_none waiting) (children_at g s.before))) (x.child ∷ [])
              ∙ ap (λ z. was ++ z)
              (sym (freed_queued w counted_here x at parent_done once_rest low one_less is none (children_at g s.before)))))

    -- the same by what the store says of the edge
    module _ (set_done : IsSet done n) {p c : ℕ} (ends : Some (p, c) ≡ option_map ends_of (edge_at g e)) where
      child_is : released_edge.0.child ≡ c
      child_is =
          let r = released_edge in
          let x = r.0 in
          let same : Some (p, c) ≡ Some (x.parent, x.child) = ends ∙ ap (option_map ends_of) r.1 in
          let whole : (p, c) ≡ (x.parent, x.child) = cc in
          sym (ap (λ (q : ℕ × ℕ). q.1) whole)

      pub child_exists : HasNode g c
      child_exists =
          let P : ℕ → Type 0 = λ z. HasNode g z in
          subst P child_is (release_child released_edge.0 released_edge.1 set_done)

      pub child_wait : 1 ≤ get_or waiting c 0
      child_wait =
          let P : ℕ → Type 0 = λ z. 1 ≤ get_or waiting z 0 in
          subst P child_is (release_waits released_edge.0 released_edge.1 set_done)

      module _ (low : c < length waiting) (one_less : ℕ) (is : suc one_less ≡ get_or waiting c 0)
          (next : ℕ) (next_at : next ≡ cursor_after Outgoing end g e (edge_at g e)) where
        low_there : released_edge.0.child < length waiting
        low_there = let P : ℕ → Type 0 = λ z. z < length waiting in subst P (sym child_is) low

        is_there : suc one_less ≡ get_or waiting released_edge.0.child 0
        is_there = let P : ℕ → Type 0 = λ z. suc one_less ≡ get_or waiting z 0 in subst P (sym child_is) is

        pub child_room : (size : ℕ) → ((m : ℕ) → HasNode g m → m < size) → length queue < size
        child_room =
            release_room released_edge.0 released_edge.1 set_done low_there one_less is_there next next_at

        pub child_past : one_less ≢ 0 → Releasing end g n done was next (set waiting c one_less) queue
        child_past more =
            let P : ℕ → Type 0 = λ z. Releasing end g n done was next (set waiting z one_less) queue in
            subst P child_is
            (released_past released_edge.0 released_edge.1 set_done low_there one_less is_there next next_at more)

        pub child_queued : one_less ≡ 0 → Releasing end g n done was next (set waiting c one_less) (queue ++ c ∷ [])
        child_queued none =
            let P : ℕ → Type 0 = λ z. Releasing end g n done was next (set waiting z one_less) (queue ++ z ∷ []) in
            subst P child_is
            (released_queued released_edge.0 released_edge.1 set_done low_there one_less is_there next next_at none)
