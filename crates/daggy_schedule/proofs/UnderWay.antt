-- That the work on a graph is under way, by what each node waits for.
use Rattle.std.proofs.Common.{◌≡◌, ℕ, ◌<◌, Bool, true, false, not, ◌↔◌, inl, inr, List, Some, length}
use Rattle.std.proofs.Common.{[], get_or, set, take, drop, refl, sym, ap, subst, ◌∙◌, Contains, eqb}
use Rattle.std.specs.List.{count_by, filter}
use Rattle.std.proofs.lemmas.Option.{get_or_from_slice_get, slice_get-get_or, slice_get_within}
use Rattle.std.proofs.lemmas.Bool.{false≢true}
use Rattle.daggy_base.specs.Graph.{Graph, Edge, HasNode, edge_at, in_list, out_list}
use Rattle.daggy_base.specs.Ordered.{IsOrderOf}
use Rattle.daggy_base.specs.WellFormed.{IsWellFormed}
use Rattle.daggy_base.proofs.Lists.{Mem, mem_contains, contains_mem, Contains-nil, Contains-map, Contains-from_map}
use Rattle.daggy_schedule.specs.Work.{IsSet, is_set, IsUnderWay, MayBegin, parents_of, children_of}
use Rattle.daggy_schedule.specs.Work.{parent_or, child_or, has_done_parents, released, each_last}
use Rattle.daggy_schedule.specs.Queue.{IsCounted, IsKept, count_of, waits_for_none}
use Rattle.daggy_schedule.proofs.Members.{among_in, among_out}
use Rattle.daggy_schedule.proofs.Counts.{count_zero, count_none, count_same, count_map, count_is}
use Rattle.daggy_schedule.proofs.Keeping.{by_set, unset_flag, set_more, from_out, from_ready, out_or_ready, not_both}
use Rattle.daggy_schedule.proofs.Keeping.{ready_once, done_low}
use Rattle.daggy_schedule.proofs.Released.{filter_same}
use Rattle.daggy_schedule.proofs.Idle.{idle_is_finished}

-- the edge e comes from a parent that is not done
abbrev from_undone : {N E : Type 0} → Graph N E → List Bool → ℕ → Bool
from_undone g done e = not (is_set done (parent_or (edge_at g e)))

count_parents : {N E : Type 0} (g : Graph N E) (done : List Bool) (n : ℕ)
    → count_by (λ u. not (is_set done u)) (parents_of g n) ≡ count_of (from_undone g done) (in_list g n)
count_parents g done n =
    count_is (λ u. not (is_set done u)) (parents_of g n)
    ∙ count_map (λ u. not (is_set done u)) (λ e. parent_or (edge_at g e)) (in_list g n)

module _ {N E : Type 0} {end : ℕ} {g : Graph N E} (w : IsWellFormed end g) where
  entered : (n e : ℕ) → Mem e (in_list g n) → (x : Edge E) × (edge_at g e ≡ Some x) × (x.child ≡ n)
  entered n e m = (w.in_of.exact n e).0 (mem_contains (in_list g n) e m)

  parent_there : (n e : ℕ) (x : Edge E) → edge_at g e ≡ Some x → Mem e (in_list g n)
      → Contains (parents_of g n) x.parent
  parent_there n e x at m =
      let P : ℕ → Type 0 = λ z. Contains (parents_of g n) z in
      subst P (ap parent_or at)
      (Contains-map (λ k. parent_or (edge_at g k)) (in_list g n) e (mem_contains (in_list g n) e m))

  child_exists : (n m : ℕ) → Mem m (children_of g n) → HasNode g m
  child_exists n m h =
      let p = Contains-from_map (λ k. child_or (edge_at g k)) (out_list g n) m (mem_contains (children_of g n) m h) in
      let q = (w.out_of.exact n p.0).0 p.1 in
      let P : ℕ → Type 0 = λ z. HasNode g z in
      subst P (sym (ap child_or q.1) ∙ p.2) (w.children p.0 q.0 q.1)

  -- ---- by counts

  module _ {done : List Bool} {waiting queue : List ℕ} (s : IsCounted g done [] waiting queue) where
    still_is : (e : ℕ) (x : Edge E) → edge_at g e ≡ Some x → s.still e ≡ from_undone g done e
    still_is e x at =
        elim (by_set done x.parent) [
          | inl yes_done ↦
              s.settled e x at yes_done (λ c. Contains-nil e c)
              ∙ sym (ap (λ o. not (is_set done (parent_or o))) at ∙ ap not yes_done)
          | inr not_done ↦
              s.unsettled e x at not_done
              ∙ sym (ap (λ o. not (is_set done (parent_or o))) at ∙ ap not (unset_flag done x.parent not_done))
        ]

    pub waits_count : (n : ℕ) → HasNode g n
        → get_or waiting n 0 ≡ count_by (λ u. not (is_set done u)) (parents_of g n)
    waits_count n h =
        s.waits n h
        ∙ (count_same (from_undone g done) s.still (in_list g n) (λ e m.
        let p = entered n e m in still_is e p.0 p.1)
        ∙ sym (count_parents g done n))

    zero_done : (n : ℕ) → HasNode g n → get_or waiting n 0 ≡ 0 → MayBegin g done n
    zero_done n h z = (
      h,
      λ u c. (
          let p = Contains-from_map (λ k. parent_or (edge_at g k)) (in_list g n) u c in
          let fails = count_zero s.still (in_list g n) (sym (s.waits n h) ∙ z) p.0 (contains_mem (in_list g n) p.0 p.1) in
          let q = entered n p.0 (contains_mem (in_list g n) p.0 p.1) in
          let is : q.0.parent ≡ u = sym (ap parent_or q.1) ∙ p.2 in
          let P : ℕ → Type 0 = λ z. IsSet done z in
          elim (by_set done q.0.parent) [
            | inl yes_done ↦ subst P is yes_done
            | inr not_done ↦ absurd (false≢true (sym fails ∙ s.unsettled p.0 q.0 q.1 not_done))
          ]
          ),
    )

    done_zero : (n : ℕ) → MayBegin g done n → get_or waiting n 0 ≡ 0
    done_zero n may =
        s.waits n may.0 ∙ count_none s.still (in_list g n) (λ e m.
        let p = entered n e m in
        s.settled e p.0 p.1 (may.1 p.0.parent (parent_there n e p.0 p.1 m)) (λ c. Contains-nil e c))

    pub queued_begins : (n : ℕ) → Contains queue n ↔ MayBegin g done n
    queued_begins n = (
      λ c. let q = (s.queued n).0 c in zero_done n q.0 q.1,
      λ may. (s.queued n).1 (may.0, done_zero n may),
    )

  -- which children a node releases
  pub released_is : {done : List Bool} {waiting queue : List ℕ} → IsCounted g done [] waiting queue → (n : ℕ)
      → each_last (filter (waits_for_none waiting) (children_of g n)) ≡ released g done n
  released_is {done} {waiting} {queue} s n =
      ap each_last (filter_same (has_done_parents g done) (waits_for_none waiting) (children_of g n) (λ m h.
      ap (λ k. eqb k 0) (waits_count s m (child_exists n m h))))

  module _ {waiting queue : List ℕ} {head tail : ℕ} {out done : List Bool} {finished : ℕ}
      (k : IsKept waiting queue head tail out done finished) where
    -- ---- under way by counts

    module _ (s : IsCounted g done [] waiting (take tail queue))
        (within : (n : ℕ) → HasNode g n → n < length waiting) (order : List ℕ) (ord : IsOrderOf g order) where
      ready_begins : (n : ℕ) → Contains (drop head (take tail queue)) n ↔ (MayBegin g done n × (IsSet out n → ⊥))
      ready_begins n = (
        λ c. ((queued_begins s n).0 (from_ready k n c), not_both k n c),
        λ r. elim (out_or_ready k n ((queued_begins s n).1 r.0)) [ inl o ↦ absurd (r.1 o) | inr c ↦ c ],
      )

      pub under_way : IsUnderWay g (record {
        waiting = waiting;
        ready = drop head (take tail queue);
        out = out;
        done = done;
      })
      under_way =
          record {
            waits = λ n h. slice_get-get_or waiting n 0 (within n h) ∙ ap Some (waits_count s n h);
            ready = λ n. (
              λ a. (ready_begins n).0 (among_out (drop head (take tail queue)) n a),
              λ r. among_in (drop head (take tail queue)) n ((ready_begins n).1 r),
            );
            once = ready_once k;
            out = λ n o. (queued_begins s n).0 (from_out k n o);
            done = k.begun;
            idle = idle_is_finished w order ord waiting (drop head (take tail queue)) out done ready_begins
                (λ n o. (queued_begins s n).0 (from_out k n o)) k.begun;
          }

    -- ---- counts by work under way

    module _ (u : IsUnderWay g (record {
      waiting = waiting;
      ready = drop head (take tail queue);
      out = out;
      done = done;
    })) where
      pub node_within : (n : ℕ) → HasNode g n → n < length waiting
      node_within n h = slice_get_within waiting n _ (u.waits n h)

      waits_are : (n : ℕ) → HasNode g n → get_or waiting n 0 ≡ count_of (from_undone g done) (in_list g n)
      waits_are n h = get_or_from_slice_get waiting n _ 0 (u.waits n h) ∙ count_parents g done n

      begins_zero : (n : ℕ) → MayBegin g done n → get_or waiting n 0 ≡ 0
      begins_zero n may =
          waits_are n may.0 ∙ count_none (from_undone g done) (in_list g n) (λ e m.
          let p = entered n e m in
          ap (λ o. not (is_set done (parent_or o))) p.1 ∙ ap not (may.1 p.0.parent (parent_there n e p.0 p.1 m)))

      zero_begins : (n : ℕ) → HasNode g n → get_or waiting n 0 ≡ 0 → MayBegin g done n
      zero_begins n h z = (
        h,
        λ v c. (
            let p = Contains-from_map (λ k. parent_or (edge_at g k)) (in_list g n) v c in
            let fails = count_zero (from_undone g done) (in_list g n) (sym (waits_are n h) ∙ z) p.0
            (contains_mem (in_list g n) p.0 p.1) in
            ap (is_set done) (sym p.2) ∙ from_not (is_set done (parent_or (edge_at g p.0))) fails
            ),
      )
        where
          from_not : (b : Bool) → not b ≡ false → b ≡ true
          from_not true h = refl
          from_not false h = absurd (false≢true (sym h))

      pub counted : IsCounted g done [] waiting (take tail queue)
      counted =
          record {
            still = from_undone g done;
            settled = λ e x at d none. ap (λ o. not (is_set done (parent_or o))) at ∙ ap not d;
            unsettled = λ e x at d. ap (λ o. not (is_set done (parent_or o))) at ∙ ap not (unset_flag done x.parent d);
            to_come = λ e c. absurd (Contains-nil e c);
            waits = waits_are;
            queued = λ n. (
              λ c. (
                  let may : MayBegin g done n =
                  elim (out_or_ready k n c) [ inl o ↦ u.out n o | inr r ↦ ((u.ready n).0 (among_in (drop head (take tail queue)) n r)).0 ] in
                  (may.0, begins_zero n may)
                  ),
              λ r. (
                  let may = zero_begins n r.0 r.1 in
                  elim (by_set out n) [
                    | inl o ↦ from_out k n o
                    | inr not_out ↦ from_ready k n (among_out (drop head (take tail queue)) n ((u.ready n).1 (may, not_out)))
                  ]
                  ),
            );
            once = k.once;
          }

      -- ---- the edges of a node that is done are to be counted off
      pub done_counted : (n : ℕ) → IsSet out n → (IsSet done n → ⊥)
          → IsCounted g (set done n true) (out_list g n) waiting (take tail queue)
      done_counted n is_out undone =
          let low = done_low k n is_out undone in
          let s = counted in
          record {
            still = from_undone g done;
            settled = λ e x at d none.
                elim ((set_more done n low x.parent).0 d) [
                  | inl before ↦ ap (λ o. not (is_set done (parent_or o))) at ∙ ap not before
                  | inr same ↦ absurd (none ((w.out_of.exact n e).1 (x, at, same)))
                ];
            unsettled = λ e x at d.
                ap (λ o. not (is_set done (parent_or o))) at
                ∙ ap not (unset_flag done x.parent (λ b. d ((set_more done n low x.parent).1 (inl b))));
            to_come = λ e c.
                (let p = (w.out_of.exact n e).0 c in
                let P : ℕ → Type 0 = λ z. IsSet done z in
                ap (λ o. not (is_set done (parent_or o))) p.1
                ∙ ap not (unset_flag done p.0.parent (λ b. undone (subst P p.2 b))));
            waits = waits_are;
            queued = s.queued;
            once = s.once;
          }
