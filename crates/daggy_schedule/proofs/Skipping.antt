-- The nodes below those that failed, marked along the order; and that no others are left when the work is over.
use Rattle.std.proofs.Common.{◌≡◌, ◌≢◌, ℕ, zero, suc, ◌+◌, ◌<◌, ◌↔◌, ◌⊎◌, Bool, true, false, inl, inr, List, [], ◌∷◌, ◌++◌, length, set}
use Rattle.std.specs.Prelude.{IfSome}
use Rattle.std.proofs.Common.{Option, None, cond, map, get_or, Some, length-set, refl, sym, ap, subst, ◌∙◌, arith, append_assoc, append-nil, Contains}
use Rattle.std.specs.List.{filter, range_with_len}
use Rattle.std.specs.List.Sorted.{IsStrictlyIncreasing}
use Rattle.std.specs.Option.{option_map}
use Rattle.std.proofs.lemmas.List.FromFn.{filter_of_map_range_with_len_more, length-range_with_len, get_or-range_with_len}
use Rattle.std.proofs.lemmas.List.Kept.{IsStrictlyIncreasing-filter}
use Rattle.daggy_base.specs.Graph.{Graph, HasNode, edge_at, ends_of, in_list, out_list}
use Rattle.daggy_base.specs.Path.{AreJoined, IsPath, end_of}
use Rattle.daggy_base.specs.Cursor.{first_of, cursor_after}
use Rattle.daggy_base.specs.declared.index.Direction.TheVariants.{Outgoing}
use Rattle.daggy_base.specs.Ordered.{IsOrderOf, place}
use Rattle.daggy_base.specs.WellFormed.{IsWellFormed, AreDistinct}
use Rattle.daggy_base.proofs.Lists.{Mem, mem_cases, mem_mid, mem_contains, contains_mem}
use Rattle.daggy_base.proofs.Lists.{unique_from_distinct, Contains-map}
use Rattle.daggy_base.proofs.LongerPaths.{reaches_more}
use Rattle.daggy_base.proofs.Sorted.{place_left, place_right, unique_cross, filter_mem, mem_filter}
use Rattle.daggy_schedule.specs.Work.{Work, IsSet, is_set, IsUnderWay, MayBegin, parents_of, parent_or}
use Rattle.daggy_schedule.specs.Fallible.{FallibleWork, HandsOut, IsOver, IsSkipped, IsUnderWayWithFailures}
use Rattle.daggy_schedule.specs.Queue.{IsBelowFailed}
use Rattle.daggy_schedule.proofs.Idle.{joined}
use Rattle.daggy_schedule.proofs.Keeping.{by_set, set_more}
use Rattle.daggy_schedule.proofs.Members.{among_in, among_out}
use Rattle.daggy_schedule.proofs.Tallies.{set_there}
use Rattle.daggy_schedule.proofs.Passing.{Passing, passing_from, passing_on, passed_joined, all_passed}

-- ---- the children of a node are marked

-- the marks as they were, and as they are with the cursor at e
pub record Marking {N E : Type 0} (end : ℕ) (g : Graph N E) (n : ℕ) (marks : List Bool) (e : ℕ) (marks' : List Bool)
    : Type 0 where
  pub passing : Passing end g n e (λ e v. IsSet marks' v)
  pub sized : length marks' ≡ length marks
  pub kept : (v : ℕ) → IsSet marks v → IsSet marks' v
  pub marked : (v : ℕ) → IsSet marks' v → IsSet marks v ⊎ AreJoined g n v

pub marking_none : {N E : Type 0} (end : ℕ) (g : Graph N E) (n : ℕ) (marks : List Bool) {e : ℕ}
    → e ≡ first_of end (out_list g n) → Marking end g n marks e marks
marking_none end g n marks first =
    record {
      passing = passing_from (λ e v. IsSet marks v) first;
      sized = refl;
      kept = λ v m. m;
      marked = λ v m. inl m;
    }

module _ {N E : Type 0} {end : ℕ} {g : Graph N E} (w : IsWellFormed end g) {n : ℕ} {marks : List Bool} {e : ℕ}
    {now : List Bool} (s : Marking end g n marks e now) where
  pub marking_one : (here : e ≢ end) {p c : ℕ} → (ends : Some (p, c) ≡ option_map ends_of (edge_at g e)) → (next : ℕ)
      → next ≡ cursor_after Outgoing end g e (edge_at g e) → c < length now
      → Marking end g n marks next (set now c true)
  marking_one here {p} {c} ends next is low =
      let more = set_more now c low in
      record {
        passing =
            passing_on w s.passing here ends next is (λ e v. IsSet (set now c true) v) (λ e v m. (more v).1 (inl m))
            ((more c).1 (inr refl));
        sized = length-set now c true ∙ s.sized;
        kept = λ v m. (more v).1 (inl (s.kept v m));
        marked = λ v m. elim ((more v).0 m) [
          | inl before ↦ s.marked v before
          | inr same ↦
              inr (subst (λ (z : ℕ). AreJoined g n z) (sym same) (passed_joined w s.passing here ends))
        ];
      }

  pub all_marked : e ≡ end → (v : ℕ) → IsSet now v ↔ (IsSet marks v ⊎ AreJoined g n v)
  all_marked at_end v = (
    s.marked v,
    λ m. elim m [ inl before ↦ s.kept v before | inr j ↦ all_passed w s.passing at_end v j ],
  )

-- ---- along the order

-- The nodes of `done` were passed: those that failed or are marked have marked their children. Only nodes below failed
-- nodes are marked.
pub record Blocking {N E : Type 0} (g : Graph N E) (order : List ℕ) (failed marks : List Bool) (waiting : List ℕ)
    : Type 0 where
  pub done : List ℕ
  pub split : order ≡ done ++ waiting
  pub below : (n : ℕ) → IsSet marks n → IsBelowFailed g failed n
  pub children : (u v : ℕ) → Mem u done → IsSet failed u ⊎ IsSet marks u → AreJoined g u v → IsSet marks v

pub blocking_none : {N E : Type 0} (g : Graph N E) (order : List ℕ) (failed marks : List Bool)
    → ((n : ℕ) → IsSet marks n → ⊥) → Blocking g order failed marks order
blocking_none g order failed marks unset =
    record { done = []; split = refl; below = λ n m. absurd (unset n m); children = λ u v m. absurd m }

module _ {N E : Type 0} {end : ℕ} {g : Graph N E} (w : IsWellFormed end g) {order : List ℕ} (ord : IsOrderOf g order)
    {failed marks : List Bool} {waiting : List ℕ} {n : ℕ} {rest : List ℕ} (is : waiting ≡ n ∷ rest)
    (past : Blocking g order failed marks waiting) where
  s : Blocking g order failed marks (n ∷ rest)
  s = subst (λ (z : List ℕ). Blocking g order failed marks z) is past

  pub next_there : HasNode g n
  next_there =
      (ord.exact n).0 (mem_contains order n (subst (λ (z : List ℕ). Mem n z) (sym s.split) (mem_mid s.done rest n)))

  absent : Mem n s.done → ⊥
  absent m =
      unique_cross s.done (n ∷ rest)
      (unique_from_distinct _ (subst (λ (z : List ℕ). AreDistinct z) s.split ord.once)) n m (inl refl)

  -- no child of it was passed
  child_later : (u : ℕ) → Mem u s.done → AreJoined g n u → ⊥
  child_later u m j =
      let low = subst (λ (z : List ℕ). place z n < place z u) s.split (ord.sorted n u j) in
      omega (arith, low, place_left s.done (n ∷ rest) u m, place_right s.done (n ∷ rest) n absent)

  passed : (u : ℕ) → Mem u (s.done ++ n ∷ []) → Mem u s.done ⊎ (u ≡ n)
  passed u m =
      elim (mem_cases s.done (n ∷ []) u m) [
        | inl a ↦ inl a
        | inr b ↦ elim b [ inl e ↦ inr e | inr nothing ↦ absurd nothing ]
      ]

  -- a child of a node that failed or is marked is below a failed node
  child_below : IsSet failed n ⊎ IsSet marks n → (v : ℕ) → AreJoined g n v → IsBelowFailed g failed v
  child_below blocked v j =
      elim blocked [
        | inl f ↦ (n, f, v, j, ([], w.children j.0 _ j.2, refl))
        | inr m ↦ (let b = s.below n m in (b.0, b.1, b.2, b.3, reaches_more g b.2 n v b.4 j (w.children j.0 _ j.2)))
      ]

  pub blocking_one : IsSet failed n ⊎ IsSet marks n → (marks' : List Bool)
      → ((v : ℕ) → IsSet marks' v ↔ (IsSet marks v ⊎ AreJoined g n v)) → Blocking g order failed marks' rest
  blocking_one blocked marks' marked =
      record {
        done = s.done ++ n ∷ [];
        split = s.split ∙ sym (append_assoc s.done (n ∷ []) rest);
        below = λ v m. elim ((marked v).0 m) [ inl before ↦ s.below v before | inr j ↦ child_below blocked v j ];
        children = λ u v m b j. elim (passed u m) [
          | inl before ↦
              (marked v).1 (inl (s.children u v before (elim b [
                | inl f ↦ inl f
                | inr k ↦ elim ((marked u).0 k) [ inl old ↦ inr old | inr below ↦ absurd (child_later u before below) ]
              ]) j))
          | inr same ↦ (marked v).1 (inr (subst (λ (z : ℕ). AreJoined g z v) same j))
        ];
      }

  pub blocking_skip : (IsSet failed n ⊎ IsSet marks n → ⊥) → Blocking g order failed marks rest
  blocking_skip free =
      record {
        done = s.done ++ n ∷ [];
        split = s.split ∙ sym (append_assoc s.done (n ∷ []) rest);
        below = s.below;
        children = λ u v m b j. elim (passed u m) [
          | inl before ↦ s.children u v before b j
          | inr same ↦ absurd (free (subst (λ (z : ℕ). IsSet failed z ⊎ IsSet marks z) same b))
        ];
      }

module _ {N E : Type 0} {end : ℕ} {g : Graph N E} (w : IsWellFormed end g) {order : List ℕ} (ord : IsOrderOf g order)
    {failed marks : List Bool} {waiting : List ℕ} (none : waiting ≡ []) (s : Blocking g order failed marks waiting) where
  was_passed : (n : ℕ) → HasNode g n → Mem n s.done
  was_passed n h =
      let all = s.split ∙ (ap (λ z. s.done ++ z) none ∙ append-nil s.done) in
      subst (λ (z : List ℕ). Mem n z) all (contains_mem order n ((ord.exact n).1 h))

  marked_along : (u : ℕ) (rest : List ℕ) → IsPath g (u ∷ rest) → IsSet marks u → IsSet marks (end_of u rest)
  marked_along u [] p m = m
  marked_along u (v ∷ rest) p m = marked_along v rest p.2 (s.children u v (was_passed u p.0) (inr m) p.1)

  pub all_blocked : (n : ℕ) → IsSet marks n ↔ IsBelowFailed g failed n
  all_blocked n = (
    s.below n,
    λ b. (
        let first = s.children b.0 b.2 (was_passed b.0 (w.parents b.3.0 _ b.3.2)) (inl b.1) b.3 in
        subst (λ (z : ℕ). IsSet marks z) b.4.2 (marked_along b.2 b.4.0 b.4.1 first)
        ),
  )

-- the same for some order of the graph
pub record IsBlocking {N E : Type 0} (g : Graph N E) (failed marks : List Bool) (waiting : List ℕ) : Type 0 where
  pub order : List ℕ
  pub ordered : IsOrderOf g order
  pub blocking : Blocking g order failed marks waiting

-- ---- what is done, and what is skipped

module _ {N E : Type 0} {end : ℕ} {g : Graph N E} (w : IsWellFormed end g) where
  parent_listed : (u v : ℕ) → AreJoined g u v → Contains (parents_of g v) u
  parent_listed u v j =
      subst (λ (z : ℕ). Contains (parents_of g v) z) (ap parent_or j.2)
      (Contains-map (λ k. parent_or (edge_at g k)) (in_list g v) j.0 ((w.in_of.exact v j.0).1 (_, j.2, refl)))

  module _ {work : Work} (u : IsUnderWay g work) where
    -- a node that may begin has only ancestors that are done
    ancestors_done : (a v : ℕ) (rest : List ℕ) → IsPath g (a ∷ v ∷ rest) → MayBegin g work.done (end_of v rest)
        → IsSet work.done a
    ancestors_done a v [] p may = may.1 a (parent_listed a v p.1)
    ancestors_done a v (x ∷ rest) p may =
        (u.out v (u.done v (ancestors_done v x rest p.2 may))).1 a (parent_listed a v p.1)

  module _ {f : FallibleWork} (u : IsUnderWayWithFailures g f) where
    below_may_not : (n : ℕ) → IsBelowFailed g f.failed n → MayBegin g f.work.done n → ⊥
    below_may_not n b may =
        (u.failed b.0 b.1).1 (ancestors_done u.under_way b.0 b.2 b.4.0 (w.parents b.3.0 _ b.3.2, b.3, b.4.1)
        (subst (λ (z : ℕ). MayBegin g f.work.done z) (sym b.4.2) may))

    pub below_skipped : (n : ℕ) → IsBelowFailed g f.failed n → IsSkipped g f n
    below_skipped n b = (
      (b.0, b.1, (b.2 ∷ b.4.0, (w.parents b.3.0 _ b.3.2, b.3, b.4.1), b.4.2)),
      λ failed. below_may_not n b (u.under_way.out n (u.failed n failed).0),
    )

    pub skipped_below : (n : ℕ) → IsSkipped g f n → IsBelowFailed g f.failed n
    skipped_below n k = from k.0.2.0 k.0.2.1 k.0.2.2
      where
        from : (rest : List ℕ) → IsPath g (k.0.0 ∷ rest) → end_of k.0.0 rest ≡ n → IsBelowFailed g f.failed n
        from [] p is = absurd (k.1 (subst (λ (z : ℕ). IsSet f.failed z) is k.0.1))
        from (v ∷ rest) p is = (k.0.0, k.0.1, v, p.1, (rest, p.2, is))

    pub skipped_may_not : (n : ℕ) → IsSkipped g f n → MayBegin g f.work.done n → ⊥
    skipped_may_not n k = below_may_not n (skipped_below n k)

    -- ---- when it is over

    module _ (over : IsOver f) (order : List ℕ) (ord : IsOrderOf g order) where
      -- a node that was not returned has a parent that is not done
      lost_parent : (n : ℕ) → HasNode g n → (IsSet f.work.out n → ⊥)
          → (p : ℕ) × AreJoined g p n × (IsSet f.work.done p → ⊥)
      lost_parent n h fresh = search_in (parents_of g n) (λ p c. joined w order ord n p c) (λ all.
          absurd (Contains-nothing (subst (λ (z : List ℕ). Contains z n) over.0
          (among_out f.work.ready n ((u.under_way.ready n).1 ((h, all), fresh))))))
        where
          Contains-nothing : Contains [] n → ⊥
          Contains-nothing c = contains_mem [] n c

          search_in : (ps : List ℕ) → ((p : ℕ) → Contains ps p → AreJoined g p n)
              → (((p : ℕ) → Contains ps p → IsSet f.work.done p) → ⊥)
              → (p : ℕ) × AreJoined g p n × (IsSet f.work.done p → ⊥)
          search_in [] joins some = absurd (some (λ p c. absurd (contains_mem [] p c)))
          search_in (p ∷ ps) joins some =
              elim (by_set f.work.done p) [
                | inr undone ↦ (p, joins p (mem_contains (p ∷ ps) p (inl refl)), undone)
                | inl is_done ↦
                    search_in ps (λ q c. joins q (mem_contains (p ∷ ps) q (inr (contains_mem ps q c)))) (λ all.
                    some (λ q c. elim (contains_mem (p ∷ ps) q c) [
                      | inl same ↦ subst (λ (z : ℕ). IsSet f.work.done z) (sym same) is_done
                      | inr there ↦ all q (mem_contains ps q there)
                    ]))
              ]

      -- so a failed node is above it
      below_by : (k n : ℕ) → place order n < k → HasNode g n → (IsSet f.work.out n → ⊥) → IsBelowFailed g f.failed n
      below_by zero n low h fresh = absurd (omega (arith, low))
      below_by (suc k) n low h fresh =
          let p = lost_parent n h fresh in
          elim (by_set f.work.out p.0) [
            | inl out ↦ elim (by_set f.failed p.0) [
              | inl failed ↦ (p.0, failed, n, p.1, ([], h, refl))
              | inr running ↦ absurd (over.1 p.0 ((out, p.2), running))
            ]
            | inr lost ↦ (
                let b = below_by k p.0 (omega (arith, ord.sorted p.0 n p.1, low)) (w.parents p.1.0 _ p.1.2) lost in
                (b.0, b.1, b.2, b.3, reaches_more g b.2 p.0 n b.4 p.1 h)
                )
          ]

    pub over_skipped : IsOver f → (order : List ℕ) → IsOrderOf g order → (n : ℕ)
        → IsSkipped g f n ↔ (HasNode g n × (IsSet f.work.out n → ⊥))
    over_skipped over order ord n = (
      λ k. (end_there k.0.2.0 k.0.0 k.0.2.1 k.0.2.2, λ out. skipped_may_not n k (u.under_way.out n out)),
      λ r. below_skipped n (below_by over order ord (suc (place order n)) n (omega arith) r.0 r.1),
    )
      where
        end_there : (rest : List ℕ) (a : ℕ) → IsPath g (a ∷ rest) → end_of a rest ≡ n → HasNode g n
        end_there [] a p is = subst (λ (z : ℕ). HasNode g z) is p
        end_there (v ∷ rest) a p is = end_there rest v p.2 is

    -- ---- steps

    -- no skipped node is ready
    pub ready_not_skipped : (n : ℕ) → Contains f.work.ready n → IsSkipped g f n → ⊥
    ready_not_skipped n c k = skipped_may_not n k ((u.under_way.ready n).0 (among_in f.work.ready n c)).0

    pub next_not_skipped : {I : Type 0} (number : I → ℕ) (rest : List ℕ) (o : Option I)
        → IfSome o (λ n. f.work.ready ≡ number n ∷ rest) → IfSome o (λ n. IsSkipped g f (number n) → ⊥)
    next_not_skipped number rest None first = tt
    next_not_skipped number rest (Some n) first =
        ready_not_skipped (number n)
        (subst (λ (z : List ℕ). Contains z (number n)) (sym first) (mem_contains (number n ∷ rest) (number n) (inl refl)))

pub hands_out : {I : Type 0} (number : I → ℕ) (old new : Work) (o : Option I)
    → IfSome o (λ n. old.ready ≡ number n ∷ new.ready)
    → IfSome o (λ n. (m : ℕ) → IsSet new.out m ↔ (IsSet old.out m ⊎ (m ≡ number n)))
    → new.done ≡ old.done → new.waiting ≡ old.waiting → IfSome o (λ n. HandsOut (number n) old new)
hands_out number old new None first out done waiting = tt
hands_out number old new (Some n) first out done waiting =
    record { first = first; out = out; done = done; waiting = waiting }

-- ---- the nodes whose flags are set

map_same : (xs : List ℕ) → map (λ (x : ℕ). x) xs ≡ xs
map_same [] = refl
map_same (x ∷ xs) = ap (λ (z : List ℕ). x ∷ z) (map_same xs)

indices_more : (flags : List Bool) (i : ℕ) → filter (is_set flags) (range_with_len 0 (i + 1))
    ≡ filter (is_set flags) (range_with_len 0 i) ++ cond (is_set flags i) (i ∷ []) []
indices_more flags i =
    let whole = filter_of_map_range_with_len_more (is_set flags) (λ (x : ℕ). x) 0 i i (omega arith) in
    ap (filter (is_set flags)) (sym (map_same (range_with_len 0 (i + 1))))
    ∙ (whole ∙ ap (λ (z : List ℕ). filter (is_set flags) z ++ cond (is_set flags i) (i ∷ []) []) (map_same (range_with_len 0 i)))

pub indices_taken : (flags : List Bool) (i : ℕ) → IsSet flags i
    → filter (is_set flags) (range_with_len 0 i) ++ i ∷ [] ≡ filter (is_set flags) (range_with_len 0 (i + 1))
indices_taken flags i h =
    sym (indices_more flags i ∙ ap (λ (z : Bool). filter (is_set flags) (range_with_len 0 i) ++ cond z (i ∷ []) []) h)

pub indices_left : (flags : List Bool) (i : ℕ) → is_set flags i ≡ false
    → filter (is_set flags) (range_with_len 0 i) ≡ filter (is_set flags) (range_with_len 0 (i + 1))
indices_left flags i h =
    sym (indices_more flags i
    ∙ (ap (λ (z : Bool). filter (is_set flags) (range_with_len 0 i) ++ cond z (i ∷ []) []) h ∙ append-nil _))

range_step : (a n : ℕ) (k : ℕ) → k + 1 < length (range_with_len a n)
    → get_or (range_with_len a n) k 0 < get_or (range_with_len a n) (k + 1) 0
range_step a n k low =
    let size = length-range_with_len a n in
    omega (
      arith,
      get_or-range_with_len a n k 0 (omega (arith, low, size)),
      get_or-range_with_len a n (k + 1) 0 (omega (arith, low, size)),
    )

-- they ascend, and are exactly those
pub taken_ascend : (flags : List Bool) → IsStrictlyIncreasing (filter (is_set flags) (range_with_len 0 (length flags)))
taken_ascend flags =
    IsStrictlyIncreasing-filter (is_set flags) (range_with_len 0 (length flags)) (range_step 0 (length flags))

pub taken_set : (flags : List Bool) (n : ℕ)
    → Contains (filter (is_set flags) (range_with_len 0 (length flags))) n ↔ IsSet flags n
taken_set flags n =
    let all = range_with_len 0 (length flags) in (
      λ c. (filter_mem (is_set flags) all n (contains_mem (filter (is_set flags) all) n c)).1,
      λ h. mem_contains (filter (is_set flags) all) n (mem_filter (is_set flags) all n (set_there flags n h) h),
    )
