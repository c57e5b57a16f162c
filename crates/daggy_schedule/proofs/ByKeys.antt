-- A queue by keys around a queue that hands out each node at once.
use Rattle.std.proofs.Common.{◌≡◌, ℕ, ◌+◌, ◌≤◌, ◌<◌, ◌↔◌, ◌⊎◌, inl, inr, true, Bool, List, [], ◌∷◌, ◌++◌, length, set, refl, sym, ap, subst}
use Rattle.std.proofs.Common.{◌∙◌, arith, Option, Contains, IsPermutation}
use Rattle.std.proofs.lemmas.Bool.{false≢true}
use Rattle.std.proofs.lemmas.List.{length-set}
use Rattle.std.proofs.lemmas.List.Sorted.{IsPermutation-refl, IsPermutation-sym, IsPermutation-map}
use Rattle.std.proofs.lemmas.List.Sorted.{length_permutation, IsPermutation-append}
use Rattle.std.proofs.lemmas.List.Elements.{All-from_recursion}
use Rattle.std.specs.Cmp.{IsTotalOrder}
use Rattle.std.specs.List.{AllByRecursion}
use Rattle.std.specs.Ordering.{ordering_reverse}
use Rattle.std.specs.declared.cmp.Ordering.{Ordering}
use Rattle.std.specs.declared.cmp.Reverse.{Reverse}
use Rattle.daggy_base.specs.Graph.{Graph, HasNode}
use Rattle.daggy_base.proofs.Lists.{Mem, Unique, mem_left, mem_right, mem_cases, mem_contains, contains_mem, unique_append}
use Rattle.daggy_base.proofs.Lists.{unique_from_distinct, distinct_from_unique}
use Rattle.daggy_schedule.specs.Work.{Work, IsSet, IsOut, IsIdle, IsUnderWay, is_among}
use Rattle.daggy_schedule.specs.LeastFirst.{nodes_of, Precedes}
use Rattle.daggy_schedule.specs.ByKey.{IsAhead, KeyedWork, work_of, IsUnderWayByKey, TakesGreatest}
use Rattle.daggy_schedule.specs.KeyQueue.{keys_from, turned_back, IsKeptByKey}
use Rattle.daggy_schedule.proofs.Members.{among_in, among_out, distinct_unique, unique_distinct}
use Rattle.daggy_schedule.proofs.Keeping.{by_set, set_more}
use Rattle.daggy_schedule.proofs.Ordering.{mem_shuffled, unique_shuffled}
use Rattle.daggy_schedule.proofs.KeysFrom.{nodes_turned, nodes_joined}

-- the work that this queue shows
abbrev pub shown : {K : Type 0} → Work → List (Option K) → List (Reverse K × ℕ) → List Bool → KeyedWork K
shown inner later ones out =
    record {
      waiting = inner.waiting;
      ready = turned_back ones;
      later = keys_from 0 later;
      out = out;
      done = inner.done;
    }

module _ {K : Type 0} {inner : Work} {later : List (Option K)} {ones : List (Reverse K × ℕ)} {capacity : ℕ} {out : List Bool}
    (k : IsKeptByKey inner later ones capacity out) where
  one_out : (n : ℕ) → Mem n (nodes_of ones) → IsSet inner.out n
  one_out n m = (k.handed n).1 (inr (mem_contains _ n m))

  one_in : (n : ℕ) → Mem n (nodes_of ones) → IsSet out n → ⊥
  one_in n m = k.apart n (mem_contains _ n m)

  in_shown : (n : ℕ) → is_among (nodes_of (turned_back ones)) n ≡ true → Mem n (nodes_of ones)
  in_shown n a =
      let P : List ℕ → Type 0 = λ z. Mem n z in
      subst P (nodes_turned ones) (contains_mem _ n (among_out _ n a))

  from_shown : (n : ℕ) → Mem n (nodes_of ones) → is_among (nodes_of (turned_back ones)) n ≡ true
  from_shown n m =
      let P : List ℕ → Type 0 = λ z. Mem n z in
      among_in _ n (mem_contains _ n (subst P (sym (nodes_turned ones)) m))

  none_shown : nodes_of (turned_back ones) ≡ [] → (n : ℕ) → Mem n (nodes_of ones) → ⊥
  none_shown none n m =
      let P : List ℕ → Type 0 = λ z. Mem n z in subst P (sym (nodes_turned ones) ∙ none) m

  none_among : (n : ℕ) → is_among inner.ready n ≡ true → ⊥
  none_among n a = let P : List ℕ → Type 0 = λ z. is_among z n ≡ true in false≢true (subst P k.none_ready a)

  pub idle_shown : IsIdle inner → IsIdle (work_of (shown inner later ones out))
  idle_shown idle = (
    empty (nodes_of (turned_back ones)) (λ n m.
        let P : List ℕ → Type 0 = λ z. Mem n z in
        let one = subst P (nodes_turned ones) m in
        idle.1 n (one_out n one, λ d. one_in n one (k.begun n d))),
    λ n o. idle.1 n ((k.handed n).1 (inl o.0), o.1),
  )
    where
      empty : (xs : List ℕ) → ((n : ℕ) → Mem n xs → ⊥) → xs ≡ []
      empty [] none = refl
      empty (x ∷ xs) none = absurd (none x (inl refl))

  pub idle_inner : IsIdle (work_of (shown inner later ones out)) → IsIdle inner
  idle_inner idle = (
    k.none_ready,
    λ n o. elim ((k.handed n).0 o.0) [
      | inl own ↦ idle.1 n (own, o.1)
      | inr one ↦ none_shown idle.0 n (contains_mem _ n one)
    ],
  )

  pub out_inner : (n : ℕ) → IsOut (work_of (shown inner later ones out)) n → IsOut inner n
  out_inner n o = ((k.handed n).1 (inl o.0), o.1)

  module _ {N E : Type 0} {g : Graph N E} where
    pub under_shown : IsUnderWay g inner → IsUnderWay g (work_of (shown inner later ones out))
    under_shown u =
        record {
          waits = u.waits;
          ready = λ n. (
            λ a. (let m = in_shown n a in (u.out n (one_out n m), one_in n m)),
            λ r. elim (by_set inner.out n) [
              | inl o ↦ elim ((k.handed n).0 o) [
                | inl own ↦ absurd (r.1 own)
                | inr one ↦ from_shown n (contains_mem _ n one)
              ]
              | inr not_out ↦ absurd (none_among n ((u.ready n).1 (r.0, not_out)))
            ],
          );
          once =
              (let P : List ℕ → Type 0 = λ z. Unique z in
              unique_distinct _ (subst P (sym (nodes_turned ones)) (unique_from_distinct _ k.once)));
          out = λ n o. u.out n ((k.handed n).1 (inl o));
          done = k.begun;
          idle = (λ idle. u.idle.0 (idle_inner idle), λ all. idle_shown (u.idle.1 all));
        }

    pub under_inner : IsUnderWay g (work_of (shown inner later ones out)) → IsUnderWay g inner
    under_inner u =
        record {
          waits = u.waits;
          ready = λ n. (
            λ a. absurd (none_among n a),
            λ r. elim (by_set out n) [
              | inl own ↦ absurd (r.1 ((k.handed n).1 (inl own)))
              | inr not_own ↦ absurd (r.1 (one_out n (in_shown n ((u.ready n).1 (r.0, not_own)))))
            ],
          );
          once = (let P : List ℕ → Type 0 = λ z. Unique z in unique_distinct _ (subst P (sym k.none_ready) tt));
          out = λ n o.
              elim ((k.handed n).0 o) [
                | inl own ↦ u.out n own
                | inr one ↦ ((u.ready n).0 (from_shown n (contains_mem _ n one))).0
              ];
          done = λ n d. (k.handed n).1 (inl (k.begun n d));
          idle = (λ idle. u.idle.0 (idle_shown idle), λ all. idle_inner (u.idle.1 all));
        }

    -- what is not handed out inside has its key yet to come
    pub keyed_inner : IsUnderWayByKey g (shown inner later ones out) → (n : ℕ) → HasNode g n → (IsSet inner.out n → ⊥)
        → Contains (nodes_of (keys_from 0 later)) n
    keyed_inner u n has not_out =
        let all = u.keyed n has (λ own. not_out ((k.handed n).1 (inl own))) in
        let P : List ℕ → Type 0 = λ z. Mem n z in
        let there = subst P (nodes_joined (turned_back ones) (keys_from 0 later)) (contains_mem _ n (among_out _ n all)) in
        elim (mem_cases _ _ n there) [
          | inl one ↦ absurd (not_out (one_out n (subst P (nodes_turned ones) one)))
          | inr rest ↦ mem_contains _ n rest
        ]

-- ---- a node is handed out

module _ {K N E : Type 0} {inner : Work} {later : List (Option K)} {ones : List (Reverse K × ℕ)} {capacity : ℕ} {out : List Bool}
    (k : IsKeptByKey inner later ones capacity out) {g : Graph N E} (u : IsUnderWayByKey g (shown inner later ones out))
    (left : List (Reverse K × ℕ)) (key : K) (n : ℕ) (taken : IsPermutation ones ((record { 0 = key }, n) ∷ left)) where
  left_nodes : IsPermutation (nodes_of ones) (n ∷ nodes_of left)
  left_nodes = IsPermutation-map (λ p. p.1) _ _ taken

  was_one : Mem n (nodes_of ones)
  was_one = mem_shuffled _ _ n (IsPermutation-sym _ _ left_nodes) (inl refl)

  once_left : Unique (n ∷ nodes_of left)
  once_left = unique_shuffled _ _ left_nodes (unique_from_distinct _ k.once)

  still_one : (m : ℕ) → Mem m (nodes_of left) → Mem m (nodes_of ones)
  still_one m h = mem_shuffled _ _ m (IsPermutation-sym _ _ left_nodes) (inr h)

  pub handed_low : n < length out
  handed_low = u.flagged n ((under_inner k u.under_way).out n (one_out k n was_one)).0

  pub handed_more : (m : ℕ) → IsSet (set out n true) m ↔ (IsSet out m ⊎ (m ≡ n))
  handed_more = set_more out n handed_low

  pub handed_undone : IsSet inner.done n → ⊥
  handed_undone d = one_in k n was_one (k.begun n d)

  pub handed_kept : (capacity' : ℕ) → capacity ≤ capacity' → IsKeptByKey inner later left capacity' (set out n true)
  handed_kept capacity' large =
      record {
        none_ready = k.none_ready;
        once = distinct_from_unique _ once_left.1;
        handed = λ m. (
          λ o. elim ((k.handed m).0 o) [
            | inl own ↦ inl ((handed_more m).1 (inl own))
            | inr one ↦ elim (mem_shuffled _ _ m left_nodes (contains_mem _ m one)) [
              | inl same ↦ inl ((handed_more m).1 (inr same))
              | inr rest ↦ inr (mem_contains _ m rest)
            ]
          ],
          λ h. elim h [
            | inl own ↦ elim ((handed_more m).0 own) [
              | inl was ↦ (k.handed m).1 (inl was)
              | inr same ↦ (let P : ℕ → Type 0 = λ z. IsSet inner.out z in subst P (sym same) (one_out k n was_one))
            ]
            | inr one ↦ one_out k m (still_one m (contains_mem _ m one))
          ],
        );
        apart = λ m one own.
            elim ((handed_more m).0 own) [
              | inl was ↦ one_in k m (still_one m (contains_mem _ m one)) was
              | inr same ↦
                  once_left.0 (let P : ℕ → Type 0 = λ z. Mem z (nodes_of left) in subst P same (contains_mem _ m one))
            ];
        begun = λ m d. (handed_more m).1 (inl (k.begun m d));
        room = omega (arith, k.room, large, length_permutation _ _ taken);
      }

  pub handed_under_way : IsUnderWayByKey g (shown inner later left (set out n true))
  handed_under_way =
      let kept = handed_kept capacity (omega arith) in
      record {
        under_way = under_shown kept (under_inner k u.under_way);
        flagged = λ m has. let low = u.flagged m has in omega (arith, low, length-set out n true);
        keyed = λ m has not_own.
            (let was = u.keyed m has (λ own. not_own ((handed_more m).1 (inl own))) in
            elim (mem_shuffled _ _ m all_nodes (contains_mem _ m (among_out _ m was))) [
              | inl same ↦ absurd (not_own ((handed_more m).1 (inr same)))
              | inr rest ↦ among_in _ m (mem_contains _ m rest)
            ]);
      }
    where
      all_nodes : IsPermutation (nodes_of (turned_back ones ++ keys_from 0 later)) (n ∷ nodes_of (turned_back left ++ keys_from 0 later))
      all_nodes =
          IsPermutation-map (λ p. p.1) _ _
          (IsPermutation-append (turned_back ones) ((key, n) ∷ turned_back left) (keys_from 0 later) (keys_from 0 later)
          (IsPermutation-map (λ p. (p.0.0, p.1)) _ _ taken) (IsPermutation-refl _))

-- ---- a node is done

module _ {K N E : Type 0} {inner : Work} {later : List (Option K)} {ones : List (Reverse K × ℕ)} {capacity : ℕ} {out : List Bool}
    (k : IsKeptByKey inner later ones capacity out) {g : Graph N E} (u : IsUnderWayByKey g (shown inner later ones out))
    (n : ℕ) (own : IsSet out n) {after next : Work} (more : List ℕ) (released : after.ready ≡ inner.ready ++ more)
    (outs : after.out ≡ inner.out) (dones : (m : ℕ) → IsSet after.done m ↔ (IsSet inner.done m ⊎ (m ≡ n)))
    (under : IsUnderWay g after) (later' : List (Option K)) (ones' : List (Reverse K × ℕ)) (capacity' : ℕ)
    (under' : IsUnderWay g next) (none : next.ready ≡ [])
    (outs' : (m : ℕ) → IsSet next.out m ↔ (IsSet after.out m ⊎ Contains after.ready m)) (dones' : next.done ≡ after.done)
    (taken : IsPermutation (nodes_of ones ++ after.ready) (nodes_of ones'))
    (keys : IsPermutation (turned_back ones ++ keys_from 0 later) (turned_back ones' ++ keys_from 0 later'))
    (room : length ones' + length (keys_from 0 later') ≤ capacity') where
  ready_is : after.ready ≡ more
  ready_is = released ∙ ap (λ z. z ++ more) k.none_ready

  was_out : (m : ℕ) → IsSet after.out m → IsSet inner.out m
  was_out m o = let P : List Bool → Type 0 = λ z. IsSet z m in subst P outs o

  still_out : (m : ℕ) → IsSet inner.out m → IsSet after.out m
  still_out m o = let P : List Bool → Type 0 = λ z. IsSet z m in subst P (sym outs) o

  -- what is ready then was not handed out inside
  fresh : (m : ℕ) → Mem m after.ready → IsSet inner.out m → ⊥
  fresh m r o = ((under.ready m).0 (among_in _ m (mem_contains _ m r))).1 (still_out m o)

  one_cases : (m : ℕ) → Mem m (nodes_of ones') → Mem m (nodes_of ones) ⊎ Mem m after.ready
  one_cases m one = mem_cases _ _ m (mem_shuffled _ _ m (IsPermutation-sym _ _ taken) one)

  pub done_kept : IsKeptByKey next later' ones' capacity' out
  done_kept =
      record {
        none_ready = none;
        once =
            distinct_from_unique _ (unique_shuffled _ _ taken
            (unique_append _ _ (unique_from_distinct _ k.once) (distinct_unique _ under.once) (λ m one r.
            fresh m r (one_out k m one))));
        handed = λ m. (
          λ o. elim ((outs' m).0 o) [
            | inl was ↦ elim ((k.handed m).0 (was_out m was)) [
              | inl own ↦ inl own
              | inr one ↦ inr (mem_contains _ m (mem_shuffled _ _ m taken (mem_left _ _ m (contains_mem _ m one))))
            ]
            | inr r ↦ inr (mem_contains _ m (mem_shuffled _ _ m taken (mem_right _ _ m (contains_mem _ m r))))
          ],
          λ h. (outs' m).1 (elim h [
            | inl own ↦ inl (still_out m ((k.handed m).1 (inl own)))
            | inr one ↦ elim (one_cases m (contains_mem _ m one)) [
              | inl was ↦ inl (still_out m (one_out k m was))
              | inr r ↦ inr (mem_contains _ m r)
            ]
          ]),
        );
        apart = λ m one own.
            elim (one_cases m (contains_mem _ m one)) [
              | inl was ↦ one_in k m was own
              | inr r ↦ fresh m r ((k.handed m).1 (inl own))
            ];
        begun = λ m d.
            (let P : List Bool → Type 0 = λ z. IsSet z m in
            elim ((dones m).0 (subst P dones' d)) [
              | inl before ↦ k.begun m before
              | inr same ↦ (let Q : ℕ → Type 0 = λ z. IsSet out z in subst Q (sym same) own)
            ]);
        room = room;
      }

  pub done_under_way : IsUnderWayByKey g (shown next later' ones' out)
  done_under_way =
      record {
        under_way = under_shown done_kept under';
        flagged = u.flagged;
        keyed = λ m has not_own.
            among_in _ m (mem_contains _ m (mem_shuffled _ _ m (IsPermutation-map (λ p. p.1) _ _ keys)
            (contains_mem _ m (among_out _ m (u.keyed m has not_own)))));
      }

  pub done_ready : IsPermutation (nodes_of (turned_back ones) ++ more) (nodes_of (turned_back ones'))
  done_ready =
      let P : List ℕ → List ℕ → List ℕ → Type 0 = λ x y z. IsPermutation (x ++ y) z in
      subst (λ x. P x more (nodes_of (turned_back ones'))) (sym (nodes_turned ones))
      (subst (λ y. P (nodes_of ones) y (nodes_of (turned_back ones'))) ready_is
      (subst (λ z. P (nodes_of ones) after.ready z) (sym (nodes_turned ones')) taken))

-- ---- the work starts

module _ {K N E : Type 0} {g : Graph N E} {first inner : Work} (under : IsUnderWay g inner) (none : inner.ready ≡ [])
    (fresh : (n : ℕ) → IsSet first.out n → ⊥) (first_under : IsUnderWay g first)
    (outs : (n : ℕ) → IsSet inner.out n ↔ (IsSet first.out n ⊎ Contains first.ready n)) (dones : inner.done ≡ first.done)
    (ones : List (Reverse K × ℕ)) (taken : IsPermutation first.ready (nodes_of ones)) (out : List Bool)
    (unset : (n : ℕ) → IsSet out n → ⊥) (flagged : (n : ℕ) → HasNode g n → n < length out) (later : List (Option K))
    (capacity : ℕ) (room : length ones + length (keys_from 0 later) ≤ capacity) where
  undone : (n : ℕ) → IsSet inner.done n → ⊥
  undone n d = let P : List Bool → Type 0 = λ z. IsSet z n in fresh n (first_under.done n (subst P dones d))

  pub start_kept : IsKeptByKey inner later ones capacity out
  start_kept =
      record {
        none_ready = none;
        once = distinct_from_unique _ (unique_shuffled _ _ taken (distinct_unique _ first_under.once));
        handed = λ n. (
          λ o. elim ((outs n).0 o) [
            | inl was ↦ absurd (fresh n was)
            | inr r ↦ inr (mem_contains _ n (mem_shuffled _ _ n taken (contains_mem _ n r)))
          ],
          λ h. elim h [
            | inl own ↦ absurd (unset n own)
            | inr one ↦
                (outs n).1 (inr (mem_contains _ n (mem_shuffled _ _ n (IsPermutation-sym _ _ taken) (contains_mem _ n one))))
          ],
        );
        apart = λ n one own. unset n own;
        begun = λ n d. absurd (undone n d);
        room = room;
      }

  pub start_under_way : ((n : ℕ) → HasNode g n → Contains (nodes_of (turned_back ones ++ keys_from 0 later)) n)
      → IsUnderWayByKey g (shown inner later ones out)
  start_under_way keyed =
      record {
        under_way = under_shown start_kept under;
        flagged = flagged;
        keyed = λ n has _. among_in _ n (keyed n has);
      }

  pub start_ready : IsPermutation first.ready (nodes_of (turned_back ones))
  start_ready = let P : List ℕ → Type 0 = λ z. IsPermutation first.ready z in subst P (sym (nodes_turned ones)) taken

-- ---- the greatest key comes first

module _ {K : Type 0} {cmp : K → K → Ordering} (total : IsTotalOrder cmp) where
  ahead_one : (p q : Reverse K × ℕ) → Precedes (λ x y. cmp y.0 x.0) p q → IsAhead cmp (p.0.0, p.1) (q.0.0, q.1)
  ahead_one p q h =
      elim h [
        | inl less ↦ inl (total.antisymm p.0.0 q.0.0 ∙ ap ordering_reverse less)
        | inr equal ↦ inr (total.antisymm p.0.0 q.0.0 ∙ ap ordering_reverse equal.0, equal.1)
      ]

  ahead_all : (p : Reverse K × ℕ) (qs : List (Reverse K × ℕ)) → AllByRecursion (Precedes (λ x y. cmp y.0 x.0) p) qs
      → AllByRecursion (IsAhead cmp (p.0.0, p.1)) (turned_back qs)
  ahead_all p [] h = tt
  ahead_all p (q ∷ qs) h = (ahead_one p q h.0, ahead_all p qs h.1)

  pub takes_greatest : (key : K) (n : ℕ) (old new : List (Reverse K × ℕ)) → IsPermutation old ((record { 0 = key }, n) ∷ new)
      → AllByRecursion (Precedes (λ x y. cmp y.0 x.0) (record { 0 = key }, n)) new
      → TakesGreatest cmp n (turned_back old) (turned_back new)
  takes_greatest key n old new taken first =
      record {
        key = key;
        taken = IsPermutation-map (λ p. (p.0.0, p.1)) _ _ taken;
        ahead = All-from_recursion _ (turned_back new) (ahead_all (record { 0 = key }, n) new first);
      }

-- where a candidate is taken, a node was ready
pub some_ready : {K : Type 0} (ones left : List (Reverse K × ℕ)) (key : K) (n : ℕ)
    → IsPermutation ones ((record { 0 = key }, n) ∷ left) → turned_back ones ≡ [] → ⊥
some_ready [] left key n taken none = let h = length_permutation _ _ taken in omega (arith, h)
some_ready (p ∷ ones) left key n taken none = let h = ap length none in omega (arith, h)
