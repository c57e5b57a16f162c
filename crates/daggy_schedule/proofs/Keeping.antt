-- The lists of a ready queue, whatever the graph: nodes are handed out, and nodes get done.
use Rattle.std.proofs.Common.{◌≡◌, ℕ, zero, suc, ◌+◌, ◌-◌, ◌<◌, ◌≤◌, Bool, true, false, ◌⊎◌, ◌↔◌, inl, inr, List}
use Rattle.std.proofs.Common.{[], ◌∷◌, ◌++◌, length, get_or, set, take, drop, refl, sym, ap, subst, ◌∙◌, arith, Contains}
use Rattle.std.proofs.lemmas.List.{get_or-set_same, get_or-set_other, take_more, length-set}
use Rattle.std.proofs.lemmas.List.{drop-append-le, length-take-le, length-drop}
use Rattle.std.proofs.Common.{not, Some}
use Rattle.std.specs.List.{count_by, slice_get}
use Rattle.std.proofs.lemmas.Bool.{false≢true, cases_eq}
use Rattle.daggy_base.specs.Graph.{Graph}
use Rattle.daggy_base.specs.WellFormed.{AreDistinct}
use Rattle.daggy_base.proofs.Lists.{Mem, Unique, mem_left, mem_right, mem_cases, mem_contains, contains_mem}
use Rattle.daggy_base.proofs.Lists.{unique_from_distinct, unique_right, Contains-here, Contains-there}
use Rattle.daggy_base.proofs.Sorted.{unique_cross, unique_left}
use Rattle.daggy_schedule.specs.Work.{Work, IsSet, is_set, IsIdle, IsUnderWay, MayBegin, parents_of, are_distinct}
use Rattle.daggy_schedule.specs.Queue.{IsKept, count_of}
use Rattle.daggy_schedule.proofs.Members.{among_in, among_out, distinct_unique, unique_distinct}
use Rattle.daggy_schedule.proofs.Counts.{count_none, count_rises, count_all, count_most, count_full, count_append}

-- ---- flags

pub by_set : (flags : List Bool) (n : ℕ) → IsSet flags n ⊎ (IsSet flags n → ⊥)
by_set flags n = from (get_or flags n false)
  where
    from : (b : Bool) → (b ≡ true) ⊎ (b ≡ true → ⊥)
    from true = inl refl
    from false = inr (λ h. false≢true h)

pub unset_flag : (flags : List Bool) (n : ℕ) → (IsSet flags n → ⊥) → is_set flags n ≡ false
unset_flag flags n = from (get_or flags n false)
  where
    from : (b : Bool) → (b ≡ true → ⊥) → b ≡ false
    from true h = absurd (h refl)
    from false h = refl

-- one flag more
pub set_more : (flags : List Bool) (n : ℕ) → n < length flags
    → (m : ℕ) → IsSet (set flags n true) m ↔ (IsSet flags m ⊎ (m ≡ n))
set_more flags n low m =
    elim (cases_eq m n) [
      | inl e ↦ (
        λ _. inr e,
        λ _. let P : ℕ → Type 0 = λ z. get_or (set flags n true) z false ≡ true in
            subst P (sym e) (get_or-set_same flags n true false low),
      )
      | inr d ↦ (
        λ k. inl (sym (get_or-set_other flags n m true false d) ∙ k),
        λ k. elim k [ inl h ↦ get_or-set_other flags n m true false d ∙ h | inr e ↦ absurd (d e) ],
      )
    ]

-- ---- parts of a list

pub parted : (h t : ℕ) (xs : List ℕ) → h ≤ t → take t xs ≡ take h xs ++ drop h (take t xs)
parted zero t xs le = refl
parted (suc h) zero xs le = absurd (omega (arith, le))
parted (suc h) (suc t) [] le = refl
parted (suc h) (suc t) (x ∷ xs) le = ap (λ z. x ∷ z) (parted h t xs (omega (arith, le)))

pub drop_one : (h t : ℕ) (xs : List ℕ) (d : ℕ) → h < t → t ≤ length xs
    → drop h (take t xs) ≡ get_or xs h d ∷ drop (suc h) (take t xs)
drop_one h zero xs d lt le = absurd (omega (arith, lt))
drop_one h (suc t) [] d lt le = absurd (omega (arith, le))
drop_one zero (suc t) (x ∷ xs) d lt le = refl
drop_one (suc h) (suc t) (x ∷ xs) d lt le = drop_one h t xs d (omega (arith, lt)) (omega (arith, le))

pub drop_all : (t : ℕ) (xs : List ℕ) → drop t (take t xs) ≡ []
drop_all zero xs = refl
drop_all (suc t) [] = refl
drop_all (suc t) (x ∷ xs) = drop_all t xs

take_under : (h t : ℕ) (xs : List ℕ) → h ≤ t → take h (take t xs) ≡ take h xs
take_under zero t xs le = refl
take_under (suc h) zero xs le = absurd (omega (arith, le))
take_under (suc h) (suc t) [] le = refl
take_under (suc h) (suc t) (x ∷ xs) le = ap (λ z. x ∷ z) (take_under h t xs (omega (arith, le)))

-- what is put behind the queue is put behind those that are ready
pub ready_more : (h t u : ℕ) (xs ys more : List ℕ) → h ≤ t → t ≤ length xs → take u ys ≡ take t xs ++ more
    → drop h (take u ys) ≡ drop h (take t xs) ++ more
ready_more h t u xs ys more low within same =
    ap (drop h) same ∙ drop-append-le h (take t xs) more (omega (arith, low, length-take-le t xs within))

-- ---- the queue

module _ {waiting queue : List ℕ} {head tail : ℕ} {out done : List Bool} {finished : ℕ}
    (k : IsKept waiting queue head tail out done finished) where
  pub split : take tail queue ≡ take head queue ++ drop head (take tail queue)
  split = parted head tail queue k.handed_low

  pub once_all : Unique (take head queue ++ drop head (take tail queue))
  once_all = let P : List ℕ → Type 0 = λ z. Unique z in subst P split (unique_from_distinct (take tail queue) k.once)

  pub from_out : (n : ℕ) → IsSet out n → Contains (take tail queue) n
  from_out n o =
      let P : List ℕ → Type 0 = λ z. Contains z n in
      subst P (sym split) (mem_contains (take head queue ++ drop head (take tail queue)) n (mem_left (take head queue) (drop head (take tail queue)) n
      (contains_mem (take head queue) n ((k.handed n).0 o))))

  pub from_ready : (n : ℕ) → Contains (drop head (take tail queue)) n → Contains (take tail queue) n
  from_ready n c =
      let P : List ℕ → Type 0 = λ z. Contains z n in
      subst P (sym split) (mem_contains (take head queue ++ drop head (take tail queue)) n (mem_right (take head queue) (drop head (take tail queue)) n
      (contains_mem (drop head (take tail queue)) n c)))

  pub out_or_ready : (n : ℕ) → Contains (take tail queue) n → IsSet out n ⊎ Contains (drop head (take tail queue)) n
  out_or_ready n c =
      let P : List ℕ → Type 0 = λ z. Mem n z in
      elim (mem_cases (take head queue) (drop head (take tail queue)) n (subst P split (contains_mem (take tail queue) n c))) [
        | inl a ↦ inl ((k.handed n).1 (mem_contains (take head queue) n a))
        | inr b ↦ inr (mem_contains (drop head (take tail queue)) n b)
      ]

  pub not_both : (n : ℕ) → Contains (drop head (take tail queue)) n → IsSet out n → ⊥
  not_both n c o =
      unique_cross (take head queue) (drop head (take tail queue)) once_all n
      (contains_mem (take head queue) n ((k.handed n).0 o)) (contains_mem (drop head (take tail queue)) n c)

  pub ready_once : are_distinct (drop head (take tail queue)) ≡ true
  ready_once =
      unique_distinct (drop head (take tail queue))
      (unique_right (take head queue) (drop head (take tail queue)) once_all)

  -- ---- one node more is handed out

  pub read_next : head < tail → (n v : ℕ) → n ≡ v → v ≡ get_or queue head v → n ≡ get_or queue head n
  read_next lt n v same is = let P : ℕ → Type 0 = λ z. z ≡ get_or queue head z in subst P (sym same) is

  module _ (lt : head < tail) (n : ℕ) (is : n ≡ get_or queue head n) where
    pub next_first : drop head (take tail queue) ≡ n ∷ drop (head + 1) (take tail queue)
    next_first =
        let one : suc head ≡ head + 1 = omega arith in
        drop_one head tail queue n lt k.queued_low
        ∙ (ap (λ z. get_or queue head n ∷ drop z (take tail queue)) one
        ∙ ap (λ z. z ∷ drop (head + 1) (take tail queue)) (sym is))

    next_ready : Contains (drop head (take tail queue)) n
    next_ready =
        let P : List ℕ → Type 0 = λ z. Contains z n in
        subst P (sym next_first) (Contains-here n (drop (head + 1) (take tail queue)))

    pub next_low : n < length out
    next_low = omega (arith, k.within n (from_ready n next_ready), k.out_long)

    pub next_undone : IsSet done n → ⊥
    next_undone d = not_both n next_ready (k.begun n d)

    more : take (head + 1) queue ≡ take head queue ++ n ∷ []
    more =
        take_more queue head n (omega (arith, lt, k.queued_low)) ∙ ap (λ z. take head queue ++ z ∷ []) (sym is)

    pub hand_out : IsKept waiting queue (head + 1) tail (set out n true) done finished
    hand_out =
        let P : ℕ → List ℕ → Type 0 = λ m z. Mem m z in
        record {
          queue_long = k.queue_long;
          out_long = length-set out n true ∙ k.out_long;
          done_long = k.done_long;
          handed_low = omega (arith, lt);
          queued_low = k.queued_low;
          once = k.once;
          within = k.within;
          handed = λ m. (
            λ o. mem_contains (take (head + 1) queue) m (subst (P m) (sym more) (elim ((set_more out n next_low m).0 o) [
              | inl before ↦
                  mem_left (take head queue) (n ∷ []) m (contains_mem (take head queue) m ((k.handed m).0 before))
              | inr same ↦ mem_right (take head queue) (n ∷ []) m (inl same)
            ])),
            λ c. (set_more out n next_low m).1 (elim (mem_cases (take head queue) (n ∷ []) m
                (subst (P m) more (contains_mem (take (head + 1) queue) m c))) [
                  | inl a ↦ inl ((k.handed m).1 (mem_contains (take head queue) m a))
                  | inr b ↦ inr (elim b [ inl e ↦ e | inr none_there ↦ absurd none_there ])
                ]),
          );
          begun = λ m d. (set_more out n next_low m).1 (inl (k.begun m d));
          finished_is = omega (
            arith,
            k.finished_is,
            ap (λ z. count_of (is_set done) z) more,
            count_append (is_set done) (take head queue) (n ∷ []),
            count_none (is_set done) (n ∷ []) (λ m h. elim h [
              | inl e ↦ ap (is_set done) e ∙ unset_flag done n next_undone
              | inr none_there ↦ absurd none_there
            ]),
          );
        }

  -- ---- all are done

  pub handed_sized : length (take head queue) ≡ head
  handed_sized = length-take-le head queue (omega (arith, k.handed_low, k.queued_low))

  pub ready_sized : length (drop head (take tail queue)) ≡ tail - head
  ready_sized =
      length-drop head (take tail queue) ∙ ap (λ z. z - head) (length-take-le tail queue k.queued_low)

  pub finished_idle : finished ≡ tail → IsIdle (record {
    waiting = waiting;
    ready = drop head (take tail queue);
    out = out;
    done = done;
  })
  finished_idle h =
      let most = count_most (is_set done) (take head queue) in
      let level : head ≡ tail = omega (arith, most, handed_sized, k.finished_is, h, k.handed_low) in
      let full : count_of (is_set done) (take head queue) ≡ length (take head queue) =
      omega (arith, handed_sized, k.finished_is, h, level) in (
        ap (λ z. drop z (take tail queue)) level ∙ drop_all tail queue,
        λ n o. o.1 (count_full (is_set done) (take head queue) full n
            (contains_mem (take head queue) n ((k.handed n).0 o.0))),
      )

  pub idle_finished : (drop head (take tail queue) ≡ []) → ((n : ℕ) → IsSet out n → (IsSet done n → ⊥) → ⊥)
      → finished ≡ tail
  idle_finished none none_out =
      let level : head ≡ tail = omega (arith, ap length none, ready_sized, k.handed_low) in
      let full = count_all (is_set done) (take head queue) (λ n m.
      elim (by_set done n) [
        | inl d ↦ d
        | inr u ↦ absurd (none_out n ((k.handed n).1 (mem_contains (take head queue) n m)) u)
      ]) in
      omega (arith, full, handed_sized, k.finished_is, level)

  -- ---- one node more is done

  module _ (n : ℕ) (is_out : IsSet out n) (undone : IsSet done n → ⊥) where
    pub done_low : n < length done
    done_low = omega (arith, k.within n (from_out n is_out), k.done_long)

    rises : count_of (is_set (set done n true)) (take head queue) ≡ suc (count_of (is_set done) (take head queue))
    rises =
        count_rises (is_set done) (is_set (set done n true)) n (take head queue)
        (unique_left (take head queue) (drop head (take tail queue)) once_all)
        (contains_mem (take head queue) n ((k.handed n).0 is_out)) (unset_flag done n undone)
        (get_or-set_same done n true false done_low) (λ m d. get_or-set_other done n m true false d)

    pub finished_fits : finished < length queue
    finished_fits =
        omega (
          arith,
          rises,
          count_most (is_set (set done n true)) (take head queue),
          handed_sized,
          k.finished_is,
          k.handed_low,
          k.queued_low,
        )

    module _ (waiting_now queue_now : List ℕ) (tail_now : ℕ) (waiting_long : length waiting_now ≡ length waiting)
        (queue_long : length queue_now ≡ length queue) (later : tail ≤ tail_now) (low : tail_now ≤ length queue_now)
        (same : take tail queue_now ≡ take tail queue) where
      handed_still : take head queue_now ≡ take head queue
      handed_still =
          sym (take_under head tail queue_now k.handed_low)
          ∙ (ap (take head) same ∙ take_under head tail queue k.handed_low)

      pub kept_done : AreDistinct (take tail_now queue_now)
          → ((m : ℕ) → Contains (take tail_now queue_now) m → m < length waiting)
          → IsKept waiting_now queue_now head tail_now out (set done n true) (finished + 1)
      kept_done once_now within_now =
          record {
            queue_long = queue_long ∙ (k.queue_long ∙ sym waiting_long);
            out_long = k.out_long ∙ sym waiting_long;
            done_long = length-set done n true ∙ (k.done_long ∙ sym waiting_long);
            handed_low = omega (arith, k.handed_low, later);
            queued_low = low;
            once = once_now;
            within = λ m c. omega (arith, within_now m c, waiting_long);
            handed = λ m. (
                let P : List ℕ → Type 0 = λ z. IsSet out m ↔ Contains z m in
                subst P (sym handed_still) (k.handed m)
                );
            begun = λ m d. elim ((set_more done n done_low m).0 d) [
              | inl before ↦ k.begun m before
              | inr e ↦ (let P : ℕ → Type 0 = λ z. IsSet out z in subst P (sym e) is_out)
            ];
            finished_is = omega (
              arith,
              k.finished_is,
              rises,
              ap (λ z. count_of (is_set (set done n true)) z) handed_still,
            );
          }

-- ---- the next node is handed out

module _ (old new : Work) (n : ℕ) (first : old.ready ≡ n ∷ new.ready)
    (outs : (m : ℕ) → IsSet new.out m ↔ (IsSet old.out m ⊎ (m ≡ n))) (waiting : new.waiting ≡ old.waiting)
    (done : new.done ≡ old.done) {N E : Type 0} {g : Graph N E} (u : IsUnderWay g old) where
  was_ready : Contains old.ready n
  was_ready = let P : List ℕ → Type 0 = λ z. Contains z n in subst P (sym first) (Contains-here n new.ready)

  once_first : Unique (n ∷ new.ready)
  once_first = let P : List ℕ → Type 0 = λ z. Unique z in subst P first (distinct_unique old.ready u.once)

  now : (m : ℕ) → MayBegin g old.done m → MayBegin g new.done m
  now m = let P : List Bool → Type 0 = λ z. MayBegin g old.done m → MayBegin g z m in subst P (sym done) (λ h. h)

  then : (m : ℕ) → MayBegin g new.done m → MayBegin g old.done m
  then m = let P : List Bool → Type 0 = λ z. MayBegin g z m → MayBegin g old.done m in subst P (sym done) (λ h. h)

  set_now : (m : ℕ) → IsSet new.done m → IsSet old.done m
  set_now m h = ap (λ z. is_set z m) (sym done) ∙ h

  pub handed_on : IsUnderWay g new
  handed_on =
      record {
        waits = λ m h. ap (λ z. slice_get z m) waiting ∙ (u.waits m h
            ∙ ap (λ z. Some (count_by (λ v. not (is_set z v)) (parents_of g m))) (sym done));
        ready = λ m. (
          λ c. (
              let M : List ℕ → Type 0 = λ z. Contains z m in
              let r = (u.ready m).0 (among_in old.ready m (subst M (sym first) (Contains-there n m new.ready (among_out new.ready m c)))) in (
                now m r.0,
                λ o. elim ((outs m).0 o) [
                  | inl before ↦ r.1 before
                  | inr e ↦
                      (let P : ℕ → Type 0 = λ z. Mem z new.ready in
                      once_first.0 (subst P e (contains_mem new.ready m (among_out new.ready m c))))
                ],
              )
              ),
          λ r. (
              let M : List ℕ → Type 0 = λ z. Contains z m in
              let c = subst M first (among_out old.ready m ((u.ready m).1 (then m r.0, λ o. r.1 ((outs m).1 (inl o))))) in
              elim (contains_mem (n ∷ new.ready) m c) [
                | inl e ↦ absurd (r.1 ((outs m).1 (inr e)))
                | inr there ↦ among_in new.ready m (mem_contains new.ready m there)
              ]
              ),
        );
        once = unique_distinct new.ready once_first.1;
        out = λ m o. now m (elim ((outs m).0 o) [
          | inl before ↦ u.out m before
          | inr e ↦
              (let P : ℕ → Type 0 = λ z. MayBegin g old.done z in subst P (sym e) ((u.ready n).0 (among_in old.ready n was_ready)).0)
        ]);
        done = λ m d. (outs m).1 (inl (u.done m (set_now m d)));
        idle = (
          λ i. absurd (i.1 n (
            (outs n).1 (inr refl),
            λ d. ((u.ready n).0 (among_in old.ready n was_ready)).1 (u.done n (set_now n d)),
          )),
          λ all. absurd (
              let i = u.idle.1 (λ m h. set_now m (all m h)) in
              let M : List ℕ → Type 0 = λ z. Contains z n in
              contains_mem [] n (subst M i.0 was_ready)
              ),
        );
      }
