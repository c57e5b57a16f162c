-- Who comes first of the nodes that wait, and that nobody is idle meanwhile.
use Rattle.std.proofs.Common.{◌≡◌, ◌≢◌, ℕ, suc, ◌+◌, ◌<◌, ◌≤◌, ◌↔◌, ◌⊎◌, inl, inr, true, List, [], ◌∷◌, length, get_or, set}
use Rattle.std.proofs.Common.{refl, sym, ap, subst, ◌∙◌, arith, IsPermutation}
use Rattle.std.proofs.lemmas.Bool.{cases_eq, cases_lt, false≢true}
use Rattle.std.proofs.lemmas.List.{length-map, get_or-set_same, get_or-set_other}
use Rattle.std.proofs.lemmas.List.Sorted.{IsPermutation-map, IsPermutation-sym}
use Rattle.std.proofs.Permutation.{every_shuffled}
use Rattle.std.specs.List.{AllByRecursion}
use Rattle.std.specs.Ordering.{nat_cmp}
use Rattle.daggy_base.specs.Graph.{Graph, HasNode}
use Rattle.daggy_base.specs.Path.{AreJoined}
use Rattle.daggy_base.specs.WellFormed.{IsWellFormed}
use Rattle.daggy_base.proofs.Lists.{Mem, Unique, fewer_than, mem_right, unique_right}
use Rattle.daggy_base.proofs.Sorted.{unique_cross}
use Rattle.daggy_schedule.specs.Work.{Work, IsSet, IsUnderWay, MayBegin, is_among}
use Rattle.daggy_schedule.specs.LeastFirst.{Precedes, nodes_of}
use Rattle.daggy_schedule.proofs.Keeping.{by_set}
use Rattle.daggy_schedule.proofs.Ordering.{mem_shuffled, parent_joined, joined_parent}
use Rattle.daggy_schedule.proofs.Shift.{IsShift, HasBegun, staff_of, finish}

-- u starts before n, and finishes by the time when that starts
abbrev pub IsInTime : (d starts : List ℕ) → (n u : ℕ) → Type 0
IsInTime d starts n u = (get_or starts u 0 < get_or starts n 0) × (finish d starts u ≤ get_or starts n 0)

module _ {N E : Type 0} (g : Graph N E) (d : List ℕ) (latest : ℕ → ℕ) where
  abbrev pub Comes : ℕ → ℕ → Type 0
  Comes n m = Precedes nat_cmp (latest n, n) (latest m, m)

  pub record IsUrgent (work : Work) (waiting running : List (ℕ × ℕ)) (starts : List ℕ) : Type 0 where
    pub keys : AllByRecursion (λ p. p.0 ≡ latest p.1) waiting
    pub unbegun : (n m : ℕ) → HasBegun work running n → HasNode g m → (HasBegun work running m → ⊥)
        → ((u : ℕ) → AreJoined g u m → HasBegun work running u × IsInTime d starts n u) → Comes n m
    pub begun : (n m : ℕ) → HasBegun work running n → HasBegun work running m → get_or starts n 0 < get_or starts m 0
        → ((u : ℕ) → AreJoined g u m → IsInTime d starts n u) → Comes n m

-- all workers do something at a time
abbrev pub AllBusy : (d : List ℕ) (count : ℕ) (work : Work) (running : List (ℕ × ℕ)) (starts staff : List ℕ) → ℕ → Type 0
AllBusy d count work running starts staff t =
    (x : ℕ) → x < count → (n : ℕ) × HasBegun work running n × (get_or staff n 0 ≡ x) × (get_or starts n 0 ≤ t)
    × (t < finish d starts n)

-- while a node waited before now, all workers did something
pub record AreKeen {N E : Type 0} (g : Graph N E) (d : List ℕ) (count : ℕ) (work : Work) (running : List (ℕ × ℕ))
    (starts staff : List ℕ) (now : ℕ) : Type 0 where
  pub busy : (m t : ℕ) → HasNode g m → t < now → (HasBegun work running m → t < get_or starts m 0)
      → ((u : ℕ) → AreJoined g u m → HasBegun work running u × (finish d starts u ≤ t))
      → AllBusy d count work running starts staff t

-- a list of different numbers that is as long as it can be has each
member : (x : ℕ) (xs : List ℕ) → Mem x xs ⊎ (Mem x xs → ⊥)
member x [] = inr (λ m. m)
member x (y ∷ ys) =
    elim (cases_eq x y) [
      | inl same ↦ inl (inl same)
      | inr other ↦ elim (member x ys) [
        | inl m ↦ inl (inr m)
        | inr none ↦ inr (λ m. elim m [ inl same ↦ other same | inr b ↦ none b ])
      ]
    ]

holds_each : (count : ℕ) (xs : List ℕ) → Unique xs → ((x : ℕ) → Mem x xs → x < count) → count ≤ length xs
    → (x : ℕ) → x < count → Mem x xs
holds_each count xs once low long x here =
    elim (member x xs) [
      | inl m ↦ m
      | inr none ↦ (
          let few = fewer_than (x ∷ xs) count (none, once) (λ z m. elim m [
            | inl same ↦ omega (arith, same, here)
            | inr b ↦ low z b
          ]) in
          absurd (omega (arith, few, long))
          )
    ]

-- what a list of pairs says of one of its nodes
of_node : (P : ℕ × ℕ → Type 0) (key : ℕ → ℕ) (ps : List (ℕ × ℕ)) → AllByRecursion (λ p. p.0 ≡ key p.1) ps
    → AllByRecursion P ps → (m : ℕ) → Mem m (nodes_of ps) → P (key m, m)
of_node P key [] keys all m h = absurd h
of_node P key (p ∷ ps) keys all m h =
    elim h [
      | inl same ↦ (
          let Q : ℕ → Type 0 = λ z. P (z, p.1) in
          let R : ℕ → Type 0 = λ z. P (key z, z) in
          subst R (sym same) (subst Q keys.0 all.0)
          )
      | inr b ↦ of_node P key ps keys.1 all.1 m b
    ]

staff_node : (staff : List ℕ) (x : ℕ) (ps : List (ℕ × ℕ)) → Mem x (staff_of staff ps)
    → (n : ℕ) × Mem n (nodes_of ps) × (get_or staff n 0 ≡ x)
staff_node staff x [] h = absurd h
staff_node staff x (p ∷ ps) h =
    elim h [
      | inl same ↦ (p.1, inl refl, sym same)
      | inr b ↦ (let q = staff_node staff x ps b in (q.0, inr q.1, q.2))
    ]

pub urgent_from : {N E : Type 0} (g : Graph N E) (d : List ℕ) (latest : ℕ → ℕ) {work : Work} (starts : List ℕ)
    → ((n : ℕ) → IsSet work.done n → ⊥) → IsUrgent g d latest work [] [] starts
urgent_from g d latest {work} starts undone =
    let none : (n : ℕ) → HasBegun work [] n → ⊥ = λ n b. elim b [ inl b ↦ undone n b | inr r ↦ r ] in
    record {
      keys = tt;
      unbegun = λ n m b. absurd (none n b);
      begun = λ n m b. absurd (none n b);
    }

pub keen_from : {N E : Type 0} (g : Graph N E) (d : List ℕ) (count : ℕ) (work : Work) (starts staff : List ℕ)
    → AreKeen g d count work [] starts staff 0
keen_from g d count work starts staff = record { busy = λ m t has low. absurd (omega (arith, low)) }

-- a node is handed out
pub urgent_wait : {N E : Type 0} {g : Graph N E} {d : List ℕ} {latest : ℕ → ℕ} {work : Work} {waiting running : List (ℕ × ℕ)}
    {starts : List ℕ} → IsUrgent g d latest work waiting running starts → (new : Work) → new.done ≡ work.done
    → (more : List (ℕ × ℕ)) (k n : ℕ) → k ≡ latest n → IsPermutation ((k, n) ∷ waiting) more
    → IsUrgent g d latest new more running starts
urgent_wait {N} {E} {g} {d} {latest} {work} {waiting} {running} {starts} s new dones more k n is perm =
    let was : (m : ℕ) → HasBegun new running m → HasBegun work running m = λ m b.
    elim b [ inl a ↦ (let P : List _ → Type 0 = λ z. IsSet z m in inl (subst P dones a)) | inr r ↦ inr r ] in
    let still : (m : ℕ) → HasBegun work running m → HasBegun new running m = λ m b.
    elim b [ inl a ↦ (let P : List _ → Type 0 = λ z. IsSet z m in inl (subst P (sym dones) a)) | inr r ↦ inr r ] in
    record {
      keys = every_shuffled (λ p. p.0 ≡ latest p.1) ((k, n) ∷ waiting) more perm (is, s.keys);
      unbegun = λ a m b has not come. s.unbegun a m (was a b) has (λ c. not (still m c)) (λ u j.
          let h = come u j in (was u h.0, h.1));
      begun = λ a m b c. s.begun a m (was a b) (was m c);
    }

pub keen_wait : {N E : Type 0} {g : Graph N E} {d : List ℕ} {count : ℕ} {work : Work} {running : List (ℕ × ℕ)}
    {starts staff : List ℕ} {now : ℕ} → AreKeen g d count work running starts staff now → (new : Work)
    → new.done ≡ work.done → AreKeen g d count new running starts staff now
keen_wait {N} {E} {g} {d} {count} {work} {running} {starts} {staff} {now} s new dones =
    let was : (m : ℕ) → HasBegun new running m → HasBegun work running m = λ m b.
    elim b [ inl a ↦ (let P : List _ → Type 0 = λ z. IsSet z m in inl (subst P dones a)) | inr r ↦ inr r ] in
    let still : (m : ℕ) → HasBegun work running m → HasBegun new running m = λ m b.
    elim b [ inl a ↦ (let P : List _ → Type 0 = λ z. IsSet z m in inl (subst P (sym dones) a)) | inr r ↦ inr r ] in
    record {
      busy = λ m t has low waits come x here.
          (let busy = s.busy m t has low (λ b. waits (still m b)) (λ u j. let h = come u j in (was u h.0, h.1)) x here in
          (busy.0, still busy.0 busy.1, busy.2, busy.3, busy.4));
    }

module _ {N E : Type 0} {g : Graph N E} {d : List ℕ} {count : ℕ} {work : Work} {waiting running : List (ℕ × ℕ)}
    {free starts staff : List ℕ} {now : ℕ} (s : IsShift g d count work waiting running free starts staff now)
    {end : ℕ} (w : IsWellFormed end g) (under : IsUnderWay g work) (none_ready : work.ready ≡ []) where
  runs_on : (u : ℕ) → Mem u (nodes_of running) → now ≤ finish d starts u
  runs_on u m = of_node (λ p. now ≤ p.0) (finish d starts) running s.keys s.ends u m

  started : (u : ℕ) → HasBegun work running u → get_or starts u 0 ≤ now
  started u b = elim b [ inl b ↦ omega (arith, s.past u b) | inr r ↦ s.begun u r ]

  begun_out : (u : ℕ) → HasBegun work running u → IsSet work.out u
  begun_out u b = elim b [ inl b ↦ under.done u b | inr r ↦ ((s.outs u).1 (inr r)).0 ]

  begun_exists : (u : ℕ) → HasBegun work running u → HasNode g u
  begun_exists u b = (under.out u (begun_out u b)).0

  parents_done : (u m : ℕ) → HasBegun work running m → AreJoined g u m → IsSet work.done u
  parents_done u m b j = (under.out m (begun_out m b)).1 u (joined_parent w u m j)

  -- a node that has not begun waits, if its parents are done
  waits_if : (m : ℕ) → HasNode g m → (HasBegun work running m → ⊥) → ((u : ℕ) → AreJoined g u m → IsSet work.done u)
      → Mem m (nodes_of waiting)
  waits_if m has not come =
      let may : MayBegin g work.done m = (has, λ u c. come u (parent_joined w u m c)) in
      elim (by_set work.out m) [
        | inl out ↦ elim ((s.outs m).0 (out, λ b. not (inl b))) [ inl a ↦ a | inr r ↦ absurd (not (inr r)) ]
        | inr in_no ↦ (
            let P : List ℕ → Type 0 = λ z. is_among z m ≡ true in
            absurd (false≢true (subst P none_ready ((under.ready m).1 (may, in_no))))
            )
      ]

  -- a worker begins a node
  module _ (left more : List (ℕ × ℕ)) (k n f worker : ℕ) (taken : IsPermutation waiting ((k, n) ∷ left))
      (at : f ≡ now + get_or d n 0) (added : IsPermutation ((f, n) ∷ running) more) (low_start : n < length starts)
      (low_staff : n < length staff) where
    abbrev starts' : List ℕ
    starts' = set starts n now

    abbrev staff' : List ℕ
    staff' = set staff n worker

    start_now : get_or starts' n 0 ≡ now
    start_now = get_or-set_same starts n now 0 low_start

    start_kept : (m : ℕ) → m ≢ n → get_or starts' m 0 ≡ get_or starts m 0
    start_kept m ne = get_or-set_other starts n m now 0 ne

    staff_kept : (m : ℕ) → m ≢ n → get_or staff' m 0 ≡ get_or staff m 0
    staff_kept m ne = get_or-set_other staff n m worker 0 ne

    added_nodes : IsPermutation (n ∷ nodes_of running) (nodes_of more)
    added_nodes = IsPermutation-map (λ p. p.1) ((f, n) ∷ running) more added

    taken_nodes : IsPermutation (nodes_of waiting) (n ∷ nodes_of left)
    taken_nodes = IsPermutation-map (λ p. p.1) waiting ((k, n) ∷ left) taken

    waited : Mem n (nodes_of waiting)
    waited = mem_shuffled (n ∷ nodes_of left) (nodes_of waiting) n (IsPermutation-sym _ _ taken_nodes) (inl refl)

    unbegun_before : HasBegun work running n → ⊥
    unbegun_before b =
        elim b [
          | inl b ↦ ((s.outs n).1 (inl waited)).1 b
          | inr r ↦ unique_cross (nodes_of waiting) (nodes_of running) s.once n waited r
        ]

    old : (m : ℕ) → HasBegun work running m → m ≢ n
    old m b same = let P : ℕ → Type 0 = λ z. HasBegun work running z in unbegun_before (subst P same b)

    still_begun : (m : ℕ) → HasBegun work running m → HasBegun work more m
    still_begun m b =
        elim b [ inl b ↦ inl b | inr r ↦ inr (mem_shuffled (n ∷ nodes_of running) (nodes_of more) m added_nodes (inr r)) ]

    split : (m : ℕ) → HasBegun work more m → (m ≡ n) ⊎ HasBegun work running m
    split m b =
        elim b [
          | inl b ↦ inr (inl b)
          | inr r ↦
              elim (mem_shuffled (nodes_of more) (n ∷ nodes_of running) m (IsPermutation-sym _ _ added_nodes) r) [
                | inl same ↦ inl same
                | inr b ↦ inr (inr b)
              ]
        ]

    -- what finishes by now was begun before
    early : (u t : ℕ) → t ≤ now → HasBegun work more u → finish d starts' u < t → HasBegun work running u × (finish d starts u < t)
    early u t low b ends =
        elim (split u b) [
          | inl same ↦ absurd (omega (arith, ends, low, ap (λ z. get_or starts' z 0) same, start_now))
          | inr b ↦ (b, omega (arith, ends, start_kept u (old u b)))
        ]

    -- what started before now was begun before
    began : (u : ℕ) → HasBegun work more u → get_or starts' u 0 < now → HasBegun work running u
    began u b low =
        elim (split u b) [
          | inl same ↦ absurd (omega (arith, low, ap (λ z. get_or starts' z 0) same, start_now))
          | inr b ↦ b
        ]

    module _ {latest : ℕ → ℕ} (r : IsUrgent g d latest work waiting running starts)
        (first : AllByRecursion (Precedes nat_cmp (k, n)) left) (later : AllByRecursion (λ p. now < p.0) running) where
      later_on : (u : ℕ) → Mem u (nodes_of running) → now < finish d starts u
      later_on u m = of_node (λ p. now < p.0) (finish d starts) running s.keys later u m

      left_keys : (k ≡ latest n) × AllByRecursion (λ p. p.0 ≡ latest p.1) left
      left_keys = every_shuffled (λ p. p.0 ≡ latest p.1) waiting ((k, n) ∷ left) taken r.keys

      -- the new node comes before what waits
      comes_first : (m : ℕ) → HasNode g m → (HasBegun work more m → ⊥)
          → ((u : ℕ) → AreJoined g u m → HasBegun work more u × (get_or starts' u 0 < now) × (finish d starts' u ≤ now))
          → Comes g d latest n m
      comes_first m has not come =
          let parents : (u : ℕ) → AreJoined g u m → IsSet work.done u = λ u j.
          (let h = come u j in
          let e = began u h.0 h.1 in
          elim e [ inl b ↦ b | inr runs ↦ absurd (omega (arith, later_on u runs, h.2, start_kept u (old u (inr runs)))) ]) in
          let there = waits_if m has (λ b. not (still_begun m b)) parents in
          let in_left : Mem m (nodes_of left) =
          elim (mem_shuffled (nodes_of waiting) (n ∷ nodes_of left) m taken_nodes there) [
            | inl same ↦ (
                let P : ℕ → Type 0 = λ z. HasBegun work more z in
                absurd (not (subst P (sym same)
                (inr (mem_shuffled (n ∷ nodes_of running) (nodes_of more) n added_nodes (inl refl)))))
                )
            | inr b ↦ b
          ] in
          let Q : ℕ → Type 0 = λ z. Precedes nat_cmp (z, n) (latest m, m) in
          subst Q left_keys.0 (of_node (Precedes nat_cmp (k, n)) latest left left_keys.1 first m in_left)

      pub urgent_begin : IsUrgent g d latest work left more (set starts n now)
      urgent_begin =
          record {
            keys = left_keys.1;
            unbegun = λ a m b has not come.
                elim (split a b) [
                  | inl same ↦ (
                      let C : ℕ → Type 0 = λ z. Comes g d latest z m in
                      subst C (sym same) (comes_first m has not (λ u j. let h = come u j in (
                        h.0,
                        omega (arith, h.1.0, ap (λ z. get_or starts' z 0) same, start_now),
                        omega (arith, h.1.1, ap (λ z. get_or starts' z 0) same, start_now),
                      )))
                      )
                  | inr b ↦
                      r.unbegun a m b has (λ c. not (still_begun m c)) (λ u j.
                      let h = come u j in
                      let kept = start_kept a (old a b) in
                      let e = began u h.0 (omega (arith, h.1.0, kept, started a b)) in (
                        e,
                        (
                          omega (arith, h.1.0, kept, start_kept u (old u e)),
                          omega (arith, h.1.1, kept, start_kept u (old u e)),
                        ),
                      ))
                ];
            begun = λ a m b c less come.
                elim (split a b) [
                  | inl same ↦ elim (split m c) [
                    | inl also ↦
                        absurd (omega (
                          arith,
                          less,
                          ap (λ z. get_or starts' z 0) same,
                          ap (λ z. get_or starts' z 0) also,
                        ))
                    | inr m_old ↦
                        absurd (omega (
                          arith,
                          less,
                          ap (λ z. get_or starts' z 0) same,
                          start_now,
                          start_kept m (old m m_old),
                          started m m_old,
                        ))
                  ]
                  | inr a_old ↦ elim (split m c) [
                    | inl also ↦ (
                        let C : ℕ → Type 0 = λ z. Comes g d latest a z in
                        let J : ℕ → ℕ → Type 0 = λ u z. AreJoined g u z in
                        let may = under.out n ((s.outs n).1 (inl waited)).0 in
                        subst C (sym also) (r.unbegun a n a_old may.0 unbegun_before (λ u j.
                        let u_done = may.1 u (joined_parent w u n j) in
                        let h = come u (subst (J u) (sym also) j) in
                        let kept_u = start_kept u (old u (inl u_done)) in
                        let kept_a = start_kept a (old a a_old) in
                        (inl u_done, (omega (arith, h.0, kept_u, kept_a), omega (arith, h.1, kept_u, kept_a)))))
                        )
                    | inr m_old ↦
                        r.begun a m a_old m_old (omega (
                          arith,
                          less,
                          start_kept a (old a a_old),
                          start_kept m (old m m_old),
                        )) (λ u j.
                        let h = come u j in
                        let kept_u = start_kept u (old u (inl (parents_done u m m_old j))) in
                        let kept_a = start_kept a (old a a_old) in
                        (omega (arith, h.0, kept_u, kept_a), omega (arith, h.1, kept_u, kept_a)))
                  ]
                ];
          }

    pub keen_begin : AreKeen g d count work running starts staff now
        → AreKeen g d count work more (set starts n now) (set staff n worker) now
    keen_begin r =
        record {
          busy = λ m t has low waits come x here.
              (let busy = r.busy m t has low
              (λ b. omega (arith, waits (still_begun m b), start_kept m (old m b)))
              (λ u j.
              let h = come u j in
              let e = early u (suc t) (omega (arith, low)) h.0 (omega (arith, h.1)) in
              (e.0, omega (arith, e.1))) x here in
              let p = busy.0 in
              let other = old p busy.1 in (
                p,
                still_begun p busy.1,
                staff_kept p other ∙ busy.2,
                omega (arith, busy.3, start_kept p other),
                omega (arith, busy.4, start_kept p other),
              ));
        }

  -- the next node is finished
  module _ (new : Work) (left : List (ℕ × ℕ)) (f n : ℕ) (taken : IsPermutation running ((f, n) ∷ left))
      (first : AllByRecursion (λ p. f ≤ p.0) left)
      (dones : (m : ℕ) → IsSet new.done m ↔ (IsSet work.done m ⊎ (m ≡ n))) where
    left_nodes : IsPermutation (nodes_of running) (n ∷ nodes_of left)
    left_nodes = IsPermutation-map (λ p. p.1) running ((f, n) ∷ left) taken

    was_begun : (m : ℕ) → HasBegun new left m → HasBegun work running m
    was_begun m b =
        elim b [
          | inl b ↦ elim ((dones m).0 b) [
            | inl a ↦ inl a
            | inr same ↦ inr (mem_shuffled (n ∷ nodes_of left) (nodes_of running) m (IsPermutation-sym _ _ left_nodes)
                (inl same))
          ]
          | inr r ↦ inr (mem_shuffled (n ∷ nodes_of left) (nodes_of running) m (IsPermutation-sym _ _ left_nodes) (inr r))
        ]

    is_begun : (m : ℕ) → HasBegun work running m → HasBegun new left m
    is_begun m b =
        elim b [
          | inl b ↦ inl ((dones m).1 (inl b))
          | inr r ↦ elim (mem_shuffled (nodes_of running) (n ∷ nodes_of left) m left_nodes r) [
            | inl same ↦ inl ((dones m).1 (inr same))
            | inr b ↦ inr b
          ]
        ]

    runs_until : (u : ℕ) → Mem u (nodes_of running) → f ≤ finish d starts u
    runs_until u m =
        of_node (λ p. f ≤ p.0) (finish d starts) running s.keys
        (every_shuffled (λ p. f ≤ p.0) ((f, n) ∷ left) running (IsPermutation-sym _ _ taken) (omega arith, first)) u m

    pub urgent_finish : {latest : ℕ → ℕ} → IsUrgent g d latest work waiting running starts
        → IsUrgent g d latest new waiting left starts
    urgent_finish r =
        record {
          keys = r.keys;
          unbegun = λ a m b has not come. r.unbegun a m (was_begun a b) has (λ c. not (is_begun m c)) (λ u j.
              let h = come u j in (was_begun u h.0, h.1));
          begun = λ a m b c. r.begun a m (was_begun a b) (was_begun m c);
        }

    pub keen_finish : (f ≡ now) ⊎ ((count ≡ length running) ⊎ (waiting ≡ [])) → AreKeen g d count work running starts staff now
        → AreKeen g d count new left starts staff f
    keen_finish as_busy r =
        record {
          busy = λ m t has low waits come x here.
              elim (cases_lt t now) [
                | inl early ↦ (
                    let busy = r.busy m t has early (λ b. waits (is_begun m b)) (λ u j.
                    let h = come u j in (was_begun u h.0, h.1)) x here in
                    (busy.0, is_begun busy.0 busy.1, busy.2, busy.3, busy.4)
                    )
                | inr late ↦ (
                    let unbegun : HasBegun work running m → ⊥ = λ b.
                    omega (arith, waits (is_begun m b), started m b, late) in
                    let parents : (u : ℕ) → AreJoined g u m → IsSet work.done u = λ u j.
                    (let h = come u j in
                    elim (was_begun u h.0) [ inl b ↦ b | inr runs ↦ absurd (omega (arith, runs_until u runs, h.1, low)) ]) in
                    let there = waits_if m has unbegun parents in
                    let all : count ≡ length running =
                    elim as_busy [
                      | inl same ↦ absurd (omega (arith, same, late, low))
                      | inr b ↦ elim b [
                        | inl all ↦ all
                        | inr none ↦ (let P : List (ℕ × ℕ) → Type 0 = λ z. Mem m (nodes_of z) in absurd (subst P none there))
                      ]
                    ] in
                    let known : (y : ℕ) → Mem y (staff_of staff running) → y < count = λ y h.
                    omega (arith, s.known y (mem_right free (staff_of staff running) y h), s.few) in
                    let who = staff_node staff x running
                    (holds_each count (staff_of staff running) (unique_right free (staff_of staff running) s.staff_once) known
                    (omega (arith, all, length-map running (λ (p : ℕ × ℕ). get_or staff p.1 0))) x here) in (
                      who.0,
                      is_begun who.0 (inr who.1),
                      who.2,
                      omega (arith, s.begun who.0 who.1, late),
                      omega (arith, runs_until who.0 who.1, low),
                    )
                    )
              ];
        }
