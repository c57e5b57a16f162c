-- Workers that do the nodes of a graph, as they go on.
use Rattle.std.proofs.Common.{◌≡◌, ◌≢◌, ℕ, ◌+◌, ◌<◌, ◌≤◌, ◌↔◌, ◌⊎◌, inl, inr, List, [], ◌∷◌, ◌++◌, length, get_or, set}
use Rattle.std.proofs.Common.{refl, sym, ap, subst, ◌∙◌, arith, IsPermutation, map}
use Rattle.std.proofs.lemmas.Bool.{cases_eq}
use Rattle.std.proofs.lemmas.List.{length_push, get_or-set_same, get_or-set_other}
use Rattle.std.proofs.lemmas.List.Sorted.{IsPermutation-map, IsPermutation-sym, IsPermutation-trans, IsPermutation-refl}
use Rattle.std.proofs.lemmas.List.Sorted.{IsPermutation-append_left, IsPermutation-append_right, IsPermutation-middle}
use Rattle.std.proofs.lemmas.List.Sorted.{IsPermutation-pop_more, length_permutation}
use Rattle.std.proofs.Permutation.{every_shuffled}
use Rattle.std.specs.List.{AllByRecursion}
use Rattle.daggy_base.specs.Graph.{Graph, HasNode}
use Rattle.daggy_base.specs.Path.{AreJoined}
use Rattle.daggy_base.specs.WellFormed.{IsWellFormed}
use Rattle.daggy_base.proofs.Lists.{Mem, Unique, mem_left, mem_right, mem_cases}
use Rattle.daggy_base.proofs.Sorted.{unique_cross}
use Rattle.daggy_schedule.specs.Work.{Work, IsSet, IsOut, IsUnderWay, MayBegin}
use Rattle.daggy_schedule.specs.LeastFirst.{nodes_of}
use Rattle.daggy_schedule.specs.Assignments.{IsAssignment}
use Rattle.daggy_schedule.specs.Workers.{IsIdleWorker}
use Rattle.daggy_schedule.proofs.Ordering.{unique_shuffled, mem_shuffled, joined_parent}

-- the node is being done, or it is done
abbrev pub HasBegun : Work → (running : List (ℕ × ℕ)) → ℕ → Type 0
HasBegun work running n = IsSet work.done n ⊎ Mem n (nodes_of running)

-- the workers of the nodes that are being done
abbrev pub staff_of : (staff : List ℕ) → (running : List (ℕ × ℕ)) → List ℕ
staff_of staff running = map (λ p. get_or staff p.1 0) running

-- when a node finishes
abbrev pub finish : (d starts : List ℕ) → ℕ → ℕ
finish d starts n = get_or starts n 0 + get_or d n 0

pub record IsShift {N E : Type 0} (g : Graph N E) (d : List ℕ) (count : ℕ) (work : Work) (waiting running : List (ℕ × ℕ))
    (free starts staff : List ℕ) (now : ℕ) : Type 0 where
  pub outs : (n : ℕ) → IsOut work n ↔ (Mem n (nodes_of waiting) ⊎ Mem n (nodes_of running))
  pub once : Unique (nodes_of waiting ++ nodes_of running)
  pub keys : AllByRecursion (λ p. p.0 ≡ finish d starts p.1) running
  pub ends : AllByRecursion (λ p. now ≤ p.0) running
  pub begun : (n : ℕ) → Mem n (nodes_of running) → get_or starts n 0 ≤ now
  pub past : (n : ℕ) → IsSet work.done n → finish d starts n ≤ now
  pub feasible : (u v : ℕ) → AreJoined g u v → HasBegun work running v → finish d starts u ≤ get_or starts v 0
  pub staffed : (n : ℕ) → HasBegun work running n → get_or staff n 0 < count
  pub known : (x : ℕ) → Mem x (free ++ staff_of staff running) → x < length free + length running
  pub few : length free + length running ≤ count
  pub staff_once : Unique (free ++ staff_of staff running)
  pub apart : (n m : ℕ) → HasBegun work running n → HasBegun work running m → n ≢ m
      → get_or staff n 0 ≡ get_or staff m 0
      → (finish d starts n ≤ get_or starts m 0) ⊎ (finish d starts m ≤ get_or starts n 0)
  pub last : ((now ≡ 0) × ((n : ℕ) → IsSet work.done n → ⊥)) ⊎ ((n : ℕ) × IsSet work.done n × (finish d starts n ≡ now))

-- members that are in a list of nodes, by its pairs
pub every_mem : (P : ℕ → Type 0) (ps : List (ℕ × ℕ)) → ((n : ℕ) → Mem n (nodes_of ps) → P n) → AllByRecursion (λ p. P p.1) ps
every_mem P [] h = tt
every_mem P (p ∷ ps) h = (h p.1 (inl refl), every_mem P ps (λ n m. h n (inr m)))

pub every_both : (P Q R : ℕ × ℕ → Type 0) → ((p : ℕ × ℕ) → P p → Q p → R p) → (ps : List (ℕ × ℕ)) → AllByRecursion P ps
    → AllByRecursion Q ps → AllByRecursion R ps
every_both P Q R h [] a b = tt
every_both P Q R h (p ∷ ps) a b = (h p a.0 b.0, every_both P Q R h ps a.1 b.1)

-- a write elsewhere
keys_kept : (d starts : List ℕ) (n v : ℕ) (ps : List (ℕ × ℕ)) → (Mem n (nodes_of ps) → ⊥)
    → AllByRecursion (λ p. p.0 ≡ finish d starts p.1) ps → AllByRecursion (λ p. p.0 ≡ finish d (set starts n v) p.1) ps
keys_kept d starts n v [] none a = tt
keys_kept d starts n v (p ∷ ps) none a =
    let other : p.1 ≢ n = λ e. none (inl (sym e)) in (
      omega (arith, a.0, get_or-set_other starts n p.1 v 0 other),
      keys_kept d starts n v ps (λ m. none (inr m)) a.1,
    )

staff_kept : (staff : List ℕ) (n w : ℕ) (ps : List (ℕ × ℕ)) → (Mem n (nodes_of ps) → ⊥)
    → staff_of (set staff n w) ps ≡ staff_of staff ps
staff_kept staff n w [] none = refl
staff_kept staff n w (p ∷ ps) none =
    let other : p.1 ≢ n = λ e. none (inl (sym e)) in
    let here = get_or-set_other staff n p.1 w 0 other in
    ap (λ z. z ∷ staff_of (set staff n w) ps) here
    ∙ ap (λ z. get_or staff p.1 0 ∷ z) (staff_kept staff n w ps (λ m. none (inr m)))

staff_mem : (staff : List ℕ) (n : ℕ) (ps : List (ℕ × ℕ)) → Mem n (nodes_of ps) → Mem (get_or staff n 0) (staff_of staff ps)
staff_mem staff n [] m = m
staff_mem staff n (p ∷ ps) m =
    elim m [ inl e ↦ inl (ap (λ z. get_or staff z 0) e) | inr b ↦ inr (staff_mem staff n ps b) ]

pub shift_from : {N E : Type 0} (g : Graph N E) (d : List ℕ) (count : ℕ) {work : Work} (starts staff : List ℕ)
    → ((n : ℕ) → IsSet work.out n → ⊥) → ((n : ℕ) → IsSet work.done n → IsSet work.out n)
    → IsShift g d count work [] [] [] starts staff 0
shift_from g d count {work} starts staff none begun =
    let undone : (n : ℕ) → IsSet work.done n → ⊥ = λ n b. none n (begun n b) in
    let unbegun : (n : ℕ) → HasBegun work [] n → ⊥ = λ n b. elim b [ inl b ↦ undone n b | inr m ↦ m ] in
    record {
      outs = λ n. (λ o. absurd (none n o.0), λ m. absurd (elim m [ inl a ↦ a | inr b ↦ b ]));
      once = tt;
      keys = tt;
      ends = tt;
      begun = λ n m. absurd m;
      past = λ n b. absurd (undone n b);
      feasible = λ u v j b. absurd (unbegun v b);
      staffed = λ n b. absurd (unbegun n b);
      known = λ x m. absurd m;
      few = omega arith;
      staff_once = tt;
      apart = λ n m a. absurd (unbegun n a);
      last = inl (refl, undone);
    }

module _ {N E : Type 0} {g : Graph N E} {d : List ℕ} {count : ℕ} {work : Work} {waiting running : List (ℕ × ℕ)}
    {free starts staff : List ℕ} {now : ℕ} (s : IsShift g d count work waiting running free starts staff now) where
  -- a node is handed out
  module _ (new : Work) (more : List (ℕ × ℕ)) (k n : ℕ) (fresh : IsSet work.out n → ⊥) (is_out : IsOut new n)
      (outs : (m : ℕ) → IsSet new.out m ↔ (IsSet work.out m ⊎ (m ≡ n))) (dones : new.done ≡ work.done)
      (perm : IsPermutation ((k, n) ∷ waiting) more) where
    wait_nodes : IsPermutation (n ∷ nodes_of waiting) (nodes_of more)
    wait_nodes = IsPermutation-map (λ p. p.1) ((k, n) ∷ waiting) more perm

    was_done : (m : ℕ) → IsSet new.done m → IsSet work.done m
    was_done m b = let P : List _ → Type 0 = λ z. IsSet z m in subst P dones b

    still_done : (m : ℕ) → IsSet work.done m → IsSet new.done m
    still_done m b = let P : List _ → Type 0 = λ z. IsSet z m in subst P (sym dones) b

    was_begun : (m : ℕ) → HasBegun new running m → HasBegun work running m
    was_begun m b = elim b [ inl a ↦ inl (was_done m a) | inr r ↦ inr r ]

    not_waiting : Mem n (nodes_of waiting ++ nodes_of running) → ⊥
    not_waiting m = fresh ((s.outs n).1 (mem_cases (nodes_of waiting) (nodes_of running) n m)).0

    pub shift_wait : IsShift g d count new more running free starts staff now
    shift_wait =
        record {
          outs = λ m. (
            λ o. elim ((outs m).0 o.0) [
              | inl was ↦ elim ((s.outs m).0 (was, λ b. o.1 (still_done m b))) [
                | inl a ↦ inl (mem_shuffled (n ∷ nodes_of waiting) (nodes_of more) m wait_nodes (inr a))
                | inr r ↦ inr r
              ]
              | inr same ↦ inl (mem_shuffled (n ∷ nodes_of waiting) (nodes_of more) m wait_nodes (inl same))
            ],
            λ h. elim h [
              | inl a ↦ elim (mem_shuffled (nodes_of more) (n ∷ nodes_of waiting) m (IsPermutation-sym _ _ wait_nodes) a) [
                | inl same ↦ (let P : ℕ → Type 0 = λ z. IsOut new z in subst P (sym same) is_out)
                | inr b ↦ (let o = (s.outs m).1 (inl b) in ((outs m).1 (inl o.0), λ b. o.1 (was_done m b)))
              ]
              | inr r ↦ (let o = (s.outs m).1 (inr r) in ((outs m).1 (inl o.0), λ b. o.1 (was_done m b)))
            ],
          );
          once = unique_shuffled ((n ∷ nodes_of waiting) ++ nodes_of running) (nodes_of more ++ nodes_of running)
              (IsPermutation-append_left (nodes_of running) (n ∷ nodes_of waiting) (nodes_of more) wait_nodes)
              (not_waiting, s.once);
          keys = s.keys;
          ends = s.ends;
          begun = s.begun;
          past = λ m b. s.past m (was_done m b);
          feasible = λ u v j b. s.feasible u v j (was_begun v b);
          staffed = λ m b. s.staffed m (was_begun m b);
          known = s.known;
          few = s.few;
          staff_once = s.staff_once;
          apart = λ a b x y. s.apart a b (was_begun a x) (was_begun b y);
          last = elim s.last [
            | inl none ↦ inl (none.0, λ m b. none.1 m (was_done m b))
            | inr at ↦ inr (at.0, still_done at.0 at.1, at.2)
          ];
        }

  -- a worker begins a node
  module _ {end : ℕ} (w : IsWellFormed end g) (under : IsUnderWay g work) (left more : List (ℕ × ℕ)) (k n f worker : ℕ)
      (idle : List ℕ) (taken : IsPermutation waiting ((k, n) ∷ left)) (at : f ≡ now + get_or d n 0)
      (added : IsPermutation ((f, n) ∷ running) more) (room : length running < count)
      (hired : IsIdleWorker (length running) free idle worker) (low_start : n < length starts) (low_staff : n < length staff) where
    abbrev new_starts : List ℕ
    new_starts = set starts n now

    abbrev new_staff : List ℕ
    new_staff = set staff n worker

    taken_nodes : IsPermutation (nodes_of waiting) (n ∷ nodes_of left)
    taken_nodes = IsPermutation-map (λ p. p.1) waiting ((k, n) ∷ left) taken

    added_nodes : IsPermutation (n ∷ nodes_of running) (nodes_of more)
    added_nodes = IsPermutation-map (λ p. p.1) ((f, n) ∷ running) more added

    waited : Mem n (nodes_of waiting)
    waited = mem_shuffled (n ∷ nodes_of left) (nodes_of waiting) n (IsPermutation-sym _ _ taken_nodes) (inl refl)

    pub begins_out : IsOut work n
    begins_out = (s.outs n).1 (inl waited)

    may : MayBegin g work.done n
    may = under.out n begins_out.0

    unbegun : HasBegun work running n → ⊥
    unbegun b =
        elim b [
          | inl b ↦ begins_out.1 b
          | inr r ↦ unique_cross (nodes_of waiting) (nodes_of running) s.once n waited r
        ]

    split : (m : ℕ) → HasBegun work more m → (m ≡ n) ⊎ HasBegun work running m
    split m b =
        elim b [
          | inl b ↦ inr (inl b)
          | inr r ↦
              elim (mem_shuffled (nodes_of more) (n ∷ nodes_of running) m (IsPermutation-sym _ _ added_nodes) r) [
                | inl same ↦ inl same
                | inr b ↦ inr (inr b)
              ]
        ]

    other : (m : ℕ) → HasBegun work running m → m ≢ n
    other m b same = let P : ℕ → Type 0 = λ z. HasBegun work running z in unbegun (subst P same b)

    start_here : get_or new_starts n 0 ≡ now
    start_here = get_or-set_same starts n now 0 low_start

    start_kept : (m : ℕ) → m ≢ n → get_or new_starts m 0 ≡ get_or starts m 0
    start_kept m ne = get_or-set_other starts n m now 0 ne

    staff_here : get_or new_staff n 0 ≡ worker
    staff_here = get_or-set_same staff n worker 0 low_staff

    staff_other : (m : ℕ) → m ≢ n → get_or new_staff m 0 ≡ get_or staff m 0
    staff_other m ne = get_or-set_other staff n m worker 0 ne

    -- the worker is below the count, and does nothing else
    pub record Hiring : Type 0 where
      pub once : Unique (worker ∷ (idle ++ staff_of staff running))
      pub known : (x : ℕ) → Mem x (worker ∷ (idle ++ staff_of staff running)) → x < length idle + length running + 1
      pub few : length idle + length running + 1 ≤ count

    hiring : Hiring
    hiring =
        elim hired [
          | inl perm ↦ (
              let all : IsPermutation (free ++ staff_of staff running) (worker ∷ (idle ++ staff_of staff running)) =
              IsPermutation-append_left (staff_of staff running) free (worker ∷ idle) perm in
              let long = length_permutation free (worker ∷ idle) perm in
              record {
                once = unique_shuffled _ _ all s.staff_once;
                known = λ x m. omega (arith, long, s.known x (mem_shuffled _ _ x (IsPermutation-sym _ _ all) m));
                few = omega (arith, long, s.few);
              }
              )
          | inr more_hired ↦ from more_hired.0 more_hired.1 more_hired.2
        ]
      where
        from : free ≡ [] → idle ≡ [] → worker ≡ length running → Hiring
        from none none_left is =
            let P : List ℕ → Type 0 = λ z. Unique (z ++ staff_of staff running) in
            let K : List ℕ → Type 0 = λ z. (x : ℕ) → Mem x (z ++ staff_of staff running) → x < length z + length running in
            let Q : List ℕ → Type 0 = λ z. Mem worker (z ++ staff_of staff running) in
            let M : ℕ → List ℕ → Type 0 = λ x z. Mem x (z ++ staff_of staff running) in
            let known = subst K none s.known in
            let short : length idle ≡ 0 = ap length none_left in
            record {
              once = (
                (λ m. omega (arith, is, known worker (subst Q none_left m))),
                subst P (sym none_left) (subst P none s.staff_once),
              );
              known = λ x m.
                  elim m [
                    | inl same ↦ omega (arith, same, is, short)
                    | inr b ↦ omega (arith, known x (subst (M x) none_left b), short)
                  ];
              few = omega (arith, short, room);
            }

    more_long : length more ≡ length running + 1
    more_long = omega (arith, length_permutation ((f, n) ∷ running) more added)

    -- the workers that are known do not change
    staff_now : IsPermutation (worker ∷ (idle ++ staff_of staff running)) (idle ++ staff_of new_staff more)
    staff_now =
        let apart : Mem n (nodes_of running) → ⊥ = λ m. unbegun (inr m) in
        let one : IsPermutation (get_or new_staff n 0 ∷ staff_of new_staff running) (staff_of new_staff more) =
        IsPermutation-map (λ p. get_or new_staff p.1 0) ((f, n) ∷ running) more added in
        let P : List ℕ → Type 0 = λ z. IsPermutation (get_or new_staff n 0 ∷ z) (staff_of new_staff more) in
        let Q : ℕ → Type 0 = λ z. IsPermutation (z ∷ staff_of staff running) (staff_of new_staff more) in
        let two = subst Q staff_here (subst P (staff_kept staff n worker running apart) one) in
        IsPermutation-trans _ _ _ (IsPermutation-sym _ _ (IsPermutation-middle idle worker (staff_of staff running)))
        (IsPermutation-append_right idle (worker ∷ staff_of staff running) (staff_of new_staff more) two)

    -- who is begun by a worker that is free has finished
    others_past : (m : ℕ) → HasBegun work running m → get_or staff m 0 ≡ worker → finish d starts m ≤ now
    others_past m b same =
        elim b [
          | inl b ↦ s.past m b
          | inr r ↦ (
              let P : ℕ → Type 0 = λ z. Mem z (idle ++ staff_of staff running) in
              absurd (hiring.once.0 (subst P same (mem_right idle (staff_of staff running) _ (staff_mem staff m running r))))
              )
        ]

    pub shift_begin : IsShift g d count work left more idle (set starts n now) (set staff n worker) now
    shift_begin =
        record {
          outs = λ m. (
            λ o. elim ((s.outs m).0 o) [
              | inl a ↦ elim (mem_shuffled (nodes_of waiting) (n ∷ nodes_of left) m taken_nodes a) [
                | inl same ↦ inr (mem_shuffled (n ∷ nodes_of running) (nodes_of more) m added_nodes (inl same))
                | inr b ↦ inl b
              ]
              | inr r ↦ inr (mem_shuffled (n ∷ nodes_of running) (nodes_of more) m added_nodes (inr r))
            ],
            λ h. elim h [
              | inl a ↦
                  (s.outs m).1 (inl (mem_shuffled (n ∷ nodes_of left) (nodes_of waiting) m
                  (IsPermutation-sym _ _ taken_nodes) (inr a)))
              | inr r ↦
                  elim (mem_shuffled (nodes_of more) (n ∷ nodes_of running) m (IsPermutation-sym _ _ added_nodes) r) [
                    | inl same ↦ (let P : ℕ → Type 0 = λ z. IsOut work z in subst P (sym same) begins_out)
                    | inr b ↦ (s.outs m).1 (inr b)
                  ]
            ],
          );
          once = unique_shuffled (nodes_of waiting ++ nodes_of running) (nodes_of left ++ nodes_of more)
              (IsPermutation-trans _ _ _ (IsPermutation-append_left (nodes_of running) (nodes_of waiting) (n ∷ nodes_of left)
              taken_nodes) (IsPermutation-trans _ _ _ (IsPermutation-sym _ _
              (IsPermutation-middle (nodes_of left) n (nodes_of running)))
              (IsPermutation-append_right (nodes_of left) (n ∷ nodes_of running) (nodes_of more) added_nodes))) s.once;
          keys = every_shuffled (λ p. p.0 ≡ finish d new_starts p.1) ((f, n) ∷ running) more added (
            omega (arith, at, start_here),
            keys_kept d starts n now running (λ m. unbegun (inr m)) s.keys,
          );
          ends = every_shuffled (λ p. now ≤ p.0) ((f, n) ∷ running) more added (omega (arith, at), s.ends);
          begun = λ m r.
              elim (split m (inr r)) [
                | inl same ↦ omega (arith, ap (λ z. get_or new_starts z 0) same, start_here)
                | inr b ↦ elim b [
                  | inl b ↦ omega (arith, start_kept m (other m (inl b)), s.past m b)
                  | inr b ↦ omega (arith, start_kept m (other m (inr b)), s.begun m b)
                ]
              ];
          past = λ m b. omega (arith, start_kept m (other m (inl b)), s.past m b);
          feasible = λ u v j b.
              elim (split v b) [
                | inl same ↦ (
                    let J : ℕ → Type 0 = λ z. AreJoined g u z in
                    let u_done = may.1 u (joined_parent w u n (subst J same j)) in
                    omega (
                      arith,
                      ap (λ z. get_or new_starts z 0) same,
                      start_here,
                      start_kept u (other u (inl u_done)),
                      s.past u u_done,
                    )
                    )
                | inr b ↦ elim (cases_eq u n) [
                  | inl same ↦ (
                      let J : ℕ → Type 0 = λ z. AreJoined g z v in
                      let v_out : IsSet work.out v =
                      elim b [ inl b ↦ under.done v b | inr r ↦ ((s.outs v).1 (inr r)).0 ] in
                      absurd (begins_out.1 ((under.out v v_out).1 n (joined_parent w n v (subst J same j))))
                      )
                  | inr ne ↦
                      omega (arith, start_kept v (other v b), start_kept u ne, s.feasible u v j b)
                ]
              ];
          staffed = λ m b.
              elim (split m b) [
                | inl same ↦
                    omega (
                      arith,
                      ap (λ z. get_or new_staff z 0) same,
                      staff_here,
                      hiring.known worker (inl refl),
                      hiring.few,
                    )
                | inr b ↦ omega (arith, staff_other m (other m b), s.staffed m b)
              ];
          known = λ x m.
              omega (
                arith,
                more_long,
                hiring.known x (mem_shuffled _ _ x (IsPermutation-sym _ _ staff_now) m),
              );
          few = omega (arith, more_long, hiring.few);
          staff_once = unique_shuffled _ _ staff_now hiring.once;
          apart = λ a b x y ne same_staff.
              elim (split a x) [
                | inl a_new ↦ elim (split b y) [
                  | inl b_new ↦ absurd (ne (a_new ∙ sym b_new))
                  | inr b_old ↦ inr (
                      let same : get_or staff b 0 ≡ worker =
                      sym (staff_other b (other b b_old)) ∙ (sym same_staff
                      ∙ (ap (λ z. get_or new_staff z 0) a_new ∙ staff_here)) in
                      omega (
                        arith,
                        others_past b b_old same,
                        start_kept b (other b b_old),
                        ap (λ z. get_or new_starts z 0) a_new,
                        start_here,
                      ))
                ]
                | inr a_old ↦ elim (split b y) [
                  | inl b_new ↦ inl (
                      let same : get_or staff a 0 ≡ worker =
                      sym (staff_other a (other a a_old)) ∙ (same_staff
                      ∙ (ap (λ z. get_or new_staff z 0) b_new ∙ staff_here)) in
                      omega (
                        arith,
                        others_past a a_old same,
                        start_kept a (other a a_old),
                        ap (λ z. get_or new_starts z 0) b_new,
                        start_here,
                      ))
                  | inr b_old ↦
                      elim (s.apart a b a_old b_old ne (sym (staff_other a (other a a_old)) ∙ (same_staff
                      ∙ staff_other b (other b b_old)))) [
                        | inl h ↦ inl (omega (arith, h, start_kept a (other a a_old), start_kept b (other b b_old)))
                        | inr h ↦ inr (omega (arith, h, start_kept a (other a a_old), start_kept b (other b b_old)))
                      ]
                ]
              ];
          last = elim s.last [
            | inl none ↦ inl none
            | inr at ↦ inr (at.0, at.1, omega (arith, at.2, start_kept at.0 (other at.0 (inl at.1))))
          ];
        }

  -- the next node is finished
  module _ (under : IsUnderWay g work) (new : Work) (left : List (ℕ × ℕ)) (f n : ℕ)
      (taken : IsPermutation running ((f, n) ∷ left)) (first : AllByRecursion (λ p. f ≤ p.0) left)
      (dones : (m : ℕ) → IsSet new.done m ↔ (IsSet work.done m ⊎ (m ≡ n))) (outs : new.out ≡ work.out) where
    left_nodes : IsPermutation (nodes_of running) (n ∷ nodes_of left)
    left_nodes = IsPermutation-map (λ p. p.1) running ((f, n) ∷ left) taken

    was_running : Mem n (nodes_of running)
    was_running = mem_shuffled (n ∷ nodes_of left) (nodes_of running) n (IsPermutation-sym _ _ left_nodes) (inl refl)

    pub ends_out : IsOut work n
    ends_out = (s.outs n).1 (inr was_running)

    from_left : (m : ℕ) → Mem m (nodes_of left) → Mem m (nodes_of running)
    from_left m r = mem_shuffled (n ∷ nodes_of left) (nodes_of running) m (IsPermutation-sym _ _ left_nodes) (inr r)

    still_begun : (m : ℕ) → HasBegun new left m → HasBegun work running m
    still_begun m b =
        elim b [
          | inl b ↦ elim ((dones m).0 b) [
            | inl a ↦ inl a
            | inr same ↦ (let P : ℕ → Type 0 = λ z. Mem z (nodes_of running) in inr (subst P (sym same) was_running))
          ]
          | inr r ↦ inr (from_left m r)
        ]

    here : (f ≡ finish d starts n) × AllByRecursion (λ p. p.0 ≡ finish d starts p.1) left
    here = every_shuffled (λ p. p.0 ≡ finish d starts p.1) running ((f, n) ∷ left) taken s.keys

    pub finishes_at : f ≡ finish d starts n
    finishes_at = here.0

    pub later : now ≤ f
    later = (every_shuffled (λ p. now ≤ p.0) running ((f, n) ∷ left) taken s.ends).0

    once_all : Unique (nodes_of waiting ++ (n ∷ nodes_of left))
    once_all =
        unique_shuffled (nodes_of waiting ++ nodes_of running) (nodes_of waiting ++ (n ∷ nodes_of left))
        (IsPermutation-append_right (nodes_of waiting) (nodes_of running) (n ∷ nodes_of left) left_nodes) s.once

    once_first : Unique (n ∷ (nodes_of waiting ++ nodes_of left))
    once_first =
        unique_shuffled (nodes_of waiting ++ (n ∷ nodes_of left)) (n ∷ (nodes_of waiting ++ nodes_of left))
        (IsPermutation-middle (nodes_of waiting) n (nodes_of left)) once_all

    left_long : length running ≡ length left + 1
    left_long = omega (arith, length_permutation running ((f, n) ∷ left) taken)

    -- its worker is free
    pub freed : IsPermutation (free ++ staff_of staff running) ((free ++ get_or staff n 0 ∷ []) ++ staff_of staff left)
    freed =
        let one : IsPermutation (staff_of staff running) (get_or staff n 0 ∷ staff_of staff left) =
        IsPermutation-map (λ p. get_or staff p.1 0) running ((f, n) ∷ left) taken in
        IsPermutation-pop_more (free ++ staff_of staff running) free (staff_of staff running) (staff_of staff left)
        (get_or staff n 0) (IsPermutation-refl _) one

    pub shift_finish : IsShift g d count new waiting left (free ++ get_or staff n 0 ∷ []) starts staff f
    shift_finish =
        record {
          outs = λ m. (
            λ o. (
                let P : List _ → Type 0 = λ z. IsSet z m in
                let was : IsOut work m = (subst P outs o.0, λ b. o.1 ((dones m).1 (inl b))) in
                elim ((s.outs m).0 was) [
                  | inl a ↦ inl a
                  | inr r ↦ elim (mem_shuffled (nodes_of running) (n ∷ nodes_of left) m left_nodes r) [
                    | inl same ↦ absurd (o.1 ((dones m).1 (inr same)))
                    | inr b ↦ inr b
                  ]
                ]
                ),
            λ h. (
                let P : List _ → Type 0 = λ z. IsSet z m in
                let was : IsOut work m = elim h [ inl a ↦ (s.outs m).1 (inl a) | inr r ↦ (s.outs m).1 (inr (from_left m r)) ] in
                let not_n : m ≢ n = λ same.
                (let Q : ℕ → Type 0 = λ z. Mem z (nodes_of waiting ++ nodes_of left) in
                once_first.0 (subst Q same (elim h [
                  | inl a ↦ mem_left (nodes_of waiting) (nodes_of left) m a
                  | inr r ↦ mem_right (nodes_of waiting) (nodes_of left) m r
                ]))) in (
                  subst P (sym outs) was.0,
                  λ b. elim ((dones m).0 b) [ inl a ↦ was.1 a | inr same ↦ not_n same ],
                )
                ),
          );
          once = once_first.1;
          keys = here.1;
          ends = first;
          begun = λ m r. omega (arith, s.begun m (from_left m r), later);
          past = λ m b.
              elim ((dones m).0 b) [
                | inl a ↦ omega (arith, s.past m a, later)
                | inr same ↦ omega (arith, ap (finish d starts) same, finishes_at)
              ];
          feasible = λ u v j b. s.feasible u v j (still_begun v b);
          staffed = λ m b. s.staffed m (still_begun m b);
          known = λ x m.
              omega (
                arith,
                s.known x (mem_shuffled _ _ x (IsPermutation-sym _ _ freed) m),
                length_push free (get_or staff n 0),
                left_long,
              );
          few = omega (arith, s.few, length_push free (get_or staff n 0), left_long);
          staff_once = unique_shuffled _ _ freed s.staff_once;
          apart = λ a b x y. s.apart a b (still_begun a x) (still_begun b y);
          last = inr (n, (dones n).1 (inr refl), sym finishes_at);
        }

  -- when all is done
  module _ {end : ℕ} (w : IsWellFormed end g) (under : IsUnderWay g work) (none_ready : work.ready ≡ []) (none_waits : waiting ≡ [])
      (none_runs : running ≡ []) where
    none_out : (n : ℕ) → IsOut work n → ⊥
    none_out n o =
        let P : List (ℕ × ℕ) → Type 0 = λ z. Mem n (nodes_of z) in
        elim ((s.outs n).0 o) [ inl a ↦ subst P none_waits a | inr r ↦ subst P none_runs r ]

    pub all_done : (n : ℕ) → HasNode g n → IsSet work.done n
    all_done = under.idle.0 (none_ready, none_out)

    pub shift_done : IsAssignment g d starts staff count now
    shift_done =
        record {
          feasible = λ u v j.
              s.feasible u v j (inl (all_done v (let P : ℕ → Type 0 = λ z. HasNode g z in w.children j.0 _ j.2)));
          below = λ n h. s.staffed n (inl (all_done n h));
          apart = λ a b x y. s.apart a b (inl (all_done a x)) (inl (all_done b y));
          met = λ n h. s.past n (all_done n h);
          last = elim s.last [
            | inl none ↦ inr (λ n h. none.1 n (all_done n h), none.0)
            | inr at ↦ inl (at.0, (under.out at.0 (under.done at.0 at.1)).0, at.2)
          ];
        }
