-- Nodes that get their times in the order of a graph.
use Rattle.std.proofs.Common.{◌≡◌, ◌≢◌, ℕ, ◌+◌, ◌<◌, ◌≤◌, ◌⊎◌, ◌^◌, inl, inr, List, [], ◌∷◌, ◌++◌, length, get_or, set, replicate}
use Rattle.std.proofs.Common.{Some, refl, sym, ap, subst, ◌∙◌, arith, append_assoc, append-nil}
use Rattle.std.proofs.lemmas.List.{get_or-set_same, get_or-set_other, get_or-replicate}
use Rattle.daggy_base.specs.Graph.{Graph, HasNode, edge_at, node_bound}
use Rattle.daggy_base.specs.Path.{AreJoined, IsPath, end_of}
use Rattle.daggy_base.specs.Ordered.{IsOrderOf, place}
use Rattle.daggy_base.specs.WellFormed.{IsWellFormed, AreDistinct}
use Rattle.daggy_base.proofs.Lists.{Mem, mem_left, mem_right, mem_cases, mem_mid, mem_contains, contains_mem}
use Rattle.daggy_base.proofs.Lists.{unique_from_distinct}
use Rattle.daggy_base.proofs.OutEdgesRead.{below_bound}
use Rattle.daggy_base.proofs.PathsWithNode.{bound_low}
use Rattle.daggy_base.proofs.Sorted.{place_left, place_right, unique_cross}
use Rattle.daggy_schedule.specs.Times.{span, IsLowestLast}
use Rattle.daggy_schedule.specs.Lags.{lags_along, AreFeasibleWithLags, AreEarliestWithLags, TakesTooLongWithLags}
use Rattle.daggy_schedule.specs.Passes.{AreDelayed, IsDelayedTooLong, AreNoted, IsLast, GoesBefore}
use Rattle.daggy_schedule.proofs.LowestLast.{goes_after, before_or_not, before_after, lowest_kept, lowest_added, all_after}
use Rattle.daggy_schedule.proofs.LowestLast.{GoesAfter}

span_more : (d xs : List ℕ) (n : ℕ) → span d (xs ++ n ∷ []) ≡ span d xs + get_or d n 0
span_more d [] n = omega arith
span_more d (x ∷ xs) n = omega (arith, span_more d xs n)

-- a path that one more edge extends, with the lag of that edge
path_on : {N E : Type 0} (g : Graph N E) (lags : List ℕ) (u : ℕ) (rest : List ℕ) (n : ℕ) (p : IsPath g (u ∷ rest))
    (j : AreJoined g (end_of u rest) n) → HasNode g n
    → (q : IsPath g (u ∷ (rest ++ n ∷ []))) × (end_of u (rest ++ n ∷ []) ≡ n)
    × (lags_along g lags (u ∷ (rest ++ n ∷ [])) q ≡ lags_along g lags (u ∷ rest) p + get_or lags j.0 0)
path_on g lags u [] n p j h = ((p, j, h), refl, omega arith)
path_on g lags u (v ∷ rest) n p j h =
    let more = path_on g lags v rest n p.2 j h in ((p.0, p.1, more.0), more.1, omega (arith, more.2))

-- a path that ends with n, and how long it takes
abbrev Ends : {N E : Type 0} → Graph N E → (d lags : List ℕ) (n time : ℕ) → Type 0
Ends g d lags n time =
    (u : ℕ) × (rest : List ℕ) × (p : IsPath g (u ∷ rest)) × (end_of u rest ≡ n)
    × (span d (u ∷ rest) + lags_along g lags (u ∷ rest) p ≡ time)

ends_more : {N E : Type 0} (g : Graph N E) (d lags : List ℕ) (p n time : ℕ) → Ends g d lags p time → (j : AreJoined g p n)
    → HasNode g n → Ends g d lags n (time + get_or lags j.0 0 + get_or d n 0)
ends_more g d lags p n time e j h =
    let J : ℕ → Type 0 = λ z. edge_at g j.0 ≡ Some (record { parent = z; child = n; weight = j.1 }) in
    let from : AreJoined g (end_of e.0 e.1) n = (j.0, j.1, subst J (sym e.3) j.2) in
    let more = path_on g lags e.0 e.1 n e.2 from h in
    (e.0, e.1 ++ n ∷ [], more.0, more.1, omega (arith, span_more d (e.0 ∷ e.1) n, e.4, more.2))

-- of the nodes of `done` that v waits for, p is the lowest of those for which it waits longest
pub record IsAwaited {N E : Type 0} (g : Graph N E) (done lags finishes : List ℕ) (v start p : ℕ) : Type 0 where
  pub here : Mem p done
  pub edge : AreJoined g p v
  pub ends : get_or finishes p 0 + get_or lags edge.0 0 ≡ start
  pub all : (u : ℕ) (j : AreJoined g u v) → Mem u done → GoesAfter (get_or finishes u 0 + get_or lags j.0 0) u start p

-- The nodes of `done` have their times, and those of `waiting` have the starts that they can have by these.
pub record Timing {N E : Type 0} (end : ℕ) (g : Graph N E) (order d lags starts parents finishes : List ℕ) (makespan last : ℕ)
    (waiting : List ℕ) : Type 0 where
  pub done : List ℕ
  pub split : order ≡ done ++ waiting
  pub above : (u v : ℕ) → Mem u done → (j : AreJoined g u v) → get_or finishes u 0 + get_or lags j.0 0 ≤ get_or starts v 0
  pub takes : (u : ℕ) → Mem u done → get_or starts u 0 + get_or d u 0 ≡ get_or finishes u 0
  pub noted : (v : ℕ) → HasNode g v
      → ((get_or parents v 0 ≡ end) × (get_or starts v 0 ≡ 0) × ((u : ℕ) → Mem u done → ¬ AreJoined g u v))
      ⊎ IsAwaited g done lags finishes v (get_or starts v 0) (get_or parents v 0)
  pub reached : (n : ℕ) → Mem n done → Ends g d lags n (get_or finishes n 0)
  pub most : (n : ℕ) → Mem n done → get_or finishes n 0 ≤ makespan
  pub latest : ((done ≡ []) × (makespan ≡ 0) × (last ≡ end))
      ⊎ (IsLowestLast (λ u. Mem u done) (λ u. get_or finishes u 0) last × (get_or finishes last 0 ≡ makespan))

pub timing_none : {N E : Type 0} (end : ℕ) (g : Graph N E) (order d lags : List ℕ) {k e time last : ℕ} → k ≡ node_bound g
    → e ≡ end → time ≡ 0 → last ≡ end
    → Timing end g order d lags (replicate k 0) (replicate k e) (replicate k 0) time last order
timing_none end g order d lags {k} {e} is es zero at =
    record {
      done = [];
      split = refl;
      above = λ u v m. absurd m;
      takes = λ u m. absurd m;
      noted = λ v h.
          (let low : v < k = omega (arith, below_bound g.nodes v h, is) in
          inl (get_or-replicate k v e 0 low ∙ es, get_or-replicate k v 0 0 low, λ u m. absurd m));
      reached = λ n m. absurd m;
      most = λ n m. absurd m;
      latest = inl (refl, zero, at);
    }

module _ {N E : Type 0} {end : ℕ} {g : Graph N E} (w : IsWellFormed end g) {order : List ℕ} (ord : IsOrderOf g order)
    {d lags starts parents finishes : List ℕ} {makespan last : ℕ} {waiting : List ℕ} {n : ℕ} {rest : List ℕ}
    (is : waiting ≡ n ∷ rest) (past : Timing end g order d lags starts parents finishes makespan last waiting) where
  s : Timing end g order d lags starts parents finishes makespan last (n ∷ rest)
  s = subst (λ (z : List ℕ). Timing end g order d lags starts parents finishes makespan last z) is past

  pub next_exists : HasNode g n
  next_exists =
      let P : List ℕ → Type 0 = λ z. Mem n z in
      (ord.exact n).0 (mem_contains order n (subst P (sym s.split) (mem_mid s.done rest n)))

  not_done_self : Mem n s.done → ⊥
  not_done_self k =
      let D : List ℕ → Type 0 = λ z. AreDistinct z in
      unique_cross s.done (n ∷ rest) (unique_from_distinct _ (subst D s.split ord.once)) n k (inl refl)

  -- no child of it has its times
  not_done : (x : ℕ) → Mem x s.done → AreJoined g n x → ⊥
  not_done x m j =
      let P : List ℕ → Type 0 = λ z. place z n < place z x in
      let low : place (s.done ++ n ∷ rest) n < place (s.done ++ n ∷ rest) x = subst P s.split (ord.sorted n x j) in
      omega (arith, low, place_left s.done (n ∷ rest) x m, place_right s.done (n ∷ rest) n not_done_self)

  -- a path takes as long as the node is to wait, and then as the node takes
  pub next_reached : Ends g d lags n (get_or starts n 0 + get_or d n 0)
  next_reached =
      elim (s.noted n next_exists) [
        | inl none ↦ (n, [], next_exists, refl, omega (arith, none.1))
        | inr p ↦
            (let from = ends_more g d lags (get_or parents n 0) n (get_or finishes (get_or parents n 0) 0)
            (s.reached (get_or parents n 0) p.here) p.edge next_exists in
            (from.0, from.1, from.2, from.3, omega (arith, from.4, p.ends)))
      ]

  pub takes_too_long : 2 ^ 64 ≤ get_or starts n 0 + get_or d n 0 → TakesTooLongWithLags g d lags
  takes_too_long long = (let e = next_reached in (e.0 ∷ e.1, e.2, omega (arith, e.4, long)))

  -- the same if it finishes in time, and a child has to wait for too long
  pub lasts_too_long : (finish : ℕ) → finish ≡ get_or starts n 0 + get_or d n 0 → IsDelayedTooLong g n finish lags
      → TakesTooLongWithLags g d lags
  lasts_too_long finish is long =
      let e = ends_more g d lags n long.0 _ next_reached long.1 (w.children long.1.0 _ long.1.2) in
      (e.0 ∷ e.1, e.2, omega (arith, e.4, is, long.2))

  pub timing_one : (finish : ℕ) → finish ≡ get_or starts n 0 + get_or d n 0 → (i : ℕ) → i ≡ n → n < length finishes
      → {starts' parents' : List ℕ} → AreDelayed g n finish lags starts parents starts' parents'
      → {makespan' last' : ℕ} → (¬ GoesBefore finish n makespan last → (makespan' ≡ makespan) × (last' ≡ last))
      → (GoesBefore finish n makespan last → (makespan' ≡ finish) × (last' ≡ n))
      → Timing end g order d lags starts' parents' (set finishes i finish) makespan' last' rest
  timing_one finish sum i at low {starts'} {parents'} delayed {makespan'} {last'} later taken =
      let finishes' = set finishes n finish in
      let here : get_or finishes' n 0 ≡ finish = get_or-set_same finishes n finish 0 low in
      let apart : (u : ℕ) → Mem u s.done → u ≢ n = λ u m e.
      (let P : ℕ → Type 0 = λ z. Mem z s.done in not_done_self (subst P e m)) in
      let other : (u : ℕ) → Mem u s.done → get_or finishes' u 0 ≡ get_or finishes u 0 = λ u m.
      get_or-set_other finishes n u finish 0 (apart u m) in
      let kept : (u : ℕ) → (AreJoined g n u → ⊥) → get_or starts' u 0 ≡ get_or starts u 0 = λ u none.
      elim (delayed.noted u) [ inl k ↦ k.0 | inr k ↦ absurd (none k.0) ] in
      let self : get_or starts' n 0 ≡ get_or starts n 0 = kept n (λ j. absurd (omega (arith, ord.sorted n n j))) in
      let cases : (u : ℕ) → Mem u (s.done ++ n ∷ []) → Mem u s.done ⊎ (u ≡ n) = λ u m.
      elim (mem_cases s.done (n ∷ []) u m) [
        | inl a ↦ inl a
        | inr b ↦ elim b [ inl e ↦ inr e | inr none ↦ absurd none ]
      ] in
      let into : (u : ℕ) → Mem u s.done → Mem u (s.done ++ n ∷ []) = λ u m. mem_left s.done (n ∷ []) u m in
      let last_in : Mem n (s.done ++ n ∷ []) = mem_right s.done (n ∷ []) n (inl refl) in
      let bound : (makespan ≤ makespan') × (finish ≤ makespan') =
      elim (before_or_not finish n makespan last) [
        | inl before ↦
            (let h = taken before in
            elim before [
              | inl more ↦ (omega (arith, h.0, more), omega (arith, h.0))
              | inr same ↦ (omega (arith, h.0, same.0), omega (arith, h.0))
            ])
        | inr not ↦
            (let h = later not in
            elim (goes_after not) [
              | inl less ↦ (omega (arith, h.0), omega (arith, h.0, less))
              | inr same ↦ (omega (arith, h.0), omega (arith, h.0, same.0))
            ])
      ] in
      let f : ℕ → ℕ = λ u. get_or finishes u 0 in
      let f' : ℕ → ℕ = λ u. get_or finishes' u 0 in
      let after : (v : ℕ) (j : AreJoined g n v)
      → GoesAfter (finish + get_or lags j.0 0) n (get_or starts' v 0) (get_or parents' v 0) = λ v j.
      goes_after (delayed.late v j) in
      let late : (v : ℕ) (j : AreJoined g n v) → finish + get_or lags j.0 0 ≤ get_or starts' v 0 = λ v j.
      elim (after v j) [ inl less ↦ omega (arith, less) | inr same ↦ omega (arith, same.0) ] in
      let low_end : n < end = omega (arith, below_bound g.nodes n next_exists, bound_low g.nodes, w.few_nodes) in
      -- an edge from a node that is n leaves n
      let as_own : (u v : ℕ) → u ≡ n → (j : AreJoined g u v) → AreJoined g n v = λ u v e j.
      (let J : ℕ → Type 0 = λ z. edge_at g j.0 ≡ Some (record { parent = z; child = v; weight = j.1 }) in
      (j.0, j.1, subst J e j.2)) in
      let whole : Timing end g order d lags starts' parents' finishes' makespan' last' rest = record {
        done = s.done ++ n ∷ [];
        split = s.split ∙ sym (append_assoc s.done (n ∷ []) rest);
        above = λ u v m j.
            elim (cases u m) [
              | inl a ↦ omega (arith, other u a, s.above u v a j, delayed.up v)
              | inr e ↦ omega (arith, ap (λ z. get_or finishes' z 0) e, here, late v (as_own u v e j))
            ];
        takes = λ u m.
            elim (cases u m) [
              | inl a ↦ omega (arith, other u a, s.takes u a, kept u (not_done u a))
              | inr e ↦
                  omega (
                    arith,
                    ap (λ z. get_or finishes' z 0) e,
                    ap (λ z. get_or starts' z 0) e,
                    ap (λ z. get_or d z 0) e,
                    here,
                    self,
                    sum,
                  )
            ];
        noted = λ v h.
            elim (delayed.noted v) [
              | inl k ↦
                  elim (s.noted v h) [
                    | inl none ↦
                        inl (
                          k.1 ∙ none.0,
                          k.0 ∙ none.1,
                          λ u m j. elim (cases u m) [
                            | inl a ↦ none.2 u a j
                            | inr e ↦
                                elim (after v (as_own u v e j)) [
                                  | inl less ↦ absurd (omega (arith, less, k.0, none.1))
                                  | inr same ↦ absurd (omega (arith, same.1, k.1, none.0, low_end))
                                ]
                          ],
                        )
                    | inr p ↦
                        (let q = get_or parents v 0 in
                        let P : ℕ → ℕ → Type 0 = λ x y. IsAwaited g (s.done ++ n ∷ []) lags finishes' v x y in
                        let kept : P (get_or starts v 0) q = record {
                          here = into q p.here;
                          edge = p.edge;
                          ends = omega (arith, other q p.here, p.ends);
                          all = λ u j m.
                              elim (cases u m) [
                                | inl a ↦
                                    elim (p.all u j a) [
                                      | inl less ↦ inl (omega (arith, other u a, less))
                                      | inr same ↦ inr (omega (arith, other u a, same.0), same.1)
                                    ]
                                | inr e ↦
                                    (let at : get_or finishes' u 0 ≡ finish = ap (λ z. get_or finishes' z 0) e ∙ here in
                                    elim (after v (as_own u v e j)) [
                                      | inl less ↦ inl (omega (arith, at, less, k.0))
                                      | inr same ↦ inr (omega (arith, at, same.0, k.0), omega (arith, same.1, k.1, e))
                                    ])
                              ];
                        } in
                        inr (subst (λ x. P x (get_or parents' v 0)) (sym k.0) (subst (P (get_or starts v 0)) (sym k.1) kept)))
                  ]
              | inr k ↦
                  (let P : ℕ → ℕ → Type 0 = λ x y. IsAwaited g (s.done ++ n ∷ []) lags finishes' v x y in
                  let time = finish + get_or lags k.0.0 0 in
                  let put : P time n = record {
                    here = last_in;
                    edge = k.0;
                    ends = omega (arith, here);
                    all = λ u j m.
                        elim (cases u m) [
                          | inl a ↦
                              elim (s.noted v h) [
                                | inl none ↦ absurd (none.2 u a j)
                                | inr p ↦
                                    (let B : ℕ → Type 0 = λ z. GoesAfter (z + get_or lags j.0 0) u time n in
                                    subst B (sym (other u a)) (before_after (p.all u j a) k.1))
                              ]
                          | inr e ↦
                              (let at : get_or finishes' u 0 ≡ finish = ap (λ z. get_or finishes' z 0) e ∙ here in
                              elim (after v (as_own u v e j)) [
                                | inl less ↦ inl (omega (arith, at, less, k.2))
                                | inr same ↦ inr (omega (arith, at, same.0, k.2), omega (arith, e))
                              ])
                        ];
                  } in
                  inr (subst (λ x. P x (get_or parents' v 0)) (sym k.2) (subst (P time) (sym k.3) put)))
            ];
        reached = λ u m.
            elim (cases u m) [
              | inl a ↦
                  (let P : ℕ → Type 0 = λ z. Ends g d lags u z in subst P (sym (other u a)) (s.reached u a))
              | inr e ↦
                  (let P : ℕ → Type 0 = λ z. Ends g d lags n z in
                  let Q : ℕ → Type 0 = λ z. Ends g d lags z (get_or finishes' z 0) in
                  subst Q (sym e) (subst P (sym (here ∙ sum)) next_reached))
            ];
        most = λ u m.
            elim (cases u m) [
              | inl a ↦ omega (arith, other u a, s.most u a, bound.0)
              | inr e ↦ omega (arith, ap (λ z. get_or finishes' z 0) e, here, bound.1)
            ];
        latest =
            (let P : ℕ → Type 0 = λ z. IsLowestLast (λ u. Mem u (s.done ++ n ∷ [])) f' z × (f' z ≡ makespan') in
            let over : GoesBefore finish n makespan last → (u : ℕ) → Mem u s.done → GoesAfter (f u) u (f' n) n = λ before u a.
            (let A : ℕ → Type 0 = λ z. GoesAfter (f u) u z n in
            subst A (sym here) (elim s.latest [
              | inl none ↦ (let M : List ℕ → Type 0 = λ z. Mem u z in absurd (subst M none.0 a))
              | inr p ↦ all_after {P = λ z. Mem z s.done} {f = f} p.0 p.1 before u a
            ])) in
            elim (before_or_not finish n makespan last) [
              | inl before ↦
                  (let h = taken before in
                  let added = lowest_added {P = λ u. Mem u s.done} {Q = λ u. Mem u (s.done ++ n ∷ [])} {f = f} {f' = f'}
                  {n = n} cases other last_in (over before) in
                  inr (subst P (sym h.1) (added, here ∙ sym h.0)))
              | inr not ↦
                  (let h = later not in
                  elim s.latest [
                    | inl none ↦
                        elim (goes_after not) [
                          | inl less ↦ absurd (omega (arith, none.1, less))
                          | inr same ↦ absurd (omega (arith, none.2, same.1, low_end))
                        ]
                    | inr p ↦
                        (let stands : GoesAfter (f' n) n (f last) last =
                        elim (goes_after not) [
                          | inl less ↦ inl (omega (arith, here, less, p.1))
                          | inr same ↦ inr (omega (arith, here, same.0, p.1), same.1)
                        ] in
                        let kept = lowest_kept {P = λ u. Mem u s.done} {Q = λ u. Mem u (s.done ++ n ∷ [])} {f = f} {f' = f'}
                        {n = n} cases other p.0 (into last p.0.here) (λ a. stands) in
                        inr (subst P (sym h.1) (kept, other last p.0.here ∙ (p.1 ∙ sym h.0))))
                  ])
            ]);
      } in
      rw at whole

-- ---- when all have their times

module _ {N E : Type 0} {end : ℕ} {g : Graph N E} (w : IsWellFormed end g) {order : List ℕ} (ord : IsOrderOf g order)
    {d lags starts parents finishes : List ℕ} {makespan last : ℕ} {waiting : List ℕ} (is : waiting ≡ [])
    (past : Timing end g order d lags starts parents finishes makespan last waiting) where
  t : Timing end g order d lags starts parents finishes makespan last []
  t = subst (λ (z : List ℕ). Timing end g order d lags starts parents finishes makespan last z) is past

  held : (n : ℕ) → HasNode g n → Mem n t.done
  held n h =
      let whole : order ≡ t.done = t.split ∙ append-nil t.done in
      let P : List ℕ → Type 0 = λ z. Mem n z in
      subst P whole (contains_mem order n ((ord.exact n).1 h))

  exists : (n : ℕ) → Mem n t.done → HasNode g n
  exists n m =
      let whole : order ≡ t.done = t.split ∙ append-nil t.done in
      let P : List ℕ → Type 0 = λ z. Mem n z in
      (ord.exact n).0 (mem_contains order n (subst P (sym whole) m))

  pub all_noted : AreNoted end g d lags starts parents finishes
  all_noted =
      record {
        takes = λ n h. t.takes n (held n h);
        noted = λ n h.
            elim (t.noted n h) [
              | inl none ↦ inl (none.0, none.1, λ u j. none.2 u (held u (w.parents j.0 _ j.2)) j)
              | inr p ↦
                  inr (
                    record {
                      edge = p.edge;
                      last = λ u j.
                          elim (p.all u j (held u (w.parents j.0 _ j.2))) [
                            | inl less ↦ omega (arith, less, p.ends)
                            | inr same ↦ omega (arith, same.0, p.ends)
                          ];
                      lowest = λ u j is.
                          elim (p.all u j (held u (w.parents j.0 _ j.2))) [
                            | inl less ↦ absurd (omega (arith, less, p.ends, is))
                            | inr same ↦ same.1
                          ];
                    },
                    p.ends,
                  )
            ];
      }

  feasible_along : (start : ℕ → ℕ) → AreFeasibleWithLags g d lags start → (x : ℕ) (rest : List ℕ) (p : IsPath g (x ∷ rest))
      → start x + (span d (x ∷ rest) + lags_along g lags (x ∷ rest) p) ≤ start (end_of x rest) + get_or d (end_of x rest) 0
  feasible_along start f x [] p = omega arith
  feasible_along start f x (v ∷ rest) p = omega (arith, f x v p.1, feasible_along start f v rest p.2)

  pub all_earliest : AreEarliestWithLags g d lags (λ n. get_or starts n 0)
  all_earliest =
      record {
        feasible = λ u v j.
            (let m = held u (w.parents j.0 _ j.2) in omega (arith, t.takes u m, t.above u v m j));
        least = λ other f n h.
            (let e = t.reached n (held n h) in
            omega (
              arith,
              e.4,
              t.takes n (held n h),
              feasible_along other f e.0 e.1 e.2,
              ap other e.3,
              ap (λ z. get_or d z 0) e.3,
            ));
      }

  pub last_finish : IsLast end g finishes makespan last
  last_finish =
      record {
        most = λ n h. t.most n (held n h);
        is_last = elim t.latest [
          | inl none ↦
              (let P : List ℕ → Type 0 = λ z. (n : ℕ) → HasNode g n → Mem n z in
              inr (λ n h. absurd (subst P none.0 held n h), none.1, none.2))
          | inr p ↦
              inl (
                record {
                  here = exists last p.0.here;
                  last = λ u h. p.0.last u (held u h);
                  lowest = λ u h is. p.0.lowest u (held u h) is;
                },
                p.1,
              )
        ];
      }

-- the same for some order of the nodes
pub record IsTiming {N E : Type 0} (end : ℕ) (g : Graph N E) (d lags starts parents finishes : List ℕ) (makespan last : ℕ)
    (waiting : List ℕ) : Type 0 where
  pub order : List ℕ
  pub ordered : IsOrderOf g order
  pub timing : Timing end g order d lags starts parents finishes makespan last waiting
