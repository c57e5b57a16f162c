-- The nodes without parents put into a queue, by ascending index.
use Rattle.std.proofs.Common.{◌≡◌, ◌≢◌, ℕ, zero, suc, ◌+◌, ◌-◌, ◌<◌, ◌≤◌, Bool, true, false, inl, inr, List, Option, Some, None}
use Rattle.std.proofs.Common.{[], ◌∷◌, ◌++◌, length, get_or, take, map, replicate, refl, sym, ap, subst, ◌∙◌, arith}
use Rattle.std.proofs.Common.{add-one, append-nil, cond, is_some}
use Rattle.std.specs.List.{filter}
use Rattle.std.proofs.lemmas.List.{length-replicate, get_or-replicate, get_or_past, take_all, map-append}
use Rattle.std.proofs.lemmas.List.Elements.{filter-append}
use Rattle.std.proofs.lemmas.Bool.{false≢true, cases_eq, cases_lt, eq-eqb, ne_eqb, eqb-true}
use Rattle.daggy_base.specs.Graph.{Graph, HasNode, slot, in_list, bound_of, bound_step, node_bound}
use Rattle.daggy_base.specs.Iterating.{numbered, node_identifiers}
use Rattle.daggy_base.proofs.Lists.{Mem, Unique, mem_left, mem_right, mem_cases, mem_contains, contains_mem}
use Rattle.daggy_base.proofs.Lists.{distinct_from_unique, Contains-nil, unique_append}
use Rattle.daggy_base.proofs.OutEdgesRead.{below_bound}
use Rattle.daggy_base.proofs.Sorted.{unique_filter, filter_mem, mem_filter}
use Rattle.daggy_dag.proofs.NumberedSlots.{numbered_passes, numbered_skips}
use Rattle.daggy_schedule.specs.Work.{has_no_parents}
use Rattle.daggy_schedule.specs.Queue.{IsKept, IsCounted}
use Rattle.daggy_schedule.proofs.Counts.{count_all}

-- ---- the indices of the occupied slots below a number

abbrev pub indices_below : {A : Type 0} → List (Option A) → ℕ → List ℕ
indices_below xs i = map (λ p. p.0) (numbered 0 (take i xs))

-- behind the bound nothing is left
at_step : {A : Type 0} (i : ℕ) (x : Option A) (xs : List (Option A)) (b : ℕ)
    → numbered (i + 1) (take b xs) ≡ numbered (i + 1) xs
    → numbered i (take (bound_step x b) (x ∷ xs)) ≡ numbered i (x ∷ xs)
at_step i None xs zero h = h
at_step i (Some x) xs zero h = ap (λ z. (i, x) ∷ z) h
at_step i None xs (suc b) h = h
at_step i (Some x) xs (suc b) h = ap (λ z. (i, x) ∷ z) h

numbered_bounded : {A : Type 0} (i : ℕ) (xs : List (Option A)) → numbered i (take (bound_of xs) xs) ≡ numbered i xs
numbered_bounded i [] = refl
numbered_bounded i (x ∷ xs) = at_step i x xs (bound_of xs) (numbered_bounded (i + 1) xs)

pub indices_whole : {N E : Type 0} (g : Graph N E) (i : ℕ) → i ≡ node_bound g
    → indices_below g.nodes i ≡ node_identifiers g
indices_whole g i is = ap (indices_below g.nodes) is ∙ ap (map (λ p. p.0)) (numbered_bounded 0 g.nodes)

module _ {A : Type 0} (xs : List (Option A)) where
  pub indices_pass : (i : ℕ) (x : A) → slot xs i ≡ Some x → indices_below xs (i + 1) ≡ indices_below xs i ++ i ∷ []
  indices_pass i x some =
      ap (map (λ p. p.0)) (numbered_passes i xs x some) ∙ map-append (λ p. p.0) (numbered 0 (take i xs)) ((i, x) ∷ [])

  pub indices_skip : (i : ℕ) → slot xs i ≡ None → indices_below xs (i + 1) ≡ indices_below xs i
  indices_skip i none = ap (map (λ p. p.0)) (numbered_skips i xs none)

  -- from those below i to those below i + 1
  in_step : (i m : ℕ) → (Mem m (indices_below xs i) → (m < i) × (is_some (slot xs m) ≡ true)) → (o : Option A)
      → slot xs i ≡ o → Mem m (indices_below xs (i + 1)) → (m < suc i) × (is_some (slot xs m) ≡ true)
  in_step i m before None e here =
      let M : List ℕ → Type 0 = λ z. Mem m z in
      let p = before (subst M (indices_skip i e) here) in (omega (arith, p.0), p.1)
  in_step i m before (Some x) e here =
      let M : List ℕ → Type 0 = λ z. Mem m z in
      let S : ℕ → Type 0 = λ z. is_some (slot xs z) ≡ true in
      elim (mem_cases (indices_below xs i) (i ∷ []) m (subst M (indices_pass i x e) here)) [
        | inl a ↦ (let p = before a in (omega (arith, p.0), p.1))
        | inr b ↦ elim b [
          | inl same ↦ (omega (arith, same), subst S (sym same) (ap is_some e))
          | inr nothing ↦ absurd nothing
        ]
      ]

  pub indices_in : (i m : ℕ) → Mem m (indices_below xs i) → (m < i) × (is_some (slot xs m) ≡ true)
  indices_in zero m h = absurd h
  indices_in (suc i) m h =
      let I : ℕ → Type 0 = λ z. Mem m (indices_below xs z) in
      in_step i m (indices_in i m) (slot xs i) refl (subst I (sym (add-one i)) h)

  into_step : (i m : ℕ) → (m < i → Mem m (indices_below xs i)) → m < suc i → is_some (slot xs m) ≡ true → (o : Option A)
      → slot xs i ≡ o → Mem m (indices_below xs (i + 1))
  into_step i m before low some None e =
      let M : List ℕ → Type 0 = λ z. Mem m z in
      elim (cases_eq m i) [
        | inl same ↦ absurd (false≢true (ap is_some (sym e) ∙ (ap (λ z. is_some (slot xs z)) (sym same) ∙ some)))
        | inr other ↦ subst M (sym (indices_skip i e)) (before (omega (arith, low, other)))
      ]
  into_step i m before low some (Some x) e =
      let M : List ℕ → Type 0 = λ z. Mem m z in
      subst M (sym (indices_pass i x e)) (elim (cases_eq m i) [
        | inl same ↦ mem_right (indices_below xs i) (i ∷ []) m (inl same)
        | inr other ↦ mem_left (indices_below xs i) (i ∷ []) m (before (omega (arith, low, other)))
      ])

  pub in_indices : (i m : ℕ) → m < i → is_some (slot xs m) ≡ true → Mem m (indices_below xs i)
  in_indices zero m low some = absurd (omega (arith, low))
  in_indices (suc i) m low some =
      let I : ℕ → Type 0 = λ z. Mem m (indices_below xs z) in
      subst I (add-one i) (into_step i m (λ less. in_indices i m less some) low some (slot xs i) refl)

  once_step : (i : ℕ) → Unique (indices_below xs i) → (o : Option A) → slot xs i ≡ o → Unique (indices_below xs (i + 1))
  once_step i before None e = let U : List ℕ → Type 0 = λ z. Unique z in subst U (sym (indices_skip i e)) before
  once_step i before (Some x) e =
      let U : List ℕ → Type 0 = λ z. Unique z in
      subst U (sym (indices_pass i x e)) (unique_append (indices_below xs i) (i ∷ []) before ((λ m. m), tt) (λ y a b.
      elim b [
        | inl same ↦ (let low = (indices_in i y a).0 in omega (arith, low, same))
        | inr nothing ↦ nothing
      ]))

  pub indices_once : (i : ℕ) → Unique (indices_below xs i)
  indices_once zero = tt
  indices_once (suc i) =
      let U : ℕ → Type 0 = λ z. Unique (indices_below xs z) in
      subst U (add-one i) (once_step i (indices_once i) (slot xs i) refl)

-- ---- the nodes without parents among them

-- those below i are queued
abbrev pub AreQueued : {N E : Type 0} → Graph N E → ℕ → List ℕ → Type 0
AreQueued g i queue = queue ≡ filter (has_no_parents g) (indices_below g.nodes i)

module _ {N E : Type 0} (g : Graph N E) (i : ℕ) (queue : List ℕ) (s : AreQueued g i queue) where
  pub start_skip : slot g.nodes i ≡ None → AreQueued g (i + 1) queue
  start_skip none = s ∙ ap (filter (has_no_parents g)) (sym (indices_skip g.nodes i none))

  module _ (w : N) (some : slot g.nodes i ≡ Some w) where
    more : filter (has_no_parents g) (indices_below g.nodes (i + 1))
        ≡ filter (has_no_parents g) (indices_below g.nodes i) ++ cond (has_no_parents g i) (i ∷ []) []
    more =
        ap (filter (has_no_parents g)) (indices_pass g.nodes i w some)
        ∙ filter-append (has_no_parents g) (indices_below g.nodes i) (i ∷ [])

    pub start_waits : length (in_list g i) ≢ 0 → AreQueued g (i + 1) queue
    start_waits parents =
        let fails : has_no_parents g i ≡ false = ne_eqb (length (in_list g i)) 0 parents in
        s ∙ (sym (append-nil _) ∙ sym (more ∙ ap (λ b. filter (has_no_parents g) (indices_below g.nodes i) ++ cond b (i ∷ []) []) fails))

    pub start_ready : length (in_list g i) ≡ 0 → AreQueued g (i + 1) (queue ++ i ∷ [])
    start_ready none =
        let passes : has_no_parents g i ≡ true = eq-eqb (length (in_list g i)) 0 none in
        ap (λ z. z ++ i ∷ []) s
        ∙ sym (more ∙ ap (λ b. filter (has_no_parents g) (indices_below g.nodes i) ++ cond b (i ∷ []) []) passes)

pub all_unset : (size n : ℕ) → get_or (replicate size false) n false ≡ false
all_unset size n =
    elim (cases_lt n size) [
      | inl a ↦ get_or-replicate size n false false a
      | inr b ↦ get_or_past (replicate size false) n false (omega (arith, b, length-replicate size false))
    ]

module _ {N E : Type 0} (g : Graph N E) (waiting taken : List ℕ) (i : ℕ) (whole : i ≡ node_bound g)
    (counted : (m : ℕ) → get_or waiting m 0 ≡ length (in_list g m)) (s : AreQueued g i taken) where
  taken_once : Unique taken
  taken_once =
      let P : List ℕ → Type 0 = λ z. Unique z in
      subst P (sym s) (unique_filter (has_no_parents g) (indices_below g.nodes i) (indices_once g.nodes i))

  taken_in : (m : ℕ) → Mem m taken → HasNode g m × (get_or waiting m 0 ≡ 0)
  taken_in m h =
      let P : List ℕ → Type 0 = λ z. Mem m z in
      let f = filter_mem (has_no_parents g) (indices_below g.nodes i) m (subst P s h) in
      ((indices_in g.nodes i m f.0).1, counted m ∙ eqb-true (length (in_list g m)) 0 f.1)

  into_taken : (m : ℕ) → HasNode g m → get_or waiting m 0 ≡ 0 → Mem m taken
  into_taken m h z =
      let P : List ℕ → Type 0 = λ z. Mem m z in
      subst P (sym s)
      (mem_filter (has_no_parents g) (indices_below g.nodes i) m
      (in_indices g.nodes i m (omega (arith, below_bound g.nodes m h, whole)) h)
      (eq-eqb (length (in_list g m)) 0 (sym (counted m) ∙ z)))

module _ {N E : Type 0} (g : Graph N E) (waiting queue : List ℕ) (tail i : ℕ) (whole : i ≡ node_bound g)
    (counted : (m : ℕ) → get_or waiting m 0 ≡ length (in_list g m)) (s : AreQueued g i (take tail queue))
    (out done : List Bool) (unset_out : (n : ℕ) → get_or out n false ≡ false)
    (unset_done : (n : ℕ) → get_or done n false ≡ false) where
  pub started_counted : IsCounted g done [] waiting (take tail queue)
  started_counted =
      record {
        still = λ k. true;
        settled = λ e x at d none. absurd (false≢true (sym (unset_done x.parent) ∙ d));
        unsettled = λ e x at d. refl;
        to_come = λ e c. refl;
        waits = λ m h. counted m ∙ sym (count_all (λ k. true) (in_list g m) (λ k n. refl));
        queued = λ m. (
          λ c. taken_in g waiting (take tail queue) i whole counted s m (contains_mem (take tail queue) m c),
          λ r. mem_contains (take tail queue) m (into_taken g waiting (take tail queue) i whole counted s m r.0 r.1),
        );
        once = distinct_from_unique (take tail queue) (taken_once g waiting (take tail queue) i whole counted s);
      }

  pub started : length waiting ≡ node_bound g → length queue ≡ node_bound g → length out ≡ node_bound g
      → length done ≡ node_bound g → tail ≤ length queue → IsKept waiting queue 0 tail out done 0
  started waiting_long queue_long out_long done_long low =
      record {
        queue_long = queue_long ∙ sym waiting_long;
        out_long = out_long ∙ sym waiting_long;
        done_long = done_long ∙ sym waiting_long;
        handed_low = omega arith;
        queued_low = low;
        once = distinct_from_unique (take tail queue) (taken_once g waiting (take tail queue) i whole counted s);
        within = λ m c.
            (let r = taken_in g waiting (take tail queue) i whole counted s m (contains_mem (take tail queue) m c) in
            omega (arith, below_bound g.nodes m r.0, waiting_long));
        handed = λ m. (
          λ o. absurd (false≢true (sym (unset_out m) ∙ o)),
          λ c. absurd (Contains-nil m c),
        );
        begun = λ m d. absurd (false≢true (sym (unset_done m) ∙ d));
        finished_is = refl;
      }

pub all_zero : (size n : ℕ) → ◌≡◌ {A = ℕ} (get_or (replicate size 0) n 0) 0
all_zero size n =
    let none : ℕ = 0 in
    elim (cases_lt n size) [
      | inl a ↦ get_or-replicate size n none none a
      | inr b ↦ get_or_past (replicate size none) n none (omega (arith, b, length-replicate size none))
    ]

-- what a list is resized to that was empty
pub resized : {A : Type 0} (new old : List A) (k len : ℕ) (x : A)
    → old ≡ [] → len ≡ 0 → new ≡ take k old ++ replicate (k - len) x → new ≡ replicate k x
resized {A} new old k len x none empty is =
    let nothing : take k old ≡ [] = take_all k old (omega (arith, ap length none)) ∙ none in
    let size : k - len ≡ k = omega arith in
    is ∙ (ap (λ (z : List A). z ++ replicate (k - len) x) nothing ∙ ap (λ (n : ℕ). replicate n x) size)

pub unset_by : (flags : List Bool) (size : ℕ) → flags ≡ replicate size false → (n : ℕ) → get_or flags n false ≡ false
unset_by flags size is n = ap (λ z. get_or z n false) is ∙ all_unset size n
