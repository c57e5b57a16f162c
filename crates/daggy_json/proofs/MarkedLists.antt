-- Lists that are marked one edge after the other, and what the marks say at the end.
use Rattle.std.proofs.Common.{◌≡◌, ◌≢◌, ℕ, zero, suc, ◌+◌, ◌<◌, ◌≤◌, inl, inr, Bool, true, false, Option, Some, None}
use Rattle.std.proofs.Common.{IsSome, is_some, List, [], ◌∷◌, length, get_or, set, drop, map, cond, count_by, unwrap_or}
use Rattle.std.proofs.Common.{slice_get, refl, sym, ap, subst, ◌∙◌, arith, zero-add, length-set, length-drop}
use Rattle.std.specs.Prelude.{◌⊎◌, Contains}
use Rattle.std.specs.Option.{option_map}
use Rattle.std.proofs.lemmas.Bool.{false≢true, cases_eq, cases_lt}
use Rattle.std.proofs.Math.ListN.{get_or-map}
use Rattle.std.proofs.lemmas.List.{get_or-set_other, get_or-set_same, get_or_default, drop_all}
use Rattle.std.proofs.lemmas.List.Sums.{sum_by-cons}
use Rattle.daggy_base.specs.WellFormed.{AreDistinct}
use Rattle.daggy_base.specs.Graph.{slot}
use Rattle.daggy_base.proofs.Lists.{Contains-nil, Contains-here, Contains-there, Contains-cases}
use Rattle.daggy_base.specs.Orders.{lists_by_slots}
use Rattle.daggy_json.proofs.FoundParts.{drop_at}
use Rattle.daggy_json.specs.Found.{Marked, marked_with, AllMarked, marked_by}

is_false : (b : Bool) → (b ≡ true → ⊥) → b ≡ false
is_false true h = absurd (h refl)
is_false false h = refl

pub long_marked : (m : List Bool) (es : List ℕ) → length (marked_with m es) ≡ length m
long_marked m [] = refl
long_marked m (e ∷ es) = long_marked (set m e true) es ∙ length-set m e true

-- ---- one list

module _ (p : ℕ → Bool) where
  pub marked_pass : (m : List Bool) (es : List ℕ) → Marked p m es → (e : ℕ) → Contains es e → p e ≡ true
  marked_pass m [] h e c = absurd (Contains-nil e c)
  marked_pass m (a ∷ es) h e c =
      elim (Contains-cases a e es c) [
        | inl same ↦ ap p (sym same) ∙ h.0
        | inr there ↦ marked_pass (set m a true) es h.2 e there
      ]

  pub marked_fresh : (m : List Bool) (es : List ℕ)
      → ((e : ℕ) → p e ≡ true → e < length m) → Marked p m es → (e : ℕ) → Contains es e → get_or m e false ≡ false
  marked_fresh m [] low h e c = absurd (Contains-nil e c)
  marked_fresh m (a ∷ es) low h e c =
      elim (Contains-cases a e es c) [
        | inl same ↦ ap (λ k. get_or m k false) (sym same) ∙ h.1
        | inr there ↦ (
            let l : (k : ℕ) → p k ≡ true → k < length (set m a true) = λ k q.
            omega (arith, low k q, length-set m a true) in
            let later = marked_fresh (set m a true) es l h.2 e there in
            let ne : e ≢ a = λ s.
            false≢true
            (sym later ∙ (ap (λ k. get_or (set m a true) k false) s ∙ get_or-set_same m a true false (low a h.0))) in
            sym (get_or-set_other m a e true false ne) ∙ later
            )
      ]

  pub marked_once : (m : List Bool) (es : List ℕ)
      → ((e : ℕ) → p e ≡ true → e < length m) → Marked p m es → AreDistinct es
  marked_once m [] low h = tt
  marked_once m (a ∷ es) low h =
      let l : (k : ℕ) → p k ≡ true → k < length (set m a true) = λ k q. omega (arith, low k q, length-set m a true) in (
        λ c. false≢true (sym (marked_fresh (set m a true) es l h.2 a c) ∙ get_or-set_same m a true false (low a h.0)),
        marked_once (set m a true) es l h.2,
      )

  pub marked_from : (m : List Bool) (es : List ℕ) → ((e : ℕ) → Contains es e → p e ≡ true) → AreDistinct es
      → ((e : ℕ) → Contains es e → get_or m e false ≡ false) → Marked p m es
  marked_from m [] pass once fresh = tt
  marked_from m (a ∷ es) pass once fresh = (
    pass a (Contains-here a es),
    fresh a (Contains-here a es),
    marked_from (set m a true) es (λ e c. pass e (Contains-there a e es c)) once.1
        (λ e c. let ne : e ≢ a = λ s. once.0 (subst (λ k. Contains es k) s c) in
        get_or-set_other m a e true false ne ∙ fresh e (Contains-there a e es c)),
  )

-- what is marked then
pub marks_came : (m : List Bool) (es : List ℕ) (e : ℕ)
    → get_or (marked_with m es) e false ≡ true → (get_or m e false ≡ true) ⊎ Contains es e
marks_came m [] e h = inl h
marks_came m (a ∷ es) e h =
    elim (marks_came (set m a true) es e h) [
      | inl now ↦ elim (cases_eq e a) [
        | inl same ↦ inr (subst (λ k. Contains (a ∷ es) k) (sym same) (Contains-here a es))
        | inr other ↦ inl (sym (get_or-set_other m a e true false other) ∙ now)
      ]
      | inr there ↦ inr (Contains-there a e es there)
    ]

pub marks_stay : (m : List Bool) (es : List ℕ) (e : ℕ)
    → get_or m e false ≡ true → get_or (marked_with m es) e false ≡ true
marks_stay m [] e h = h
marks_stay m (a ∷ es) e h =
    marks_stay (set m a true) es e (elim (cases_eq e a) [
      | inl same ↦
          ap (λ k. get_or (set m a true) k false) same
          ∙ get_or-set_same m a true false (within m a (ap (λ k. get_or m k false) (sym same) ∙ h))
      | inr other ↦ get_or-set_other m a e true false other ∙ h
    ])
  where
    within : (xs : List Bool) (k : ℕ) → get_or xs k false ≡ true → k < length xs
    within [] k t = absurd (false≢true t)
    within (x ∷ xs) zero t = omega arith
    within (x ∷ xs) (suc k) t = let r = within xs k t in omega arith

pub marks_come : (m : List Bool) (es : List ℕ)
    → ((e : ℕ) → Contains es e → e < length m) → (e : ℕ) → Contains es e → get_or (marked_with m es) e false ≡ true
marks_come m [] low e c = absurd (Contains-nil e c)
marks_come m (a ∷ es) low e c =
    elim (Contains-cases a e es c) [
      | inl same ↦
          marks_stay (set m a true) es e (ap (λ k. get_or (set m a true) k false) (sym same)
          ∙ get_or-set_same m a true false (low a (Contains-here a es)))
      | inr there ↦
          marks_come (set m a true) es
          (λ k q. omega (arith, low k (Contains-there a k es q), length-set m a true)) e there
    ]

-- ---- the lists of all nodes

abbrev pub row : List (List ℕ) → ℕ → List ℕ
row lists n = unwrap_or (slice_get lists n) []

at_next : (P : ℕ → ℕ → Bool) (i j e : ℕ) → P (i + suc j) e ≡ P (i + 1 + j) e
at_next P i j e = ap (λ k. P k e) (let q : i + suc j ≡ i + 1 + j = omega arith in q)

at_here : (P : ℕ → ℕ → Bool) (i e : ℕ) → P (i + 0) e ≡ P i e
at_here P i e = ap (λ k. P k e) (let q : i + 0 ≡ i = omega arith in q)

pub count_none : {N : Type 0} (slots : List (Option N)) → count_by is_some (None ∷ slots) ≡ count_by is_some slots
count_none slots = sum_by-cons (λ y. cond (is_some y) 1 0) None slots ∙ zero-add (count_by is_some slots)

pub count_some : {N : Type 0} (x : N) (slots : List (Option N))
    → count_by is_some (Some x ∷ slots) ≡ 1 + count_by is_some slots
count_some x slots = sum_by-cons (λ y. cond (is_some y) 1 0) (Some x) slots

-- an edge stands in the list of an existing node
pub record IsInListOf {N : Type 0} (slots : List (Option N)) (lists : List (List ℕ)) (n e : ℕ) : Type 0 where
  pub exists : IsSome (slot slots n)
  pub listed : Contains (row (lists_by_slots slots lists) n) e

module _ {N : Type 0} (P : ℕ → ℕ → Bool) where
  pub rows_count : (i : ℕ) (m : List Bool) (slots : List (Option N)) (lists : List (List ℕ))
      → AllMarked P i m slots lists → length lists ≡ count_by is_some slots
  rows_count i m [] lists h = ap length h
  rows_count i m (None ∷ slots) lists h = rows_count (i + 1) m slots lists h ∙ sym (count_none slots)
  rows_count i m (Some x ∷ slots) [] h = absurd h
  rows_count i m (Some x ∷ slots) (l ∷ lists) h = let r = rows_count (i + 1) (marked_with m l) slots lists h.1 in
      omega (arith, r, count_some x slots)

  -- each list of a node passes, each edge once
  pub record IsLinkedList (i : ℕ) (slots : List (Option N)) (lists : List (List ℕ)) : Type 0 where
    pub pass : (j : ℕ)
        → IsSome (slot slots j) → (e : ℕ) → Contains (row (lists_by_slots slots lists) j) e → P (i + j) e ≡ true
    pub once : (j : ℕ) → IsSome (slot slots j) → AreDistinct (row (lists_by_slots slots lists) j)

  linked_at : (i : ℕ) (m : List Bool) (slots : List (Option N)) (lists : List (List ℕ))
      → ((k e : ℕ) → P k e ≡ true → e < length m) → AllMarked P i m slots lists → (j : ℕ) → IsSome (slot slots j)
      → ((e : ℕ) → Contains (row (lists_by_slots slots lists) j) e → P (i + j) e ≡ true)
      × AreDistinct (row (lists_by_slots slots lists) j)
  linked_at i m [] lists low h j s = absurd (false≢true s)
  linked_at i m (None ∷ slots) lists low h zero s = absurd (false≢true s)
  linked_at i m (None ∷ slots) lists low h (suc j) s =
      let r = linked_at (i + 1) m slots lists low h j s in (λ e c. at_next P i j e ∙ r.0 e c, r.1)
  linked_at i m (Some x ∷ slots) [] low h j s = absurd h
  linked_at i m (Some x ∷ slots) (l ∷ lists) low h zero s =
      (λ e c. at_here P i e ∙ marked_pass (P i) m l h.0 e c, marked_once (P i) m l (low i) h.0)
  linked_at i m (Some x ∷ slots) (l ∷ lists) low h (suc j) s =
      let low' : (k e : ℕ) → P k e ≡ true → e < length (marked_with m l) = λ k e q.
      omega (arith, low k e q, long_marked m l) in
      let r = linked_at (i + 1) (marked_with m l) slots lists low' h.1 j s in (λ e c. at_next P i j e ∙ r.0 e c, r.1)

  pub rows_are : (i : ℕ) (m : List Bool) (slots : List (Option N)) (lists : List (List ℕ))
      → ((k e : ℕ) → P k e ≡ true → e < length m) → AllMarked P i m slots lists → IsLinkedList i slots lists
  rows_are i m slots lists low h =
      record {
        pass = λ j s. let r = linked_at i m slots lists low h j s in r.0;
        once = λ j s. let r = linked_at i m slots lists low h j s in r.1;
      }

  -- what is marked stands in a list of a node
  pub stands_in : (m : List Bool) (slots : List (Option N)) (lists : List (List ℕ)) (e : ℕ)
      → get_or (marked_by m slots lists) e false ≡ true
      → (get_or m e false ≡ true) ⊎ ((j : ℕ) × IsInListOf slots lists j e)
  stands_in m [] lists e h = inl h
  stands_in m (None ∷ slots) lists e h =
      elim (stands_in m slots lists e h) [
        | inl a ↦ inl a
        | inr b ↦ inr (suc b.0, record { exists = b.1.exists; listed = b.1.listed })
      ]
  stands_in m (Some x ∷ slots) [] e h = inl h
  stands_in m (Some x ∷ slots) (l ∷ lists) e h =
      elim (stands_in (marked_with m l) slots lists e h) [
        | inl a ↦ elim (marks_came m l e a) [
          | inl old ↦ inl old
          | inr new ↦ inr (0, record { exists = refl; listed = new })
        ]
        | inr b ↦ inr (suc b.0, record { exists = b.1.exists; listed = b.1.listed })
      ]

  pub stays_marked : (m : List Bool) (slots : List (Option N)) (lists : List (List ℕ)) (e : ℕ)
      → get_or m e false ≡ true → get_or (marked_by m slots lists) e false ≡ true
  stays_marked m [] lists e h = h
  stays_marked m (None ∷ slots) lists e h = stays_marked m slots lists e h
  stays_marked m (Some x ∷ slots) [] e h = h
  stays_marked m (Some x ∷ slots) (l ∷ lists) e h = stays_marked (marked_with m l) slots lists e (marks_stay m l e h)

  pub gets_marked : (i : ℕ) (m : List Bool) (slots : List (Option N)) (lists : List (List ℕ))
      → ((k e : ℕ) → P k e ≡ true → e < length m) → AllMarked P i m slots lists → (j : ℕ) {e : ℕ}
      → IsInListOf slots lists j e → get_or (marked_by m slots lists) e false ≡ true
  gets_marked i m [] lists low h j s = absurd (false≢true s.exists)
  gets_marked i m (None ∷ slots) lists low h zero s = absurd (false≢true s.exists)
  gets_marked i m (None ∷ slots) lists low h (suc j) s =
      gets_marked (i + 1) m slots lists low h j (record { exists = s.exists; listed = s.listed })
  gets_marked i m (Some x ∷ slots) [] low h j s = absurd h
  gets_marked i m (Some x ∷ slots) (l ∷ lists) low h zero {e} s =
      stays_marked (marked_with m l) slots lists e
      (marks_come m l (λ k q. low i k (marked_pass (P i) m l h.0 k q)) e s.listed)
  gets_marked i m (Some x ∷ slots) (l ∷ lists) low h (suc j) s =
      gets_marked (i + 1) (marked_with m l) slots lists (λ k z q. omega (arith, low k z q, long_marked m l)) h.1 j
      (record { exists = s.exists; listed = s.listed })

  -- and such lists can be marked, where no edge is at two nodes
  pub all_from : ((k k' e : ℕ) → P k e ≡ true → P k' e ≡ true → k ≡ k')
      → (i : ℕ) (m : List Bool) (slots : List (Option N)) (lists : List (List ℕ))
      → length lists ≡ count_by is_some slots → IsLinkedList i slots lists
      → ((e : ℕ) → get_or m e false ≡ true → (k : ℕ) × (k < i) × (P k e ≡ true)) → AllMarked P i m slots lists
  all_from one i m [] [] count r before = refl
  all_from one i m [] (l ∷ lists) count r before = absurd (omega arith)
  all_from one i m (None ∷ slots) lists count r before =
      all_from one (i + 1) m slots lists (count ∙ count_none slots) (record {
        pass = λ j s e c. sym (at_next P i j e) ∙ r.pass (suc j) s e c;
        once = λ j s. r.once (suc j) s;
      }) (λ e h. let b = before e h in (b.0, omega (arith, b.1), b.2))
  all_from one i m (Some x ∷ slots) [] count r before = absurd (omega (arith, count, count_some x slots))
  all_from one i m (Some x ∷ slots) (l ∷ lists) count r before = (
    marked_from (P i) m l here (r.once 0 refl) unmarked,
    all_from one (i + 1) (marked_with m l) slots lists (omega (arith, count, count_some x slots)) (record {
      pass = λ j s e c. sym (at_next P i j e) ∙ r.pass (suc j) s e c;
      once = λ j s. r.once (suc j) s;
    }) later,
  )
    where
      here : (e : ℕ) → Contains l e → P i e ≡ true
      here e c = sym (at_here P i e) ∙ r.pass 0 refl e c

      unmarked : (e : ℕ) → Contains l e → get_or m e false ≡ false
      unmarked e c =
          is_false (get_or m e false) (λ t. let q = before e t in
          let same = one q.0 i e q.2 (here e c) in
          absurd (omega (arith, q.1, same)))

      later : (e : ℕ) → get_or (marked_with m l) e false ≡ true → (k : ℕ) × (k < i + 1) × (P k e ≡ true)
      later e h =
          elim (marks_came m l e h) [
            | inl old ↦ (let b = before e old in (b.0, omega (arith, b.1), b.2))
            | inr new ↦ (i, omega arith, here e new)
          ]

-- ---- in the words of the loops

-- the first i of a list were marked
pub record MarkedSoFar (p : ℕ → Bool) (m₀ : List Bool) (es : List ℕ) (i : ℕ) (m : List Bool) : Type 0 where
  pub forth : Marked p m₀ es → Marked p m (drop i es)
  pub back : Marked p m (drop i es) → Marked p m₀ es
  pub with_all : marked_with m₀ es ≡ marked_with m (drop i es)
  pub kept : length m ≡ length m₀

module _ {p : ℕ → Bool} {m₀ m : List Bool} {es : List ℕ} {i : ℕ} (s : MarkedSoFar p m₀ es i m) where
  pub marked_on : i < length es → (e : ℕ) → e ≡ get_or es i e → p e ≡ true → get_or m e false ≡ false
      → (m' : List Bool) → m' ≡ set m e true → MarkedSoFar p m₀ es (i + 1) m'
  marked_on low e is pass fresh m' more =
      let next = drop_at es i e low is in
      rw more (record {
        forth = λ h. let q = rw next at (s.forth h) in q.2;
        back = λ h. s.back (rw next (pass, fresh, h));
        with_all = rw next at s.with_all;
        kept = length-set m e true ∙ s.kept;
      })

  pub marked_wrong : i < length es → (e : ℕ) → e ≡ get_or es i e → ((p e ≡ true) × (get_or m e false ≡ false) → ⊥)
      → Marked p m₀ es → ⊥
  marked_wrong low e is wrong h = let q = rw (drop_at es i e low is) at (s.forth h) in wrong (q.0, q.1)

-- the lists of the first n slots were marked
pub record ListsSoFar {N : Type 0} (P : ℕ → ℕ → Bool) (m₀ : List Bool) (slots : List (Option N)) (lists : List (List ℕ))
    (n passed : ℕ) (m : List Bool) : Type 0 where
  pub forth : AllMarked P 0 m₀ slots lists → AllMarked P n m (drop n slots) (drop passed lists)
  pub back : AllMarked P n m (drop n slots) (drop passed lists) → AllMarked P 0 m₀ slots lists
  pub with_all : marked_by m₀ slots lists ≡ marked_by m (drop n slots) (drop passed lists)
  pub kept : length m ≡ length m₀
  pub within : passed ≤ length lists

module _ {N : Type 0} {P : ℕ → ℕ → Bool} {m₀ m : List Bool} {slots : List (Option N)} {lists : List (List ℕ)}
    {n passed : ℕ} (s : ListsSoFar P m₀ slots lists n passed m) where
  pub lists_skipped : n < length slots → (o : Option N) → o ≡ get_or slots n o → is_some o ≡ false
      → (passed' : ℕ) (m' : List Bool) → passed' ≡ passed → m' ≡ m → ListsSoFar P m₀ slots lists (n + 1) passed' m'
  lists_skipped low None is vacant passed' m' same_passed same =
      let next = drop_at slots n None low is in
      rw (same_passed, same) (record {
        forth = λ h. rw next at (s.forth h);
        back = λ h. s.back (rw next h);
        with_all = rw next at s.with_all;
        kept = s.kept;
        within = s.within;
      })
  lists_skipped low (Some x) is vacant passed' m' same_passed same = absurd (false≢true (sym vacant))

  lists_on : n < length slots → (o : Option N) → o ≡ get_or slots n o → is_some o ≡ true → passed < length lists
      → {l : List ℕ} → l ≡ get_or lists passed l → Marked (P n) m l → {m' : List Bool} → m' ≡ marked_with m l
      → ListsSoFar P m₀ slots lists (n + 1) (passed + 1) m'
  lists_on low None is some more here marked after = absurd (false≢true some)
  lists_on low (Some x) is some more {l} here marked after =
      let next = drop_at slots n (Some x) low is in
      let list = drop_at lists passed l more here in
      rw after (record {
        forth = λ h. let q = rw (next, list) at (s.forth h) in q.1;
        back = λ h. s.back (rw (next, list) (marked, h));
        with_all = rw (next, list) at s.with_all;
        kept = long_marked m l ∙ s.kept;
        within = omega arith;
      })

  pub lists_passed : n < length slots → {o : Option N} → o ≡ get_or slots n o → is_some o ≡ true → passed < length lists
      → {l : List ℕ} → l ≡ get_or lists passed l → Marked (P n) m l → {passed' : ℕ} {m' : List Bool}
      → passed' ≡ passed + 1 → m' ≡ marked_with m l → ListsSoFar P m₀ slots lists (n + 1) passed' m'
  lists_passed low {o} is some more here marked next after = rw next (lists_on low o is some more here marked after)

  -- a list is missing, or can't be marked
  pub lists_wrong : n < length slots → (o : Option N) → o ≡ get_or slots n o → is_some o ≡ true
      → (passed < length lists → (l : List ℕ) → l ≡ get_or lists passed l → Marked (P n) m l → ⊥)
      → AllMarked P 0 m₀ slots lists → ⊥
  lists_wrong low None is some wrong h = absurd (false≢true some)
  lists_wrong low (Some x) is some wrong h =
      let q = rw (drop_at slots n (Some x) low is) at (s.forth h) in
      elim (cases_lt passed (length lists)) [
        | inl more ↦ (
            let here = get_or_default lists passed [] (get_or lists passed []) more in
            let r = rw (drop_at lists passed _ more here) at q in
            wrong more _ here r.0
            )
        | inr over ↦ rw (drop_all passed lists over) at q
      ]

  pub lists_whole : length slots ≤ n
      → (passed ≡ length lists → AllMarked P 0 m₀ slots lists × (m ≡ marked_by m₀ slots lists))
      × (AllMarked P 0 m₀ slots lists → passed ≡ length lists)
  lists_whole past =
      let end = drop_all n slots past in (
        λ e.
            let none = drop_all passed lists (omega arith) in
            (s.back (rw end none), sym (rw end at s.with_all)),
        λ h.
            let none : drop passed lists ≡ [] = rw end at (s.forth h) in
            omega (arith, length-drop passed lists, ap length none, s.within),
      )

-- ---- what the code reads

pub same_read : {A : Type 0} (xs : List A) (i : ℕ) (x y : A)
    → i < length xs → x ≡ get_or xs i x → y ≡ get_or xs i y → x ≡ y
same_read xs i x y low here there = here ∙ get_or_default xs i x y low ∙ sym there

pub read_mapped : {A B : Type 0} (f : A → B) (xs : List A) (i : ℕ) (x : A) (e : B)
    → x ≡ get_or xs i x → e ≡ f x → e ≡ get_or (map f xs) i e
read_mapped f xs i x e here is =
    is ∙ (ap f here ∙ (sym (get_or-map f xs i x) ∙ ap (λ k. get_or (map f xs) i k) (sym is)))

pub read_twice : {A B C : Type 0} (f : A → B) (h : B → C) (xs : List A) (i : ℕ) (x : A) (e : C)
    → x ≡ get_or xs i x → e ≡ h (f x) → e ≡ get_or (map h (map f xs)) i e
read_twice f h xs i x e here is = read_mapped h (map f xs) i (f x) e (read_mapped f xs i x (f x) here refl) is

pub slot_mapped : {A B : Type 0} (f : A → B) (xs : List (Option A)) (k : ℕ) (o : Option A)
    → k < length xs → o ≡ get_or xs k o → is_some (slot (map (option_map f) xs) k) ≡ is_some o
slot_mapped f [] k o low here = absurd (omega arith)
slot_mapped f (None ∷ xs) zero o low here = ap is_some (sym here)
slot_mapped f (Some x ∷ xs) zero o low here = ap is_some (sym here)
slot_mapped f (x ∷ xs) (suc k) o low here = slot_mapped f xs k o (omega arith) here

pub slot_within : {A : Type 0} (xs : List (Option A)) (k : ℕ) → is_some (slot xs k) ≡ true → k < length xs
slot_within [] k h = absurd (false≢true h)
slot_within (x ∷ xs) zero h = omega arith
slot_within (x ∷ xs) (suc k) h = let r = slot_within xs k h in omega arith
