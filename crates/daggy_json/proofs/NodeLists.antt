-- Lists of the edges of a node: permutations of them, and how many there are.
use Rattle.std.proofs.Common.{◌≡◌, ℕ, zero, suc, ◌+◌, ◌<◌, ◌≤◌, ◌⊎◌, inl, inr, Bool, true, false, cond, eqb, Option}
use Rattle.std.proofs.Common.{Some, None, List, [], ◌∷◌, ◌++◌, length, get_or, set, unwrap_or, refl, sym, ap, subst, ◌∙◌}
use Rattle.std.proofs.Common.{arith, length-append, length-set, add-one}
use Rattle.std.specs.Prelude.{Contains}
use Rattle.std.specs.Option.{option_map}
use Rattle.std.proofs.lemmas.Bool.{cases_eq, eqb-true, eq-eqb}
use Rattle.std.proofs.lemmas.List.{get_or-set_other, get_or-set_same}
use Rattle.daggy_base.specs.WellFormed.{AreDistinct}
use Rattle.daggy_base.specs.declared.index.Direction.{Direction}
use Rattle.daggy_base.specs.Graph.{Edge, slot, near_end}
use Rattle.daggy_base.specs.FromSlots.{down_from, has_end}
use Rattle.daggy_base.proofs.Lists.{Mem, Unique, mem_out, split_at, mem_contains, contains_mem, unique_from_distinct}
use Rattle.daggy_base.proofs.Lists.{Contains-nil, Contains-cases}
use Rattle.daggy_json.specs.Found.{Marked, marked_with}
use Rattle.daggy_json.specs.FoundFault.{AreCounts, IsListOf, MarksOnly, AreFresh}
use Rattle.daggy_json.proofs.MarkedLists.{marked_pass, marked_once, marked_from, marks_came}
use Rattle.daggy_json.proofs.RearrangedLists.{down_has, down_passes}

-- ---- members

within : (xs ys : List ℕ) → Unique xs → ((x : ℕ) → Mem x xs → Mem x ys) → length xs ≤ length ys
within [] ys u h = omega arith
within (x ∷ xs) ys u h =
    let s = split_at ys x (h x (inl refl)) in
    let rest : length xs ≤ length (s.0 ++ s.1) =
    within xs (s.0 ++ s.1) u.1
    (λ y m. elim (mem_out s.0 s.1 x y (subst (λ z. Mem y z) s.2 (h y (inr m)))) [
      | inl same ↦ absurd (u.0 (subst (λ z. Mem z xs) same m))
      | inr there ↦ there
    ]) in
    omega (arith, rest, ap length s.2, length-append s.0 (x ∷ s.1), length-append s.0 s.1)

mem_or : (y : ℕ) (xs : List ℕ) → Mem y xs ⊎ (Mem y xs → ⊥)
mem_or y [] = inr (λ m. m)
mem_or y (x ∷ xs) =
    elim (cases_eq y x) [
      | inl same ↦ inl (inl same)
      | inr other ↦ elim (mem_or y xs) [
        | inl there ↦ inl (inr there)
        | inr none ↦ inr (λ m. elim m [ inl same ↦ absurd (other same) | inr there ↦ none there ])
      ]
    ]

-- distinct members of a list that are as many as it has are all of them
all_there : (xs ys : List ℕ) → Unique xs → ((x : ℕ) → Mem x xs → Mem x ys) → length ys ≤ length xs
    → (y : ℕ) → Mem y ys → Mem y xs
all_there xs ys u h long y m =
    elim (mem_or y xs) [
      | inl there ↦ there
      | inr none ↦ (
          let more : length (y ∷ xs) ≤ length ys =
          within (y ∷ xs) ys (none, u) (λ z k. elim k [
            | inl same ↦ subst (λ w. Mem w ys) (sym same) m
            | inr there ↦ h z there
          ]) in
          absurd (omega arith)
          )
    ]

-- ---- numbers below k that pass

down_low_at : (l : List ℕ) (k e : ℕ) (b : Bool)
    → (Contains l e → e < k) → Contains (cond b (k ∷ l) l) e → e < suc k
down_low_at l k e true low c =
    elim (Contains-cases k e l c) [
      | inl same ↦ omega (arith, same)
      | inr there ↦ (let less = low there in omega arith)
    ]
down_low_at l k e false low c = let less = low c in omega arith

pub down_low : (p : ℕ → Bool) (k e : ℕ) → Contains (down_from p k) e → e < k
down_low p zero e c = absurd (Contains-nil e c)
down_low p (suc k) e c = down_low_at (down_from p k) k e (p k) (down_low p k e) c

down_once_at : (l : List ℕ) (k : ℕ) (b : Bool)
    → (Contains l k → ⊥) → AreDistinct l → AreDistinct (cond b (k ∷ l) l)
down_once_at l k true none once = (none, once)
down_once_at l k false none once = once

down_once : (p : ℕ → Bool) (k : ℕ) → AreDistinct (down_from p k)
down_once p zero = tt
down_once p (suc k) =
    down_once_at (down_from p k) k (p k) (λ c. let low = down_low p k k c in absurd (omega arith)) (down_once p k)

down_long : (p : ℕ → Bool) (k : ℕ) (b : Bool) → p k ≡ b
    → length (down_from p (k + 1)) ≡ cond b (length (down_from p k) + 1) (length (down_from p k))
down_long p k b is =
    rw (add-one k) (ap (λ z. length (cond z (k ∷ down_from p k) (down_from p k))) is ∙ at b)
  where
    at : (z : Bool) → length (cond z (k ∷ down_from p k) (down_from p k))
        ≡ cond z (length (down_from p k) + 1) (length (down_from p k))
    at true = sym (add-one (length (down_from p k)))
    at false = refl

pub down_short : (p : ℕ → Bool) (k : ℕ) → length (down_from p k) ≤ k
down_short p zero = omega arith
down_short p (suc k) = at (p k) (down_short p k)
  where
    at : (z : Bool) → length (down_from p k) ≤ k → length (cond z (k ∷ down_from p k) (down_from p k)) ≤ suc k
    at true h = omega arith
    at false h = omega arith

-- ---- a list of a node

module _ (p : ℕ → Bool) (k : ℕ) (m : List Bool) (l : List ℕ) (below : (e : ℕ) → p e ≡ true → e < k)
    (fits : k ≤ length m) where
  low : (e : ℕ) → p e ≡ true → e < length m
  low e h = let less = below e h in omega arith

  pub list_marked : Marked p m l → length l ≡ length (down_from p k) → IsListOf p k l
  list_marked h long =
      let once = marked_once p m l low h in
      let there : (e : ℕ) → Mem e l → Mem e (down_from p k) = λ e c.
      let pass = marked_pass p m l h e (mem_contains l e c) in
      contains_mem (down_from p k) e (down_has p k e (below e pass) pass) in
      record {
        exact = λ e. (
          λ c. mem_contains (down_from p k) e (there e (contains_mem l e c)),
          λ c.
              mem_contains l e (all_there l (down_from p k) (unique_from_distinct l once) there (omega (arith, long)) e
              (contains_mem (down_from p k) e c)),
        );
        once = once;
      }

  pub list_counted : IsListOf p k l → length l ≡ length (down_from p k)
  list_counted h =
      let there =
      within l (down_from p k) (unique_from_distinct l h.once)
      (λ e c. contains_mem (down_from p k) e ((h.exact e).0 (mem_contains l e c))) in
      let back =
      within (down_from p k) l (unique_from_distinct (down_from p k) (down_once p k))
      (λ e c. contains_mem l e ((h.exact e).1 (mem_contains (down_from p k) e c))) in
      omega (arith, there, back)

  pub list_marks : AreFresh p m → IsListOf p k l → Marked p m l
  list_marks fresh h =
      let pass : (e : ℕ) → Contains l e → p e ≡ true = λ e c. down_passes p k e ((h.exact e).0 c) in
      marked_from p m l pass h.once (λ e c. fresh e (pass e c))

pub marks_only : (p : ℕ → Bool) (m : List Bool) (l : List ℕ) (m' : List Bool)
    → Marked p m l → m' ≡ marked_with m l → MarksOnly p m m'
marks_only p m l m' h is e t =
    elim (marks_came m l e (ap (λ z. get_or z e false) (sym is) ∙ t)) [
      | inl old ↦ inl old
      | inr there ↦ inr (marked_pass p m l h e there)
    ]

-- ---- counts

module _ {at : ℕ → ℕ → Bool} {n k : ℕ} {counts : List ℕ} (s : AreCounts at n k counts) where
  pub counts_same : ((i : ℕ) → at i k ≡ false) → (counts' : List ℕ) → counts' ≡ counts → AreCounts at n (k + 1) counts'
  counts_same none counts' same =
      rw same (record { long = s.long; each = λ i low. s.each i low ∙ sym (down_long (at i) k false (none i)) })

  pub counts_more : (m : ℕ) → m < n → ((i : ℕ) → at i k ≡ eqb m i) → (counts' : List ℕ)
      → counts' ≡ set counts m (get_or counts m 0 + 1) → AreCounts at n (k + 1) counts'
  counts_more m inside ends counts' written =
      rw written (record {
        long = length-set counts m _ ∙ s.long;
        each = λ i low. elim (cases_eq i m) [
          | inl same ↦ (
              let here : at i k ≡ true = ends i ∙ eq-eqb m i (sym same) in
              ap (λ z. get_or (set counts m (get_or counts m 0 + 1)) z 0) same
              ∙ (get_or-set_same counts m (get_or counts m 0 + 1) 0 (omega (arith, s.long))
              ∙ (ap (λ z. get_or counts z 0 + 1) (sym same)
              ∙ (ap (λ z. z + 1) (s.each i low) ∙ sym (down_long (at i) k true here))))
              )
          | inr other ↦ (
              let here : at i k ≡ false = ends i ∙ not_eqb m i (λ e. other (sym e)) in
              get_or-set_other counts m i _ 0 other ∙ (s.each i low ∙ sym (down_long (at i) k false here))
              )
        ];
      })
    where
      not_eqb : (a b : ℕ) → (a ≡ b → ⊥) → eqb a b ≡ false
      not_eqb a b ne = bool (eqb a b) (λ t. ne (eqb-true a b t))
        where
          bool : (z : Bool) → (z ≡ true → ⊥) → z ≡ false
          bool true h = absurd (h refl)
          bool false h = refl

pub no_counts : (at : ℕ → ℕ → Bool) (n : ℕ) (counts : List ℕ)
    → length counts ≡ n → ((i : ℕ) → i < n → get_or counts i 0 ≡ 0) → AreCounts at n 0 counts
no_counts at n counts long none = record { long = long; each = none }

-- which node an edge is at
module _ {E : Type 0} (dir : Direction) (edges : List (Option (Edge E))) (e : ℕ) where
  pub ends_at : (m : ℕ) → Some m ≡ option_map (near_end dir) (slot edges e)
      → ((i : ℕ) → has_end dir edges i e ≡ eqb m i) × ((x : Edge E) × (slot edges e ≡ Some x) × (near_end dir x ≡ m))
  ends_at m is = at (slot edges e) refl is
    where
      at : (o : Option (Edge E)) → slot edges e ≡ o → Some m ≡ option_map (near_end dir) o
          → ((i : ℕ) → has_end dir edges i e ≡ eqb m i) × ((x : Edge E) × (slot edges e ≡ Some x) × (near_end dir x ≡ m))
      at None here h = cc
      at (Some x) here h =
          let same : near_end dir x ≡ m = cc in (
            λ i. ap (λ o. unwrap_or (option_map (λ z. eqb (near_end dir z) i) o) false) here ∙ ap (λ z. eqb z i) same,
            (x, here, same),
          )

  pub ends_nowhere : None ≡ option_map (near_end dir) (slot edges e) → (i : ℕ) → has_end dir edges i e ≡ false
  ends_nowhere is = at (slot edges e) refl is
    where
      at : (o : Option (Edge E)) → slot edges e ≡ o → None ≡ option_map (near_end dir) o
          → (i : ℕ) → has_end dir edges i e ≡ false
      at None here h i = ap (λ o. unwrap_or (option_map (λ z. eqb (near_end dir z) i) o) false) here
      at (Some x) here h i = cc
