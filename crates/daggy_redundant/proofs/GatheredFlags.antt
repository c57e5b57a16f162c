-- Moving the flagged edges to the front of a list.
use Rattle.std.proofs.Common.{◌≡◌, ◌≢◌, ℕ, zero, suc, ◌+◌, ◌<◌, ◌≤◌, ◌↔◌, inl, inr, List, [], ◌∷◌, ◌++◌, length, get_or}
use Rattle.std.proofs.Common.{set, take, refl, sym, ap, subst, ◌∙◌, arith, length-set, eqb, Contains}
use Rattle.std.proofs.lemmas.List.{take_more_set, get_or-set_other}
use Rattle.std.proofs.lemmas.Bool.{cases_eq, eq-eqb, ne_eqb, cond-true, cond-false}
use Rattle.daggy_base.proofs.Lists.{Mem, mem_left, mem_right, mem_cases, mem_contains, contains_mem}
use Rattle.daggy_redundant.specs.Flags.{IsFlagged, flagged_below}
use Rattle.daggy_redundant.specs.Comparison.{IsAscending}

-- up to a place the flagged ones stand in front, and from there on nothing has changed
pub record Gathering (end : ℕ) (flags₀ flags : List ℕ) (len i : ℕ) : Type 0 where
  pub few : len ≤ i
  pub sized : length flags ≡ length flags₀
  pub front : take len flags ≡ flagged_below end flags₀ i
  pub rest : (j : ℕ) → i ≤ j → get_or flags j end ≡ get_or flags₀ j end

module _ (end : ℕ) (flags : List ℕ) (i : ℕ) where
  below_passed : get_or flags i end ≡ end → flagged_below end flags (i + 1) ≡ flagged_below end flags i
  below_passed is =
      let more : i + 1 ≡ suc i = omega arith in
      ap (λ z. flagged_below end flags z) more
      ∙ cond-true {A = List ℕ} (eqb (get_or flags i end) end) (flagged_below end flags i)
      (flagged_below end flags i ++ i ∷ []) (eq-eqb (get_or flags i end) end is)

  below_more : get_or flags i end ≢ end → flagged_below end flags (i + 1) ≡ flagged_below end flags i ++ i ∷ []
  below_more other =
      let more : i + 1 ≡ suc i = omega arith in
      ap (λ z. flagged_below end flags z) more
      ∙ cond-false {A = List ℕ} (eqb (get_or flags i end) end) (flagged_below end flags i)
      (flagged_below end flags i ++ i ∷ []) (ne_eqb (get_or flags i end) end other)

module _ {end : ℕ} {flags₀ flags : List ℕ} {len i : ℕ} (s : Gathering end flags₀ flags len i) where
  pub gather_passed : get_or flags i end ≡ end → Gathering end flags₀ flags len (i + 1)
  gather_passed is =
      let few = s.few in
      record {
        few = omega (arith, few);
        sized = s.sized;
        front = s.front ∙ sym (below_passed end flags₀ i (sym (s.rest i (omega arith)) ∙ is));
        rest = λ j h. s.rest j (omega (arith, h));
      }

  pub gather_put : i < length flags → get_or flags i end ≢ end
      → Gathering end flags₀ (set flags len i) (len + 1) (i + 1)
  gather_put low other =
      let few = s.few in
      record {
        few = omega (arith, few);
        sized = length-set flags len i ∙ s.sized;
        front = take_more_set flags len i (omega (arith, low, few))
            ∙ ap (λ z. z ++ i ∷ []) s.front
            ∙ sym (below_more end flags₀ i (λ e. other (s.rest i (omega arith) ∙ e)));
        rest = λ j h. get_or-set_other flags len j i end (λ e. omega (arith, h, few, e)) ∙ s.rest j (omega (arith, h));
      }

module _ (end : ℕ) (flags : List ℕ) where
  gathered_within : (bound e : ℕ) → Mem e (flagged_below end flags bound) → (e < bound) × IsFlagged end flags e
  gathered_within zero e m = absurd m
  gathered_within (suc k) e m =
      let M : List ℕ → Type 0 = λ z. Mem e z in
      let more : k + 1 ≡ suc k = omega arith in
      let here = subst (λ z. Mem e (flagged_below end flags z)) (sym more) m in
      elim (cases_eq (get_or flags k end) end) [
        | inl is ↦
            (let before = gathered_within k e (subst M (below_passed end flags k is) here) in
            (omega (arith, before.0), before.1))
        | inr other ↦
            elim (mem_cases (flagged_below end flags k) (k ∷ []) e (subst M (below_more end flags k other) here)) [
              | inl a ↦ (let before = gathered_within k e a in (omega (arith, before.0), before.1))
              | inr b ↦ elim b [
                | inl same ↦
                    (let F : ℕ → Type 0 = λ z. IsFlagged end flags z in (omega (arith, same), subst F (sym same) other))
                | inr none ↦ absurd none
              ]
            ]
      ]

  gathered_all : (bound e : ℕ) → e < bound → IsFlagged end flags e → Mem e (flagged_below end flags bound)
  gathered_all zero e low flagged = absurd (omega (arith, low))
  gathered_all (suc k) e low flagged =
      let more : k + 1 ≡ suc k = omega arith in
      let M : List ℕ → Type 0 = λ z. Mem e z in
      let goal : Mem e (flagged_below end flags (k + 1)) = elim (cases_eq e k) [
        | inl last ↦ (
            let F : ℕ → Type 0 = λ z. IsFlagged end flags z in
            subst M (sym (below_more end flags k (subst F last flagged)))
            (mem_right (flagged_below end flags k) (k ∷ []) e (inl last))
            )
        | inr other ↦ (
            let before = gathered_all k e (omega (arith, low, other)) flagged in
            elim (cases_eq (get_or flags k end) end) [
              | inl is ↦ subst M (sym (below_passed end flags k is)) before
              | inr not ↦
                  subst M (sym (below_more end flags k not)) (mem_left (flagged_below end flags k) (k ∷ []) e before)
            ]
            )
      ] in
      subst (λ z. Mem e (flagged_below end flags z)) more goal

  pub gathered_exactly : (bound : ℕ) → ((e : ℕ) → IsFlagged end flags e → e < bound)
      → (e : ℕ) → Contains (flagged_below end flags bound) e ↔ IsFlagged end flags e
  gathered_exactly bound within e = (
    λ c. (gathered_within bound e (contains_mem (flagged_below end flags bound) e c)).1,
    λ f. mem_contains (flagged_below end flags bound) e (gathered_all bound e (within e f) f),
  )

  ascending_more : (xs : List ℕ) (k : ℕ) → IsAscending xs → ((x : ℕ) → Mem x xs → x < k) → IsAscending (xs ++ k ∷ [])
  ascending_more [] k up low = tt
  ascending_more (x ∷ []) k up low = (low x (inl refl), tt)
  ascending_more (x ∷ y ∷ xs) k up low = (up.0, ascending_more (y ∷ xs) k up.1 (λ z m. low z (inr m)))

  pub gathered_ascend : (bound : ℕ) → IsAscending (flagged_below end flags bound)
  gathered_ascend zero = tt
  gathered_ascend (suc k) =
      let more : k + 1 ≡ suc k = omega arith in
      let A : List ℕ → Type 0 = λ z. IsAscending z in
      let goal : IsAscending (flagged_below end flags (k + 1)) = elim (cases_eq (get_or flags k end) end) [
        | inl is ↦ subst A (sym (below_passed end flags k is)) (gathered_ascend k)
        | inr other ↦ subst A (sym (below_more end flags k other))
            (ascending_more (flagged_below end flags k) k (gathered_ascend k) (λ x m. (gathered_within k x m).0))
      ] in
      subst (λ z. IsAscending (flagged_below end flags z)) more goal
