-- How much later nodes can start while nothing else is delayed.
use Rattle.std.proofs.Common.{◌≡◌, ◌≢◌, ℕ, ◌+◌, ◌<◌, ◌≤◌, ◌-◌, suc, inl, inr, List, [], length, get_or, set, replicate, sym, ap, subst, ◌∙◌, arith}
use Rattle.std.proofs.lemmas.Bool.{cases_eq}
use Rattle.std.proofs.lemmas.List.{get_or-set_same, get_or-set_other, length-replicate}
use Rattle.daggy_base.specs.Graph.{Graph, HasNode}
use Rattle.daggy_base.specs.Path.{AreJoined}
use Rattle.daggy_base.specs.WellFormed.{IsWellFormed}
use Rattle.daggy_schedule.specs.Times.{AreDoneBy}
use Rattle.daggy_schedule.specs.Lags.{AreFeasibleWithLags, IsScheduleOf, IsFreeFloat}
use Rattle.daggy_schedule.specs.Passes.{AreInTime, IsLatestFinish, later_by}
use Rattle.daggy_schedule.proofs.Starting.{all_zero}

module _ {N E : Type 0} {end : ℕ} {g : Graph N E} (w : IsWellFormed end g) {lags starts finishes : List ℕ} {makespan : ℕ}
    (t : AreInTime g lags starts finishes makespan) where
  pub child_begins : (n v : ℕ) → AreJoined g n v → later_by starts [] v ≤ makespan
  child_begins n v j =
      let h = w.children j.0 _ j.2 in
      omega (arith, t.begun v h, t.met v h)

  pub lag_before : (n v : ℕ) (j : AreJoined g n v) → get_or lags j.0 0 ≤ later_by starts [] v
  lag_before n v j = omega (arith, t.passed n v (w.parents j.0 _ j.2) j)

  pub finishes_before : (n latest : ℕ) → HasNode g n → IsLatestFinish g n lags (λ v. get_or starts v 0) makespan latest
      → get_or finishes n 0 ≤ latest
  finishes_before n latest h s =
      elim s.met [ inl all ↦ omega (arith, all, t.met n h) | inr p ↦ omega (arith, p.2, t.passed n p.0 h p.1) ]

module _ {N E : Type 0} {g : Graph N E} {lags : List ℕ} (starts : List ℕ) {makespan : ℕ} where
  pub latest_alone : {n latest : ℕ} → IsLatestFinish g n lags (later_by starts []) makespan latest
      → IsLatestFinish g n lags (λ v. get_or starts v 0) makespan latest
  latest_alone s =
      record {
        most = s.most;
        below = λ v j. omega (arith, s.below v j);
        met = elim s.met [ inl all ↦ inl all | inr p ↦ inr (p.0, p.1, omega (arith, p.2)) ];
      }

-- each node below i can finish so much later
pub record AreFloating {N E : Type 0} (g : Graph N E) (lags starts finishes : List ℕ) (makespan : ℕ) (float : List ℕ) (i : ℕ)
    : Type 0 where
  pub latest : (n : ℕ) → HasNode g n → n < i
      → IsLatestFinish g n lags (λ v. get_or starts v 0) makespan (get_or finishes n 0 + get_or float n 0)

module _ {N E : Type 0} {g : Graph N E} {lags starts finishes : List ℕ} {makespan : ℕ} {float : List ℕ} {i : ℕ}
    (s : AreFloating g lags starts finishes makespan float i) where
  pub floats_none : (HasNode g i → ⊥) → AreFloating g lags starts finishes makespan float (i + 1)
  floats_none none =
      record {
        latest = λ n h low.
            elim (cases_eq n i) [
              | inl same ↦ absurd (none (rw same at h))
              | inr other ↦ s.latest n h (omega (arith, low, other))
            ];
      }

  pub floats_one : (latest : ℕ) → IsLatestFinish g i lags (λ v. get_or starts v 0) makespan latest
      → get_or finishes i 0 ≤ latest → i < length float → (float' : List ℕ)
      → float' ≡ set float i (latest - get_or finishes i 0) → AreFloating g lags starts finishes makespan float' (i + 1)
  floats_one latest finish early within float' is =
      record {
        latest = λ n h low.
            elim (cases_eq n i) [
              | inl same ↦ (
                  let here : get_or float' i 0 ≡ latest - get_or finishes i 0 =
                  ap (λ z. get_or z i 0) is ∙ get_or-set_same float i (latest - get_or finishes i 0) 0 within in
                  let whole : latest ≡ get_or finishes i 0 + get_or float' i 0 = omega (arith, here, early) in
                  rw (same, ← whole) finish
                  )
              | inr other ↦ (
                  let kept : get_or float' n 0 ≡ get_or float n 0 =
                  ap (λ z. get_or z n 0) is ∙ get_or-set_other float i n (latest - get_or finishes i 0) 0 other in
                  rw kept (s.latest n h (omega (arith, low, other)))
                  )
            ];
      }

module _ {N E : Type 0} {g : Graph N E} {d lags starts finishes slack : List ℕ} {makespan : ℕ}
    (s : IsScheduleOf g d lags starts finishes slack makespan) where
  pub in_time : AreInTime g lags starts finishes makespan
  in_time =
      record {
        begun = λ n h. omega (arith, s.takes n h);
        met = λ n h. omega (arith, s.takes n h, s.ends.met n h);
        passed = λ u v h j. omega (arith, s.takes u h, s.earliest.feasible u v j);
      }

  module _ {n : ℕ} (float : ℕ) (here : HasNode g n)
      (latest : IsLatestFinish g n lags (λ v. get_or starts v 0) makespan (get_or finishes n 0 + float)) where
    pub is_free_float : IsFreeFloat g d lags starts makespan n float
    is_free_float =
        record {
          free = record {
            children = λ v j. omega (arith, s.takes n here, latest.below v j);
            met = omega (arith, s.takes n here, latest.most);
          };
          most = λ delay f.
              elim latest.met [
                | inl all ↦ omega (arith, s.takes n here, all, f.met)
                | inr p ↦ omega (arith, s.takes n here, p.2, f.children p.0 p.1)
              ];
        }

    -- the starts, with n delayed alone
    abbrev zeros : List ℕ
    zeros = replicate (suc n) 0

    abbrev delayed : ℕ → ℕ
    delayed = later_by starts (set zeros n float)

    delayed_here : delayed n ≡ get_or starts n 0 + float
    delayed_here =
        let none : ℕ = 0 in
        let low : n < length zeros = omega (arith, length-replicate (suc n) none) in
        omega (arith, get_or-set_same zeros n float 0 low)

    delayed_other : (m : ℕ) → m ≢ n → delayed m ≡ get_or starts m 0
    delayed_other m ne = omega (arith, get_or-set_other zeros n m float 0 ne, all_zero (suc n) m)

    delayed_late : (m : ℕ) → get_or starts m 0 ≤ delayed m
    delayed_late m = omega arith

    feasible : AreFeasibleWithLags g d lags delayed
    feasible u v j =
        elim (cases_eq u n) [
          | inl same ↦ (
              let J : ℕ → Type 0 = λ z. (k : AreJoined g z v) → delayed z + get_or d z 0 + get_or lags k.0 0 ≤ delayed v in
              let at_n : J n = λ k. omega (arith, delayed_here, delayed_late v, s.takes n here, latest.below v k) in
              subst J (sym same) at_n j
              )
          | inr other ↦ omega (arith, delayed_other u other, delayed_late v, s.earliest.feasible u v j)
        ]

    met : AreDoneBy g d delayed makespan
    met m h =
        elim (cases_eq m n) [
          | inl same ↦ rw same (omega (arith, delayed_here, s.takes n here, latest.most))
          | inr other ↦ omega (arith, delayed_other m other, s.ends.met m h)
        ]

    pub at_most_slack : float ≤ get_or slack n 0
    at_most_slack = omega (arith, s.latest.greatest delayed feasible met n here, delayed_here)
