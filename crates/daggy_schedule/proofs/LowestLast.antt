-- Of some nodes the lowest of those that finish last, as nodes are added one by one.
use Rattle.std.proofs.Common.{◌≡◌, ℕ, ◌<◌, ◌≤◌, ◌⊎◌, inl, inr, ap, subst, arith}
use Rattle.std.proofs.lemmas.Bool.{cases_lt}
use Rattle.daggy_schedule.specs.Times.{IsLowestLast}
use Rattle.daggy_schedule.specs.Passes.{GoesBefore}

-- when a node does not go before another
abbrev pub GoesAfter : (finish n time m : ℕ) → Type 0
GoesAfter finish n time m = (finish < time) ⊎ ((finish ≡ time) × (m ≤ n))

pub goes_after : {finish n time m : ℕ} → ¬ GoesBefore finish n time m → GoesAfter finish n time m
goes_after {finish} {n} {time} {m} not =
    elim (cases_lt finish time) [
      | inl less ↦ inl less
      | inr enough ↦ elim (cases_lt time finish) [
        | inl more ↦ absurd (not (inl more))
        | inr most ↦
            (let same : finish ≡ time = omega (arith, enough, most) in
            let back : time ≡ finish = omega (arith, enough, most) in
            elim (cases_lt n m) [
              | inl lower ↦ absurd (not (inr (back, lower)))
              | inr least ↦ inr (same, least)
            ])
      ]
    ]

pub not_before : {finish n time m : ℕ} → GoesAfter finish n time m → ¬ GoesBefore finish n time m
not_before {finish} {n} {time} {m} after before =
    elim after [
      | inl less ↦ elim before [ inl more ↦ omega (arith, less, more) | inr same ↦ omega (arith, less, same.0) ]
      | inr least ↦ elim before [ inl more ↦ omega (arith, least.0, more) | inr lower ↦ omega (arith, least.1, lower.1) ]
    ]

pub before_or_not : (finish n time m : ℕ) → GoesBefore finish n time m ⊎ (¬ GoesBefore finish n time m)
before_or_not finish n time m =
    elim (cases_lt time finish) [
      | inl more ↦ inl (inl more)
      | inr enough ↦ elim (cases_lt finish time) [
        | inl less ↦ inr (not_before (inl less))
        | inr most ↦ elim (cases_lt n m) [
          | inl lower ↦ inl (inr (omega (arith, enough, most), lower))
          | inr least ↦ inr (not_before (inr (omega (arith, enough, most), least)))
        ]
      ]
    ]

module _ {P Q : ℕ → Type 0} {f f' : ℕ → ℕ} {n : ℕ} (cases : (u : ℕ) → Q u → P u ⊎ (u ≡ n))
    (same : (u : ℕ) → P u → f' u ≡ f u) where
  -- the one that was is kept
  pub lowest_kept : {q : ℕ} → IsLowestLast P f q → Q q → (Q n → GoesAfter (f' n) n (f q) q) → IsLowestLast Q f' q
  lowest_kept {q} was here after =
      let at : f' q ≡ f q = same q was.here in
      record {
        here = here;
        last = λ u h.
            elim (cases u h) [
              | inl a ↦ omega (arith, same u a, at, was.last u a)
              | inr e ↦
                  (let R : ℕ → Type 0 = λ z. Q z in
                  elim (after (subst R e h)) [
                    | inl less ↦ omega (arith, ap f' e, at, less)
                    | inr least ↦ omega (arith, ap f' e, at, least.0)
                  ])
            ];
        lowest = λ u h is.
            elim (cases u h) [
              | inl a ↦ (let now : f u ≡ f q = omega (arith, same u a, at, is) in was.lowest u a now)
              | inr e ↦
                  (let R : ℕ → Type 0 = λ z. Q z in
                  elim (after (subst R e h)) [
                    | inl less ↦ absurd (omega (arith, ap f' e, at, less, is))
                    | inr least ↦ omega (arith, e, least.1)
                  ])
            ];
      }

  -- the one that is added is
  pub lowest_added : Q n → ((u : ℕ) → P u → GoesAfter (f u) u (f' n) n) → IsLowestLast Q f' n
  lowest_added here after =
      record {
        here = here;
        last = λ u h.
            elim (cases u h) [
              | inl a ↦
                  elim (after u a) [
                    | inl less ↦ omega (arith, same u a, less)
                    | inr least ↦ omega (arith, same u a, least.0)
                  ]
              | inr e ↦ omega (arith, ap f' e)
            ];
        lowest = λ u h is.
            elim (cases u h) [
              | inl a ↦
                  elim (after u a) [
                    | inl less ↦ absurd (omega (arith, same u a, less, is))
                    | inr least ↦ least.1
                  ]
              | inr e ↦ omega (arith, e)
            ];
      }

-- what goes after one that a third goes before goes after the third
pub before_after : {early u time m finish n : ℕ} → GoesAfter early u time m → GoesBefore finish n time m
    → GoesAfter early u finish n
before_after after before =
    elim after [
      | inl less ↦ elim before [
        | inl more ↦ inl (omega (arith, less, more))
        | inr lower ↦ inl (omega (arith, less, lower.0))
      ]
      | inr same ↦ elim before [
        | inl more ↦ inl (omega (arith, same.0, more))
        | inr lower ↦ inr (omega (arith, same.0, lower.0), omega (arith, same.1, lower.1))
      ]
    ]

-- one that goes before the lowest of the last goes before all
pub all_after : {P : ℕ → Type 0} {f : ℕ → ℕ} {q finish n time : ℕ} → IsLowestLast P f q → f q ≡ time
    → GoesBefore finish n time q → (u : ℕ) → P u → GoesAfter (f u) u finish n
all_after {P} {f} {q} {finish} {n} {time} was is before u h =
    let low : f u ≤ f q = was.last u h in
    elim before [
      | inl more ↦ inl (omega (arith, low, is, more))
      | inr lower ↦ elim (cases_lt (f u) finish) [
        | inl less ↦ inl less
        | inr enough ↦
            (let level : f u ≡ f q = omega (arith, low, is, lower.0, enough) in
            inr (omega (arith, level, is, lower.0), omega (arith, was.lowest u h level, lower.1)))
      ]
    ]
