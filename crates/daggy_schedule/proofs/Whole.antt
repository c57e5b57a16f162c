-- A whole schedule, by its parts.
use Rattle.std.proofs.Common.{◌≡◌, ℕ, ◌+◌, ◌<◌, ◌≤◌, ◌^◌, inl, inr, List, [], ◌∷◌, get_or, subst, ◌∙◌, sym, arith}
use Rattle.daggy_base.specs.Graph.{Graph, HasNode}
use Rattle.daggy_base.specs.Path.{IsPath}
use Rattle.daggy_schedule.specs.Times.{span, IsLowestLast}
use Rattle.daggy_schedule.specs.Lags.{lags_along, AreEarliestWithLags, IsMakespanWithLags, IsCriticalWithLags}
use Rattle.daggy_schedule.specs.Lags.{TakesTooLongWithLags, IsTracedBackWithLags}
use Rattle.daggy_schedule.specs.Passes.{AreNoted, IsLast}

module _ {N E : Type 0} {end : ℕ} {g : Graph N E} {d lags starts parents finishes : List ℕ} {makespan last : ℕ}
    (a : AreNoted end g d lags starts parents finishes) (early : AreEarliestWithLags g d lags (λ n. get_or starts n 0))
    (l : IsLast end g finishes makespan last) where
  met : (n : ℕ) → HasNode g n → get_or starts n 0 + get_or d n 0 ≤ makespan
  met n h = omega (arith, a.takes n h, l.most n h)

  pub whole_makespan : IsMakespanWithLags g d lags (λ n. get_or starts n 0) makespan
  whole_makespan =
      record {
        met = met;
        least = λ other earlier f by.
            elim l.is_last [
              | inl p ↦ omega (arith, p.1, a.takes last p.0.here, early.least other f last p.0.here, by last p.0.here)
              | inr none ↦ omega (arith, none.1)
            ];
      }

  pub whole_critical : (path : List ℕ) → (last ≡ end → path ≡ [])
      → (HasNode g last → (p : IsPath g path) × (span d path + lags_along g lags path p ≡ get_or finishes last 0))
      → IsCriticalWithLags g d lags path makespan
  whole_critical path empty sum =
      elim l.is_last [
        | inl p ↦ (let whole = sum p.0.here in inl (whole.0, whole.1 ∙ p.1))
        | inr none ↦ inr (empty none.2, none.0, none.1)
      ]

  pub whole_traced : (path : List ℕ) → (last ≡ end → path ≡ [])
      → (IsLowestLast (HasNode g) (λ m. get_or finishes m 0) last
      → IsTracedBackWithLags g (λ m. get_or finishes m 0) lags path)
      → IsTracedBackWithLags g (λ m. get_or finishes m 0) lags path
  whole_traced path empty traced =
      elim l.is_last [
        | inl p ↦ traced p.0
        | inr none ↦
            (let P : List ℕ → Type 0 = λ z. IsTracedBackWithLags g (λ m. get_or finishes m 0) lags z in
            subst P (sym (empty none.2)) (record { waited_for = tt; first = λ n rest at u. absurd cc }))
      ]

  along : (x : ℕ) (rest : List ℕ) (p : IsPath g (x ∷ rest))
      → get_or starts x 0 + (span d (x ∷ rest) + lags_along g lags (x ∷ rest) p) ≤ makespan
  along x [] p = omega (arith, met x p)
  along x (v ∷ rest) p = omega (arith, early.feasible x v p.1, along v rest p.2)

  pub whole_fits : makespan < 2 ^ 64 → TakesTooLongWithLags g d lags → ⊥
  whole_fits fits t = none t.0 t.1 t.2
    where
      none : (path : List ℕ) (p : IsPath g path) → 2 ^ 64 ≤ span d path + lags_along g lags path p → ⊥
      none [] p long = p
      none (x ∷ rest) p long = omega (arith, along x rest p, fits, long)
