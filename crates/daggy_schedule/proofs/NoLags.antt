-- What schedules with lags are if there are none.
use Rattle.std.proofs.Common.{◌≡◌, ℕ, inl, inr, List, [], ◌∷◌, Result, Ok, Err, IfOk, refl, ap, ◌∙◌, sym, arith}
use Rattle.daggy_base.specs.Graph.{Graph}
use Rattle.daggy_base.specs.Path.{AreJoined, IsPath}
use Rattle.daggy_schedule.specs.Times.{span, AreFeasible, AreEarliest, AreLatest, IsMakespan, IsCritical, TakesTooLong}
use Rattle.daggy_schedule.specs.Times.{IsLowestLast, AreWaitedFor, IsTracedBack}
use Rattle.daggy_schedule.specs.Lags.{lags_along, AreFeasibleWithLags, AreEarliestWithLags, AreLatestWithLags}
use Rattle.daggy_schedule.specs.Lags.{IsMakespanWithLags, IsCriticalWithLags, TakesTooLongWithLags, IsTracedBackWithLags}
use Rattle.daggy_schedule.specs.Lags.{WaitsForWithLags}

module _ {N E : Type 0} (g : Graph N E) (d : List ℕ) where
  with_none : (start : ℕ → ℕ) → AreFeasible g d start → AreFeasibleWithLags g d [] start
  with_none start f u v j = omega (arith, f u v j)

  without : (start : ℕ → ℕ) → AreFeasibleWithLags g d [] start → AreFeasible g d start
  without start f u v j = omega (arith, f u v j)

  pub earliest_without : {start : ℕ → ℕ} → AreEarliestWithLags g d [] start → AreEarliest g d start
  earliest_without {start} s =
      record { feasible = without start s.feasible; least = λ other f. s.least other (with_none other f) }

  pub latest_without : {start : ℕ → ℕ} {time : ℕ} → AreLatestWithLags g d [] start time → AreLatest g d start time
  latest_without {start} s =
      record {
        feasible = without start s.feasible;
        met = s.met;
        greatest = λ other f. s.greatest other (with_none other f);
      }

  pub makespan_without : {start : ℕ → ℕ} {time : ℕ} → IsMakespanWithLags g d [] start time → IsMakespan g d start time
  makespan_without s = record { met = s.met; least = λ other earlier f. s.least other earlier (with_none other f) }

  none_along : (path : List ℕ) (p : IsPath g path) → lags_along g [] path p ≡ 0
  none_along [] p = absurd p
  none_along (n ∷ []) p = refl
  none_along (u ∷ v ∷ rest) p = omega (arith, none_along (v ∷ rest) p.2)

  pub critical_without : {nodes : List ℕ} {time : ℕ} → IsCriticalWithLags g d [] nodes time → IsCritical g d nodes time
  critical_without {nodes} s =
      elim s [
        | inl p ↦ record { path = inl p.0; sum = omega (arith, none_along nodes p.0, p.1) }
        | inr none ↦ record { path = inr (none.0, none.1); sum = ap (span d) none.0 ∙ sym none.2 }
      ]

  pub long_without : TakesTooLongWithLags g d [] → TakesTooLong g d
  long_without t = (t.0, t.1, omega (arith, t.2, none_along t.0 t.1))

  pub long_with_none : TakesTooLong g d → TakesTooLongWithLags g d []
  long_with_none t = (t.0, t.1, omega (arith, t.2))

module _ {N E : Type 0} (g : Graph N E) (finish : ℕ → ℕ) where
  waits_without : (v u : ℕ) → WaitsForWithLags g finish [] v u → IsLowestLast (λ m. AreJoined g m v) finish u
  waits_without v u s =
      record {
        here = s.edge;
        last = λ m j. omega (arith, s.last m j);
        lowest = λ m j is. s.lowest m j (omega (arith, is));
      }

  waited_without : (nodes : List ℕ) → AreWaitedFor g (WaitsForWithLags g finish []) finish nodes
      → AreWaitedFor g (λ v u. IsLowestLast (λ m. AreJoined g m v) finish u) finish nodes
  waited_without [] s = s
  waited_without (n ∷ []) s = s
  waited_without (u ∷ v ∷ rest) s = (waits_without v u s.0, waited_without (v ∷ rest) s.1)

  pub traced_without : {nodes : List ℕ} → IsTracedBackWithLags g finish [] nodes → IsTracedBack g finish nodes
  traced_without {nodes} s = record { waited_for = waited_without nodes s.waited_for; first = s.first }

-- two facts of a value, if there is one, give a third
pub if_both : {X Y : Type 0} (r : Result X Y) (P Q R : X → Type 0) → ((x : X) → P x → Q x → R x) → IfOk r P → IfOk r Q
    → IfOk r R
if_both (Ok x) P Q R both p q = both x p q
if_both (Err e) P Q R both p q = p
