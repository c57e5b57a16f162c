-- Lists by index that have 0 where there is no node, or no edge.
use Rattle.std.proofs.Common.{◌≡◌, ℕ, ◌+◌, ◌≤◌, ◌⊎◌, inl, inr, Bool, true, false, Option, Some, None, is_some, List, get_or, set, replicate, refl, sym, ap, subst}
use Rattle.std.proofs.Common.{◌∙◌, arith}
use Rattle.std.specs.Option.{option_map}
use Rattle.std.proofs.lemmas.Bool.{cases_eq, false≢true}
use Rattle.std.proofs.lemmas.List.{get_or-set_other}
use Rattle.daggy_base.specs.Graph.{Graph, Edge, HasNode, HasEdge, node_weight, edge_at}
use Rattle.daggy_base.specs.Weights.{edge_weight}
use Rattle.daggy_base.specs.WellFormed.{IsWellFormed}
use Rattle.daggy_schedule.specs.Times.{AreDoneBy, IsZeroElsewhere}
use Rattle.daggy_schedule.specs.Lags.{IsZeroWithoutEdge}
use Rattle.daggy_schedule.specs.Passes.{AreDelayed}
use Rattle.daggy_schedule.proofs.Starting.{all_zero}

module _ {N E : Type 0} (g : Graph N E) where
  pub zeros_elsewhere : (list : List ℕ) (size : ℕ) → list ≡ replicate size 0 → IsZeroElsewhere g list
  zeros_elsewhere list size is n none = ap (λ z. get_or z n 0) is ∙ all_zero size n

  -- a node is written
  pub set_elsewhere : (old new : List ℕ) (n value : ℕ) → HasNode g n → IsZeroElsewhere g old → new ≡ set old n value
      → IsZeroElsewhere g new
  set_elsewhere old new n value exists before is m none =
      elim (cases_eq m n) [
        | inl same ↦ (let H : ℕ → Type 0 = λ z. HasNode g z in absurd (none (subst H (sym same) exists)))
        | inr other ↦ ap (λ z. get_or z m 0) is ∙ (get_or-set_other old n m value 0 other ∙ before m none)
      ]

  pub no_lags : (list : List ℕ) (size : ℕ) → list ≡ replicate size 0 → IsZeroWithoutEdge g list
  no_lags list size is e none = ap (λ z. get_or z e 0) is ∙ all_zero size e

  -- what has a weight is an edge
  pub edge_weighed : (e : ℕ) (w : E) → edge_weight g e ≡ Some w → HasEdge g e
  edge_weighed e w has = sym (weighed (edge_at g e)) ∙ ap is_some has
    where
      weighed : (x : Option (Edge E)) → is_some (option_map (λ y. y.weight) x) ≡ is_some x
      weighed None = refl
      weighed (Some x) = refl

  -- the lag of an edge is written
  pub set_lag : (old new : List ℕ) (e value : ℕ) → HasEdge g e → IsZeroWithoutEdge g old → new ≡ set old e value
      → IsZeroWithoutEdge g new
  set_lag old new e value exists before is m none =
      elim (cases_eq m e) [
        | inl same ↦ (let H : ℕ → Type 0 = λ z. HasEdge g z in absurd (none (subst H (sym same) exists)))
        | inr other ↦ ap (λ z. get_or z m 0) is ∙ (get_or-set_other old e m value 0 other ∙ before m none)
      ]

  -- the children of a node are put off
  pub delayed_elsewhere : {end n finish : ℕ} {lags starts parents starts' parents' : List ℕ} → IsWellFormed end g
      → AreDelayed g n finish lags starts parents starts' parents' → IsZeroElsewhere g starts → IsZeroElsewhere g starts'
  delayed_elsewhere w delayed before v none =
      elim (delayed.noted v) [
        | inl same ↦ same.0 ∙ before v none
        | inr put ↦ absurd (none (w.children put.0.0 _ put.0.2))
      ]

  node_or_not : (n : ℕ) → HasNode g n ⊎ (HasNode g n → ⊥)
  node_or_not n = by_test (is_some (node_weight g n)) refl
    where
      by_test : (b : Bool) → is_some (node_weight g n) ≡ b → HasNode g n ⊎ (HasNode g n → ⊥)
      by_test true is = inl is
      by_test false is = inr (λ h. false≢true (sym is ∙ h))

  -- what has 0 elsewhere ends by a time at each index, if it does at the nodes
  pub ends_by : (d starts : List ℕ) {time : ℕ} → AreDoneBy g d (λ n. get_or starts n 0) time → IsZeroElsewhere g starts
      → IsZeroElsewhere g d → (i : ℕ) → get_or starts i 0 + get_or d i 0 ≤ time
  ends_by d starts by starts_none none i =
      elim (node_or_not i) [
        | inl here ↦ by i here
        | inr gone ↦ omega (arith, starts_none i gone, none i gone)
      ]
