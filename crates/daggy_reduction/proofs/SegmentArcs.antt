-- The arcs of a segment.
use Rattle.std.proofs.Common.{◌≡◌, ℕ, ◌+◌, ◌<◌, ◌≤◌, ◌⊎◌, ◌↔◌, inl, inr, List, length, get_or, sym, ap, subst, ◌∙◌, arith}
use Rattle.std.proofs.lemmas.Bool.{cases_lt}
use Rattle.std.proofs.lemmas.List.{get_or_default}
use Rattle.daggy_base.specs.Graph.{Graph}
use Rattle.daggy_search.specs.declared.arcs.Arc.{Arc}
use Rattle.daggy_search.specs.declared.arcs.Segment.{Segment}
use Rattle.daggy_reduction.specs.Blocks.{IsIn, AreArcsOf}

module _ {I : Type 0} where
  -- an arc up to the next position is one before it, or the one there
  pub in_step : (arcs : List (Arc I)) (begin k : ℕ) (x : Arc I) → begin ≤ k → k < length arcs → x ≡ get_or arcs k x
      → (a : Arc I) → IsIn arcs (record { begin = begin; end = k + 1 }) a
      ↔ (IsIn arcs (record { begin = begin; end = k }) a ⊎ (a ≡ x))
  in_step arcs begin k x from low x_is a = (
    λ (j, after, till, is).
        elim (cases_lt j k) [
          | inl early ↦ inl (j, after, early, is)
          | inr late ↦
              (let here : j ≡ k = omega (arith, till, late) in
              inr (sym is ∙ ap (λ z. get_or arcs z a) here ∙ get_or_default arcs k a x low ∙ sym x_is))
        ],
    λ h.
        elim h [
          | inl (j, after, early, is) ↦ (j, after, omega (arith, early), is)
          | inr same ↦
              (let P : Arc I → Type 0 = λ z. get_or arcs k z ≡ z in
              (k, from, omega arith, subst P (sym same) (sym x_is)))
        ],
  )

  pub in_none : (arcs : List (Arc I)) (begin : ℕ) (a : Arc I) → ¬ IsIn arcs (record { begin = begin; end = begin }) a
  in_none arcs begin a (j, from, till, is) = omega (arith, from, till)

  -- an arc that is read is one of all
  pub read_in : (arcs : List (Arc I)) (s : Segment) (k : ℕ) (x : Arc I)
      → s.begin ≤ k → k < s.end → x ≡ get_or arcs k x → IsIn arcs s x
  read_in arcs s k x from till x_is = (k, from, till, sym x_is)

  -- where the list is the same along a segment, so are its arcs
  pub in_same : (old new : List (Arc I)) (s : Segment)
      → ((j : ℕ) (a : Arc I) → s.begin ≤ j → j < s.end → get_or new j a ≡ get_or old j a)
      → (a : Arc I) → IsIn new s a ↔ IsIn old s a
  in_same old new s same a = (
    λ (j, from, till, is). (j, from, till, sym (same j a from till) ∙ is),
    λ (j, from, till, is). (j, from, till, same j a from till ∙ is),
  )

  pub arcs_same : {N E : Type 0} {number : I → ℕ} {g : Graph N E} {places : List ℕ} {low u : ℕ} {old new : List (Arc I)}
      {s s' : Segment} → ((a : Arc I) → IsIn new s' a ↔ IsIn old s a) → AreArcsOf number g places low u old s
      → AreArcsOf number g places low u new s'
  arcs_same same are =
      record {
        real = λ a inside. are.real a ((same a).0 inside);
        all = λ e p l.
            elim (are.all e p l) [
              | inl (a, inside, e_is, p_is) ↦ inl (a, (same a).1 inside, e_is, p_is)
              | inr spare ↦ inr spare
            ];
      }

  -- what may be left out before a place may be left out before a later one
  pub arcs_later : {N E : Type 0} {number : I → ℕ} {g : Graph N E} {places : List ℕ} {low high u : ℕ}
      {arcs : List (Arc I)} {s : Segment} → low ≤ high → AreArcsOf number g places low u arcs s
      → AreArcsOf number g places high u arcs s
  arcs_later up are =
      record {
        real = are.real;
        all = λ e p l.
            elim (are.all e p l) [ inl there ↦ inl there | inr (early, round) ↦ inr (omega (arith, early, up), round) ];
      }
