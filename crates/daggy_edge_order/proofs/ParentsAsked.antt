-- A node that is asked for its parents, one by one.
use Rattle.std.proofs.Common.{◌≡◌, ℕ, suc, ◌<◌, ◌≤◌, inl, inr, Some, None, List, [], ◌∷◌, length}
use Rattle.std.proofs.Common.{get_or, drop, refl, sym, subst, ap, ◌∙◌, arith}
use Rattle.std.proofs.lemmas.Bool.{cases_lt}
use Rattle.std.proofs.lemmas.Option.{same_Some}
use Rattle.daggy_base.specs.declared.index.Direction.TheVariants.{Incoming}
use Rattle.daggy_base.specs.Graph.{Graph, Edge, in_list, edge_at}
use Rattle.daggy_base.specs.Cursor.{IsWalkStep, first_of, after, cursor_after}
use Rattle.daggy_base.specs.Path.{AreJoined}
use Rattle.daggy_base.specs.WellFormed.{IsWellFormed}
use Rattle.daggy_base.proofs.Lists.{Mem, mem_at, place_of, contains_mem, mem_contains, unique_from_distinct, first_at}
use Rattle.daggy_base.proofs.Lists.{first_past, after_at}
use Rattle.daggy_base.proofs.OutEdgesRead.{edge_below}
use Rattle.daggy_visit.proofs.WalkedEdges.{one_step}
use Rattle.daggy_base.specs.Ordered.{place}

-- the parents before the cursor all stand before b
pub record Asked {N E : Type 0} (end : ℕ) (g : Graph N E) (order : List ℕ) (a b cursor : ℕ) : Type 0 where
  pub passed : ℕ
  pub within : passed ≤ length (in_list g a)
  pub here : cursor ≡ first_of end (drop passed (in_list g a))
  pub before : (k : ℕ) → k < passed → (x : Edge E) → edge_at g (get_or (in_list g a) k end) ≡ Some x
      → place order x.parent < place order b

pub none_asked : {N E : Type 0} (end : ℕ) (g : Graph N E) (order : List ℕ) (a b cursor : ℕ)
    → cursor ≡ first_of end (in_list g a) → Asked end g order a b cursor
none_asked end g order a b cursor is =
    record { passed = 0; within = omega arith; here = is; before = λ k h. absurd (omega (arith, h)) }

module _ {N E : Type 0} {end : ℕ} {g : Graph N E} (f : IsWellFormed end g) {order : List ℕ} {a b cursor : ℕ}
    (s : Asked end g order a b cursor) where
  -- the edge that the cursor is at
  asked_at : s.passed < length (in_list g a) → Mem cursor (in_list g a)
  asked_at low =
      let P : ℕ → Type 0 = λ z. Mem z (in_list g a) in
      subst P (sym (s.here ∙ first_at (in_list g a) s.passed end low)) (mem_at (in_list g a) s.passed end low)

  -- no edge is left
  pub all_asked : edge_at g cursor ≡ None → (u : ℕ) → AreJoined g u a → place order u < place order b
  all_asked none u j =
      elim (cases_lt s.passed (length (in_list g a))) [
        | inl low ↦
            (let x = (f.in_of.exact a cursor).0 (mem_contains (in_list g a) cursor (asked_at low)) in absurd cc)
        | inr past ↦ (
            let m = contains_mem (in_list g a) j.0 ((f.in_of.exact a j.0).1 (_, j.2, refl)) in
            let at = place_of (in_list g a) j.0 end m in
            s.before at.0 (omega (arith, at.1, past)) _ (ap (edge_at g) at.2 ∙ j.2)
            )
      ]

  -- one more
  pub one_asked : (next : ℕ) (item : ℕ × ℕ) → IsWalkStep Incoming end g cursor (Some item) next
      → place order item.1 < place order b → Asked end g order a b next
  one_asked next item step before =
      let x = one_step Incoming end g cursor next item step in
      let list = in_list g a in
      let low : s.passed < length list = elim (cases_lt s.passed (length list)) [
        | inl l ↦ l
        | inr past ↦ (
            let below = edge_below end g f cursor x.0 x.1 in
            absurd (omega (arith, below, s.here, first_past list s.passed end past))
            )
      ] in
      let at = s.here ∙ first_at list s.passed end low in
      let y = (f.in_of.exact a cursor).0 (mem_contains list cursor (asked_at low)) in
      let same : y.0 ≡ x.0 = same_Some _ _ (sym y.1 ∙ x.1) in
      let child : x.0.child ≡ a = ap (λ (z : Edge E). z.child) (sym same) ∙ y.2 in
      let behind : cursor_after Incoming end g cursor (edge_at g cursor) ≡ after end list cursor =
      ap (cursor_after Incoming end g cursor) x.1 ∙ ap (λ k. after end (in_list g k) cursor) child in
      let on : after end list cursor ≡ first_of end (drop (suc s.passed) list) =
      ap (after end list) at ∙ after_at list s.passed end (unique_from_distinct list (f.in_of.once a)) low in
      record {
        passed = suc s.passed;
        within = omega (arith, low);
        here = step.next_is ∙ (behind ∙ on);
        before = λ k h z is. elim (cases_lt k s.passed) [
          | inl l ↦ s.before k l z is
          | inr l ↦ (
              let last : k ≡ s.passed = omega (arith, h, l) in
              let z_is : z ≡ x.0 =
              same_Some _ _
              (sym is ∙ (ap (λ i. edge_at g (get_or list i end)) last ∙ (ap (edge_at g) (sym at) ∙ x.1))) in
              omega (arith, before, ap (place order) x.2, ap (λ (w : Edge E). place order w.parent) z_is)
              )
        ];
      }

-- no parent is left from the start
pub no_parent : {N E : Type 0} {end : ℕ} {g : Graph N E} → IsWellFormed end g → (n : ℕ)
    → first_of end (in_list g n) ≡ end → (u : ℕ) → AreJoined g u n → ⊥
no_parent {N} {E} {end} {g} f n is u j =
    let m = contains_mem (in_list g n) j.0 ((f.in_of.exact n j.0).1 (_, j.2, refl)) in
    let x = (f.in_of.exact n end).0 (mem_contains (in_list g n) end (at_end (in_list g n) m is)) in
    absurd (omega (arith, edge_below end g f end x.0 x.1))
  where
    at_end : (xs : List ℕ) → Mem j.0 xs → first_of end xs ≡ end → Mem end xs
    at_end [] h e = absurd h
    at_end (x ∷ xs) h e = inl (sym e)
