-- A cursor that goes along the list of a node.
use Rattle.std.proofs.Common.{◌≡◌, ◌≢◌, ℕ, suc, ◌+◌, ◌<◌, ◌≤◌, inl, inr, Some, List, [], ◌∷◌, ◌++◌, length, get_or, take}
use Rattle.std.proofs.Common.{zero, ◌-◌, drop, refl, sym, ap, subst, ◌∙◌, add-one, arith}
use Rattle.std.proofs.lemmas.Bool.{cases_lt}
use Rattle.std.proofs.lemmas.List.{take_more, take_all}
use Rattle.daggy_base.specs.declared.index.Direction.{Direction}
use Rattle.daggy_base.specs.declared.index.Direction.TheVariants.{Outgoing, Incoming}
use Rattle.daggy_base.specs.Graph.{Graph, Edge, edge_at, list_at, near_end}
use Rattle.daggy_base.specs.Cursor.{first_of, after, cursor_after}
use Rattle.daggy_base.specs.Ordered.{place}
use Rattle.daggy_base.specs.WellFormed.{IsWellFormed}
use Rattle.daggy_base.proofs.Lists.{Mem, Unique, mem_at, mem_contains, unique_from_distinct, first_at, first_past}
use Rattle.daggy_base.proofs.Lists.{after_at}
use Rattle.daggy_base.proofs.OutEdgesRead.{edge_below}
use Rattle.daggy_base.proofs.Sorted.{place_same, place_other}

-- it is at the element that follows the first k
pub record IsAt (end : ℕ) (list : List ℕ) (k e : ℕ) : Type 0 where
  pub within : k ≤ length list
  pub cursor : e ≡ first_of end (drop k list)

-- where it stands
place_cursor : (end : ℕ) (list : List ℕ) (k : ℕ)
    → Unique list → (Mem end list → ⊥) → k ≤ length list → place list (first_of end (drop k list)) ≡ k
place_cursor end [] k once absent within = omega arith
place_cursor end (x ∷ xs) zero once absent within = place_same x x xs refl
place_cursor end (x ∷ xs) (suc k) once absent within =
    let y = first_of end (drop k xs) in
    let apart : x ≡ y → ⊥ = λ same.
    elim (cases_lt k (length xs)) [
      | inl a ↦ once.0 (subst (λ z. Mem z xs) (sym (same ∙ first_at xs k end a)) (mem_at xs k end a))
      | inr b ↦ absent (inl (sym (same ∙ first_past xs k end b)))
    ] in
    place_other x y xs apart ∙ ap suc (place_cursor end xs k once.1 (λ m. absent (inr m)) (omega arith))

module _ {N E : Type 0} {end : ℕ} {g : Graph N E} (w : IsWellFormed end g) where
  member_at : (dir : Direction) (n e : ℕ)
      → Mem e (list_at dir g n) → (x : Edge E) × (edge_at g e ≡ Some x) × (near_end dir x ≡ n)
  member_at Outgoing n e m = (w.out_of.exact n e).0 (mem_contains _ _ m)
  member_at Incoming n e m = (w.in_of.exact n e).0 (mem_contains _ _ m)

  unique_at : (dir : Direction) (n : ℕ) → Unique (list_at dir g n)
  unique_at Outgoing n = unique_from_distinct _ (w.out_of.once n)
  unique_at Incoming n = unique_from_distinct _ (w.in_of.once n)

  absent_at : (dir : Direction) (n : ℕ) → Mem end (list_at dir g n) → ⊥
  absent_at dir n m =
      let x = member_at dir n end m in
      let low = edge_below end g w end x.0 x.1 in
      omega (arith, low)

  module _ (dir : Direction) (n : ℕ) {k e : ℕ} (s : IsAt end (list_at dir g n) k e) where
    pub at_element : e ≢ end → (k < length (list_at dir g n)) × (e ≡ get_or (list_at dir g n) k end)
    at_element h =
        elim (cases_lt k (length (list_at dir g n))) [
          | inl a ↦ (a, s.cursor ∙ first_at _ _ end a)
          | inr b ↦ absurd (h (s.cursor ∙ first_past _ _ end b))
        ]

    pub at_edge : e ≢ end → (x : Edge E) × (edge_at g e ≡ Some x) × (near_end dir x ≡ n)
    at_edge h = let p = at_element h in member_at dir n e (rw p.1 (mem_at _ k end p.0))

    pub at_whole : e ≡ end → take k (list_at dir g n) ≡ list_at dir g n
    at_whole at_end =
        elim (cases_lt k (length (list_at dir g n))) [
          | inl a ↦ (
              let x = member_at dir n _ (mem_at (list_at dir g n) k end a) in
              let low = edge_below end g w _ x.0 x.1 in
              let is : e ≡ get_or (list_at dir g n) k end = s.cursor ∙ first_at _ _ end a in
              absurd (omega arith)
              )
          | inr b ↦ take_all k (list_at dir g n) b
        ]

    pub at_front : e ≢ end → take (k + 1) (list_at dir g n) ≡ take k (list_at dir g n) ++ e ∷ []
    at_front h =
        let p = at_element h in
        take_more (list_at dir g n) k end p.0 ∙ ap (λ i. take k (list_at dir g n) ++ i ∷ []) (sym p.1)

    pub at_next : e ≢ end → {e' : ℕ} → e' ≡ cursor_after dir end g e (edge_at g e) → IsAt end (list_at dir g n) (k + 1) e'
    at_next h next =
        let p = at_element h in
        let x = at_edge h in
        let list = list_at dir g n in
        let after_x : cursor_after dir end g e (edge_at g e) ≡ after end list e =
        ap (cursor_after dir end g e) x.1 ∙ ap (λ i. after end (list_at dir g i) e) x.2 in
        let behind : after end list e ≡ first_of end (drop (suc k) list) =
        ap (after end list) p.1 ∙ after_at list k end (unique_at dir n) p.0 in
        record {
          within = omega (arith, p.0);
          cursor = next ∙ (after_x ∙ (behind ∙ ap (λ i. first_of end (drop i list)) (sym (add-one k))));
        }

    at_place : place (list_at dir g n) e ≡ k
    at_place =
        ap (place (list_at dir g n)) s.cursor
        ∙ place_cursor end (list_at dir g n) k (unique_at dir n) (absent_at dir n) s.within

  pub at_closer : (dir : Direction) (n : ℕ) {k e e' : ℕ} → IsAt end (list_at dir g n) k e → e ≢ end
      → e' ≡ cursor_after dir end g e (edge_at g e)
      → length (list_at dir g n) - place (list_at dir g n) e' < length (list_at dir g n) - place (list_at dir g n) e
  at_closer dir n {k} {e} {e'} s h next =
      let more = (at_element dir n s h).0 in
      let before : place (list_at dir g n) e ≡ k = at_place dir n s in
      let behind : place (list_at dir g n) e' ≡ k + 1 = at_place dir n (at_next dir n s h next) in
      omega (arith, more, before, behind)
