-- Lists in descending order: by the edge after each, and by their members.
use Rattle.std.proofs.Common.{◌≡◌, ℕ, suc, ◌<◌, inl, inr, ◌⊎◌, Some, is_some, List, [], ◌∷◌, length, eqb, refl, sym, ap, subst}
use Rattle.std.proofs.Common.{◌∙◌, arith}
use Rattle.std.proofs.lemmas.Bool.{cases_eq, eq-eqb, ne_eqb, cond-true, cond-false}
use Rattle.daggy_base.specs.declared.index.Direction.{Direction}
use Rattle.daggy_base.specs.declared.index.Direction.TheVariants.{Outgoing, Incoming}
use Rattle.daggy_base.specs.Graph.{Graph, Edge, edge_at, HasEdge, list_at, near_end}
use Rattle.daggy_base.specs.Cursor.{first_of, after, cursor_after}
use Rattle.daggy_base.specs.Filtering.{ListsDescend}
use Rattle.daggy_base.specs.Reduction.{IsDescending}
use Rattle.daggy_base.specs.WellFormed.{IsWellFormed}
use Rattle.daggy_base.proofs.Lists.{Mem, Unique, contains_mem, mem_contains, unique_from_distinct}
use Rattle.daggy_base.proofs.OutEdgesRead.{edge_below}
use Rattle.daggy_json.specs.Passing.{Descends}
use Rattle.daggy_json.proofs.MarkedLists.{row}
use Rattle.daggy_json.proofs.Parts.{slot_some}

-- ---- one list

rest_descends : (x : ℕ) (xs : List ℕ) → IsDescending (x ∷ xs) → IsDescending xs
rest_descends x [] d = tt
rest_descends x (y ∷ xs) d = d.1

below_head : (x : ℕ) (xs : List ℕ) → IsDescending (x ∷ xs) → (e : ℕ) → Mem e xs → e < x
below_head x [] d e m = absurd m
below_head x (y ∷ xs) d e m =
    let step : y < x = d.0 in
    elim m [
      | inl same ↦ omega (arith, step, same)
      | inr there ↦ let low = below_head y xs d.1 e there in omega (arith, step, low)
    ]

-- lists of the same members
pub same_descending : (xs ys : List ℕ) → IsDescending xs → IsDescending ys
    → ((e : ℕ) → Mem e xs → Mem e ys) → ((e : ℕ) → Mem e ys → Mem e xs) → xs ≡ ys
same_descending [] [] d f there back = refl
same_descending [] (y ∷ ys) d f there back = absurd (back y (inl refl))
same_descending (x ∷ xs) [] d f there back = absurd (there x (inl refl))
same_descending (x ∷ xs) (y ∷ ys) d f there back =
    ap (λ z. z ∷ xs) head
    ∙ ap (λ l. y ∷ l) (same_descending xs ys (rest_descends x xs d) (rest_descends y ys f) there_rest back_rest)
  where
    head : x ≡ y
    head =
        elim (there x (inl refl)) [
          | inl same ↦ same
          | inr low ↦ elim (back y (inl refl)) [
            | inl same ↦ sym same
            | inr high ↦
                let a = below_head y ys f x low in
                let b = below_head x xs d y high in
                absurd (omega (arith, a, b))
          ]
        ]

    there_rest : (e : ℕ) → Mem e xs → Mem e ys
    there_rest e m =
        elim (there e (inr m)) [
          | inl same ↦ let low = below_head x xs d e m in absurd (omega (arith, low, same, head))
          | inr rest ↦ rest
        ]

    back_rest : (e : ℕ) → Mem e ys → Mem e xs
    back_rest e m =
        elim (back e (inr m)) [
          | inl same ↦ let low = below_head y ys f e m in absurd (omega (arith, low, same, head))
          | inr rest ↦ rest
        ]

-- lists of lists, row by row
pub same_rows : (xs ys : List (List ℕ)) → length xs ≡ length ys
    → ((n : ℕ) → n < length xs → row xs n ≡ row ys n) → xs ≡ ys
same_rows [] [] long alike = refl
same_rows [] (y ∷ ys) long alike = absurd (omega (arith, long))
same_rows (x ∷ xs) [] long alike = absurd (omega (arith, long))
same_rows (x ∷ xs) (y ∷ ys) long alike =
    ap (λ z. z ∷ xs) (alike 0 (omega arith))
    ∙ ap (λ l. y ∷ l)
    (same_rows xs ys (omega (arith, long)) (λ n low. alike (suc n) (omega (arith, low))))

-- ---- by what follows each member

module _ (end : ℕ) where
  -- what follows a member is lower, or nothing
  abbrev Falls : ℕ → ℕ → Type 0
  Falls next e = (next ≡ end) ⊎ (next < e)

  after_here : (x e : ℕ) (xs : List ℕ) → x ≡ e → after end (x ∷ xs) e ≡ first_of end xs
  after_here x e xs same = cond-true (eqb x e) (first_of end xs) (after end xs e) (eq-eqb x e same)

  after_later : (x e : ℕ) (xs : List ℕ) → (x ≡ e → ⊥) → after end (x ∷ xs) e ≡ after end xs e
  after_later x e xs other = cond-false (eqb x e) (first_of end xs) (after end xs e) (ne_eqb x e other)

  descends_from : (l : List ℕ) → Unique l → ((e : ℕ) → Mem e l → e < end)
      → ((e : ℕ) → Mem e l → Falls (after end l e) e) → IsDescending l
  descends_from [] once low falls = tt
  descends_from (x ∷ []) once low falls = tt
  descends_from (x ∷ y ∷ xs) once low falls =
      (head, descends_from (y ∷ xs) once.1 (λ e m. low e (inr m)) rest)
    where
      next : after end (x ∷ y ∷ xs) x ≡ y
      next = after_here x x (y ∷ xs) refl

      head : y < x
      head =
          elim (falls x (inl refl)) [
            | inl none ↦ let below = low y (inr (inl refl)) in absurd (omega (arith, none, next, below))
            | inr less ↦ omega (arith, less, next)
          ]

      rest : (e : ℕ) → Mem e (y ∷ xs) → Falls (after end (y ∷ xs) e) e
      rest e m =
          subst (λ k. Falls k e)
          (after_later x e (y ∷ xs) (λ same. once.0 (subst (λ z. Mem z (y ∷ xs)) (sym same) m)))
          (falls e (inr m))

  first_falls : (x : ℕ) (xs : List ℕ) → IsDescending (x ∷ xs) → Falls (first_of end xs) x
  first_falls x [] d = inl refl
  first_falls x (y ∷ xs) d = inr d.0

  falls_in : (l : List ℕ) → IsDescending l → (e : ℕ) → Mem e l → Falls (after end l e) e
  falls_in [] d e m = absurd m
  falls_in (x ∷ xs) d e m =
      elim (cases_eq x e) [
        | inl same ↦ subst (λ k. Falls k e) (sym (after_here x e xs same))
            (subst (λ z. Falls (first_of end xs) z) same (first_falls x xs d))
        | inr other ↦ subst (λ k. Falls k e) (sym (after_later x e xs other))
            (falls_in xs (rest_descends x xs d) e
            (elim m [ inl same ↦ absurd (other (sym same)) | inr there ↦ there ]))
      ]

-- ---- the lists of a graph

module _ {N E : Type 0} {end : ℕ} {g : Graph N E} (w : IsWellFormed end g) where
  member_at : (dir : Direction) (n e : ℕ)
      → Mem e (list_at dir g n) → (x : Edge E) × (edge_at g e ≡ Some x) × (near_end dir x ≡ n)
  member_at Outgoing n e m = (w.out_of.exact n e).0 (mem_contains _ _ m)
  member_at Incoming n e m = (w.in_of.exact n e).0 (mem_contains _ _ m)

  listed_at : (dir : Direction) (e : ℕ) (x : Edge E) → edge_at g e ≡ Some x → Mem e (list_at dir g (near_end dir x))
  listed_at Outgoing e x is = contains_mem _ _ ((w.out_of.exact x.parent e).1 (x, is, refl))
  listed_at Incoming e x is = contains_mem _ _ ((w.in_of.exact x.child e).1 (x, is, refl))

  unique_at : (dir : Direction) (n : ℕ) → Unique (list_at dir g n)
  unique_at Outgoing n = unique_from_distinct _ (w.out_of.once n)
  unique_at Incoming n = unique_from_distinct _ (w.in_of.once n)

  after_at : (dir : Direction) (n e : ℕ) (x : Edge E) → edge_at g e ≡ Some x → near_end dir x ≡ n
      → cursor_after dir end g e (edge_at g e) ≡ after end (list_at dir g n) e
  after_at dir n e x is near =
      ap (cursor_after dir end g e) is ∙ ap (λ i. after end (list_at dir g i) e) near

  pub lists_descend_from : ((e : ℕ) → HasEdge g e → (dir : Direction) → Descends end g dir e) → ListsDescend g
  lists_descend_from falls dir n =
      descends_from end (list_at dir g n) (unique_at dir n)
      (λ e m. let x = member_at dir n e m in edge_below end g w e x.0 x.1)
      (λ e m. let x = member_at dir n e m in
      subst (λ k. Falls end k e) (after_at dir n e x.0 x.1 x.2) (falls e (ap is_some x.1) dir))

  pub descends_in : ListsDescend g → (e : ℕ) → HasEdge g e → (dir : Direction) → Descends end g dir e
  descends_in down e exists dir =
      let x = slot_some (edge_at g e) exists in
      subst (λ k. Falls end k e) (sym (after_at dir (near_end dir x.0) e x.0 x.1 refl))
      (falls_in end (list_at dir g (near_end dir x.0)) (down dir (near_end dir x.0)) e (listed_at dir e x.0 x.1))
