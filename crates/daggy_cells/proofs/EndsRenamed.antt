-- Giving the edges of a list to another node.
use Rattle.std.proofs.Common.{◌≡◌, ◌≢◌, ◌↔◌, ℕ, suc, ◌<◌, ◌≤◌, List, [], ◌∷◌, map, length, get_or, set, Some, slice_get}
use Rattle.std.proofs.Common.{refl, sym, ap, subst, ◌∙◌, inl, inr, arith, Contains}
use Rattle.std.proofs.lemmas.Bool.{cases_eq}
use Rattle.std.proofs.lemmas.List.{length-map, length-set, map-set}
use Rattle.std.proofs.lemmas.Option.{slice_get_within, same_Some}
use Rattle.std.proofs.lemmas.Map.Made.{Contains-tail}
use Rattle.daggy_base.specs.Cursor.{first_of}
use Rattle.daggy_base.specs.Removal.{renamed}
use Rattle.daggy_cells.specs.declared.cell.Edge.{Edge}
use Rattle.daggy_base.specs.declared.index.Direction.{Direction}
use Rattle.daggy_base.specs.declared.index.Direction.TheVariants.{Outgoing, Incoming}
use Rattle.daggy_cells.specs.Links.{IsLinkedList}
use Rattle.daggy_cells.specs.Raw.{raw_next}
use Rattle.daggy_cells.specs.Fields.{end_at, with_end, with_end_renamed, nexts_of, ends_of, list_from}
use Rattle.daggy_base.proofs.Lists.{Contains-here, Contains-there, Contains-nil, slice_get-set_same}
use Rattle.daggy_base.proofs.Lists.{slice_get-set_other, map-set_same, slice_get_mapped}
use Rattle.daggy_cells.proofs.LinkedLists.{renamed_here, renamed_other, row_splits, row_is, IsLinkedList-tail}
use Rattle.daggy_cells.proofs.LinkedLists.{after_here}

-- the edges so far, where the rest of the list from e on still has the node from
pub record IsReassigning {E Ix : Type 0} (end : ℕ) (dir : Direction) (from to : ℕ) (old now : List (Edge E Ix))
    (e : ℕ) : Type 0 where
  pub rest : List ℕ
  pub linked : IsLinkedList end (nexts_of dir now) e rest
  pub exact : (f : ℕ) → Contains rest f ↔ (slice_get (ends_of dir now) f ≡ Some from)
  pub same : map (with_end_renamed dir from to) now ≡ map (with_end_renamed dir from to) old
  pub long : length now ≡ length old

module _ {E Ix : Type 0} (end : ℕ) (dir : Direction) (from to : ℕ) where
  with_same : (d : Direction) (x : Edge E Ix) → with_end d x (end_at d x) ≡ x
  with_same Outgoing x = refl
  with_same Incoming x = refl

  end_with : (d : Direction) (x : Edge E Ix) (n : ℕ) → end_at d (with_end d x n) ≡ n
  end_with Outgoing x n = refl
  end_with Incoming x n = refl

  with_with : (d : Direction) (x : Edge E Ix) (m n : ℕ) → with_end d (with_end d x m) n ≡ with_end d x n
  with_with Outgoing x m n = refl
  with_with Incoming x m n = refl

  next_with : (d : Direction) (x : Edge E Ix) (n : ℕ) → raw_next d (with_end d x n) ≡ raw_next d x
  next_with Outgoing x n = refl
  next_with Incoming x n = refl

  -- an edge that has another node stays as it is
  reassigned_other : (x : Edge E Ix) → end_at dir x ≢ from → with_end_renamed dir from to x ≡ x
  reassigned_other x differs = ap (with_end dir x) (renamed_other from to (end_at dir x) differs) ∙ with_same dir x

  map-reassigned_none : (es : List (Edge E Ix))
      → ((f : ℕ) → slice_get (ends_of dir es) f ≢ Some from) → map (with_end_renamed dir from to) es ≡ es
  map-reassigned_none [] none = refl
  map-reassigned_none (x ∷ xs) none =
      ap (λ z. z ∷ map (with_end_renamed dir from to) xs) (reassigned_other x (λ q. none 0 (ap Some q)))
      ∙ ap (λ l. x ∷ l) (map-reassigned_none xs (λ f q. none (suc f) q))

  pub reassigning_done : (old now : List (Edge E Ix)) (e : ℕ)
      → IsReassigning end dir from to old now e → length now ≤ e → now ≡ map (with_end_renamed dir from to) old
  reassigning_done old now e r past =
      sym (map-reassigned_none now (λ f q. nothing r.rest r.linked f ((r.exact f).1 q))) ∙ r.same
    where
      nothing : (rest : List ℕ) → IsLinkedList end (nexts_of dir now) e rest → (f : ℕ) → Contains rest f → ⊥
      nothing [] row f p = Contains-nil f p
      nothing (x ∷ xs) row f p =
          let within : x < length (nexts_of dir now) =
          slice_get_within (nexts_of dir now) x _ (row.goes_on x (Contains-here x xs)) in
          absurd (omega (arith, within, past, row.starts, length-map now (raw_next dir)))

  -- a step
  module _ (old now : List (Edge E Ix)) (e : ℕ) (x : Edge E Ix) (r : IsReassigning end dir from to old now e)
      (within : e < length now) (few : length now ≤ end) (is : x ≡ get_or now e x) (differ : from ≢ to) where
    nexts_long : length (nexts_of dir now) ≡ length now
    nexts_long = length-map now (raw_next dir)

    split : (more : List ℕ) × (r.rest ≡ e ∷ more)
    split =
        row_splits end (nexts_of dir now) e r.rest r.linked (omega (arith, within, nexts_long))
        (omega (arith, few, nexts_long))

    row_e : IsLinkedList end (nexts_of dir now) e (e ∷ split.0)
    row_e = subst (IsLinkedList end (nexts_of dir now) e) split.1 r.linked

    goes : slice_get (nexts_of dir now) e ≡ Some (raw_next dir x)
    goes = slice_get_mapped (raw_next dir) now e x within is

    next_first : first_of end split.0 ≡ raw_next dir x
    next_first =
        same_Some _ (raw_next dir x)
        (ap Some (sym (after_here end e split.0)) ∙ sym (row_e.goes_on e (Contains-here e split.0)) ∙ goes)

    end_x : end_at dir x ≡ from
    end_x =
        same_Some _ from (sym (slice_get_mapped (end_at dir) now e x within is)
        ∙ (r.exact e).0 (subst (λ l. Contains l e) (sym split.1) (Contains-here e split.0)))

    nexts_same : nexts_of dir (set now e (with_end dir x to)) ≡ nexts_of dir now
    nexts_same = map-set_same (raw_next dir) now e x (with_end dir x to) is (next_with dir x to)

    ends_now : ends_of dir (set now e (with_end dir x to)) ≡ set (ends_of dir now) e to
    ends_now = map-set (end_at dir) now e (with_end dir x to) ∙ ap (set (ends_of dir now) e) (end_with dir x to)

    pub reassigning_step : IsReassigning end dir from to old (set now e (with_end dir x to)) (raw_next dir x)
    reassigning_step =
        let now' = set now e (with_end dir x to) in
        record {
          rest = split.0;
          linked =
              subst (λ l. IsLinkedList end l (raw_next dir x) split.0) (sym nexts_same)
              (subst (λ z. IsLinkedList end (nexts_of dir now) z split.0) next_first
              (IsLinkedList-tail end (nexts_of dir now) e split.0 row_e));
          exact = λ f. elim (cases_eq f e) [
            | inl at_e ↦ (
              λ p. absurd (row_e.distinct.0 (subst (Contains split.0) at_e p)),
              λ q. absurd (differ (sym (same_Some to from (sym (slice_get-set_same (ends_of dir now) e to (omega (
                arith,
                within,
                length-map now (end_at dir),
              ))) ∙ sym (ap (λ l. slice_get l e) ends_now) ∙ ap (slice_get (ends_of dir now')) (sym at_e) ∙ q)))),
            )
            | inr other ↦
                let stands : slice_get (ends_of dir now') f ≡ slice_get (ends_of dir now) f =
                ap (λ l. slice_get l f) ends_now ∙ slice_get-set_other (ends_of dir now) e f to other in (
                  λ p. stands ∙ (r.exact f).0 (subst (λ l. Contains l f) (sym split.1) (Contains-there e f split.0 p)),
                  λ q.
                      Contains-tail e split.0 f (λ z. other (sym z))
                      (subst (λ l. Contains l f) split.1 ((r.exact f).1 (sym stands ∙ q))),
                )
          ];
          same = map-set_same (with_end_renamed dir from to) now e x (with_end dir x to) is (
              ap (λ n. with_end dir (with_end dir x to) (renamed from to n)) (end_with dir x to)
              ∙ with_with dir x to (renamed from to to)
              ∙ ap (with_end dir x) (renamed_other from to to (λ q. differ (sym q)))
              ∙ sym (ap (λ n. with_end dir x (renamed from to n)) end_x ∙ ap (with_end dir x) (renamed_here from to)))
              ∙ r.same;
          long = length-set now e (with_end dir x to) ∙ r.long;
        }

    pub reassigning_shorter : length (list_from dir (set now e (with_end dir x to)) (raw_next dir x))
        < length (list_from dir now e)
    reassigning_shorter =
        let limit : length (nexts_of dir now) ≤ end = omega (arith, few, nexts_long) in
        let here = row_is end e (nexts_of dir now) (e ∷ split.0) row_e limit in
        let tail =
        row_is end (raw_next dir x) (nexts_of dir now) split.0
        (subst (λ z. IsLinkedList end (nexts_of dir now) z split.0) next_first
        (IsLinkedList-tail end (nexts_of dir now) e split.0 row_e)) limit in
        rw (nexts_same, here, tail) (omega arith)

  -- in the words of the code
  pub reassigning_code : {old now : List (Edge E Ix)} {e i next : ℕ} {x y : Edge E Ix}
      → IsReassigning end dir from to old now e → i ≡ e → i < length now → length now ≤ end → x ≡ get_or now i x
      → y ≡ with_end dir x to → next ≡ raw_next dir y → from ≢ to
      → IsReassigning end dir from to old (set now i y) next
      × (length (list_from dir (set now i y) next) < length (list_from dir now e))
  reassigning_code {old} {now} {e} {i} {next} {x} {y} r i_is within few is y_is next_is differ =
      let is_e : x ≡ get_or now e x = is ∙ ap (λ z. get_or now z x) i_is in
      let in_e : e < length now = omega (arith, within, i_is) in
      let next_x : next ≡ raw_next dir x = next_is ∙ ap (raw_next dir) y_is ∙ next_with dir x to in
      let written : set now i y ≡ set now e (with_end dir x to) = ap (λ z. set now z y) i_is ∙ ap (set now e) y_is in (
        rw (written, next_x) (reassigning_step old now e x r in_e few is_e differ),
        rw (written, next_x) (reassigning_shorter old now e x r in_e few is_e differ),
      )
