-- Slots: adding one, filling one, vacating one, removing the last.
use Rattle.std.proofs.Common.{◌≡◌, ◌≢◌, ℕ, zero, suc, ◌+◌, ◌<◌, ◌≤◌, List, [], ◌∷◌, ◌++◌, length, set, take, Option}
use Rattle.std.proofs.Common.{Some, None, is_some, slice_get, refl, sym, ap, subst, ◌∙◌, inl, inr, arith, Contains}
use Rattle.std.specs.List.{count_by}
use Rattle.std.proofs.lemmas.Bool.{cases_eq, cases_lt}
use Rattle.std.proofs.lemmas.List.{length-set, length-take-le}
use Rattle.daggy_base.proofs.Slots.{count_cons}
use Rattle.std.proofs.lemmas.Option.{slice_get_within, same_Some, none-some}
use Rattle.std.proofs.lemmas.Map.Made.{Contains-tail}
use Rattle.daggy_base.specs.Graph.{slot}
use Rattle.daggy_base.specs.Cursor.{first_of, after}
use Rattle.daggy_base.proofs.OutEdgesRead.{slot_get}
use Rattle.daggy_base.proofs.FullSlots.{count_full, full_from}
use Rattle.daggy_cells.specs.Links.{follow, IsLinkedList}
use Rattle.daggy_base.proofs.Lists.{Contains-here, Contains-there, slice_get-set_same, slice_get-set_other}
use Rattle.daggy_base.proofs.Lists.{slice_get-take, slice_get-take_past}
use Rattle.daggy_cells.proofs.LinkedLists.{after_here, after_there, row_is, IsLinkedList-tail}
use Rattle.daggy_cells.proofs.LinkedListChanges.{IsLinkedList-kept}
use Rattle.daggy_stable.specs.Stored.{IsFreeList}

module _ {A : Type 0} where
  -- how many are not vacant

  pub count_push : (xs : List (Option A)) (x : A) → count_by is_some (xs ++ Some x ∷ []) ≡ suc (count_by is_some xs)
  count_push [] x = let step = count_cons (Some x) [] in omega (arith, step)
  count_push (z ∷ zs) x =
      let more = count_push zs x in
      let left = count_cons z (zs ++ Some x ∷ []) in
      let right = count_cons z zs in
      omega (arith, more, left, right)

  pub count_fill : (xs : List (Option A)) (v : ℕ) (x : A)
      → slice_get xs v ≡ Some None → count_by is_some (set xs v (Some x)) ≡ suc (count_by is_some xs)
  count_fill [] v x h = absurd (none-some None h)
  count_fill (None ∷ zs) zero x h = let left = count_cons (Some x) zs in
      let right = count_cons None zs in omega (arith, left, right)
  count_fill (Some y ∷ zs) zero x h = absurd (none-some y (sym (same_Some (Some y) None h)))
  count_fill (z ∷ zs) (suc v) x h =
      let more = count_fill zs v x h in
      let left = count_cons z (set zs v (Some x)) in
      let right = count_cons z zs in
      omega (arith, more, left, right)

  pub count_vacate : (xs : List (Option A)) (e : ℕ) (x : A)
      → slot xs e ≡ Some x → count_by is_some xs ≡ suc (count_by is_some (set xs e None))
  count_vacate [] e x h = absurd (none-some x h)
  count_vacate (None ∷ zs) zero x h = absurd (none-some x h)
  count_vacate (Some y ∷ zs) zero x h = let left = count_cons (Some y) zs in
      let right = count_cons None zs in omega (arith, left, right)
  count_vacate (z ∷ zs) (suc e) x h =
      let more = count_vacate zs e x h in
      let left = count_cons z (set zs e None) in
      let right = count_cons z zs in
      omega (arith, more, left, right)

  pub count_keep : (xs : List (Option A)) (e : ℕ) (x y : A)
      → slot xs e ≡ Some x → count_by is_some (set xs e (Some y)) ≡ count_by is_some xs
  count_keep [] e x y h = refl
  count_keep (None ∷ zs) zero x y h = absurd (none-some x h)
  count_keep (Some z ∷ zs) zero x y h = let left = count_cons (Some y) zs in
      let right = count_cons (Some z) zs in omega (arith, left, right)
  count_keep (z ∷ zs) (suc e) x y h =
      let more = count_keep zs e x y h in
      let left = count_cons z (set zs e (Some y)) in
      let right = count_cons z zs in
      omega (arith, more, left, right)

  pub count_take : (xs : List (Option A)) (e : ℕ) (x : A)
      → slot xs e ≡ Some x → e + 1 ≡ length xs → count_by is_some xs ≡ suc (count_by is_some (take e xs))
  count_take [] e x h last = absurd (none-some x h)
  count_take (None ∷ zs) zero x h last = absurd (none-some x h)
  count_take (Some y ∷ []) zero x h last = let step = count_cons (Some y) [] in omega (arith, step)
  count_take (Some y ∷ z ∷ zs) zero x h last = absurd (omega (arith, last))
  count_take (z ∷ zs) (suc e) x h last =
      let more = count_take zs e x h (omega (arith, last)) in
      let left = count_cons z (take e zs) in
      let right = count_cons z zs in
      omega (arith, more, left, right)

  -- a slot that is not vacant

  pub slot_not_vacant : (xs : List (Option A)) (e : ℕ) (x : A) → slot xs e ≡ Some x → slice_get xs e ≡ Some None → ⊥
  slot_not_vacant xs e x h v = none-some x (sym (same_Some (Some x) None (sym (slot_get xs e x h) ∙ v)))

  pub slot_inside : (xs : List (Option A)) (e : ℕ) (x : A) → slot xs e ≡ Some x → e < length xs
  slot_inside xs e x h = slice_get_within xs e _ (slot_get xs e x h)

  module _ {end : ℕ} {slots : List (Option A)} {links : List ℕ} {head count : ℕ} where
    pub vacant_inside : {vacant : List ℕ}
        → IsFreeList end slots links head count vacant → (i : ℕ) → Contains vacant i → i < length slots
    vacant_inside t i p = slice_get_within slots i _ ((t.exact i).0 p)

    -- where the head leads
    pub vacant_none : (vacant : List ℕ)
        → IsFreeList end slots links head count vacant → length slots ≤ head → vacant ≡ []
    vacant_none [] t past = refl
    vacant_none (v ∷ vs) t past =
        absurd (omega (arith, past, t.linked.starts, vacant_inside t v (Contains-here v vs)))

    pub vacant_some : (vacant : List ℕ)
        → IsFreeList end slots links head count vacant → head < length slots → (rest : List ℕ) × (vacant ≡ head ∷ rest)
    vacant_some [] t within = absurd (omega (arith, within, t.linked.starts, t.few))
    vacant_some (v ∷ vs) t within = (vs, ap (λ z. z ∷ vs) (sym t.linked.starts))

    pub vacant_is : {vacant : List ℕ}
        → IsFreeList end slots links head count vacant → follow links (length links) head ≡ vacant
    vacant_is {vacant} t = row_is end head links vacant t.linked (omega (arith, t.long, t.few))

    pub counted_full : IsFreeList end slots links head count [] → count ≡ length slots
    counted_full t = t.counted ∙ count_full slots (full_from slots [] (record { exact = t.exact; once = tt }) refl)

    -- other links, which are the same at vacant slots
    pub relinked : {vacant : List ℕ} → IsFreeList end slots links head count vacant → (links' : List ℕ)
        → length links' ≡ length links → ((f : ℕ) → Contains vacant f → slice_get links' f ≡ slice_get links f)
        → IsFreeList end slots links' head count vacant
    relinked {vacant} t links' same_length kept =
        record {
          linked = IsLinkedList-kept end links links' head vacant t.linked kept;
          exact = t.exact;
          counted = t.counted;
          long = same_length ∙ t.long;
          few = t.few;
        }

    pub filled : {v : ℕ} {vs : List ℕ} → IsFreeList end slots links head count (v ∷ vs)
        → (x : A) (links' : List ℕ) (head' : ℕ) → length links' ≡ length links
        → ((f : ℕ) → Contains vs f → slice_get links' f ≡ slice_get links f) → slice_get links v ≡ Some head'
        → IsFreeList end (set slots v (Some x)) links' head' (suc count) vs
    filled {v} {vs} t x links' head' same_length kept goes =
        let at_v : IsLinkedList end links v (v ∷ vs) =
        subst (λ z. IsLinkedList end links z (v ∷ vs)) t.linked.starts t.linked in
        let is : first_of end vs ≡ head' =
        same_Some _ head'
        (ap Some (sym (after_here end v vs)) ∙ sym (t.linked.goes_on v (Contains-here v vs)) ∙ goes) in
        let vacant_v : slice_get slots v ≡ Some None = (t.exact v).0 (Contains-here v vs) in
        record {
          linked =
              IsLinkedList-kept end links links' head' vs
              (subst (λ z. IsLinkedList end links z vs) is (IsLinkedList-tail end links v vs at_v)) kept;
          exact = λ i. (
            λ p.
                slice_get-set_other slots v i (Some x) (λ same. t.linked.distinct.0 (subst (Contains vs) same p))
                ∙ (t.exact i).0 (Contains-there v i vs p),
            λ q. elim (cases_eq i v) [
              | inl same ↦
                  absurd (none-some x (sym (same_Some (Some x) None
                  (sym (slice_get-set_same slots v (Some x) (slice_get_within slots v _ vacant_v))
                  ∙ ap (slice_get (set slots v (Some x))) (sym same) ∙ q))))
              | inr other ↦
                  Contains-tail v vs i (λ same. other (sym same))
                  ((t.exact i).1 (sym (slice_get-set_other slots v i (Some x) other) ∙ q))
            ],
          );
          counted = ap suc t.counted ∙ sym (count_fill slots v x vacant_v);
          long = same_length ∙ t.long ∙ sym (length-set slots v (Some x));
          few = omega (arith, t.few, length-set slots v (Some x));
        }

    -- one slot is another, and the vacant ones keep their links
    module _ {vacant : List ℕ} (t : IsFreeList end slots links head count vacant) (e : ℕ) (fresh : ¬ Contains vacant e)
        {slots' : List (Option A)} {links' : List ℕ} {count' : ℕ}
        (others : (i : ℕ) → i ≢ e → slice_get slots' i ≡ slice_get slots i)
        (kept : (f : ℕ) → Contains vacant f → slice_get links' f ≡ slice_get links f)
        (counted : count' ≡ count_by is_some slots') (long : length links' ≡ length slots')
        (few : length slots' ≤ end) where
      -- which is vacant, and leads to those that were vacant
      pub one_vacant : slice_get slots' e ≡ Some None → slice_get links' e ≡ Some head
          → IsFreeList end slots' links' e count' (e ∷ vacant)
      one_vacant none goes =
          record {
            linked = record {
              starts = refl;
              distinct = (fresh, t.linked.distinct);
              goes_on = λ f p.
                  elim (cases_eq e f) [
                    | inl same ↦
                        subst (λ z. slice_get links' z ≡ Some (after end (e ∷ vacant) z)) same
                        (goes ∙ ap Some (t.linked.starts ∙ sym (after_here end e vacant)))
                    | inr other ↦
                        let there = Contains-tail e vacant f other p in
                        kept f there ∙ t.linked.goes_on f there ∙ ap Some (sym (after_there end e f vacant other))
                  ];
            };
            exact = λ i. (
              λ p. elim (cases_eq e i) [
                | inl same ↦ subst (λ z. slice_get slots' z ≡ Some None) same none
                | inr other ↦ others i (λ same. other (sym same)) ∙ (t.exact i).0 (Contains-tail e vacant i other p)
              ],
              λ q. elim (cases_eq e i) [
                | inl same ↦ subst (Contains (e ∷ vacant)) same (Contains-here e vacant)
                | inr other ↦
                    Contains-there e i vacant ((t.exact i).1 (sym (others i (λ same. other (sym same))) ∙ q))
              ],
            );
            counted = counted;
            long = long;
            few = few;
          }

      -- which is not
      pub one_taken : (x : A) → slice_get slots' e ≡ Some (Some x) → IsFreeList end slots' links' head count' vacant
      one_taken x some =
          record {
            linked = IsLinkedList-kept end links links' head vacant t.linked kept;
            exact = λ i. (
              λ p. others i (λ same. fresh (subst (Contains vacant) same p)) ∙ (t.exact i).0 p,
              λ q. elim (cases_eq i e) [
                | inl same ↦
                    absurd (none-some x
                    (sym (same_Some (Some x) None (sym some ∙ ap (slice_get slots') (sym same) ∙ q))))
                | inr other ↦ (t.exact i).1 (sym (others i other) ∙ q)
              ],
            );
            counted = counted;
            long = long;
            few = few;
          }

    module _ {vacant : List ℕ} (t : IsFreeList end slots links head count vacant) (e : ℕ) (x : A)
        (at : slot slots e ≡ Some x) where
      pub not_listed : ¬ Contains vacant e
      not_listed p = slot_not_vacant slots e x at ((t.exact e).0 p)

      pub vacated : (links' : List ℕ) (count' : ℕ) → length links' ≡ length links → slice_get links' e ≡ Some head
          → ((f : ℕ) → Contains vacant f → slice_get links' f ≡ slice_get links f) → count ≡ suc count'
          → IsFreeList end (set slots e None) links' e count' (e ∷ vacant)
      vacated links' count' same_length goes kept count_is =
          let step = count_vacate slots e x at in
          one_vacant t e not_listed (λ i other. slice_get-set_other slots e i None other) kept
          (omega (arith, step, count_is, t.counted)) (same_length ∙ t.long ∙ sym (length-set slots e None))
          (omega (arith, t.few, length-set slots e None)) (slice_get-set_same slots e None (slot_inside slots e x at))
          goes

      pub cut : (links' : List ℕ) (count' : ℕ) → e + 1 ≡ length slots → length links' ≡ e
          → ((f : ℕ) → Contains vacant f → slice_get links' f ≡ slice_get links f) → count ≡ suc count'
          → IsFreeList end (take e slots) links' head count' vacant
      cut links' count' last links_long kept count_is =
          let short : length (take e slots) ≡ e = length-take-le e slots (omega (arith, last)) in
          record {
            linked = IsLinkedList-kept end links links' head vacant t.linked kept;
            exact = λ i. (
              λ p.
                  let here = (t.exact i).0 p in
                  let other : i ≢ e = λ same. not_listed (subst (Contains vacant) same p) in
                  slice_get-take e slots i (omega (arith, other, last, slice_get_within slots i _ here)) ∙ here,
              λ q. elim (cases_lt i e) [
                | inl below ↦ (t.exact i).1 (sym (slice_get-take e slots i below) ∙ q)
                | inr past ↦ absurd (none-some None (sym (slice_get-take_past e slots i past) ∙ q))
              ],
            );
            counted = let step = count_take slots e x at last in omega (arith, step, count_is, t.counted);
            long = links_long ∙ sym short;
            few = omega (arith, t.few, short, last);
          }

      -- something else in a slot that is not vacant
      pub renewed : (y : A) → IsFreeList end (set slots e (Some y)) links head count vacant
      renewed y =
          one_taken t e not_listed (λ i other. slice_get-set_other slots e i (Some y) other) (λ f p. refl)
          (t.counted ∙ sym (count_keep slots e x y at)) (t.long ∙ sym (length-set slots e (Some y)))
          (omega (arith, t.few, length-set slots e (Some y))) y
          (slice_get-set_same slots e (Some y) (slot_inside slots e x at))
