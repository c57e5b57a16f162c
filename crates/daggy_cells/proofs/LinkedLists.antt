-- Linked lists of numbers.
use Rattle.std.proofs.Common.{◌≡◌, ◌≢◌, ◌⊎◌, ℕ, zero, suc, ◌<◌, ◌≤◌, Bool, true, false, eqb, List, [], ◌∷◌, map, length}
use Rattle.std.proofs.Common.{Option, Some, None, slice_get, refl, sym, ap, subst, ◌∙◌, inl, inr, arith, Contains}
use Rattle.std.specs.List.{AllByRecursion, IsDistinct, find}
use Rattle.std.proofs.lemmas.Bool.{cases_eq, eq-eqb, ne_eqb, cond-true, cond-false, eqb-true}
use Rattle.std.proofs.lemmas.Option.{slice_get_past, slice_get_within, same_Some}
use Rattle.std.proofs.lemmas.Map.Steps.{length-le_from_distinct_below}
use Rattle.std.proofs.lemmas.Map.Views.{Contains-from_any}
use Rattle.std.proofs.lemmas.Map.Made.{Contains-tail}
use Rattle.daggy_base.specs.Cursor.{first_of, after}
use Rattle.daggy_base.specs.WellFormed.{AreDistinct}
use Rattle.daggy_base.specs.Removal.{without, renamed}
use Rattle.daggy_cells.specs.Links.{follow, IsLinkedList}
use Rattle.daggy_base.proofs.Lists.{Contains-nil, Contains-here, Contains-there, Contains-cases}

-- an element of the rest differs from the head
pub apart : (head x : ℕ) (rest : List ℕ) → AreDistinct (head ∷ rest) → Contains rest x → head ≢ x
apart head x rest d p same = d.0 (subst (Contains rest) (sym same) p)

-- what follows

pub after_here : (end x : ℕ) (xs : List ℕ) → after end (x ∷ xs) x ≡ first_of end xs
after_here end x xs = cond-true (eqb x x) (first_of end xs) (after end xs x) (eq-eqb x x refl)

pub after_there : (end x e : ℕ) (xs : List ℕ) → x ≢ e → after end (x ∷ xs) e ≡ after end xs e
after_there end x e xs differs = cond-false (eqb x e) (first_of end xs) (after end xs e) (ne_eqb x e differs)

pub renamed_here : (from to : ℕ) → renamed from to from ≡ to
renamed_here from to = cond-true (eqb from from) to from (eq-eqb from from refl)

pub renamed_other : (from to n : ℕ) → n ≢ from → renamed from to n ≡ n
renamed_other from to n differs = cond-false (eqb n from) to n (ne_eqb n from differs)

pub first_cases : (end : ℕ) (xs : List ℕ) → Contains xs (first_of end xs) ⊎ (first_of end xs ≡ end)
first_cases end [] = inr refl
first_cases end (x ∷ xs) = inl (Contains-here x xs)

pub after_cases : (end : ℕ) (xs : List ℕ) (e : ℕ) → Contains xs (after end xs e) ⊎ (after end xs e ≡ end)
after_cases end [] e = inr refl
after_cases end (x ∷ xs) e =
    elim (cases_eq x e) [
      | inl same ↦
          let is : after end (x ∷ xs) e ≡ first_of end xs = ap (after end (x ∷ xs)) (sym same) ∙ after_here end x xs in
          more (first_of end xs) is (first_cases end xs)
      | inr differs ↦ more (after end xs e) (after_there end x e xs differs) (after_cases end xs e)
    ]
  where
    more : (v : ℕ) → after end (x ∷ xs) e ≡ v → Contains xs v ⊎ (v ≡ end)
        → Contains (x ∷ xs) (after end (x ∷ xs) e) ⊎ (after end (x ∷ xs) e ≡ end)
    more v is (inl p) = inl (subst (Contains (x ∷ xs)) (sym is) (Contains-there x v xs p))
    more v is (inr q) = inr (is ∙ q)

-- the links lead along the list
pub follow_is : (end : ℕ) (nexts l : List ℕ) (fuel : ℕ)
    → AreDistinct l → ((e : ℕ) → Contains l e → slice_get nexts e ≡ Some (after end l e)) → length l ≤ fuel
    → length nexts ≤ end → follow nexts fuel (first_of end l) ≡ l
follow_is end nexts [] zero d links long limit = refl
follow_is end nexts [] (suc k) d links long limit = rw (slice_get_past nexts end limit)
follow_is end nexts (x ∷ xs) zero d links long limit = absurd (omega (arith, long))
follow_is end nexts (x ∷ xs) (suc k) d links long limit =
    let goes : slice_get nexts x ≡ Some (first_of end xs) =
    links x (Contains-here x xs) ∙ ap Some (after_here end x xs) in
    let more =
    follow_is end nexts xs k d.1 (λ e p. links e (Contains-there x e xs p)
    ∙ ap Some (after_there end x e xs (apart x e xs d p))) (omega (arith, long)) limit in
    rw (goes, more)

-- distinct numbers below n are at most n
all_differ : (x : ℕ) (xs : List ℕ) → ¬ Contains xs x → AllByRecursion (λ y. eqb x y ≡ false) xs
all_differ x [] out = tt
all_differ x (y ∷ ys) out = (
  ne_eqb x y (λ same. out (subst (Contains (y ∷ ys)) (sym same) (Contains-here y ys))),
  all_differ x ys (λ p. out (Contains-there y x ys p)),
)

IsDistinct-from : (xs : List ℕ) → AreDistinct xs → IsDistinct eqb xs
unfolding IsDistinct
IsDistinct-from [] d = tt
IsDistinct-from (x ∷ xs) d = (all_differ x xs d.0, IsDistinct-from xs d.1)

pub length_le : (l : List ℕ) (n : ℕ) → AreDistinct l → ((e : ℕ) → Contains l e → e < n) → length l ≤ n
length_le l n d below =
    length-le_from_distinct_below l n (IsDistinct-from l d) (λ q found. below q (Contains-from_any eqb-true q l found))

-- a list is what following its links gives
pub row_is : (end first : ℕ) (nexts l : List ℕ)
    → IsLinkedList end nexts first l → length nexts ≤ end → follow nexts (length nexts) first ≡ l
row_is end first nexts l r limit =
    rw r.starts (follow_is end nexts l (length nexts) r.distinct r.goes_on
    (length_le l (length nexts) r.distinct (λ e p. slice_get_within nexts e _ (r.goes_on e p))) limit)

-- taken out

pub without_outside : (e : ℕ) (xs : List ℕ) → ¬ Contains xs e → without e xs ≡ xs
without_outside e [] out = refl
without_outside e (x ∷ xs) out =
    let differs : eqb x e ≡ false = ne_eqb x e (λ same. out (subst (Contains (x ∷ xs)) same (Contains-here x xs))) in
    rw (differs, without_outside e xs (λ p. out (Contains-there x e xs p)))

pub without_here : (x : ℕ) (xs : List ℕ) → AreDistinct (x ∷ xs) → without x (x ∷ xs) ≡ xs
without_here x xs d = rw (eq-eqb x x refl) (without_outside x xs d.0)

pub without_there : (x e : ℕ) (xs : List ℕ) → x ≢ e → without e (x ∷ xs) ≡ x ∷ without e xs
without_there x e xs differs = rw (ne_eqb x e differs)

pub Contains-from_without : (e f : ℕ) (xs : List ℕ) → Contains (without e xs) f → Contains xs f × (f ≢ e)
Contains-from_without e f [] p = absurd (Contains-nil f p)
Contains-from_without e f (x ∷ xs) p =
    elim (cases_eq x e) [
      | inl same ↦
          let out : Contains (without e xs) f = rw (eq-eqb x e same) at p in
          let more = Contains-from_without e f xs out in
          (Contains-there x f xs more.0, more.1)
      | inr differs ↦
          elim (Contains-cases x f (without e xs) (rw (without_there x e xs differs) at p)) [
            | inl here ↦ (subst (Contains (x ∷ xs)) here (Contains-here x xs), λ g. differs (here ∙ g))
            | inr there ↦ (
              Contains-there x f xs (Contains-from_without e f xs there).0,
              (Contains-from_without e f xs there).1,
            )
          ]
    ]

pub Contains-without : (e f : ℕ) (xs : List ℕ) → f ≢ e → Contains xs f → Contains (without e xs) f
Contains-without e f [] differs p = p
Contains-without e f (x ∷ xs) differs p =
    elim (cases_eq x e) [
      | inl same ↦
          rw (eq-eqb x e same) (Contains-without e f xs differs (Contains-tail x xs f (λ g. differs (sym g ∙ same)) p))
      | inr other ↦ rw (ne_eqb x e other) (elim (Contains-cases x f xs p) [
        | inl here ↦ subst (Contains (x ∷ without e xs)) here (Contains-here x (without e xs))
        | inr there ↦ Contains-there x f (without e xs) (Contains-without e f xs differs there)
      ])
    ]

pub AreDistinct-without : (e : ℕ) (xs : List ℕ) → AreDistinct xs → AreDistinct (without e xs)
AreDistinct-without e [] d = tt
AreDistinct-without e (x ∷ xs) d =
    elim (cases_eq x e) [
      | inl same ↦ rw (eq-eqb x e same) (AreDistinct-without e xs d.1)
      | inr other ↦ rw (ne_eqb x e other) (λ p. d.0 (Contains-from_without e x xs p).0, AreDistinct-without e xs d.1)
    ]

pub first_of-without : (end e : ℕ) (xs : List ℕ)
    → AreDistinct xs → e ≢ end → first_of end (without e xs) ≡ renamed e (after end xs e) (first_of end xs)
first_of-without end e [] d inside = sym (renamed_other e end end (λ same. inside (sym same)))
first_of-without end e (x ∷ xs) d inside =
    elim (cases_eq x e) [
      | inl same ↦
          ap (λ z. first_of end (without z (x ∷ xs))) (sym same) ∙ ap (first_of end) (without_here x xs d)
          ∙ sym (after_here end x xs) ∙ sym (renamed_here x (after end (x ∷ xs) x))
          ∙ ap (λ z. renamed z (after end (x ∷ xs) z) x) same
      | inr differs ↦
          ap (first_of end) (without_there x e xs differs) ∙ sym (renamed_other e (after end (x ∷ xs) e) x differs)
    ]

pub after-without : (end e : ℕ) (xs : List ℕ) (f : ℕ) → AreDistinct xs → Contains xs f → f ≢ e → e ≢ end
    → after end (without e xs) f ≡ renamed e (after end xs e) (after end xs f)
after-without end e [] f d p differs inside = absurd (Contains-nil f p)
after-without end e (x ∷ xs) f d p differs inside =
    elim (cases_eq x f) [
      | inl same ↦
          let other : x ≢ e = λ g. differs (sym same ∙ g) in
          let at_x : after end (without e (x ∷ xs)) x ≡ renamed e (after end (x ∷ xs) e) (after end (x ∷ xs) x) =
          ap (λ l. after end l x) (without_there x e xs other) ∙ after_here end x (without e xs)
          ∙ first_of-without end e xs d.1 inside
          ∙ ap (λ v. renamed e v (first_of end xs)) (sym (after_there end x e xs other))
          ∙ ap (renamed e (after end (x ∷ xs) e)) (sym (after_here end x xs)) in
          subst (λ z. after end (without e (x ∷ xs)) z ≡ renamed e (after end (x ∷ xs) e) (after end (x ∷ xs) z)) same
          at_x
      | inr apart_f ↦
          let later = Contains-tail x xs f apart_f p in
          elim (cases_eq x e) [
            | inl same ↦
                let out : after end xs f ≢ x = λ g. elim (after_cases end xs f) [
                  | inl q ↦ d.0 (subst (Contains xs) g q)
                  | inr q ↦ inside (sym same ∙ sym g ∙ q)
                ] in
                let at_x : after end (without x (x ∷ xs)) f ≡ renamed x (after end (x ∷ xs) x) (after end (x ∷ xs) f) =
                ap (λ l. after end l f) (without_here x xs d)
                ∙ sym (renamed_other x (after end (x ∷ xs) x) (after end xs f) out)
                ∙ ap (renamed x (after end (x ∷ xs) x)) (sym (after_there end x f xs apart_f)) in
                subst (λ z. after end (without z (x ∷ xs)) f ≡ renamed z (after end (x ∷ xs) z) (after end (x ∷ xs) f))
                same at_x
            | inr other ↦
                ap (λ l. after end l f) (without_there x e xs other) ∙ after_there end x f (without e xs) apart_f
                ∙ after-without end e xs f d.1 later differs inside
                ∙ ap (λ v. renamed e v (after end xs f)) (sym (after_there end x e xs other))
                ∙ ap (renamed e (after end (x ∷ xs) e)) (sym (after_there end x f xs apart_f))
          ]
    ]

-- the rest of a list

pub IsLinkedList-tail : (end : ℕ) (nexts : List ℕ) (x : ℕ) (xs : List ℕ)
    → IsLinkedList end nexts x (x ∷ xs) → IsLinkedList end nexts (first_of end xs) xs
IsLinkedList-tail end nexts x xs r =
    record {
      starts = refl;
      distinct = r.distinct.1;
      goes_on = λ e p.
          r.goes_on e (Contains-there x e xs p) ∙ ap Some (after_there end x e xs (apart x e xs r.distinct p));
    }

-- a list from e on, which is the rest of the whole, and has `old` behind e
pub record IsRest (end : ℕ) (nexts : List ℕ) (e old : ℕ) (whole : List ℕ) : Type 0 where
  pub more : List ℕ
  pub from_here : IsLinkedList end nexts e (e ∷ more)
  pub behind : Contains more old
  pub inside : (f : ℕ) → Contains (e ∷ more) f → Contains whole f × (after end whole f ≡ after end (e ∷ more) f)

pub IsRest-start : (end : ℕ) (nexts : List ℕ) (first old : ℕ) (whole : List ℕ)
    → IsLinkedList end nexts first whole → Contains whole old → first ≢ old → IsRest end nexts first old whole
IsRest-start end nexts first old [] r p later = absurd (Contains-nil old p)
IsRest-start end nexts first old (x ∷ xs) r p later =
    let same : x ≡ first = sym r.starts in
    let differs : x ≢ old = λ q. later (r.starts ∙ q) in
    subst (λ z. IsRest end nexts z old (x ∷ xs)) same
    (record {
      more = xs;
      from_here = subst (λ z. IsLinkedList end nexts z (x ∷ xs)) r.starts r;
      behind = Contains-tail x xs old differs p;
      inside = λ f q. (q, refl);
    })

-- a step along it: next is not yet `old`
pub IsRest-step : (end : ℕ) (nexts : List ℕ) (e old next : ℕ) (whole : List ℕ)
    → IsRest end nexts e old whole → slice_get nexts e ≡ Some next → next ≢ old → IsRest end nexts next old whole
IsRest-step end nexts e old next whole r goes differs = go r.more r.from_here r.behind r.inside
  where
    go : (more : List ℕ) → IsLinkedList end nexts e (e ∷ more) → Contains more old
        → ((f : ℕ) → Contains (e ∷ more) f → Contains whole f × (after end whole f ≡ after end (e ∷ more) f))
        → IsRest end nexts next old whole
    go [] row_e behind inside = absurd (Contains-nil old behind)
    go (y ∷ ys) row_e behind inside =
        let same : y ≡ next =
        same_Some y next
        (ap Some (sym (after_here end e (y ∷ ys))) ∙ sym (row_e.goes_on e (Contains-here e (y ∷ ys))) ∙ goes) in
        subst (λ z. IsRest end nexts z old whole) same
        (record {
          more = ys;
          from_here = IsLinkedList-tail end nexts e (y ∷ ys) row_e;
          behind = Contains-tail y ys old (λ q. differs (sym same ∙ q)) behind;
          inside = λ f q. (
            (inside f (Contains-there e f (y ∷ ys) q)).0,
            (inside f (Contains-there e f (y ∷ ys) q)).1
                ∙ after_there end e f (y ∷ ys) (apart e f (y ∷ ys) row_e.distinct q),
          );
        })

-- what comes next is within the links
pub IsRest-within : (end : ℕ) (nexts : List ℕ) (e old : ℕ) (whole : List ℕ)
    → IsRest end nexts e old whole → e < length nexts
IsRest-within end nexts e old whole r = slice_get_within nexts e _ (r.from_here.goes_on e (Contains-here e r.more))

-- and if it is `old`, e stands before it
pub IsRest-found : (end : ℕ) (nexts : List ℕ) (e old : ℕ) (whole : List ℕ)
    → IsRest end nexts e old whole → slice_get nexts e ≡ Some old → Contains whole e × (after end whole e ≡ old)
IsRest-found end nexts e old whole r goes =
    let here = r.inside e (Contains-here e r.more) in
    (here.0, here.1 ∙ same_Some _ old (sym (r.from_here.goes_on e (Contains-here e r.more)) ∙ goes))

-- each step leaves less to walk
pub IsRest-shorter : (end : ℕ) (nexts : List ℕ) (e old next : ℕ) (whole : List ℕ)
    → IsRest end nexts e old whole → slice_get nexts e ≡ Some next → length nexts ≤ end
    → length (follow nexts (length nexts) next) < length (follow nexts (length nexts) e)
IsRest-shorter end nexts e old next whole r goes limit =
    let same : first_of end r.more ≡ next =
    same_Some _ next
    (ap Some (sym (after_here end e r.more)) ∙ sym (r.from_here.goes_on e (Contains-here e r.more)) ∙ goes) in
    let now = row_is end e nexts (e ∷ r.more) r.from_here limit in
    let then = row_is end (first_of end r.more) nexts r.more (IsLinkedList-tail end nexts e r.more r.from_here) limit in
    let then' : follow nexts (length nexts) next ≡ r.more =
    subst (λ z. follow nexts (length nexts) z ≡ r.more) same then in
    rw (now, then') (omega arith)

pub find_same : (p q : ℕ → Bool) (l : List ℕ) → ((e : ℕ) → Contains l e → p e ≡ q e) → find p l ≡ find q l
find_same p q [] h = refl
find_same p q (x ∷ xs) h = rw (h x (Contains-here x xs), find_same p q xs (λ e k. h e (Contains-there x e xs k))) refl

-- a search along a list from e on, which still has the whole answer to give
pub record IsScan (end : ℕ) (nexts : List ℕ) (p : ℕ → Bool) (e : ℕ) (answer : Option ℕ) : Type 0 where
  pub rest : List ℕ
  pub from_here : IsLinkedList end nexts e rest
  pub same : find p rest ≡ answer

pub IsScan-done : (end : ℕ) (nexts : List ℕ) (p : ℕ → Bool) (e : ℕ) (answer : Option ℕ)
    → IsScan end nexts p e answer → length nexts ≤ e → answer ≡ None
IsScan-done end nexts p e answer s past = go s.rest s.from_here s.same
  where
    go : (rest : List ℕ) → IsLinkedList end nexts e rest → find p rest ≡ answer → answer ≡ None
    go [] r same = sym same
    go (x ∷ xs) r same =
        let within : x < length nexts = slice_get_within nexts x _ (r.goes_on x (Contains-here x xs)) in
        absurd (omega (arith, within, past, r.starts))

-- at an edge that is there, the list goes on from it
pub row_splits : (end : ℕ) (nexts : List ℕ) (e : ℕ) (rest : List ℕ)
    → IsLinkedList end nexts e rest → e < length nexts → length nexts ≤ end → (more : List ℕ) × (rest ≡ e ∷ more)
row_splits end nexts e [] r within limit = absurd (omega (arith, r.starts, within, limit))
row_splits end nexts e (x ∷ xs) r within limit = (xs, ap (λ z. z ∷ xs) (sym r.starts))

pub IsScan-here : (end : ℕ) (nexts : List ℕ) (p : ℕ → Bool) (e : ℕ) (answer : Option ℕ)
    → IsScan end nexts p e answer → e < length nexts → length nexts ≤ end → p e ≡ true → answer ≡ Some e
IsScan-here end nexts p e answer s within limit passes =
    let split = row_splits end nexts e s.rest s.from_here within limit in
    sym s.same ∙ ap (find p) split.1 ∙ cond-true (p e) (Some e) (find p split.0) passes

pub IsScan-step : {end : ℕ} {nexts : List ℕ} {p : ℕ → Bool} {e next : ℕ} {answer : Option ℕ}
    → IsScan end nexts p e answer → e < length nexts → length nexts ≤ end → p e ≡ false → slice_get nexts e ≡ Some next
    → IsScan end nexts p next answer
IsScan-step {end} {nexts} {p} {e} {next} s within limit fails goes =
    let split = row_splits end nexts e s.rest s.from_here within limit in
    let row_e : IsLinkedList end nexts e (e ∷ split.0) = subst (IsLinkedList end nexts e) split.1 s.from_here in
    let is : first_of end split.0 ≡ next =
    same_Some _ next
    (ap Some (sym (after_here end e split.0)) ∙ sym (row_e.goes_on e (Contains-here e split.0)) ∙ goes) in
    record {
      rest = split.0;
      from_here = subst (λ z. IsLinkedList end nexts z split.0) is (IsLinkedList-tail end nexts e split.0 row_e);
      same = sym (cond-false (p e) (Some e) (find p split.0) fails) ∙ sym (ap (find p) split.1) ∙ s.same;
    }

pub IsScan-shorter : {end : ℕ} {nexts : List ℕ} {p : ℕ → Bool} {e next : ℕ} {answer : Option ℕ}
    → IsScan end nexts p e answer → e < length nexts → length nexts ≤ end → slice_get nexts e ≡ Some next
    → length (follow nexts (length nexts) next) < length (follow nexts (length nexts) e)
IsScan-shorter {end} {nexts} {p} {e} {next} s within limit goes =
    let split = row_splits end nexts e s.rest s.from_here within limit in
    let row_e : IsLinkedList end nexts e (e ∷ split.0) = subst (IsLinkedList end nexts e) split.1 s.from_here in
    let is : first_of end split.0 ≡ next =
    same_Some _ next
    (ap Some (sym (after_here end e split.0)) ∙ sym (row_e.goes_on e (Contains-here e split.0)) ∙ goes) in
    let now = row_is end e nexts (e ∷ split.0) row_e limit in
    let then =
    row_is end next nexts split.0
    (subst (λ z. IsLinkedList end nexts z split.0) is (IsLinkedList-tail end nexts e split.0 row_e)) limit in
    rw (now, then) (omega arith)

-- what comes after an element is no first one, and comes after that element alone

pub after_tail : (end x e : ℕ) (xs : List ℕ) → Contains xs (after end (x ∷ xs) e) ⊎ (after end (x ∷ xs) e ≡ end)
after_tail end x e xs =
    elim (cases_eq x e) [
      | inl same ↦
          more (first_of end xs) (ap (after end (x ∷ xs)) (sym same) ∙ after_here end x xs) (first_cases end xs)
      | inr differs ↦ more (after end xs e) (after_there end x e xs differs) (after_cases end xs e)
    ]
  where
    more : (v : ℕ) → after end (x ∷ xs) e ≡ v → Contains xs v ⊎ (v ≡ end)
        → Contains xs (after end (x ∷ xs) e) ⊎ (after end (x ∷ xs) e ≡ end)
    more v is (inl p) = inl (subst (Contains xs) (sym is) p)
    more v is (inr q) = inr (is ∙ q)

pub after_not_first : (end : ℕ) (l : List ℕ) (e : ℕ)
    → AreDistinct l → first_of end l ≢ end → after end l e ≢ first_of end l
after_not_first end [] e d inside same = inside refl
after_not_first end (x ∷ xs) e d inside same =
    elim (after_tail end x e xs) [
      | inl p ↦ d.0 (subst (Contains xs) same p)
      | inr q ↦ inside (sym same ∙ q)
    ]

pub after_injective : (end : ℕ) (l : List ℕ) (e f : ℕ)
    → AreDistinct l → Contains l e → Contains l f → after end l e ≡ after end l f → after end l e ≢ end → e ≡ f
after_injective end [] e f d p q same inside = absurd (Contains-nil e p)
after_injective end (x ∷ xs) e f d p q same inside =
    elim (cases_eq x e) [
      | inl at_e ↦ elim (cases_eq x f) [
        | inl at_f ↦ sym at_e ∙ at_f
        | inr not_f ↦
            let here : after end (x ∷ xs) e ≡ first_of end xs =
            ap (after end (x ∷ xs)) (sym at_e) ∙ after_here end x xs in
            absurd (after_not_first end xs f d.1 (λ z. inside (here ∙ z))
            (sym (after_there end x f xs not_f) ∙ sym same ∙ here))
      ]
      | inr not_e ↦ elim (cases_eq x f) [
        | inl at_f ↦
            let here : after end (x ∷ xs) f ≡ first_of end xs =
            ap (after end (x ∷ xs)) (sym at_f) ∙ after_here end x xs in
            absurd (after_not_first end xs e d.1 (λ z. inside (same ∙ here ∙ z))
            (sym (after_there end x e xs not_e) ∙ same ∙ here))
        | inr not_f ↦
            let here = after_there end x e xs not_e in
            after_injective end xs e f d.1 (Contains-tail x xs e not_e p) (Contains-tail x xs f not_f q)
            (sym here ∙ same ∙ after_there end x f xs not_f) (λ z. inside (here ∙ z))
      ]
    ]

-- renamed

pub map-renamed_outside : (from to : ℕ) (xs : List ℕ) → ¬ Contains xs from → map (renamed from to) xs ≡ xs
map-renamed_outside from to [] out = refl
map-renamed_outside from to (x ∷ xs) out =
    let here : renamed from to x ≡ x =
    renamed_other from to x (λ same. out (subst (Contains (x ∷ xs)) same (Contains-here x xs))) in
    ap (λ z. z ∷ map (renamed from to) xs) here
    ∙ ap (λ l. x ∷ l) (map-renamed_outside from to xs (λ p. out (Contains-there x from xs p)))

pub renamed-injective : (from to : ℕ) (xs : List ℕ)
    → ¬ Contains xs to → (x y : ℕ) → Contains xs x → Contains xs y → renamed from to x ≡ renamed from to y → x ≡ y
renamed-injective from to xs out x y p q same =
    elim (cases_eq x from) [
      | inl at_x ↦ elim (cases_eq y from) [
        | inl at_y ↦ at_x ∙ sym at_y
        | inr not_y ↦
            absurd (out (subst (Contains xs)
            (sym (renamed_other from to y not_y) ∙ sym same ∙ ap (renamed from to) at_x ∙ renamed_here from to) q))
      ]
      | inr not_x ↦ elim (cases_eq y from) [
        | inl at_y ↦
            absurd (out (subst (Contains xs)
            (sym (renamed_other from to x not_x) ∙ same ∙ ap (renamed from to) at_y ∙ renamed_here from to) p))
        | inr not_y ↦ sym (renamed_other from to x not_x) ∙ same ∙ renamed_other from to y not_y
      ]
    ]

pub first_of-map : (end : ℕ) (r : ℕ → ℕ) (xs : List ℕ) → r end ≡ end → first_of end (map r xs) ≡ r (first_of end xs)
first_of-map end r [] fixed = sym fixed
first_of-map end r (x ∷ xs) fixed = refl

pub after-map : (end : ℕ) (r : ℕ → ℕ) (xs : List ℕ) (f : ℕ)
    → ((x y : ℕ) → Contains xs x → Contains xs y → r x ≡ r y → x ≡ y) → r end ≡ end → Contains xs f
    → after end (map r xs) (r f) ≡ r (after end xs f)
after-map end r [] f inj fixed p = absurd (Contains-nil f p)
after-map end r (x ∷ xs) f inj fixed p =
    elim (cases_eq x f) [
      | inl same ↦ subst (λ z. after end (map r (x ∷ xs)) (r z) ≡ r (after end (x ∷ xs) z)) same
          (after_here end (r x) (map r xs) ∙ first_of-map end r xs fixed ∙ ap r (sym (after_here end x xs)))
      | inr differs ↦
          let later = Contains-tail x xs f differs p in
          after_there end (r x) (r f) (map r xs) (λ q. differs (inj x f (Contains-here x xs) p q))
          ∙ after-map end r xs f (λ y z p q. inj y z (Contains-there x y xs p) (Contains-there x z xs q)) fixed later
          ∙ ap r (sym (after_there end x f xs differs))
    ]
