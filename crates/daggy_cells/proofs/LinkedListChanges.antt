-- What each change does to the links and the lists.
use Rattle.std.proofs.Common.{◌≡◌, ◌≢◌, ℕ, zero, suc, ◌+◌, ◌<◌, ◌≤◌, List, [], ◌∷◌, ◌++◌, map, length, get_or, set}
use Rattle.std.proofs.Common.{Option, Some, None, slice_get, unwrap_or, refl, sym, ap, subst, ◌∙◌, inl, inr, arith}
use Rattle.std.proofs.Common.{Contains}
use Rattle.std.specs.Option.{option_map}
use Rattle.std.proofs.lemmas.Bool.{cases_eq, cases_lt}
use Rattle.std.proofs.lemmas.List.{length-set, length_push, length-map, get_or-map, get_or_push, get_or_append_left}
use Rattle.std.proofs.lemmas.List.{get_or-set_same, get_or-set_other, set-get_or, same_lists}
use Rattle.std.proofs.lemmas.Option.{slice_get_past, slice_get_within, same_Some, none-some, slice_get-get_or}
use Rattle.daggy_base.specs.Cursor.{first_of, after}
use Rattle.daggy_base.specs.Removal.{without, renamed}
use Rattle.daggy_cells.specs.Links.{follow, linked_lists, nth_list, IsLinkedList, AreLinkedLists, ListsBy, ListsEach}
use Rattle.daggy_cells.specs.Links.{Redirected}
use Rattle.daggy_base.proofs.Lists.{Contains-nil, Contains-here, Contains-there, Contains-cases, Contains-map}
use Rattle.daggy_base.proofs.Lists.{Contains-from_map, AreDistinct-map, slice_get-set_same, slice_get-set_other}
use Rattle.daggy_base.proofs.Lists.{slice_get-push_old, slice_get-push_new, slice_get-push_other, IsSwapRemoved}
use Rattle.daggy_cells.proofs.LinkedLists.{after_here, after_there, row_is, renamed_here, renamed_other}
use Rattle.daggy_cells.proofs.LinkedLists.{after_not_first, after_injective, without_outside, Contains-from_without}
use Rattle.daggy_cells.proofs.LinkedLists.{Contains-without, AreDistinct-without, first_of-without, after-without}
use Rattle.daggy_cells.proofs.LinkedLists.{map-renamed_outside, renamed-injective, first_of-map, after-map}

-- lists

pub row-map : (h : List ℕ → List ℕ)
    → h [] ≡ [] → (lists : List (List ℕ)) (n : ℕ) → nth_list (map h lists) n ≡ h (nth_list lists n)
row-map h nil [] n = sym nil
row-map h nil (l ∷ ls) zero = refl
row-map h nil (l ∷ ls) (suc n) = row-map h nil ls n

pub row-set_same : (lists : List (List ℕ)) (n : ℕ) (l : List ℕ) → n < length lists → nth_list (set lists n l) n ≡ l
row-set_same lists n l within = ap (λ o. unwrap_or o []) (slice_get-set_same lists n l within)

pub row-set_other : (lists : List (List ℕ)) (n m : ℕ) (l : List ℕ)
    → m ≢ n → nth_list (set lists n l) m ≡ nth_list lists m
row-set_other lists n m l differs = ap (λ o. unwrap_or o []) (slice_get-set_other lists n m l differs)

pub row_push : (lists : List (List ℕ)) (n : ℕ) → nth_list (lists ++ [] ∷ []) n ≡ nth_list lists n
row_push [] zero = refl
row_push [] (suc n) = refl
row_push (l ∷ ls) zero = refl
row_push (l ∷ ls) (suc n) = row_push ls n

pub row_past : (lists : List (List ℕ)) (n : ℕ) → length lists ≤ n → nth_list lists n ≡ []
row_past lists n past = ap (λ o. unwrap_or o []) (slice_get_past lists n past)

-- a member of a list shows that the list is there
pub row_within : (lists : List (List ℕ)) (n e : ℕ) → Contains (nth_list lists n) e → n < length lists
row_within [] n e p = absurd (Contains-nil e p)
row_within (l ∷ ls) zero e p = omega arith
row_within (l ∷ ls) (suc n) e p = let more = row_within ls n e p in omega arith

pub IsLinkedList-at : {end : ℕ} {nexts : List ℕ} (first first' : ℕ) (l l' : List ℕ)
    → first' ≡ first → l' ≡ l → IsLinkedList end nexts first l → IsLinkedList end nexts first' l'
IsLinkedList-at first first' l l' p q r = rw (p, q) r

-- the lists are what following the links gives
pub rows_are : (end : ℕ) (firsts nexts : List ℕ) (lists : List (List ℕ))
    → AreLinkedLists end firsts nexts lists → length nexts ≤ end → linked_lists firsts nexts ≡ lists
rows_are end firsts nexts lists linked limit =
    same_lists (linked_lists firsts nexts) lists (length-map firsts (follow nexts (length nexts)) ∙ sym linked.rows)
    (λ k d within.
    let inside : k < length firsts = omega (arith, within, length-map firsts (follow nexts (length nexts))) in
    let here : k < length lists = omega (arith, inside, linked.rows) in
    get_or-map (follow nexts (length nexts)) firsts k 0 d inside
    ∙ row_is end (get_or firsts k 0) nexts (nth_list lists k) (linked.each k inside) limit
    ∙ ap (λ o. unwrap_or o []) (slice_get-get_or lists k d here))

-- one more node, with empty lists

pub AreLinkedLists-node : (end : ℕ) (firsts nexts : List ℕ) (lists : List (List ℕ))
    → AreLinkedLists end firsts nexts lists → AreLinkedLists end (firsts ++ end ∷ []) nexts (lists ++ [] ∷ [])
AreLinkedLists-node end firsts nexts lists linked =
    record {
      rows = length_push lists [] ∙ ap (λ n. n + 1) linked.rows ∙ sym (length_push firsts end);
      each = λ n within.
          elim (cases_eq n (length firsts)) [
            | inl last ↦
                let empty : nth_list (lists ++ [] ∷ []) n ≡ [] =
                row_push lists n ∙ row_past lists n (omega (arith, last, linked.rows)) in
                IsLinkedList-at end _ [] _ (get_or_push firsts end 0 n (sym last)) empty
                (record { starts = refl; distinct = tt; goes_on = λ e p. absurd (Contains-nil e p) })
            | inr other ↦
                let inside : n < length firsts = omega (arith, within, other, length_push firsts end) in
                IsLinkedList-at _ _ _ _ (get_or_append_left firsts (end ∷ []) 0 n inside) (row_push lists n)
                (linked.each n inside)
          ];
    }

pub ListsEach-node : (ends : List ℕ) (lists : List (List ℕ)) → ListsEach ends lists → ListsEach ends (lists ++ [] ∷ [])
ListsEach-node ends lists listed n e = rw (row_push lists n) (listed n e)

-- one more edge m, first in the list of a

pub AreLinkedLists-put : {end : ℕ} {firsts nexts nexts' : List ℕ} {lists : List (List ℕ)} (a m : ℕ)
    → AreLinkedLists end firsts nexts lists → a < length firsts → ((n : ℕ) → ¬ Contains (nth_list lists n) m)
    → slice_get nexts' m ≡ Some (get_or firsts a 0)
    → ((f : ℕ) → f ≢ m → f < length nexts → slice_get nexts' f ≡ slice_get nexts f)
    → AreLinkedLists end (set firsts a m) nexts' (set lists a (m ∷ nth_list lists a))
AreLinkedLists-put {end} {firsts} {nexts} {nexts'} {lists} a m linked inside_a fresh new_link old_links =
    record {
      rows = length-set lists a _ ∙ linked.rows ∙ sym (length-set firsts a m);
      each = λ n within.
          let inside : n < length firsts = omega (arith, within, length-set firsts a m) in
          elim (cases_eq n a) [
            | inl same ↦
                subst (λ z. IsLinkedList end nexts' (get_or (set firsts a m) z 0)
                (nth_list (set lists a (m ∷ nth_list lists a)) z)) (sym same) at_a
            | inr other ↦
                IsLinkedList-at _ _ _ _ (get_or-set_other firsts a n m 0 other) (row-set_other lists a n _ other)
                (kept n inside)
          ];
    }
  where
    old_link : (n e : ℕ)
        → n < length firsts → Contains (nth_list lists n) e → slice_get nexts' e ≡ Some (after end (nth_list lists n) e)
    old_link n e inside p =
        let goes = (linked.each n inside).goes_on e p in
        old_links e (λ same. fresh n (subst (Contains (nth_list lists n)) same p)) (slice_get_within nexts e _ goes)
        ∙ goes

    kept : (n : ℕ) → n < length firsts → IsLinkedList end nexts' (get_or firsts n 0) (nth_list lists n)
    kept n inside = record {
      starts = (linked.each n inside).starts;
      distinct = (linked.each n inside).distinct;
      goes_on = λ e p. old_link n e inside p;
    }

    whole : IsLinkedList end nexts' m (m ∷ nth_list lists a)
    whole =
        record {
          starts = refl;
          distinct = (fresh a, (linked.each a inside_a).distinct);
          goes_on = λ e p.
              elim (cases_eq m e) [
                | inl same ↦
                    subst (λ z. slice_get nexts' z ≡ Some (after end (m ∷ nth_list lists a) z)) same
                    (new_link ∙ ap Some ((linked.each a inside_a).starts ∙ sym (after_here end m (nth_list lists a))))
                | inr other ↦ elim (Contains-cases m e (nth_list lists a) p) [
                  | inl here ↦ absurd (other here)
                  | inr there ↦
                      old_link a e inside_a there ∙ ap Some (sym (after_there end m e (nth_list lists a) other))
                ]
              ];
        }

    at_a : IsLinkedList end nexts' (get_or (set firsts a m) a 0) (nth_list (set lists a (m ∷ nth_list lists a)) a)
    at_a =
        IsLinkedList-at _ _ _ _ (get_or-set_same firsts a m 0 inside_a)
        (row-set_same lists a _ (omega (arith, inside_a, linked.rows))) whole

-- the edges of lists are within the links
pub linked_within : (end : ℕ) (firsts nexts : List ℕ) (lists : List (List ℕ)) (n e : ℕ)
    → AreLinkedLists end firsts nexts lists → Contains (nth_list lists n) e → e < length nexts
linked_within end firsts nexts lists n e linked p =
    slice_get_within nexts e _ ((linked.each n (omega (arith, row_within lists n e p, linked.rows))).goes_on e p)

pub AreLinkedLists-edge : (end : ℕ) (firsts nexts : List ℕ) (lists : List (List ℕ)) (a m : ℕ)
    → m ≡ length nexts → AreLinkedLists end firsts nexts lists → a < length firsts
    → AreLinkedLists end (set firsts a m) (nexts ++ get_or firsts a 0 ∷ []) (set lists a (m ∷ nth_list lists a))
AreLinkedLists-edge end firsts nexts lists a m new linked inside_a =
    AreLinkedLists-put a m linked inside_a (λ n p. let within =
    linked_within end firsts nexts lists n m linked p in omega (arith, within, new))
    (ap (slice_get (nexts ++ get_or firsts a 0 ∷ [])) new ∙ slice_get-push_new nexts (get_or firsts a 0))
    (λ f other within. slice_get-push_old nexts (get_or firsts a 0) f within)

pub ListsBy-put : (end_of end_of' : ℕ → Option ℕ) (lists : List (List ℕ)) {a : ℕ} (m : ℕ)
    → ListsBy end_of lists → a < length lists → end_of m ≡ None → end_of' m ≡ Some a
    → ((f : ℕ) → f ≢ m → end_of' f ≡ end_of f) → ListsBy end_of' (set lists a (m ∷ nth_list lists a))
ListsBy-put end_of end_of' lists {a} m listed inside none some others n e =
    elim (cases_eq e m) [
      | inl new ↦
          let stands : end_of' e ≡ Some a = ap end_of' new ∙ some in
          elim (cases_eq n a) [
            | inl same ↦ (
              λ p. stands ∙ ap Some (sym same),
              λ q.
                  subst (λ l. Contains l e)
                  (sym (ap (nth_list (set lists a (m ∷ nth_list lists a))) same ∙ row-set_same lists a _ inside))
                  (subst (Contains (m ∷ nth_list lists a)) (sym new) (Contains-here m (nth_list lists a))),
            )
            | inr other ↦ (
              λ p.
                  absurd (none-some n (sym none ∙ ap end_of (sym new)
                  ∙ (listed n e).0 (subst (λ l. Contains l e) (row-set_other lists a n _ other) p))),
              λ q. absurd (other (same_Some n a (sym q ∙ stands))),
            )
          ]
      | inr old ↦
          let stands : end_of' e ≡ end_of e = others e old in
          elim (cases_eq n a) [
            | inl same ↦
                let is : nth_list (set lists a (m ∷ nth_list lists a)) n ≡ m ∷ nth_list lists n =
                ap (nth_list (set lists a (m ∷ nth_list lists a))) same ∙ row-set_same lists a _ inside
                ∙ ap (λ z. m ∷ nth_list lists z) (sym same) in (
                  λ p. elim (Contains-cases m e (nth_list lists n) (subst (λ l. Contains l e) is p)) [
                    | inl here ↦ absurd (old (sym here))
                    | inr there ↦ stands ∙ (listed n e).0 there
                  ],
                  λ q.
                      subst (λ l. Contains l e) (sym is)
                      (Contains-there m e (nth_list lists n) ((listed n e).1 (sym stands ∙ q))),
                )
            | inr other ↦
                let is : nth_list (set lists a (m ∷ nth_list lists a)) n ≡ nth_list lists n =
                row-set_other lists a n _ other in (
                  λ p. stands ∙ (listed n e).0 (subst (λ l. Contains l e) is p),
                  λ q. subst (λ l. Contains l e) (sym is) ((listed n e).1 (sym stands ∙ q)),
                )
          ]
    ]

pub ListsEach-edge : (ends : List ℕ) (lists : List (List ℕ)) (a m : ℕ) → m ≡ length ends → a < length lists
    → ListsEach ends lists → ListsEach (ends ++ a ∷ []) (set lists a (m ∷ nth_list lists a))
ListsEach-edge ends lists a m new inside listed =
    ListsBy-put (slice_get ends) (slice_get (ends ++ a ∷ [])) lists m listed inside
    (slice_get_past ends m (omega (arith, new))) (ap (slice_get (ends ++ a ∷ [])) new ∙ slice_get-push_new ends a)
    (λ f other. slice_get-push_other ends a f (λ same. other (same ∙ sym new)))

-- links and firsts that look the same to each list

pub IsLinkedList-kept : (end : ℕ) (nexts nexts' : List ℕ) (first : ℕ) (l : List ℕ) → IsLinkedList end nexts first l
    → ((f : ℕ) → Contains l f → slice_get nexts' f ≡ slice_get nexts f) → IsLinkedList end nexts' first l
IsLinkedList-kept end nexts nexts' first l r kept = record {
  starts = r.starts;
  distinct = r.distinct;
  goes_on = λ f p. kept f p ∙ r.goes_on f p;
}

pub AreLinkedLists-kept : (end : ℕ) (firsts firsts' nexts nexts' : List ℕ) (lists : List (List ℕ))
    → AreLinkedLists end firsts nexts lists → firsts' ≡ firsts
    → ((n f : ℕ) → Contains (nth_list lists n) f → slice_get nexts' f ≡ slice_get nexts f)
    → AreLinkedLists end firsts' nexts' lists
AreLinkedLists-kept end firsts firsts' nexts nexts' lists linked same kept =
    rw same (record {
      rows = linked.rows;
      each =
          λ n within.
          IsLinkedList-kept end nexts nexts' (get_or firsts n 0) (nth_list lists n) (linked.each n within) (kept n);
    })

-- no edge at all

pub AreLinkedLists-none : (end : ℕ) (firsts : List ℕ) (lists : List (List ℕ)) → length lists ≡ length firsts
    → ((n : ℕ) → n < length firsts → get_or firsts n 0 ≡ end) → AreLinkedLists end firsts [] (map (λ _. []) lists)
AreLinkedLists-none end firsts lists rows ends =
    record {
      rows = length-map lists (λ _. []) ∙ rows;
      each = λ n within.
          subst (IsLinkedList end [] (get_or firsts n 0)) (sym (row-map (λ _. []) refl lists n))
          (record { starts = ends n within; distinct = tt; goes_on = λ e p. absurd (Contains-nil e p) });
    }

pub ListsBy-none : (end_of : ℕ → Option ℕ) (lists : List (List ℕ))
    → ((e : ℕ) → end_of e ≡ None) → ListsBy end_of (map (λ _. []) lists)
ListsBy-none end_of lists none n e = (
  λ p. absurd (Contains-nil e (subst (λ l. Contains l e) (row-map (λ _. []) refl lists n) p)),
  λ q. absurd (none-some n (sym (none e) ∙ q)),
)

-- the one link to an edge of a list, which leads elsewhere now

pub Redirected-first : (end : ℕ) {firsts nexts : List ℕ} (l : List ℕ) (n old new : ℕ)
    → IsLinkedList end nexts (get_or firsts n 0) l → get_or firsts n 0 ≡ old → old ≢ end
    → Redirected l n old new firsts nexts (set firsts n new) nexts
Redirected-first end {firsts} l n old new r here inside =
    record {
      first = ap (set firsts n) (sym (renamed_here old new) ∙ ap (renamed old new) (sym here));
      same_length = refl;
      inside = λ e p.
          let not_old : after end l e ≢ old = λ q.
          after_not_first end l e r.distinct (λ z. inside (sym here ∙ r.starts ∙ z)) (q ∙ sym here ∙ r.starts) in
          r.goes_on e p
          ∙ sym
          (ap (option_map (renamed old new)) (r.goes_on e p) ∙ ap Some (renamed_other old new (after end l e) not_old));
      outside = λ e p. refl;
    }

pub Redirected-later : {end : ℕ} {firsts nexts : List ℕ} {l : List ℕ} {n : ℕ} (p : ℕ) {old new : ℕ}
    → IsLinkedList end nexts (get_or firsts n 0) l → get_or firsts n 0 ≢ old → Contains l p → after end l p ≡ old
    → old ≢ end → Redirected l n old new firsts nexts firsts (set nexts p new)
Redirected-later {end} {firsts} {nexts} {l} {n} p {old} {new} r later listed before inside =
    let p_in : p < length nexts = slice_get_within nexts p _ (r.goes_on p listed) in
    record {
      first = sym (ap (set firsts n) (renamed_other old new (get_or firsts n 0) later) ∙ set-get_or firsts n 0);
      same_length = length-set nexts p new;
      inside = λ e q.
          elim (cases_eq e p) [
            | inl same ↦
                ap (slice_get (set nexts p new)) same ∙ slice_get-set_same nexts p new p_in
                ∙ sym (ap (λ z. option_map (renamed old new) (slice_get nexts z)) same
                ∙ ap (option_map (renamed old new)) (r.goes_on p listed ∙ ap Some before)
                ∙ ap Some (renamed_here old new))
            | inr other ↦
                let not_old : after end l e ≢ old = λ z.
                other (after_injective end l e p r.distinct q listed (z ∙ sym before) (λ w. inside (sym z ∙ w))) in
                slice_get-set_other nexts p e new other ∙ r.goes_on e q
                ∙ sym (ap (option_map (renamed old new)) (r.goes_on e q)
                ∙ ap Some (renamed_other old new (after end l e) not_old))
          ];
      outside = λ e q. slice_get-set_other nexts p e new (λ same. q (subst (Contains l) (sym same) listed));
    }

-- e taken out of its list

pub AreLinkedLists-with_edge_unlinked : {end : ℕ} {firsts nexts firsts' nexts' : List ℕ} (end_of : ℕ → Option ℕ)
    {lists : List (List ℕ)} {n e new : ℕ}
    → AreLinkedLists end firsts nexts lists → ListsBy end_of lists → end_of e ≡ Some n → n < length firsts → e ≢ end
    → slice_get nexts e ≡ Some new → Redirected (nth_list lists n) n e new firsts nexts firsts' nexts'
    → AreLinkedLists end firsts' nexts' (map (without e) lists)
AreLinkedLists-with_edge_unlinked {end} {firsts} {nexts} {firsts'} {nexts'} end_of {lists} {n} {e} {new} linked listed
    at_n n_in inside goes red =
    record {
      rows = length-map lists (without e) ∙ linked.rows ∙ sym (ap length red.first ∙ length-set firsts n _);
      each = λ m within.
          let m_in : m < length firsts =
          omega (arith, within, ap length red.first, length-set firsts n (renamed e new (get_or firsts n 0))) in
          elim (cases_eq m n) [
            | inl same ↦
                subst (λ z. IsLinkedList end nexts' (get_or firsts' z 0) (nth_list (map (without e) lists) z))
                (sym same) at_row
            | inr other ↦
                IsLinkedList-at (get_or firsts m 0) (get_or firsts' m 0) (nth_list lists m)
                (nth_list (map (without e) lists) m)
                (ap (λ l. get_or l m 0) red.first ∙ get_or-set_other firsts n m _ 0 other)
                (row-map (without e) refl lists m
                ∙ without_outside e (nth_list lists m) (λ p. other (same_Some m n (sym ((listed m e).0 p) ∙ at_n))))
                (record {
                  starts = (linked.each m m_in).starts;
                  distinct = (linked.each m m_in).distinct;
                  goes_on = λ f p.
                      red.outside f (λ q. other (same_Some m n (sym ((listed m f).0 p) ∙ (listed n f).0 q)))
                      ∙ (linked.each m m_in).goes_on f p;
                })
          ];
    }
  where
    there : Contains (nth_list lists n) e
    there = (listed n e).1 at_n

    new_is : after end (nth_list lists n) e ≡ new
    new_is = same_Some _ new (sym ((linked.each n n_in).goes_on e there) ∙ goes)

    the_row : IsLinkedList end nexts' (renamed e new (get_or firsts n 0)) (without e (nth_list lists n))
    the_row =
        let l = nth_list lists n in
        let r = linked.each n n_in in
        record {
          starts =
              ap (renamed e new) r.starts ∙ ap (λ z. renamed e z (first_of end l)) (sym new_is)
              ∙ sym (first_of-without end e l r.distinct inside);
          distinct = AreDistinct-without e l r.distinct;
          goes_on = λ f p.
              let was = Contains-from_without e f l p in
              red.inside f was.0 ∙ ap (option_map (renamed e new)) (r.goes_on f was.0)
              ∙ ap (λ z. Some (renamed e z (after end l f))) (sym new_is)
              ∙ ap Some (sym (after-without end e l f r.distinct was.0 was.1 inside));
        }

    at_row : IsLinkedList end nexts' (get_or firsts' n 0) (nth_list (map (without e) lists) n)
    at_row =
        IsLinkedList-at _ _ _ _ (ap (λ l. get_or l n 0) red.first ∙ get_or-set_same firsts n _ 0 n_in)
        (row-map (without e) refl lists n) the_row

-- the lists list what is left
pub ListsBy-without : (end_of end_of' : ℕ → Option ℕ) (lists : List (List ℕ)) (e : ℕ) → ListsBy end_of lists
    → end_of' e ≡ None → ((f : ℕ) → f ≢ e → end_of' f ≡ end_of f) → ListsBy end_of' (map (without e) lists)
ListsBy-without end_of end_of' lists e listed none others n f =
    let is : nth_list (map (without e) lists) n ≡ without e (nth_list lists n) = row-map (without e) refl lists n in (
      λ p. let was = Contains-from_without e f (nth_list lists n) (subst (λ l. Contains l f) is p) in
          others f was.1 ∙ (listed n f).0 was.0,
      λ q. let other : f ≢ e = λ same. none-some n (sym none ∙ ap end_of' (sym same) ∙ q) in
          subst (λ l. Contains l f) (sym is)
          (Contains-without e f (nth_list lists n) other ((listed n f).1 (sym (others f other) ∙ q))),
    )

-- the last edge renamed in its list, and moved to the place of e

-- `last` stands in the list of n and can be renamed to another number e: no list has e, and no two share an element
pub record CanRename (lists : List (List ℕ)) (n last e : ℕ) : Type 0 where
  pub apart : (m k f : ℕ) → Contains (nth_list lists m) f → Contains (nth_list lists k) f → m ≡ k
  pub unlisted : (m : ℕ) → ¬ Contains (nth_list lists m) e
  pub there : Contains (nth_list lists n) last
  pub differs : e ≢ last

pub AreLinkedLists-renamed : {end : ℕ} {firsts nexts : List ℕ} {firsts' nexts' : List ℕ} {nexts'' : List ℕ}
    {lists : List (List ℕ)} {n e last : ℕ}
    → AreLinkedLists end firsts nexts lists → CanRename lists n last e → n < length firsts
    → length nexts ≡ suc last → last ≢ end → Redirected (nth_list lists n) n last e firsts nexts firsts' nexts'
    → IsSwapRemoved nexts' nexts'' e last → AreLinkedLists end firsts' nexts'' (map (map (renamed last e)) lists)
AreLinkedLists-renamed {end} {firsts} {nexts} {firsts'} {nexts'} {nexts''} {lists} {n} {e} {last} linked can n_in long
    inside red moves =
    record {
      rows = length-map lists (map (renamed last e)) ∙ linked.rows ∙ sym (ap length red.first ∙ length-set firsts n _);
      each = λ m within.
          let m_in : m < length firsts =
          omega (arith, within, ap length red.first, length-set firsts n (renamed last e (get_or firsts n 0))) in
          elim (cases_eq m n) [
            | inl same ↦
                subst
                (λ z. IsLinkedList end nexts'' (get_or firsts' z 0) (nth_list (map (map (renamed last e)) lists) z))
                (sym same) at_row
            | inr other ↦
                let r = linked.each m m_in in
                let no_last : ¬ Contains (nth_list lists m) last = λ p. other (can.apart m n last p can.there) in
                IsLinkedList-at (get_or firsts m 0) (get_or firsts' m 0) (nth_list lists m)
                (nth_list (map (map (renamed last e)) lists) m)
                (ap (λ l. get_or l m 0) red.first ∙ get_or-set_other firsts n m _ 0 other)
                (row-map (map (renamed last e)) refl lists m ∙ map-renamed_outside last e (nth_list lists m) no_last)
                (record {
                  starts = r.starts;
                  distinct = r.distinct;
                  goes_on = λ f p.
                      let f_in : f < length nexts = slice_get_within nexts f _ (r.goes_on f p) in
                      let f_last : f ≢ last = λ q. no_last (subst (Contains (nth_list lists m)) q p) in
                      let f_e : f ≢ e = λ q. can.unlisted m (subst (Contains (nth_list lists m)) q p) in
                      moves.kept f (omega (arith, f_in, long, f_last)) f_e
                      ∙ red.outside f (λ q. other (can.apart m n f p q)) ∙ r.goes_on f p;
                })
          ];
    }
  where
    fixed : renamed last e end ≡ end
    fixed = renamed_other last e end (λ q. inside (sym q))

    the_row : IsLinkedList end nexts'' (renamed last e (get_or firsts n 0)) (map (renamed last e) (nth_list lists n))
    the_row =
        let l = nth_list lists n in
        let r = linked.each n n_in in
        let injective = renamed-injective last e l (can.unlisted n) in
        record {
          starts = ap (renamed last e) r.starts ∙ sym (first_of-map end (renamed last e) l fixed);
          distinct = AreDistinct-map (renamed last e) l injective r.distinct;
          goes_on = λ z p.
              let from = Contains-from_map (renamed last e) l z p in
              let f = from.0 in
              let f_in : f < length nexts = slice_get_within nexts f _ (r.goes_on f from.1) in
              let links : slice_get nexts' f ≡ Some (after end (map (renamed last e) l) z) =
              red.inside f from.1 ∙ ap (option_map (renamed last e)) (r.goes_on f from.1)
              ∙ ap Some (sym (after-map end (renamed last e) l f injective fixed from.1))
              ∙ ap (λ w. Some (after end (map (renamed last e) l) w)) from.2 in
              elim (cases_eq f last) [
                | inl same ↦
                    let at_e : z ≡ e = sym from.2 ∙ ap (renamed last e) same ∙ renamed_here last e in
                    ap (slice_get nexts'') at_e ∙ moves.moved can.differs ∙ ap (slice_get nexts') (sym same) ∙ links
                | inr other ↦
                    let at_f : z ≡ f = sym from.2 ∙ renamed_other last e f other in
                    let f_e : f ≢ e = λ q. can.unlisted n (subst (Contains l) q from.1) in
                    ap (slice_get nexts'') at_f ∙ moves.kept f (omega (arith, f_in, long, other)) f_e ∙ links
              ];
        }

    at_row : IsLinkedList end nexts'' (get_or firsts' n 0) (nth_list (map (map (renamed last e)) lists) n)
    at_row =
        IsLinkedList-at _ _ _ _ (ap (λ l. get_or l n 0) red.first ∙ get_or-set_same firsts n _ 0 n_in)
        (row-map (map (renamed last e)) refl lists n) the_row

-- the last edge itself is removed: nothing is renamed
pub renamed_itself : (e n : ℕ) → renamed e e n ≡ n
renamed_itself e n = elim (cases_eq n e) [
  | inl same ↦ ap (renamed e e) same ∙ renamed_here e e ∙ sym same
  | inr other ↦ renamed_other e e n other
]

map-renamed_itself : (e : ℕ) (xs : List ℕ) → map (renamed e e) xs ≡ xs
map-renamed_itself e [] = refl
map-renamed_itself e (x ∷ xs) =
    ap (λ z. z ∷ map (renamed e e) xs) (renamed_itself e x) ∙ ap (λ l. x ∷ l) (map-renamed_itself e xs)

pub AreLinkedLists-cut : (end : ℕ) {firsts nexts : List ℕ} (nexts'' : List ℕ) {lists : List (List ℕ)} (e last : ℕ)
    → AreLinkedLists end firsts nexts lists → ((m : ℕ) → ¬ Contains (nth_list lists m) e) → length nexts ≡ suc last
    → e ≡ last → IsSwapRemoved nexts nexts'' e last
    → AreLinkedLists end firsts nexts'' (map (map (renamed last e)) lists)
AreLinkedLists-cut end {firsts} {nexts} nexts'' {lists} e last linked out long same moves =
    record {
      rows = length-map lists (map (renamed last e)) ∙ linked.rows;
      each = λ m within.
          let r = linked.each m within in
          IsLinkedList-at (get_or firsts m 0) (get_or firsts m 0) (nth_list lists m)
          (nth_list (map (map (renamed last e)) lists) m) refl
          (row-map (map (renamed last e)) refl lists m ∙ ap (λ z. map (renamed last z) (nth_list lists m)) same
          ∙ map-renamed_itself last (nth_list lists m))
          (record {
            starts = r.starts;
            distinct = r.distinct;
            goes_on = λ f p.
                let f_in : f < length nexts = slice_get_within nexts f _ (r.goes_on f p) in
                let f_e : f ≢ e = λ q. out m (subst (Contains (nth_list lists m)) q p) in
                moves.kept f (omega (arith, f_in, long, f_e, same)) f_e ∙ r.goes_on f p;
          });
    }

-- the lists list each edge that is left under its new number

pub ListsEach-removed : (ends ends'' : List ℕ) (lists : List (List ℕ)) (e last : ℕ)
    → ListsEach ends lists → e < length ends → IsSwapRemoved ends ends'' e last
    → ListsEach ends'' (map (map (renamed last e)) (map (without e) lists))
ListsEach-removed ends ends'' lists e last listed e_in moves n z =
    let is : nth_list (map (map (renamed last e)) (map (without e) lists)) n
    ≡ map (renamed last e) (without e (nth_list lists n)) =
    row-map (map (renamed last e)) refl (map (without e) lists) n
    ∙ ap (map (renamed last e)) (row-map (without e) refl lists n) in (
      λ p. forwards (subst (λ l. Contains l z) is p),
      λ q. subst (λ l. Contains l z) (sym is) (backwards q),
    )
  where
    forwards : Contains (map (renamed last e) (without e (nth_list lists n))) z → slice_get ends'' z ≡ Some n
    forwards p =
        let from = Contains-from_map (renamed last e) (without e (nth_list lists n)) z p in
        let f = from.0 in
        let was = Contains-from_without e f (nth_list lists n) from.1 in
        let stands = (listed n f).0 was.0 in
        let f_in : f < length ends = slice_get_within ends f n stands in
        elim (cases_eq f last) [
          | inl same ↦
              let at_e : z ≡ e = sym from.2 ∙ ap (renamed last e) same ∙ renamed_here last e in
              ap (slice_get ends'') at_e ∙ moves.moved (λ q. was.1 (same ∙ sym q)) ∙ ap (slice_get ends) (sym same)
              ∙ stands
          | inr other ↦
              let at_f : z ≡ f = sym from.2 ∙ renamed_other last e f other in
              ap (slice_get ends'') at_f ∙ moves.kept f (omega (arith, f_in, moves.long, other)) was.1 ∙ stands
        ]

    backwards : slice_get ends'' z ≡ Some n → Contains (map (renamed last e) (without e (nth_list lists n))) z
    backwards q =
        elim (cases_lt z last) [
          | inr past ↦ absurd (none-some n (sym (moves.gone z past) ∙ q))
          | inl below ↦ elim (cases_eq z e) [
            | inl same ↦
                let differs : e ≢ last = λ w. omega (arith, same, w, below) in
                let stands : slice_get ends last ≡ Some n =
                sym (moves.moved differs) ∙ ap (slice_get ends'') (sym same) ∙ q in
                let kept =
                Contains-without e last (nth_list lists n) (λ w. differs (sym w)) ((listed n last).1 stands) in
                subst (Contains (map (renamed last e) (without e (nth_list lists n)))) (renamed_here last e ∙ sym same)
                (Contains-map (renamed last e) _ last kept)
            | inr other ↦
                let stands : slice_get ends z ≡ Some n = sym (moves.kept z below other) ∙ q in
                let kept = Contains-without e z (nth_list lists n) other ((listed n z).1 stands) in
                subst (Contains (map (renamed last e) (without e (nth_list lists n))))
                (renamed_other last e z (λ w. omega (arith, w, below))) (Contains-map (renamed last e) _ z kept)
          ]
        ]
