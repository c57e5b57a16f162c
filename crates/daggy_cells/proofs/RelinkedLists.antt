-- Linking lists in a new order.
use Rattle.std.proofs.Common.{◌≡◌, ℕ, zero, suc, ◌+◌, ◌<◌, ◌≤◌, List, [], ◌∷◌, map, length, get_or, set, drop, Some}
use Rattle.std.proofs.Common.{slice_get, refl, sym, ap, subst, ◌∙◌, inl, inr, arith, Contains}
use Rattle.std.proofs.lemmas.Bool.{cases_eq}
use Rattle.std.proofs.lemmas.List.{length-map, length-set, get_or-map, get_or-set_same, get_or-set_other, drop_more}
use Rattle.std.proofs.lemmas.List.{drop_all}
use Rattle.daggy_base.specs.declared.index.Direction.{Direction}
use Rattle.daggy_base.specs.declared.index.Direction.TheVariants.{Outgoing, Incoming}
use Rattle.daggy_base.specs.Cursor.{first_of, after}
use Rattle.daggy_base.specs.WellFormed.{AreDistinct}
use Rattle.daggy_base.proofs.Lists.{Contains-nil, Contains-here, Contains-there, Contains-cases, slice_get-set_same}
use Rattle.daggy_base.proofs.Lists.{slice_get-set_other}
use Rattle.daggy_cells.specs.declared.cell.Node.{Node}
use Rattle.daggy_cells.specs.declared.cell.Edge.{Edge}
use Rattle.std.specs.Prelude.{slice_index}
use Rattle.daggy_cells.specs.Links.{nth_list, IsLinkedList, AreLinkedLists, CanLink, Relinked, CanLinkAll}
use Rattle.daggy_cells.specs.Raw.{raw_next}
use Rattle.daggy_cells.specs.Fields.{firsts_of, nexts_of, with_first, with_next, KeepsNodes, KeepsEdges, Relinks}
use Rattle.daggy_cells.specs.Fields.{order_at}
use Rattle.daggy_cells.proofs.LinkedLists.{after_here, after_there}
use Rattle.daggy_cells.proofs.FieldLemmas.{KeepsNodes-set, KeepsEdges-set, firsts_of-set, nexts_of-set}
use Rattle.daggy_cells.proofs.LinkedListChanges.{IsLinkedList-at}

-- the rest of a list

Contains-drop : (k : ℕ) (xs : List ℕ) (x : ℕ) → Contains (drop k xs) x → Contains xs x
Contains-drop zero xs x p = p
Contains-drop (suc k) [] x p = p
Contains-drop (suc k) (y ∷ ys) x p = Contains-there y x ys (Contains-drop k ys x p)

AreDistinct-drop : (k : ℕ) (xs : List ℕ) → AreDistinct xs → AreDistinct (drop k xs)
AreDistinct-drop zero xs d = d
AreDistinct-drop (suc k) [] d = d
AreDistinct-drop (suc k) (y ∷ ys) d = AreDistinct-drop k ys d.1

-- one more element in front

Relinked-none : (end : ℕ) (nexts : List ℕ) → Relinked end [] nexts nexts
Relinked-none end nexts = record {
  same_length = refl;
  inside = λ e p. absurd (Contains-nil e p);
  outside = λ e p. refl;
}

Relinked-front : (end e : ℕ) (rest nexts nexts' : List ℕ) → ¬ Contains rest e → e < length nexts'
    → Relinked end rest nexts nexts' → Relinked end (e ∷ rest) nexts (set nexts' e (first_of end rest))
Relinked-front end e rest nexts nexts' out within r =
    record {
      same_length = length-set nexts' e (first_of end rest) ∙ r.same_length;
      inside = λ f p.
          elim (cases_eq e f) [
            | inl same ↦
                subst (λ z. slice_get (set nexts' e (first_of end rest)) z ≡ Some (after end (e ∷ rest) z)) same
                (slice_get-set_same nexts' e (first_of end rest) within ∙ ap Some (sym (after_here end e rest)))
            | inr other ↦ elim (Contains-cases e f rest p) [
              | inl here ↦ absurd (other here)
              | inr there ↦
                  slice_get-set_other nexts' e f (first_of end rest) (λ q. other (sym q)) ∙ r.inside f there
                  ∙ ap Some (sym (after_there end e f rest other))
            ]
          ];
      outside = λ f p.
          slice_get-set_other nexts' e f (first_of end rest)
          (λ same. p (subst (Contains (e ∷ rest)) (sym same) (Contains-here e rest)))
          ∙ r.outside f (λ q. p (Contains-there e f rest q));
    }

KeepsEdges-both : {E Ix : Type 0} (dir : Direction) (old now new : List (Edge E Ix))
    → KeepsEdges dir old now → KeepsEdges dir now new → KeepsEdges dir old new
KeepsEdges-both dir old now new k l = record {
  edges = l.edges ∙ k.edges;
  ends = λ d. l.ends d ∙ k.ends d;
  nexts = l.nexts ∙ k.nexts;
}

-- the list is linked from the position `left` on, and begins with `after` there
module _ {E Ix : Type 0} (end : ℕ) (dir : Direction) (list : List ℕ) (old : List (Edge E Ix)) where
  pub record IsRelinking (now : List (Edge E Ix)) (left after : ℕ) : Type 0 where
    pub bound : left ≤ length list
    pub first : after ≡ first_of end (drop left list)
    pub nexts : Relinked end (drop left list) (nexts_of dir old) (nexts_of dir now)
    pub keeps : KeepsEdges dir old now

  pub relinking_start : (left after : ℕ) → left ≡ length list → after ≡ end → IsRelinking old left after
  relinking_start left after left_is after_is =
      let nothing : drop left list ≡ [] = drop_all left list (omega (arith, left_is)) in
      record {
        bound = omega (arith, left_is);
        first = after_is ∙ sym (ap (first_of end) nothing);
        nexts =
            subst (λ l. Relinked end l (nexts_of dir old) (nexts_of dir old)) (sym nothing)
            (Relinked-none end (nexts_of dir old));
        keeps = record { edges = refl; ends = λ d. refl; nexts = refl };
      }

  -- the element before is linked too
  pub relinking_step : CanLink (length old) list
      → {now : List (Edge E Ix)} {left k after i e : ℕ} {x x' : Edge E Ix} → IsRelinking now left after → left ≡ suc k
      → e ≡ get_or list k e → i ≡ e → x ≡ get_or now i x → x' ≡ with_next dir x after → IsRelinking (set now i x') k e
  relinking_step can {now} {left} {k} {after} {i} {e} {x} {x'} t left_is e_is i_is x_is x'_is =
      let k_in : k < length list = omega (arith, left_is, t.bound) in
      let rest = drop (k + 1) list in
      let from : drop left list ≡ rest = ap (λ n. drop n list) (omega (arith, left_is)) in
      let split : drop k list ≡ e ∷ rest = drop_more list k e k_in ∙ ap (λ z. z ∷ rest) (sym e_is) in
      let out = (subst AreDistinct split (AreDistinct-drop k list can.once)).0 in
      let within : e < length old = can.within e (k, k_in, sym e_is) in
      let t_rest : Relinked end rest (nexts_of dir old) (nexts_of dir now) =
      subst (λ l. Relinked end l (nexts_of dir old) (nexts_of dir now)) from t.nexts in
      let e_in : e < length (nexts_of dir now) =
      omega (arith, within, t_rest.same_length, length-map old (raw_next dir)) in
      let more = Relinked-front end e rest (nexts_of dir old) (nexts_of dir now) out e_in t_rest in
      let written : nexts_of dir (set now i x') ≡ set (nexts_of dir now) e (first_of end rest) =
      ap (λ z. nexts_of dir (set now i z)) x'_is ∙ nexts_of-set now i x after x_is dir
      ∙ ap (λ z. set (nexts_of dir now) z after) i_is
      ∙ ap (set (nexts_of dir now) e) (t.first ∙ ap (first_of end) from) in
      record {
        bound = omega (arith, k_in);
        first = sym (ap (first_of end) split);
        nexts =
            subst (λ l. Relinked end l (nexts_of dir old) (nexts_of dir (set now i x'))) (sym split)
            (subst (Relinked end (e ∷ rest) (nexts_of dir old)) (sym written) more);
        keeps =
            KeepsEdges-both dir old now (set now i x') t.keeps
            (subst (λ z. KeepsEdges dir now (set now i z)) (sym x'_is) (KeepsEdges-set now i x after x_is dir));
      }

  pub relinking_within : CanLink (length old) list → {now : List (Edge E Ix)} {left k after : ℕ} (e : ℕ)
      → IsRelinking now left after → left ≡ suc k → e ≡ get_or list k e → e < length now
  relinking_within can {now} {left} {k} e t left_is e_is =
      let within : e < length old = can.within e (k, omega (arith, left_is, t.bound), sym e_is) in
      omega (arith, within, t.nexts.same_length, length-map old (raw_next dir), length-map now (raw_next dir))

  pub relinking_done : {N : Type 0} {nodes : List (Node N Ix)} {now : List (Edge E Ix)} {left after n : ℕ}
      {x x' : Node N Ix}
      → IsRelinking now left after → left ≡ 0 → x ≡ get_or nodes n x → x' ≡ with_first dir x after
      → Relinks end dir nodes old n list (set nodes n x') now × KeepsNodes dir nodes (set nodes n x')
  relinking_done {N} {nodes} {now} {left} {after} {n} {x} t left_is x_is x'_is =
      let whole : drop left list ≡ list = ap (λ k. drop k list) left_is in (
        record {
          first =
              ap (λ z. firsts_of dir (set nodes n z)) x'_is ∙ firsts_of-set nodes n x after x_is dir
              ∙ ap (set (firsts_of dir nodes) n) (t.first ∙ ap (first_of end) whole);
          nexts = subst (λ l. Relinked end l (nexts_of dir old) (nexts_of dir now)) whole t.nexts;
        },
        subst (λ z. KeepsNodes dir nodes (set nodes n z)) (sym x'_is) (KeepsNodes-set nodes n x after x_is dir),
      )

-- the place that is read, in a list of numbers
pub number_read : {I : Type 0} (number : I → ℕ) (items : List I) (k e : ℕ) (x : I)
    → k < length items → x ≡ get_or items k x → e ≡ number x → e ≡ get_or (map number items) k e
number_read number items k e x within x_is e_is =
    sym (get_or-map number items k x e within ∙ ap number (sym x_is) ∙ sym e_is)

pub CanLink-as_long : (count count' : ℕ) (list : List ℕ)
    → CanLink count list → count' ≡ count → CanLink count' list
CanLink-as_long count count' list can same = record {
  once = can.once;
  within = λ e p. let below = can.within e p in omega (arith, below, same);
}

-- both directions

-- the list is linked as that of n, and only the links of that direction differ
pub record RelinksOnly {N E Ix : Type 0} (end : ℕ) (dir : Direction) (nodes : List (Node N Ix))
    (edges : List (Edge E Ix)) (n : ℕ) (list : List ℕ) (nodes' : List (Node N Ix)) (edges' : List (Edge E Ix))
    : Type 0 where
  pub links : Relinks end dir nodes edges n list nodes' edges'
  pub keeps : KeepsNodes dir nodes nodes'
  pub keeps_edges : KeepsEdges dir edges edges'

module _ {N E Ix : Type 0} {end n : ℕ} {nodes middle nodes' : List (Node N Ix)}
    {edges between edges' : List (Edge E Ix)} where
  -- a list of each direction, one after the other
  pub relinks_both : (order : List ℕ × List ℕ) {out into : List ℕ}
      → out ≡ order.0 → into ≡ order.1 → RelinksOnly end Outgoing nodes edges n out middle between
      → RelinksOnly end Incoming middle between n into nodes' edges'
      → (dir : Direction) → Relinks end dir nodes edges n (order_at dir order) nodes' edges'
  relinks_both order {out} {into} out_is into_is first second =
      elim [
        | Outgoing ↦ record {
          first =
              second.keeps.firsts ∙ first.links.first
              ∙ ap (λ z. set (firsts_of Outgoing nodes) n (first_of end z)) out_is;
          nexts =
              subst (λ z. Relinked end z (nexts_of Outgoing edges) (nexts_of Outgoing edges')) out_is
              (subst (Relinked end out (nexts_of Outgoing edges)) (sym second.keeps_edges.nexts) first.links.nexts);
        }
        | Incoming ↦ record {
          first =
              second.links.first ∙ ap (λ l. set l n (first_of end into)) first.keeps.firsts
              ∙ ap (λ z. set (firsts_of Incoming nodes) n (first_of end z)) into_is;
          nexts =
              subst (λ z. Relinked end z (nexts_of Incoming edges) (nexts_of Incoming edges')) into_is
              (subst (λ m. Relinked end into m (nexts_of Incoming edges')) first.keeps_edges.nexts second.links.nexts);
        }
      ]

-- the links form the first i of the lists, and the links of elements that are in no list are unchanged
pub record AreLinkedBelow (i end : ℕ) (nexts firsts' nexts' : List ℕ) (lists : List (List ℕ)) : Type 0 where
  pub same_length : length nexts' ≡ length nexts
  pub rows : (n : ℕ) → n < i → IsLinkedList end nexts' (slice_index firsts' n) (nth_list lists n)
  pub others : (e : ℕ) → ((n : ℕ) → ¬ Contains (nth_list lists n) e) → slice_get nexts' e ≡ slice_get nexts e

-- the lists in turn

pub none_below : (end : ℕ) (nexts firsts : List ℕ) (lists : List (List ℕ))
    → AreLinkedBelow 0 end nexts firsts nexts lists
none_below end nexts firsts lists = record {
  same_length = refl;
  rows = λ n within. absurd (omega (arith, within));
  others = λ e p. refl;
}

module _ (i end : ℕ) {nexts firsts nexts' : List ℕ} {lists : List (List ℕ)}
    (t : AreLinkedBelow i end nexts firsts nexts' lists) where
  pub below_empty : get_or firsts i 0 ≡ end → nth_list lists i ≡ []
      → AreLinkedBelow (i + 1) end nexts firsts nexts' lists
  below_empty first_is empty =
      record {
        same_length = t.same_length;
        rows = λ n within.
            elim (cases_eq n i) [
              | inl same ↦
                  IsLinkedList-at end _ [] _ (ap (λ z. get_or firsts z 0) same ∙ first_is) (ap (nth_list lists) same
                  ∙ empty) (record { starts = refl; distinct = tt; goes_on = λ e p. absurd (Contains-nil e p) })
              | inr other ↦ t.rows n (omega (arith, within, other))
            ];
        others = t.others;
      }

  pub below_linked : {count : ℕ} → CanLinkAll count lists → i < length firsts
      → (list : List ℕ) {firsts' nexts'' : List ℕ} → nth_list lists i ≡ list → firsts' ≡ set firsts i
      (first_of end list)
      → Relinked end list nexts' nexts'' → AreLinkedBelow (i + 1) end nexts firsts' nexts'' lists
  below_linked can inside list {firsts'} list_is first_is r =
      record {
        same_length = r.same_length ∙ t.same_length;
        rows = λ n within.
            elim (cases_eq n i) [
              | inl same ↦
                  let d = subst AreDistinct list_is (can.each i).once in
                  IsLinkedList-at (first_of end list) _ list _ (ap (λ z. get_or firsts' z 0) same
                  ∙ ap (λ l. get_or l i 0) first_is ∙ get_or-set_same firsts i (first_of end list) 0 inside)
                  (ap (nth_list lists) same ∙ list_is)
                  (record { starts = refl; distinct = d; goes_on = r.inside })
              | inr other ↦
                  let old = t.rows n (omega (arith, within, other)) in
                  IsLinkedList-at (get_or firsts n 0) _ (nth_list lists n) _
                  (ap (λ l. get_or l n 0) first_is ∙ get_or-set_other firsts i n (first_of end list) 0 other) refl
                  (record {
                    starts = old.starts;
                    distinct = old.distinct;
                    goes_on =
                        λ e p.
                        r.outside e (λ q. other (can.apart n i e p (subst (λ l. Contains l e) (sym list_is) q)))
                        ∙ old.goes_on e p;
                  })
            ];
        others = λ e p. r.outside e (λ q. p i (subst (λ l. Contains l e) (sym list_is) q)) ∙ t.others e p;
      }

  pub all_linked : i ≡ length firsts → length lists ≡ length firsts → AreLinkedLists end firsts nexts' lists
  all_linked all rows = record { rows = rows; each = λ n within. t.rows n (omega (arith, within, all)) }
