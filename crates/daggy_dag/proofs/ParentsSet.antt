-- The edges that enter a node, after new ones were added and the old ones removed from the highest index down.
use Rattle.std.proofs.Common.{◌≡◌, ◌≢◌, ℕ, zero, suc, ◌-◌, ◌<◌, ◌↔◌, not, eqb, true, inl, inr}
use Rattle.std.proofs.Common.{List, [], ◌∷◌, ◌++◌, length, map, set, take, reverse, get_or, slice_get, unwrap_or, Option}
use Rattle.std.proofs.Common.{Some, None, IsSome, refl, sym, ap, subst, ◌∙◌, arith, append_assoc}
use Rattle.std.specs.List.{All, Contains, filter_map}
use Rattle.std.specs.Option.{option_map}
use Rattle.std.proofs.lemmas.Bool.{cases_eq, eq-eqb, ne_eqb}
use Rattle.std.proofs.lemmas.Option.{same_Some, unwrap_or-slice_get}
use Rattle.std.proofs.lemmas.List.{append-nil, reverse-append, map-append, get_or-set_same, get_or-set_other, length-set}
use Rattle.std.proofs.lemmas.List.Elements.{filter-append, filter_map-append}
use Rattle.std.proofs.lemmas.List.Sorted.{Contains-permutation, IsPermutation-reverse, IsPermutation-sym}
use Rattle.daggy_redundant.specs.Comparison.{IsAscending}
use Rattle.daggy_base.specs.Graph.{Graph, Edge, HasNode, HasEdge, edge_at, in_list, slot}
use Rattle.daggy_base.specs.Adding.{NewEdge, with_edge, next_edge, next_slot}
use Rattle.daggy_base.specs.Ordered.{IsOrderOf, place}
use Rattle.daggy_base.specs.Reduction.{IsDescending}
use Rattle.daggy_base.specs.Removal.{without, renamed, without_edge, without_edges}
use Rattle.daggy_base.specs.WellFormed.{IsWellFormed}
use Rattle.daggy_base.specs.declared.kind.Kind.{Kind}
use Rattle.daggy_base.specs.declared.kind.Kind.TheVariants.{Compact, Stable}
use Rattle.daggy_base.proofs.ListParts.{filter_yes, filter_no, is_held}
use Rattle.daggy_base.proofs.Lists.{Mem, mem_cases, contains_mem, mem_contains}
use Rattle.daggy_base.proofs.OutEdgesRead.{below_bound}
use Rattle.daggy_base.proofs.PathsWithEdge.{free_edge}
use Rattle.daggy_base.proofs.PathsWithNode.{bound_low}
use Rattle.daggy_base.proofs.Slots.{IsFree, slot_past, slot_vacant, slot_taken, slot_taken_kept}
use Rattle.daggy_base.proofs.Slots.{slot_taken_new}
use Rattle.daggy_base.proofs.Sorted.{filter_mem}
use Rattle.daggy_order.proofs.OrderLaws.{order_with_edge, order_without_edge}
use Rattle.daggy_reduction.proofs.EdgesRemovedDownward.{keeps_indices, nodes_kept, turned_descends}
use Rattle.daggy_reduction.proofs.RemainingEdges.{below_first, descending_rest, left_below, slot_front, slot_inside}
use Rattle.daggy_reduction.proofs.RemainingEdges.{slot_or, slot_set_other, slot_set_same}
use Rattle.daggy_guard.proofs.ParentsTakenBack.{same_nodes}
use Rattle.daggy_guard.specs.EdgeBatch.{with_edges}
use Rattle.daggy_guard.specs.Parents.{edges_to, entering, HasParentsSet, KeepsOtherEdges}

-- the slot that is taken next holds nothing
slot_free : {A : Type 0} (xs : List (Option A)) (vacant : List ℕ) → IsFree xs vacant → (x : A)
    → slot xs (next_slot xs vacant) ≡ Some x → ⊥
slot_free xs [] free x at = let none = slot_past xs in absurd cc
slot_free xs (v ∷ vs) free x at = let none = slot_vacant xs v free in absurd cc

-- ---- what the edges of a list enter with

abbrev pub shown : {N E : Type 0} → Graph N E → List ℕ → List (ℕ × E)
shown {N} {E} g es =
    map (λ (p : ℕ × Edge E). (p.1.parent, p.1.weight)) (filter_map (λ e. option_map (λ x. (e, x)) (edge_at g e)) es)

shown_one : {N E : Type 0} (g : Graph N E) (e : ℕ) (x : Edge E) (es : List ℕ)
    → edge_at g e ≡ Some x → shown g (e ∷ es) ≡ (x.parent, x.weight) ∷ shown g es
shown_one g e x es at = rw at refl

shown_append : {N E : Type 0} (g : Graph N E) (xs ys : List ℕ) → shown g (xs ++ ys) ≡ shown g xs ++ shown g ys
shown_append {N} {E} g xs ys =
    let f : ℕ → Option (ℕ × Edge E) = λ e. option_map (λ x. (e, x)) (edge_at g e) in
    let v : ℕ × Edge E → ℕ × E = λ p. (p.1.parent, p.1.weight) in
    ap (map v) (filter_map-append f xs ys) ∙ map-append v (filter_map f xs) (filter_map f ys)

-- the edges of a list all exist
abbrev pub Exist : {N E : Type 0} → Graph N E → List ℕ → Type 0
Exist {N} {E} g es = (e : ℕ) → Mem e es → (x : Edge E) × (edge_at g e ≡ Some x)

-- where each still exists under the index that f gives
shown_moved : {N E : Type 0} (g h : Graph N E) (f : ℕ → ℕ) (es : List ℕ)
    → ((e : ℕ) → Mem e es → (x : Edge E) × (edge_at g e ≡ Some x) × (edge_at h (f e) ≡ Some x))
    → shown h (map f es) ≡ shown g es
shown_moved g h f [] each = refl
shown_moved g h f (e ∷ es) each =
    let at = each e (inl refl) in
    shown_one h (f e) at.0 (map f es) at.2
    ∙ ap (λ z. (at.0.parent, at.0.weight) ∷ z) (shown_moved g h f es (λ d m. each d (inr m)))
    ∙ sym (shown_one g e at.0 es at.1)

-- ---- one edge removed

-- the index that an edge has after the one at d is removed
abbrev pub index_after : {N E : Type 0} → Kind → Graph N E → (d e : ℕ) → ℕ
index_after Compact g d e = renamed (length g.edges - 1) d e
index_after Stable g d e = e

map_itself : (xs : List ℕ) → map (λ (x : ℕ). x) xs ≡ xs
map_itself [] = refl
map_itself (x ∷ xs) = ap (λ z. x ∷ z) (map_itself xs)

row_mapped : (f : List ℕ → List ℕ) → f [] ≡ [] → (rows : List (List ℕ)) (m : ℕ)
    → unwrap_or (slice_get (map f rows) m) [] ≡ f (unwrap_or (slice_get rows m) [])
row_mapped f none [] m = sym none
row_mapped f none (r ∷ rows) zero = refl
row_mapped f none (r ∷ rows) (suc m) = row_mapped f none rows m

renamed_last : (last d e : ℕ) → e ≡ last → renamed last d e ≡ d
renamed_last last d e h = rw (eq-eqb e last h) refl

renamed_other : (last d e : ℕ) → (e ≡ last → ⊥) → renamed last d e ≡ e
renamed_other last d e h = rw (ne_eqb e last h) refl

module _ {N E : Type 0} (kind : Kind) (g : Graph N E) (d : ℕ) (inside : d < length g.edges) where
  list_after : (m : ℕ)
      → in_list (without_edge kind g d) m ≡ map (index_after kind g d) (without d (in_list g m))
  list_after m = go kind
    where
      go : (k : Kind) → in_list (without_edge k g d) m ≡ map (index_after k g d) (without d (in_list g m))
      go Compact =
          let last = length g.edges - 1 in
          row_mapped (map (renamed last d)) refl (map (without d) g.in_lists) m
          ∙ ap (map (renamed last d)) (row_mapped (without d) refl g.in_lists m)
      go Stable = row_mapped (without d) refl g.in_lists m ∙ sym (map_itself (without d (in_list g m)))

  edge_after : (e : ℕ) (x : Edge E) → edge_at g e ≡ Some x → e ≢ d
      → edge_at (without_edge kind g d) (index_after kind g d e) ≡ Some x
  edge_after e x at other = go kind
    where
      go : (k : Kind) → edge_at (without_edge k g d) (index_after k g d e) ≡ Some x
      go Stable = slot_set_other g.edges d e None other ∙ at
      go Compact =
          let last = length g.edges - 1 in
          let moved = get_or g.edges last None in
          let low = slot_inside g.edges e x at in
          let P : ℕ → Type 0 = λ z. slot (take last (set g.edges d moved)) z ≡ Some x in
          elim (cases_eq e last) [
            | inl same ↦ (
                let Q : ℕ → Type 0 = λ z. slot g.edges z ≡ Some x in
                let is : moved ≡ Some x = slot_or g.edges last x (subst Q same at) in
                let apart : d ≢ last = λ k. other (same ∙ sym k) in
                let front : d < last = omega (arith, inside, apart) in
                subst P (sym (renamed_last last d e same))
                (slot_front (set g.edges d moved) last d front ∙ slot_set_same g.edges d moved inside ∙ is)
                )
            | inr differs ↦ (
                let front : e < last = omega (arith, low, differs) in
                subst P (sym (renamed_other last d e differs))
                (slot_front (set g.edges d moved) last e front ∙ slot_set_other g.edges d e moved other ∙ at)
                )
          ]

  -- an index below d names the same edge as before
  same_test : (k e : ℕ) → k < d → eqb (index_after kind g d e) k ≡ eqb e k
  same_test k e low = go kind
    where
      go : (kind' : Kind) → eqb (index_after kind' g d e) k ≡ eqb e k
      go Stable = refl
      go Compact =
          let last = length g.edges - 1 in
          elim (cases_eq e last) [
            | inl same ↦
                ap (λ z. eqb z k) (renamed_last last d e same)
                ∙ ne_eqb d k (λ h. omega (arith, low, h))
                ∙ sym (ne_eqb e k (λ h. omega (arith, low, h, same, inside)))
            | inr differs ↦ ap (λ z. eqb z k) (renamed_other last d e differs)
          ]

  without_after : (k : ℕ) (es : List ℕ) → k < d
      → without k (map (index_after kind g d) es) ≡ map (index_after kind g d) (without k es)
  without_after k [] low = refl
  without_after k (e ∷ es) low =
      let f = index_after kind g d in
      let test = λ (z : ℕ). not (eqb z k) in
      let rest = without_after k es low in
      elim (cases_eq e k) [
        | inl same ↦
            filter_no test (f e) (map f es) (ap not (same_test k e low ∙ eq-eqb e k same)) ∙ rest
            ∙ ap (map f) (sym (filter_no test e es (ap not (eq-eqb e k same))))
        | inr differs ↦
            filter_yes test (f e) (map f es) (ap not (same_test k e low ∙ ne_eqb e k differs))
            ∙ ap (λ z. f e ∷ z) rest ∙ ap (map f) (sym (filter_yes test e es (is_held k e differs)))
      ]

-- ---- the edges of a list removed, from the highest index down

abbrev pub without_all : List ℕ → List ℕ → List ℕ
without_all [] es = es
without_all (d ∷ ds) es = without_all ds (without d es)

without_all_after : {N E : Type 0} (kind : Kind) (g : Graph N E) (d : ℕ) (inside : d < length g.edges) (ds es : List ℕ)
    → ((k : ℕ) → Mem k ds → k < d)
    → without_all ds (map (index_after kind g d) es) ≡ map (index_after kind g d) (without_all ds es)
without_all_after kind g d inside [] es low = refl
without_all_after kind g d inside (k ∷ ds) es low =
    ap (without_all ds) (without_after kind g d inside k es (low k (inl refl)))
    ∙ without_all_after kind g d inside ds (without k es) (λ z m. low z (inr m))

mem_without : (d e : ℕ) (es : List ℕ) → Mem e (without d es) → Mem e es × (e ≢ d)
mem_without d e es m =
    let at = filter_mem (λ z. not (eqb z d)) es e m in
    (at.0, λ h. absurd (held at.1 h))
  where
    held : not (eqb e d) ≡ true → e ≡ d → ⊥
    held t h = let f = eq-eqb e d h in cc

mem_without_all : (ds : List ℕ) (e : ℕ) (es : List ℕ) → Mem e (without_all ds es) → Mem e es
mem_without_all [] e es m = m
mem_without_all (d ∷ ds) e es m = (mem_without d e es (mem_without_all ds e (without d es) m)).0

-- every edge in the in lists exists
abbrev pub AllExist : {N E : Type 0} → Graph N E → Type 0
AllExist g = (m : ℕ) → Exist g (in_list g m)

mem_mapped : (f : ℕ → ℕ) (es : List ℕ) (e : ℕ) → Mem e (map f es) → (k : ℕ) × Mem k es × (e ≡ f k)
mem_mapped f [] e m = absurd m
mem_mapped f (k ∷ es) e m =
    elim m [
      | inl same ↦ (k, inl refl, same)
      | inr later ↦ (let more = mem_mapped f es e later in (more.0, inr more.1, more.2))
    ]

exist_after : {N E : Type 0} (kind : Kind) (g : Graph N E) (d : ℕ)
    → d < length g.edges → AllExist g → AllExist (without_edge kind g d)
exist_after kind g d inside all m e mem =
    let P : List ℕ → Type 0 = λ z. Mem e z in
    let from = mem_mapped (index_after kind g d) (without d (in_list g m)) e (subst P (list_after kind g d inside m) mem) in
    let was = mem_without d from.0 (in_list g m) from.1 in
    let x = all m from.0 was.0 in
    let Q : ℕ → Type 0 = λ z. edge_at (without_edge kind g d) z ≡ Some x.0 in
    (x.0, subst Q (sym from.2) (edge_after kind g d inside from.0 x.0 x.1 was.1))

shown_after : {N E : Type 0} (kind : Kind) (ds : List ℕ) (g : Graph N E) → IsDescending ds → Exist g ds → AllExist g
    → (m : ℕ) → shown (without_edges kind g ds) (in_list (without_edges kind g ds) m)
    ≡ shown g (without_all ds (in_list g m))
shown_after kind [] g down exist all m = refl
shown_after {N} {E} kind (d ∷ ds) g down exist all m =
    let first = exist d (inl refl) in
    let inside = slot_inside g.edges d first.0 first.1 in
    let below = below_first d ds down in
    let next = without_edge kind g d in
    let f = index_after kind g d in
    let left : Exist next ds = λ e h. (
    let x = exist e (inr h) in
    (x.0, left_below g d kind e inside (below e h) ∙ x.1)
    ) in
    let es = without_all ds (without d (in_list g m)) in
    let each : (e : ℕ) → Mem e es → (x : Edge E) × (edge_at g e ≡ Some x) × (edge_at next (f e) ≡ Some x) = λ e h. (
    let was = mem_without d e (in_list g m) (mem_without_all ds e (without d (in_list g m)) h) in
    let x = all m e was.0 in
    (x.0, x.1, edge_after kind g d inside e x.0 x.1 was.1)
    ) in
    shown_after kind ds next (descending_rest d ds down) left (exist_after kind g d inside all) m
    ∙ ap (λ z. shown next (without_all ds z)) (list_after kind g d inside m)
    ∙ ap (shown next) (without_all_after kind g d inside ds (without d (in_list g m)) below)
    ∙ shown_moved g next f es each

-- where none of them is in the list, and where all of it are
without_none : (d : ℕ) (es : List ℕ) → (Mem d es → ⊥) → without d es ≡ es
without_none d [] absent = refl
without_none d (e ∷ es) absent =
    filter_yes (λ z. not (eqb z d)) e es (is_held d e (λ h. absent (inl (sym h))))
    ∙ ap (λ z. e ∷ z) (without_none d es (λ m. absent (inr m)))

all_without_none : (ds es : List ℕ) → ((d : ℕ) → Mem d ds → Mem d es → ⊥) → without_all ds es ≡ es
all_without_none [] es absent = refl
all_without_none (d ∷ ds) es absent =
    ap (without_all ds) (without_none d es (absent d (inl refl)))
    ∙ all_without_none ds es (λ k m. absent k (inr m))

without_all_append : (ds xs ys : List ℕ) → without_all ds (xs ++ ys) ≡ without_all ds xs ++ without_all ds ys
without_all_append [] xs ys = refl
without_all_append (d ∷ ds) xs ys =
    ap (without_all ds) (filter-append (λ z. not (eqb z d)) xs ys) ∙ without_all_append ds (without d xs) (without d ys)

-- what is left of a list is not among those that were taken out
none_left : (ds es : List ℕ) → ((e : ℕ) → Mem e es → Mem e ds) → without_all ds es ≡ []
none_left [] [] held = refl
none_left [] (e ∷ es) held = absurd (held e (inl refl))
none_left (d ∷ ds) es held =
    none_left ds (without d es) (λ e m. (
    let was = mem_without d e es m in
    elim (held e was.0) [ inl same ↦ absurd (was.1 same) | inr later ↦ later ]
    ))

-- ---- edges added

-- the edges xs all lead to n
abbrev pub AllTo : {E : Type 0} → ℕ → List (NewEdge E) → Type 0
AllTo n [] = Unit {0}
AllTo n (x ∷ xs) = (x.1 ≡ n) × AllTo n xs

abbrev pub Fine : {N E : Type 0} → (limit : ℕ) → Graph N E → List (NewEdge E) → Type 0
Fine limit g [] = Unit {0}
Fine limit g (x ∷ xs) = IsWellFormed limit g × Fine limit (with_edge g x.0 x.1 x.2) xs

module _ {N E : Type 0} (limit n : ℕ) where
  kept_edge : (g : Graph N E) (xs : List (NewEdge E)) → Fine limit g xs → (e : ℕ) (x : Edge E)
      → edge_at g e ≡ Some x → edge_at (with_edges g xs) e ≡ Some x
  kept_edge g [] fine e x at = at
  kept_edge g (y ∷ ys) fine e x at =
      kept_edge (with_edge g y.0 y.1 y.2) ys fine.1 e x
      (slot_taken_kept g.edges g.vacant_edges _ e x (free_edge g y.0 y.1 y.2 limit fine.0) at)

  old_edge : (g : Graph N E) (xs : List (NewEdge E)) → AllTo n xs → (e : ℕ) (x : Edge E) → x.child ≢ n
      → edge_at (with_edges g xs) e ≡ Some x → edge_at g e ≡ Some x
  old_edge g [] to e x other at = at
  old_edge g (y ∷ ys) to e x other at =
      elim (slot_taken g.edges g.vacant_edges _ e x (old_edge (with_edge g y.0 y.1 y.2) ys to.1 e x other at)) [
        | inl new ↦ absurd (other (ap (λ (z : Edge E). z.child) new.1 ∙ to.0))
        | inr old ↦ old
      ]

  -- the lists of the other nodes
  other_list : (g : Graph N E) (xs : List (NewEdge E)) → AllTo n xs → (m : ℕ) → m ≢ n
      → in_list (with_edges g xs) m ≡ in_list g m
  other_list g [] to m other = refl
  other_list g (y ∷ ys) to m other =
      other_list (with_edge g y.0 y.1 y.2) ys to.1 m other
      ∙ (unwrap_or-slice_get (set g.in_lists y.1 (next_edge g ∷ in_list g y.1)) m []
      ∙ get_or-set_other g.in_lists y.1 m (next_edge g ∷ in_list g y.1) [] (λ h. other (h ∙ to.0))
      ∙ sym (unwrap_or-slice_get g.in_lists m []))

  -- the list of n begins with the new edges, the last one first
  record Front (g : Graph N E) (xs : List (NewEdge E)) : Type 0 where
    front : List ℕ
    list_is : in_list (with_edges g xs) n ≡ front ++ in_list g n
    shown_is : shown (with_edges g xs) front ≡ reverse (map (λ (x : NewEdge E). (x.0, x.2)) xs)
    new : (e : ℕ) (x : Edge E) → Mem e front → edge_at g e ≡ Some x → ⊥
    there : Exist (with_edges g xs) front

  new_front : (g : Graph N E) (xs : List (NewEdge E)) → AllTo n xs → Fine limit g xs → n < length g.in_lists → Front g xs
  new_front g [] to fine low =
      record {
        front = [];
        list_is = refl;
        shown_is = shown_none g;
        new = λ e x m at. m;
        there = λ e m. absurd m;
      }
    where
      shown_none : (h : Graph N E) → shown h [] ≡ []
      shown_none h = refl
  new_front g (y ∷ ys) to fine low =
      let next = with_edge g y.0 y.1 y.2 in
      let e₀ = next_edge g in
      let x₀ : Edge E = record { parent = y.0; child = y.1; weight = y.2 } in
      let free = free_edge g y.0 y.1 y.2 limit fine.0 in
      let more : Front next ys = new_front next ys to.1 fine.1
      (omega (arith, low, length-set g.in_lists y.1 (next_edge g ∷ in_list g y.1))) in
      let first : in_list next n ≡ e₀ ∷ in_list g n =
      let P : ℕ → Type 0 = λ z. unwrap_or (slice_get (set g.in_lists z (e₀ ∷ in_list g z)) n) [] ≡ e₀ ∷ in_list g n in
      subst P (sym to.0)
      (unwrap_or-slice_get (set g.in_lists n (e₀ ∷ in_list g n)) n []
      ∙ get_or-set_same g.in_lists n (e₀ ∷ in_list g n) [] low) in
      let at₀ : edge_at next e₀ ≡ Some x₀ = slot_taken_new g.edges g.vacant_edges x₀ free in
      let last : edge_at (with_edges next ys) e₀ ≡ Some x₀ = kept_edge next ys fine.1 e₀ x₀ at₀ in
      let kept : (e : ℕ) (x : Edge E) → edge_at g e ≡ Some x → edge_at next e ≡ Some x = λ e x at.
      slot_taken_kept g.edges g.vacant_edges x₀ e x free at in
      record {
        front = more.front ++ e₀ ∷ [];
        list_is =
            more.list_is ∙ ap (λ z. more.front ++ z) first ∙ sym (append_assoc more.front (e₀ ∷ []) (in_list g n));
        shown_is =
            shown_append (with_edges next ys) more.front (e₀ ∷ [])
            ∙ ap (λ z. z ++ shown (with_edges next ys) (e₀ ∷ [])) more.shown_is
            ∙ ap (λ z. reverse (map (λ (x : NewEdge E). (x.0, x.2)) ys) ++ z)
            (shown_one (with_edges next ys) e₀ x₀ [] last ∙ ap (λ z. (y.0, y.2) ∷ z) (shown_none (with_edges next ys)))
            ∙ sym (reverse-append ((y.0, y.2) ∷ []) (map (λ (x : NewEdge E). (x.0, x.2)) ys));
        new = λ e x m at. elim (mem_cases more.front (e₀ ∷ []) e m) [
          | inl a ↦ more.new e x a (kept e x at)
          | inr b ↦ elim b [
            | inl same ↦ (
                let P : ℕ → Type 0 = λ z. edge_at g z ≡ Some x in
                absurd (vacant_here free (subst P same at))
                )
            | inr none ↦ absurd none
          ]
        ];
        there = λ e m. elim (mem_cases more.front (e₀ ∷ []) e m) [
          | inl a ↦ more.there e a
          | inr b ↦ elim b [
            | inl same ↦
                (let P : ℕ → Type 0 = λ z. edge_at (with_edges next ys) z ≡ Some x₀ in (x₀, subst P (sym same) last))
            | inr none ↦ absurd none
          ]
        ];
      }
    where
      shown_none : (h : Graph N E) → shown h [] ≡ []
      shown_none h = refl

      vacant_here : {x : Edge E} → IsFree g.edges g.vacant_edges → edge_at g (next_edge g) ≡ Some x → ⊥
      vacant_here {x} free at = slot_free g.edges g.vacant_edges free x at

-- ---- the whole change

fine_all : {N E : Type 0} (limit : ℕ) (g : Graph N E) (xs : List (NewEdge E))
    → ((k : ℕ) → k < length xs → IsWellFormed limit (with_edges g (take k xs))) → Fine limit g xs
fine_all limit g [] fine = tt
fine_all limit g (x ∷ xs) fine = (
  fine 0 (omega arith),
  fine_all limit (with_edge g x.0 x.1 x.2) xs (λ k h. fine (suc k) (omega (arith, h))),
)

pub all_to : {I E : Type 0} (number : I → ℕ) (n : ℕ) (items : List (I × E)) → AllTo n (edges_to number n items)
all_to number n [] = tt
all_to number n (x ∷ xs) = (refl, all_to number n xs)

pub parents_of : {I E : Type 0} (number : I → ℕ) (n : ℕ) (items : List (I × E))
    → map (λ (x : NewEdge E). (x.0, x.2)) (edges_to number n items) ≡ map {B = ℕ × E} (λ x. (number x.0, x.1)) items
parents_of number n [] = refl
parents_of {I} {E} number n (x ∷ xs) =
    let first : ℕ × E = (number x.0, x.1) in ap (λ z. first ∷ z) (parents_of number n xs)

module _ {N E : Type 0} {limit n : ℕ} {kind : Kind} {xs : List (NewEdge E)} {old new : Graph N E}
    (w : IsWellFormed limit old) (to : AllTo n xs)
    (fine : (k : ℕ) → k < length xs → IsWellFormed limit (with_edges old (take k xs)))
    (s : HasParentsSet kind n xs old new) where
  all_fine : Fine limit old xs
  all_fine = fine_all limit old xs fine

  replaced_at : (e : ℕ) → Mem e s.replaced → (x : Edge E) × (edge_at old e ≡ Some x) × (x.child ≡ n)
  replaced_at e m = (w.in_of.exact n e).0 ((s.exact e).0 (mem_contains s.replaced e m))

  listed_at : (m e : ℕ) → Mem e (in_list old m) → (x : Edge E) × (edge_at old e ≡ Some x) × (x.child ≡ m)
  listed_at m e mem = (w.in_of.exact m e).0 (mem_contains (in_list old m) e mem)

  now_there : (m : ℕ) → Exist (with_edges old xs) (in_list old m)
  now_there m e mem = let x = listed_at m e mem in (x.0, kept_edge limit n old xs all_fine e x.0 x.1)

  replaced_there : Exist (with_edges old xs) s.replaced
  replaced_there e m = let x = replaced_at e m in (x.0, kept_edge limit n old xs all_fine e x.0 x.1)

  -- the lists of other nodes have none of the replaced edges
  none_replaced : (m : ℕ) → m ≢ n → (e : ℕ) → Mem e s.replaced → Mem e (in_list old m) → ⊥
  none_replaced m other e h mem =
      let x = replaced_at e h in
      let y = listed_at m e mem in
      let same : x.0 ≡ y.0 = same_Some _ _ (sym x.1 ∙ y.1) in
      other (sym y.2 ∙ ap (λ (z : Edge E). z.child) (sym same) ∙ x.2)

  module _ (has : HasNode old n) where
    the_front : Front limit n old xs
    the_front =
        new_front limit n old xs to all_fine
        (omega (arith, below_bound old.nodes n has, bound_low old.nodes, w.in_list_count))

    all_there : AllExist (with_edges old xs)
    all_there m e mem =
        let P : List ℕ → Type 0 = λ z. Mem e z in
        elim (cases_eq m n) [
          | inl same ↦ (
              let Q : ℕ → Type 0 = λ z. Mem e (in_list (with_edges old xs) z) in
              elim (mem_cases the_front.front (in_list old n) e (subst P the_front.list_is (subst Q same mem))) [
                | inl a ↦ the_front.there e a
                | inr b ↦ now_there n e b
              ]
              )
          | inr other ↦ now_there m e (subst P (other_list limit n old xs to m other) mem)
        ]

    shown_then : (m : ℕ) → entering new m ≡ shown (with_edges old xs) (without_all s.replaced (in_list (with_edges old xs) m))
    shown_then m =
        ap (λ (z : Graph N E). shown z (in_list z m)) s.new_is
        ∙ shown_after kind s.replaced (with_edges old xs) s.descending replaced_there all_there m

    pub parents_now : entering new n ≡ reverse (map (λ (x : NewEdge E). (x.0, x.2)) xs)
    parents_now =
        let front = the_front.front in
        let fresh : (d : ℕ) → Mem d s.replaced → Mem d front → ⊥ = λ d h m. (
        let x = replaced_at d h in the_front.new d x.0 m x.1
        ) in
        let gone : without_all s.replaced (in_list old n) ≡ [] =
        none_left s.replaced (in_list old n) (λ e m. contains_mem s.replaced e ((s.exact e).1 (mem_contains (in_list old n) e m))) in
        shown_then n
        ∙ ap (λ z. shown (with_edges old xs) (without_all s.replaced z)) the_front.list_is
        ∙ ap (shown (with_edges old xs)) (without_all_append s.replaced front (in_list old n))
        ∙ ap (λ z. shown (with_edges old xs) (z ++ without_all s.replaced (in_list old n))) (all_without_none s.replaced front fresh)
        ∙ ap (λ z. shown (with_edges old xs) (front ++ z)) gone
        ∙ ap (shown (with_edges old xs)) (append-nil front)
        ∙ the_front.shown_is

    pub others_now : (m : ℕ) → m ≢ n → entering new m ≡ entering old m
    others_now m other =
        let es = in_list old m in
        let same : shown (with_edges old xs) es ≡ shown old es =
        ap (shown (with_edges old xs)) (sym (map_itself es))
        ∙ shown_moved old (with_edges old xs) (λ (z : ℕ). z) es (λ e mem. (
        let x = listed_at m e mem in (x.0, x.1, kept_edge limit n old xs all_fine e x.0 x.1)
        )) in
        shown_then m
        ∙ ap (λ z. shown (with_edges old xs) (without_all s.replaced z)) (other_list limit n old xs to m other)
        ∙ ap (shown (with_edges old xs)) (all_without_none s.replaced es (none_replaced m other))
        ∙ same

  pub nodes_now : new.nodes ≡ old.nodes
  nodes_now = ap (λ (z : Graph N E). z.nodes) s.new_is ∙ nodes_kept kind s.replaced (with_edges old xs) ∙ same_nodes old xs

  pub keeps_now : kind ≡ Stable → KeepsOtherEdges n old new
  keeps_now stable e x other =
      let then : new ≡ without_edges Stable (with_edges old xs) s.replaced =
      s.new_is ∙ ap (λ k. without_edges k (with_edges old xs) s.replaced) stable in
      let P : Graph N E → Type 0 = λ z. edge_at z e ≡ Some x in (
        λ at.
            old_edge limit n old xs to e x other
            ((keeps_indices s.replaced (with_edges old xs)).edges e x (subst P then at)),
        λ at. subst P (sym then) (survives s.replaced (with_edges old xs) (λ m. (
            let y = replaced_at e m in
            let same : y.0 ≡ x = same_Some _ _ (sym y.1 ∙ at) in
            other (ap (λ (z : Edge E). z.child) (sym same) ∙ y.2)
            )) (kept_edge limit n old xs all_fine e x at)),
      )
    where
      survives : (es : List ℕ) (g : Graph N E) → (Mem e es → ⊥) → edge_at g e ≡ Some x
          → edge_at (without_edges Stable g es) e ≡ Some x
      survives [] g out at = at
      survives (d ∷ es) g out at =
          survives es (without_edge Stable g d) (λ m. out (inr m))
          (slot_set_other g.edges d e None (λ h. out (inl h)) ∙ at)

-- an order in which all parents precede n
pub order_now : {I N E : Type 0} (number : I → ℕ) (n : ℕ) (items : List (I × E)) {kind : Kind} {old new : Graph N E}
    {order : List ℕ} → HasParentsSet kind n (edges_to number n items) old new → IsOrderOf old order
    → All (λ x. place order (number x.0) < place order n) items → IsOrderOf new order
order_now {I} {N} {E} number n items {kind} {old} {new} {order} s ord before =
    let P : Graph N E → Type 0 = λ z. IsOrderOf z order in
    subst P (sym s.new_is)
    (fewer s.replaced (with_edges old (edges_to number n items)) (more items old ord (λ k d h. before k d h)))
  where
    more : (ys : List (I × E)) (g : Graph N E) → IsOrderOf g order
        → All (λ x. place order (number x.0) < place order n) ys → IsOrderOf (with_edges g (edges_to number n ys)) order
    more [] g o b = o
    more (y ∷ ys) g o b =
        more ys (with_edge g (number y.0) n y.1)
        (order_with_edge order o (number y.0) n y.1 (b 0 y (omega arith)))
        (λ k d h. b (suc k) d (omega (arith, h)))

    fewer : (es : List ℕ) (g : Graph N E) → IsOrderOf g order → IsOrderOf (without_edges kind g es) order
    fewer [] g o = o
    fewer (d ∷ es) g o = fewer es (without_edge kind g d) (order_without_edge kind g order d o)

-- the edges that entered n are there once the new ones were added
pub listed_kept : {N E : Type 0} {limit : ℕ} (n : ℕ) (xs : List (NewEdge E)) {old : Graph N E}
    → IsWellFormed limit old → ((k : ℕ) → k < length xs → IsWellFormed limit (with_edges old (take k xs)))
    → (e : ℕ) → Contains (in_list old n) e → HasEdge (with_edges old xs) e
listed_kept {E = E} {limit = limit} n xs {old = old} w fine e h =
    let x = (w.in_of.exact n e).0 h in
    let P : Option (Edge E) → Type 0 = λ z. IsSome z in
    subst P (sym (kept_edge limit n old xs (fine_all limit old xs fine) e x.0 x.1)) refl

-- removed from the last one of an ascending list down
pub parents_set : {N E : Type 0} (kind : Kind) (n : ℕ) (xs : List (NewEdge E)) (old new : Graph N E) (edges : List ℕ)
    → IsAscending edges → ((e : ℕ) → Contains edges e ↔ Contains (in_list old n) e)
    → new ≡ without_edges kind (with_edges old xs) (reverse edges) → HasParentsSet kind n xs old new
parents_set kind n xs old new edges up exact is =
    let turned = IsPermutation-reverse edges in
    record {
      replaced = reverse edges;
      descending = turned_descends edges up;
      exact = λ e. (
        λ c. (exact e).0 (Contains-permutation (reverse edges) edges e (IsPermutation-sym edges (reverse edges) turned) c),
        λ c. Contains-permutation edges (reverse edges) e turned ((exact e).1 c),
      );
      new_is = is;
    }
