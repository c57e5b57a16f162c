-- What an iterator still has to yield, before and after a step.
use Rattle.std.proofs.Common.{◌≡◌, ◌<◌, ℕ, zero, suc, ◌+◌, ◌-◌, List, [], ◌∷◌, ◌++◌, map, length, Option, Some, slice_get, refl, sym, ap}
use Rattle.std.proofs.Common.{subst, ◌∙◌, inl, inr, arith}
use Rattle.std.proofs.lemmas.List.{length-map}
use Rattle.std.proofs.lemmas.Option.{slice_get_within}
use Rattle.std.proofs.lemmas.Bool.{cases_lt}
use Rattle.std.specs.List.{filter_map, find, range_with_len}
use Rattle.std.specs.Option.{option_map}
use Rattle.daggy_base.specs.declared.index.Direction.{Direction}
use Rattle.daggy_base.specs.declared.index.Direction.TheVariants.{Outgoing, Incoming}
use Rattle.daggy_base.specs.Cursor.{first_of}
use Rattle.daggy_base.specs.Finding.{leads_to, find_edge}
use Rattle.daggy_base.specs.Graph.{slot, list_at}
use Rattle.daggy_cells.specs.declared.cell.Node.{Node}
use Rattle.daggy_cells.specs.declared.cell.Edge.{Edge}
use Rattle.daggy_base.specs.Iterating.{edges_at, numbered}
use Rattle.daggy_cells.specs.Links.{nth_list, IsLinkedList}
use Rattle.daggy_cells.specs.Raw.{raw_next}
use Rattle.daggy_cells.specs.Rest.{edges_left, IsOnList}
use Rattle.daggy_cells.specs.Fields.{nexts_of, firsts_of, ends_of, end_at, list_from, plain, plain_edge, lists_at}
use Rattle.daggy_cells.specs.Fields.{enters}
use Rattle.daggy_graph.specs.Stored.{stored_graph, Stores}
use Rattle.daggy_cells.proofs.LinkedLists.{row_is, find_same}
use Rattle.daggy_base.proofs.Lists.{Contains-nil}
use Rattle.daggy_cells.proofs.LinkedListChanges.{row_past}
use Rattle.daggy_cells.proofs.RestLemmas.{at_index}

same_edge : {E Ix : Type 0} (edges : List (Edge E Ix)) (j i : ℕ)
    → option_map (λ x. at_index j (plain x)) (slice_get edges i)
    ≡ option_map (λ x. at_index j x) (slot (map plain_edge edges) i)
same_edge [] j i = refl
same_edge (y ∷ ys) j zero = refl
same_edge (y ∷ ys) j (suc i) = same_edge ys j i

filter_map_same : {A : Type 0} (h k : ℕ → Option A)
    → ((i : ℕ) → h i ≡ k i) → (xs : List ℕ) → filter_map h xs ≡ filter_map k xs
filter_map_same h k same [] = refl
filter_map_same h k same (x ∷ xs) = rw (same x, filter_map_same h k same xs) refl

list_is : {N E Ix : Type 0} (nodes : List (Node N Ix)) (edges : List (Edge E Ix)) (dir : Direction) (n : ℕ)
    → nth_list (lists_at dir (stored_graph nodes edges)) n ≡ list_at dir (stored_graph nodes edges) n
list_is nodes edges Outgoing n = refl
list_is nodes edges Incoming n = refl

module _ {N E Ix : Type 0} (end : ℕ) (nodes : List (Node N Ix)) (edges : List (Edge E Ix))
    (s : Stores end nodes edges (stored_graph nodes edges)) (dir : Direction) (n e : ℕ)
    (is : e ≡ first_of end (list_at dir (stored_graph nodes edges) n)) where
  long : length (nexts_of dir edges) ≡ length edges
  long = length-map edges (raw_next dir)

  first : e ≡ first_of end (nth_list (lists_at dir (stored_graph nodes edges)) n)
  first = is ∙ ap (first_of end) (sym (list_is nodes edges dir n))

  -- a walk that begins with the first of a node's list
  begins : IsLinkedList end (nexts_of dir edges) e (nth_list (lists_at dir (stored_graph nodes edges)) n)
  begins =
      elim (cases_lt n (length (firsts_of dir nodes))) [
        | inl within ↦
            subst (λ z. IsLinkedList end (nexts_of dir edges) z (nth_list (lists_at dir (stored_graph nodes edges)) n))
            (((s.linked dir).each n within).starts ∙ sym first) ((s.linked dir).each n within)
        | inr past ↦
            none (row_past (lists_at dir (stored_graph nodes edges)) n (omega (arith, past, (s.linked dir).rows)))
      ]
    where
      none : nth_list (lists_at dir (stored_graph nodes edges)) n ≡ []
          → IsLinkedList end (nexts_of dir edges) e (nth_list (lists_at dir (stored_graph nodes edges)) n)
      none empty =
          subst (IsLinkedList end (nexts_of dir edges) e) (sym empty) (record {
            starts = first ∙ ap (first_of end) empty;
            distinct = tt;
            goes_on = λ f p. absurd (Contains-nil f p);
          })

  walk_begins : list_from dir edges e ≡ nth_list (lists_at dir (stored_graph nodes edges)) n
  walk_begins = row_is end e (nexts_of dir edges) _ begins (omega (arith, s.few_edges, long))

  pub IsOnList-begins : IsOnList end dir edges e
  IsOnList-begins = record {
    linked = subst (IsLinkedList end (nexts_of dir edges) e) (sym walk_begins) begins;
    few = s.few_edges;
  }

  pub edges_begin : edges_left dir edges e ≡ edges_at dir (stored_graph nodes edges) n
  edges_begin =
      ap (filter_map (λ i. option_map (λ x. at_index i (plain x)) (slice_get edges i)))
      (walk_begins ∙ list_is nodes edges dir n)
      ∙ filter_map_same (λ i. option_map (λ x. at_index i (plain x)) (slice_get edges i))
      (λ i. option_map (λ x. at_index i x) (slot (map plain_edge edges) i)) (λ i. same_edge edges i i)
      (list_at dir (stored_graph nodes edges) n)

-- whether an edge enters the node v
enters_seen : {N E Ix : Type 0} (nodes : List (Node N Ix)) (v : ℕ) (edges : List (Edge E Ix)) (e : ℕ)
    → e < length edges → enters edges v e ≡ leads_to (stored_graph nodes edges) v e
enters_seen nodes v [] e within = absurd (omega (arith, within))
enters_seen nodes v (x ∷ xs) zero within = refl
enters_seen nodes v (x ∷ xs) (suc e) within = enters_seen nodes v xs e (omega (arith, within))

-- what is found along the links is what is found in the list
pub found_to : {N E Ix : Type 0} (end : ℕ) (nodes : List (Node N Ix)) (edges : List (Edge E Ix))
    → Stores end nodes edges (stored_graph nodes edges)
    → (n v e : ℕ) → e ≡ first_of end (list_at Outgoing (stored_graph nodes edges) n)
    → find (enters edges v) (list_from Outgoing edges e) ≡ find_edge (stored_graph nodes edges) n v
found_to end nodes edges s n v e is =
    let g = stored_graph nodes edges in
    ap (find (enters edges v)) (walk_begins end nodes edges s Outgoing n e is)
    ∙ find_same (enters edges v) (leads_to g v) (nth_list (lists_at Outgoing g) n) (λ f p.
    enters_seen nodes v edges f (omega (
      arith,
      slice_get_within (ends_of Outgoing edges) f n ((s.listed Outgoing n f).0 p),
      length-map edges (end_at Outgoing),
    )))
    ∙ ap (find (leads_to g v)) (list_is nodes edges Outgoing n)

-- a step from the back

range_suc : (a n : ℕ) → range_with_len a (suc n) ≡ range_with_len a n ++ (a + n) ∷ []
range_suc a zero = ap (λ z. z ∷ []) (omega arith)
range_suc a (suc n) =
    ap (λ l. a ∷ l) (range_suc (a + 1) n ∙ ap (λ z. range_with_len (a + 1) n ++ z ∷ []) (omega arith))

pub range_back : (a e less last : ℕ) → a < e → less ≡ e - 1 → last ≡ e - 1
    → range_with_len a (e - a) ≡ range_with_len a (less - a) ++ last ∷ []
range_back a e less last within is at =
    let longer : e - a ≡ suc (less - a) = omega arith in
    ap (range_with_len a) longer ∙ range_suc a (less - a)
    ∙ ap (λ z. range_with_len a (less - a) ++ z ∷ []) (omega arith)

pub numbered_back : {A B : Type 0} (f : A → B) (i : ℕ) (xs : List A) (x : A) (last : ℕ) → last ≡ i + length xs
    → numbered i (map (λ y. Some (f y)) (xs ++ x ∷ []))
    ≡ numbered i (map (λ y. Some (f y)) xs) ++ (last, f x) ∷ []
numbered_back f i [] x last at = ap (λ z. (z, f x) ∷ []) (omega arith)
numbered_back f i (y ∷ ys) x last at = ap (λ l. (i, f y) ∷ l) (numbered_back f (i + 1) ys x last (omega arith))
