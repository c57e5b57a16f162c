-- The document of a dag is read as that dag.
use Rattle.std.proofs.Common.{◌≡◌, ℕ, zero, suc, ◌+◌, ◌<◌, inl, inr, ◌⊎◌, true, false, min, Option, Some, None}
use Rattle.std.proofs.Common.{IsSome, is_some, List, [], ◌∷◌, length, map, take, slice_get, unwrap_or, refl, sym, ap}
use Rattle.std.proofs.Common.{subst, ◌∙◌, arith}
use Rattle.std.specs.Prelude.{Result, Ok, Err, IfOk, IfErr, MatchOption, MatchResult, Contains, codes, option_and_then}
use Rattle.std.specs.Prelude.{◌↔◌}
use Rattle.std.specs.List.{AllZip}
use Rattle.std.proofs.lemmas.Bool.{false≢true}
use Rattle.std.proofs.lemmas.List.{length-map, length-take}
use Rattle.std.proofs.lemmas.Option.{MatchOption-at_some, same_Some, none-some}
use Rattle.std.proofs.lemmas.Result.{MatchResult-weaker}
use Rattle.std.proofs.lemmas.Simd.{map-map}
use Rattle.std.proofs.lemmas.Slice.Zip.{AllZip-long}
use Rattle.serde_json.specs.Data.{Data}
use Rattle.daggy_base.specs.declared.index.Direction.{Direction}
use Rattle.daggy_base.specs.declared.index.Direction.TheVariants.{Outgoing, Incoming}
use Rattle.daggy_base.specs.Graph.{Graph, Edge, slot, HasNode, edge_at, list_at, near_end, node_bound, edge_bound}
use Rattle.daggy_base.specs.Graph.{IsCompact}
use Rattle.daggy_base.specs.WellFormed.{ListsEdges, IsWellFormed, IsDag}
use Rattle.daggy_base.specs.Path.{IsAcyclic}
use Rattle.daggy_base.specs.Iterating.{numbered, node_identifiers, node_weights, edge_weights}
use Rattle.daggy_base.specs.Mapping.{weight_in, with_weight}
use Rattle.daggy_base.specs.FromSlots.{lists_down, graph_of_slots}
use Rattle.daggy_base.specs.Filtering.{ListsDescend}
use Rattle.daggy_base.specs.Orders.{lists_by_slots, with_orders, IsOrder, AreOrders}
use Rattle.daggy_base.proofs.FullSlots.{IsFull, full_from}
use Rattle.daggy_base.proofs.Lists.{Contains-here, contains_mem, mem_contains, slice_get-take}
use Rattle.daggy_base.proofs.SlotLists.{length-lists_down, of_slots_descend}
use Rattle.daggy_base.proofs.EdgeTakenBack.{same_graph}
use Rattle.daggy_base.proofs.Copies.{copy_same}
use Rattle.daggy_base.specs.declared.kind.Kind.{Kind}
use Rattle.daggy_base.specs.declared.kind.Kind.TheVariants.{Compact, Stable}
use Rattle.daggy_json.specs.Document.{listed, row_of, holes_of, IsEntry, IsDocumentOf}
use Rattle.daggy_json.specs.Reading.{Parts, orders_in, AreHoles, AreFew, AreSlots, IsLaidOut, IsWeight}
use Rattle.daggy_json.specs.Reading.{IsEntryRead, IsOrdered, IsTested, Then, IsLinked, IsFilled, IsRead}
use Rattle.daggy_json.specs.Restoring.{ReadsOnly, trimmed, IsCopyAs, ReadsTo, CanBeRefused, HasRefused}
use Rattle.daggy_json.specs.declared.error.ReadError.{ReadError}
use Rattle.daggy_json.specs.declared.error.ReadError.TheVariants.{Shape, Property, Holes, Full, Weight, Memory}
use Rattle.daggy_json.proofs.NumberedSlots.{numbered_bounded}
use Rattle.daggy_json.proofs.MarkedLists.{row, slot_within}
use Rattle.daggy_json.proofs.RearrangedLists.{end_some, end_is, in_list_has, in_list_ends}
use Rattle.daggy_json.proofs.TrimmedSlots.{slot_bounded, vacant_ascend, slots_split, numbered_count}
use Rattle.daggy_json.proofs.TrimmedSlots.{vacant_full, take_full, down_full}
use Rattle.daggy_json.proofs.DescendingLists.{same_descending, same_rows}
use Rattle.daggy_json.proofs.CopiedSlots.{AreCopied, SlotAs, copied_there, copied_length, copied_numbers, copied_down}
use Rattle.daggy_json.proofs.CopiedSlots.{copied_after, copied_before, copied_zip, copied_nodes}
use Rattle.daggy_json.proofs.CopiedGraphs.{acyclic_again, copy_acyclic, copy_weaker}
use Rattle.daggy_json.proofs.ReadAgain.{HasParts, lists_of, orders_again, ReadsThrough, each_read, zip_both}
use Rattle.daggy_json.proofs.ReadAgain.{Through, IsRefused, CanBeRead, entry_read, rows_again}

-- ---- the front of a list

get_front : {A : Type 0} (n : ℕ) (xs : List A) (i : ℕ) (x : A)
    → slice_get (take n xs) i ≡ Some x → slice_get xs i ≡ Some x
get_front zero xs i x e = cc
get_front (suc n) [] i x e = e
get_front (suc n) (y ∷ xs) zero x e = e
get_front (suc n) (y ∷ xs) (suc i) x e = get_front n xs i x e

full_front : {A : Type 0} (n : ℕ) (xs : List (Option A)) → IsFull xs → IsFull (take n xs)
full_front n xs h i e = h i (get_front n xs i None e)

nothing_in : (l : List ℕ) → ((e : ℕ) → Contains l e → ⊥) → l ≡ []
nothing_in [] h = refl
nothing_in (x ∷ l) h = absurd (h x (Contains-here x l))

-- ---- lists side by side

zip_weaker : {A B : Type 0} (R S : A → B → Type 0)
    → ((x : A) (y : B) → R x y → S x y) → (xs : List A) (ys : List B) → AllZip R xs ys → AllZip S xs ys
zip_weaker R S f [] [] z = z
zip_weaker R S f (x ∷ xs) (y ∷ ys) z = (f x y z.0, zip_weaker R S f xs ys z.1)
zip_weaker R S f _ _ z = z

-- ---- the graph that is read

module _ {N E : Type 0} (limit : ℕ) (g : Graph N E) (w : IsWellFormed limit g) where
  abbrev kept : List (Option N)
  kept = take (node_bound g) g.nodes

  abbrev kept_edges : List (Option (Edge E))
  kept_edges = take (edge_bound g) g.edges

  abbrev orders : List (List ℕ × List ℕ)
  orders = map (lists_of g) (map (λ p. p.0) (numbered 0 kept))

  is_node : (n : ℕ) → IsSome (slot kept n) → HasNode g n
  is_node n s = subst (λ o. is_some o ≡ true) (slot_bounded g.nodes n) s

  of_side : (dir : Direction) → ListsEdges g (near_end dir) (list_at dir g)
  of_side Outgoing = w.out_of
  of_side Incoming = w.in_of

  end_exists : (dir : Direction) (e : ℕ) (x : Edge E) → edge_at g e ≡ Some x → HasNode g (near_end dir x)
  end_exists Outgoing = w.parents
  end_exists Incoming = w.children

  -- a vacant slot has no edges
  empty_at : (dir : Direction) (n : ℕ) → is_some (slot kept n) ≡ false → list_at dir g n ≡ []
  empty_at dir n none =
      nothing_in (list_at dir g n) (λ e c.
      let x = ((of_side dir).exact n e).0 c in
      let there : HasNode g n = subst (HasNode g) x.2 (end_exists dir e x.0 x.1) in
      false≢true (sym none ∙ ap is_some (slot_bounded g.nodes n) ∙ there))

  edge_kept : (e : ℕ) (x : Edge E) → edge_at g e ≡ Some x → slot kept_edges e ≡ Some x
  edge_kept e x is = slot_bounded g.edges e ∙ is

  edge_was : (e : ℕ) (x : Edge E) → slot kept_edges e ≡ Some x → edge_at g e ≡ Some x
  edge_was e x is = sym (slot_bounded g.edges e) ∙ is

  trimmed_acyclic : IsAcyclic g → IsAcyclic (trimmed g)
  trimmed_acyclic = acyclic_again g (trimmed g) is_node (λ u v j. (j.0, j.1, edge_was j.0 _ j.2))

  pub compact_same : IsCompact g → trimmed g ≡ g
  compact_same c =
      let full = full_from g.nodes g.vacant_nodes w.node_slots c.nodes in
      let full_edges = full_from g.edges g.vacant_edges w.edge_slots c.edges in
      same_graph g (take_full g.nodes g.nodes full refl) (take_full g.edges g.edges full_edges refl)
      (take_full g.nodes g.out_lists full w.out_list_count) (take_full g.nodes g.in_lists full w.in_list_count)
      (down_full kept (full_front (node_bound g) g.nodes full) ∙ sym c.nodes)
      (down_full kept_edges (full_front (edge_bound g) g.edges full_edges) ∙ sym c.edges)

  -- other weights in its slots
  module _ {V W : Type 0} (node_as : N → V → Type 0) (edge_as : E → W → Type 0) (nodes : List (Option V))
      (copied : AreCopied node_as (λ w. w) (λ w v. v) 0 kept nodes) where
    there : (n : ℕ) → is_some (slot nodes n) ≡ is_some (slot kept n)
    there = copied_there node_as (λ w. w) (λ w v. v) 0 kept nodes copied

    long : length nodes ≡ length kept
    long = copied_length node_as (λ w. w) (λ w v. v) 0 kept nodes copied

    numbers : map (λ p. p.0) (numbered 0 nodes) ≡ map (λ p. p.0) (numbered 0 kept)
    numbers = copied_numbers node_as (λ w. w) (λ w v. v) 0 kept nodes copied

    node_kept : (n : ℕ) → HasNode g n → IsSome (slot nodes n)
    node_kept n s = there n ∙ subst (λ o. is_some o ≡ true) (sym (slot_bounded g.nodes n)) s

    -- each entry can be read
    entries_fit : (kind : Kind) → (kind ≡ Compact → IsCompact g)
        → (i : ℕ) (x : Option (Edge E)) → slice_get kept_edges i ≡ Some x → CanBeRead kind nodes x
    entries_fit Stable compact i None at = refl
    entries_fit Compact compact i None at =
        absurd (full_front (edge_bound g) g.edges
        (full_from g.edges g.vacant_edges w.edge_slots (compact refl).edges) i at)
    entries_fit kind compact i (Some x) at =
        let was = edge_was i x (ap (option_and_then (λ z. z)) at) in
        (node_kept x.parent (w.parents i x was), node_kept x.child (w.children i x was))

    -- the lists of one direction
    module _ (lists : List (List ℕ)) (count : length lists ≡ length g.nodes) where
      front_long : length (take (node_bound g) lists) ≡ length nodes
      front_long =
          length-take (node_bound g) lists ∙ ap (min (node_bound g)) count ∙ sym (length-take (node_bound g) g.nodes)
          ∙ sym long

      front_row : (n : ℕ) → n < length nodes → row (take (node_bound g) lists) n ≡ row lists n
      front_row n low =
          ap (λ o. unwrap_or o [])
          (slice_get-take (node_bound g) lists n (omega (arith, low, long, length-take (node_bound g) g.nodes)))

      rows_kept : ((n : ℕ) → is_some (slot kept n) ≡ false → row lists n ≡ [])
          → lists_by_slots nodes (map (row lists) (map (λ p. p.0) (numbered 0 kept))) ≡ take (node_bound g) lists
      rows_kept empty =
          ap (λ ns. lists_by_slots nodes (map (row lists) ns)) (sym numbers)
          ∙ rows_again (row lists) 0 nodes (take (node_bound g) lists) front_long
          (λ k s.
          ap (row lists) (let e : 0 + k ≡ k = omega arith in e)
          ∙ sym (front_row k (slot_within nodes k s)))
          (λ k low none. front_row k low ∙ empty k (sym (there k) ∙ ap is_some none))

    module _ (edges : List (Option (Edge W))) (copied_edges : AreCopied edge_as weight_in with_weight 0 kept_edges edges) where
      -- its slots and its lists, put together again
      abbrev made : Graph V W
      made = with_orders (graph_of_slots nodes edges) orders

      pub made_copy : IsCopyAs node_as edge_as (trimmed g) made
      made_copy =
          let ids = map (λ p. p.0) (numbered 0 kept) in
          record {
            nodes = copied;
            edges = copied_edges;
            out_lists =
                ap (lists_by_slots nodes) (map-map (λ p. p.0) (lists_of g) ids)
                ∙ rows_kept g.out_lists w.out_list_count (empty_at Outgoing);
            in_lists =
                ap (lists_by_slots nodes) (map-map (λ p. p.1) (lists_of g) ids)
                ∙ rows_kept g.in_lists w.in_list_count (empty_at Incoming);
            vacant_nodes = copied_down node_as (λ w. w) (λ w v. v) 0 kept nodes copied;
            vacant_edges = copied_down edge_as weight_in with_weight 0 kept_edges edges copied_edges;
          }

      pub made_acyclic : IsAcyclic g → IsAcyclic made
      made_acyclic h = copy_acyclic node_as edge_as (trimmed g) made made_copy (trimmed_acyclic h)

      list_again : (dir : Direction) (n : ℕ) → n < length nodes → list_at dir made n ≡ list_at dir g n
      list_again Outgoing n low =
          ap (λ l. row l n) made_copy.out_lists ∙ front_row g.out_lists w.out_list_count n low
      list_again Incoming n low = ap (λ l. row l n) made_copy.in_lists ∙ front_row g.in_lists w.in_list_count n low

      near_again : (dir : Direction) (x : Edge E) (v : W) → near_end dir (with_weight x v) ≡ near_end dir x
      near_again Outgoing x v = refl
      near_again Incoming x v = refl

      -- the same edges are in a list and in that of the slots
      members : (dir : Direction) (n : ℕ) → n < length nodes → (e : ℕ)
          → Contains (list_at dir g n) e ↔ Contains (list_at dir (graph_of_slots nodes edges) n) e
      members dir n low e = (
        λ c. let x = ((of_side dir).exact n e).0 c in
            let y =
            copied_after edge_as weight_in with_weight 0 kept_edges edges copied_edges e x.0
            (edge_kept e x.0 x.1) in
            in_list_has dir edges nodes n e low
            (rw (sym x.2 ∙ sym (near_again dir x.0 y.0)) (end_is dir edges e (with_weight x.0 y.0) y.2)),
        λ c. let y = end_some dir edges n e (in_list_ends dir edges nodes n e low c) in
            let x =
            copied_before edge_as weight_in with_weight 0 kept_edges edges copied_edges e y.0 y.1 in
            ((of_side dir).exact n e).1
            (x.0, edge_was e x.0 x.2, sym (near_again dir x.0 x.1) ∙ ap (near_end dir) x.3 ∙ y.2),
      )

      pub orders_fit : AreOrders (graph_of_slots nodes edges) orders
      orders_fit =
          record {
            count =
                length-map (map (λ p. p.0) (numbered 0 kept)) (lists_of g) ∙ ap length (sym numbers)
                ∙ length-map (numbered 0 nodes) (λ p. p.0) ∙ numbered_count 0 nodes;
            each = λ dir n exists.
                let low = slot_within nodes n exists in
                subst (IsOrder (list_at dir (graph_of_slots nodes edges) n)) (sym (list_again dir n low)) (record {
                  exact = members dir n low;
                  once = (of_side dir).once n;
                });
          }

      -- in descending order they are the lists of the slots
      module _ (down : ListsDescend g) where
        list_down : (dir : Direction) (n : ℕ) → n < length nodes
            → list_at dir made n ≡ list_at dir (graph_of_slots nodes edges) n
        list_down dir n low =
            list_again dir n low
            ∙ same_descending (list_at dir g n) (list_at dir (graph_of_slots nodes edges) n) (down dir n)
            (of_slots_descend nodes edges dir n)
            (λ e m. contains_mem _ e ((members dir n low e).0 (mem_contains _ e m)))
            (λ e m. contains_mem _ e ((members dir n low e).1 (mem_contains _ e m)))

        lists_long : (lists made_lists : List (List ℕ)) → length lists ≡ length g.nodes
            → made_lists ≡ take (node_bound g) lists → length made_lists ≡ length nodes
        lists_long lists made_lists count is = ap length is ∙ front_long lists count

        pub made_down : made ≡ graph_of_slots nodes edges
        made_down =
            let out = lists_long g.out_lists made.out_lists w.out_list_count made_copy.out_lists in
            let into = lists_long g.in_lists made.in_lists w.in_list_count made_copy.in_lists in
            same_graph (graph_of_slots nodes edges) refl refl
            (same_rows made.out_lists (lists_down Outgoing (length nodes) edges)
            (out ∙ sym (length-lists_down Outgoing (length nodes) edges))
            (λ n low. list_down Outgoing n (omega (arith, low, out))))
            (same_rows made.in_lists (lists_down Incoming (length nodes) edges)
            (into ∙ sym (length-lists_down Incoming (length nodes) edges))
            (λ n low. list_down Incoming n (omega (arith, low, into)))) refl refl

-- ---- the stages

no_layout_fault : (limit : ℕ) (kind : Kind) (p : Parts) → p.property ≡ codes "directed" → AreHoles kind p
    → AreFew limit p → (fault : Option ReadError) → IsLaidOut limit kind p fault → fault ≡ None
no_layout_fault limit kind p directed holes few None s = refl
no_layout_fault limit kind p directed holes few (Some Property) s = absurd (s directed)
no_layout_fault limit kind p directed holes few (Some Holes) s = absurd (s.1 holes)
no_layout_fault limit kind p directed holes few (Some Full) s = absurd (s.2 few)
no_layout_fault limit kind p directed holes few (Some _) s = absurd s

-- the slots that are left of the edges hold no others
edge_weight_in : {E : Type 0} (n i : ℕ) (xs : List (Option (Edge E))) (z : Edge E)
    → Contains (take n xs) (Some z) → Contains (map (λ p. p.1.weight) (numbered i xs)) z.weight
edge_weight_in zero i xs z c = let within = c.1 in absurd (omega (arith, within))
edge_weight_in (suc n) i [] z c = let within = c.1 in absurd (omega (arith, within))
edge_weight_in (suc n) i (None ∷ xs) z (zero, low, is) = absurd (none-some z is)
edge_weight_in (suc n) i (None ∷ xs) z (suc k, low, is) =
    edge_weight_in n (i + 1) xs z (k, omega (arith, low), is)
edge_weight_in {E} (suc n) i (Some y ∷ xs) z (zero, low, is) =
    (0, omega arith, ap (λ (x : Edge E). x.weight) (same_Some y z is))
edge_weight_in (suc n) i (Some y ∷ xs) z (suc k, low, is) =
    let more = edge_weight_in n (i + 1) xs z (k, omega (arith, low), is) in
    let within = more.1 in
    (suc more.0, omega (arith, within), more.2)

module _ {M F N E : Type 0} (limit : ℕ) (kind : Kind) (node_as : M → Data → Type 0) (edge_as : F → Data → Type 0)
    (node_answers : Data → Option N → Type 0) (edge_answers : Data → Option E → Type 0) (g : Graph M F)
    (dag : IsDag limit g) (compact : kind ≡ Compact → IsCompact g) (d : Data) (doc : HasParts node_as edge_as g d) where
  abbrev weights_read : M → N → Type 0
  weights_read = Through node_as node_answers

  abbrev edge_weights_read : F → E → Type 0
  edge_weights_read = Through edge_as edge_answers

  abbrev left : List (Option M)
  left = kept limit g dag.well_formed

  abbrev left_edges : List (Option (Edge F))
  left_edges = kept_edges limit g dag.well_formed

  -- the graph with what may be read of its weights, or one that may be refused
  abbrev pub IsReadAgain : Result (Graph N E) ReadError → Type 0
  IsReadAgain r =
      MatchResult r (IsCopyAs weights_read edge_weights_read (trimmed g))
      (λ e. (e ≡ Weight)
      × (IsRefused node_as node_answers (node_weights g) ⊎ IsRefused edge_as edge_answers (edge_weights g)))

  abbrev part : Parts
  part = record {
    nodes = doc.weights;
    holes = holes_of g;
    property = codes "directed";
    edges = doc.entries;
    orders = doc.orders;
  }

  few_slots : length doc.weights + length (holes_of g) ≡ length left
  few_slots =
      let many = AllZip-long node_as (node_weights g) doc.weights doc.nodes in
      omega (
        arith,
        many,
        length-map (numbered 0 g.nodes) (λ p. p.1),
        ap length (numbered_bounded 0 g.nodes),
        slots_split 0 left,
      )

  laid_out : (fault : Option ReadError) → IsLaidOut limit kind part fault → fault ≡ None
  laid_out =
      no_layout_fault limit kind part refl (record {
        ascend =
            vacant_ascend 0 (length doc.weights + length (holes_of g)) left (omega (arith, few_slots));
        none = λ e.
            vacant_full 0 left (full_front (node_bound g) g.nodes
            (full_from g.nodes g.vacant_nodes dag.well_formed.node_slots (compact e).nodes));
      }) (record {
        nodes = omega (arith, few_slots, length-take (node_bound g) g.nodes, dag.well_formed.few_nodes);
        edges = omega (
          arith,
          AllZip-long (IsEntry edge_as) left_edges doc.entries doc.edges,
          length-take (edge_bound g) g.edges,
          dag.well_formed.few_edges,
        );
      })

  module _ (nodes : List (Option N)) (copied : AreCopied weights_read (λ w. w) (λ w v. v) 0 left nodes) where
    -- the orders and the test for a cycle
    ordered : (edges : List (Option (Edge E))) → AreCopied edge_weights_read weight_in with_weight 0 left_edges edges
        → (r : Result (Graph N E) ReadError)
        → Then (IsOrdered (graph_of_slots nodes edges) part.orders) IsTested r → IsReadAgain r
    ordered edges copied_edges r t =
        let At : Option Data → Type 0 = λ o. IsOrdered (graph_of_slots nodes edges) o t.0 in
        elim doc.given [
          | inl given ↦ go t.0 (subst At given t.1) t.2
          | inr without ↦ plain t.0 without.1 (subst At without.0 t.1) t.2
        ]
      where
        whole_orders : List (List ℕ × List ℕ)
        whole_orders = orders limit g dag.well_formed

        again : orders_in (listed (map (row_of g) (node_identifiers g))) ≡ Some whole_orders
        again = rw (numbered_bounded 0 g.nodes) (orders_again g _)

        copy : IsCopyAs weights_read edge_weights_read (trimmed g) (with_orders (graph_of_slots nodes edges) whole_orders)
        copy = made_copy limit g dag.well_formed weights_read edge_weights_read nodes copied edges copied_edges

        tested : (h : Graph N E)
            → h ≡ with_orders (graph_of_slots nodes edges) whole_orders → (r : Result (Graph N E) ReadError)
            → IsTested h r → IsReadAgain r
        tested h same (Ok k) s = rw (s.1 ∙ same) copy
        tested h same (Err e) s =
            absurd (s.0 (subst IsAcyclic (sym same)
            (made_acyclic limit g dag.well_formed weights_read edge_weights_read nodes copied edges copied_edges
            dag.acyclic)))

        plain : (x : Result (Graph N E) ReadError) → ListsDescend g → x ≡ Ok (graph_of_slots nodes edges)
            → MatchResult x (λ h. IsTested h r) (λ e. r ≡ Err e) → IsReadAgain r
        plain x down is next =
            tested (graph_of_slots nodes edges)
            (sym (made_down limit g dag.well_formed weights_read edge_weights_read nodes copied edges copied_edges down)) r
            (subst (λ z. MatchResult z (λ h. IsTested h r) (λ e. r ≡ Err e)) is next)

        go : (x : Result (Graph N E) ReadError)
            → IsOrdered (graph_of_slots nodes edges) (Some (listed (map (row_of g) (node_identifiers g)))) x
            → MatchResult x (λ h. IsTested h r) (λ e. r ≡ Err e) → IsReadAgain r
        go (Ok h) s next =
            let same = same_Some s.0 whole_orders (sym s.1 ∙ again) in
            tested h (s.3 ∙ ap (with_orders (graph_of_slots nodes edges)) same) r next
        go (Err e) s next =
            absurd (s.0 whole_orders again
            (orders_fit limit g dag.well_formed weights_read edge_weights_read nodes copied edges copied_edges))

    abbrev Reads : Data → Result (Option (Edge E)) ReadError → Type 0
    Reads = IsEntryRead kind nodes edge_answers

    abbrev Entry : Option (Edge F) → Data → Type 0
    Entry x k = IsEntry edge_as x k × CanBeRead kind nodes x

    linked : (r : Result (Graph N E) ReadError)
        → IsLinked limit kind node_answers edge_answers IsTested part nodes r → IsReadAgain r
    linked r t = go t.0 (each_read Reads Entry left_edges doc.entries t.0 written t.1) t.2
      where
        written : AllZip Entry left_edges doc.entries
        written =
            zip_both (IsEntry edge_as) (CanBeRead kind nodes) left_edges doc.entries doc.edges
            (entries_fit limit g dag.well_formed weights_read edge_weights_read nodes copied kind compact)

        go : (x : Result (List (Option (Edge E))) ReadError)
            → MatchResult x (λ ys. AllZip (λ z y. ReadsThrough Reads Entry z (Ok y)) left_edges ys)
            (λ e. (z : Option (Edge F)) × Contains left_edges z × ReadsThrough Reads Entry z (Err e))
            → MatchResult x
            (λ edges. Then (IsOrdered (graph_of_slots nodes edges) part.orders) IsTested r) (λ e. r ≡ Err e)
            → IsReadAgain r
        go (Ok edges) zip next =
            ordered edges
            (copied_zip edge_weights_read weight_in with_weight 0 left_edges edges
            (zip_weaker (λ z y. ReadsThrough Reads Entry z (Ok y)) (SlotAs edge_weights_read weight_in with_weight)
            (λ z y h. entry_read kind nodes edge_as edge_answers z h.0 (Ok y) h.1 h.2) left_edges edges zip)) r next
        go (Err e) (z, has, (k, entry, reads)) next =
            let refused = entry_read kind nodes edge_as edge_answers z k (Err e) entry reads in
            let found = refused.1 in
            let listed_there = edge_weight_in (edge_bound g) 0 g.edges found.0 (rw found.1 at has) in
            rw next (refused.0, inr (found.0.weight, listed_there, found.2, found.3, found.4))

  abbrev Staged : Result (Graph N E) ReadError → Parts → Option ReadError → Type 0
  Staged r p fault = MatchOption fault (IsFilled limit kind node_answers edge_answers IsTested p r) (λ e. r ≡ Err e)

  -- what was written of a dag is read as that dag, with what may be read of its weights
  pub read_again : (r : Result (Graph N E) ReadError)
      → IsRead limit kind node_answers edge_answers d r → IsReadAgain r
  read_again r read = go filled.0 (each_read (IsWeight node_answers) node_as (node_weights g) doc.weights filled.0
      doc.nodes filled.1) filled.2
    where
      staged : (fault : Option ReadError) × IsLaidOut limit kind part fault × Staged r part fault
      staged =
          MatchOption-at_some (r ≡ Err Shape)
          (λ p. (fault : Option ReadError) × IsLaidOut limit kind p fault × Staged r p fault) part doc.found read

      filled : IsFilled limit kind node_answers edge_answers IsTested part r
      filled = subst (Staged r part) (laid_out staged.0 staged.1) staged.2

      go : (x : Result (List N) ReadError)
          → MatchResult x
          (λ ws. AllZip (λ w y. ReadsThrough (IsWeight node_answers) node_as w (Ok y)) (node_weights g) ws)
          (λ e. (w : M) × Contains (node_weights g) w × ReadsThrough (IsWeight node_answers) node_as w (Err e))
          → MatchResult x (λ ws. (nodes : List (Option N)) × AreSlots nodes (holes_of g) ws
          × IsLinked limit kind node_answers edge_answers IsTested part nodes r) (λ e. r ≡ Err e)
          → IsReadAgain r
      go (Ok ws) zip (nodes, slots, next) =
          linked nodes (copied_nodes weights_read 0 left nodes slots.vacant
          (rw (numbered_bounded 0 g.nodes, slots.given) zip)) r next
      go (Err e) (w, has, (k, stands, (refused, weight))) next =
          rw next (weight, inl (w, has, k, stands, refused))

-- what was written of a dag is read as that dag, if each of its weights is read as it was
pub restored : {N E : Type 0} (limit : ℕ) (kind : Kind) (node_answers : Data → Option N → Type 0)
    (edge_answers : Data → Option E → Type 0) (g : Graph N E) → IsDag limit g → (kind ≡ Compact → IsCompact g)
    → (d : Data) → HasParts (ReadsOnly node_answers) (ReadsOnly edge_answers) g d
    → (r : Result (Graph N E) ReadError)
    → IsRead limit kind node_answers edge_answers d r → MatchResult r (λ h. h ≡ trimmed g) (λ e. ⊥)
restored limit kind node_answers edge_answers g dag compact d doc r read =
    MatchResult-weaker r
    (read_again limit kind (ReadsOnly node_answers) (ReadsOnly edge_answers) node_answers edge_answers g dag compact d
    doc r read)
    (copy_same (Through (ReadsOnly node_answers) node_answers) (Through (ReadsOnly edge_answers) edge_answers)
    (only node_answers) (only edge_answers) (trimmed g))
    (λ e h. elim h.1 [
      | inl bad ↦ never node_answers (node_weights g) bad
      | inr bad ↦ never edge_answers (edge_weights g) bad
    ])
  where
    only : {W : Type 0} (answers : Data → Option W → Type 0) (w v : W) → Through (ReadsOnly answers) answers w v → v ≡ w
    only answers w v t = same_Some v w (t.1 (Some v) t.2)

    never : {W : Type 0} (answers : Data → Option W → Type 0) (ws : List W)
        → IsRefused (ReadsOnly answers) answers ws → ⊥
    never answers ws (w, has, d, reads, refused) = none-some w (reads None refused)

-- what was written of a dag of values is read as that dag, with what may be read of them
pub values_again : {N E : Type 0} (limit : ℕ) (kind : Kind) (node_answers : Data → Option N → Type 0)
    (edge_answers : Data → Option E → Type 0) (g : Graph Data Data) → IsDag limit g → (kind ≡ Compact → IsCompact g)
    → (d : Data) → HasParts (λ w v. w ≡ v) (λ w v. w ≡ v) g d → (r : Result (Graph N E) ReadError)
    → IsRead limit kind node_answers edge_answers d r
    → MatchResult r (IsCopyAs (ReadsTo node_answers) (ReadsTo edge_answers) (trimmed g))
    (λ e. (e ≡ Weight) × HasRefused node_answers edge_answers g)
values_again limit kind node_answers edge_answers g dag compact d doc r read =
    MatchResult-weaker r
    (read_again limit kind (λ w v. w ≡ v) (λ w v. w ≡ v) node_answers edge_answers g dag compact d doc r read)
    (copy_weaker (Through (λ w v. w ≡ v) node_answers) (ReadsTo node_answers) (Through (λ w v. w ≡ v) edge_answers)
    (ReadsTo edge_answers) (given node_answers) (given edge_answers) (trimmed g))
    (λ e h. (
      h.0,
      record {
        refused = elim h.1 [
          | inl bad ↦ inl (refused node_answers (node_weights g) bad)
          | inr bad ↦ inr (refused edge_answers (edge_weights g) bad)
        ];
      },
    ))
  where
    given : {W : Type 0} (answers : Data → Option W → Type 0) (d : Data) (w : W)
        → Through (λ v u. v ≡ u) answers d w → ReadsTo answers d w
    given answers d w t = record { answered = subst (λ k. answers k (Some w)) (sym t.1) t.2 }

    refused : {W : Type 0} (answers : Data → Option W → Type 0) (ds : List Data)
        → IsRefused (λ v u. v ≡ u) answers ds → CanBeRefused answers ds
    refused answers ds (w, has, d, same, bad) = (w, has, subst (λ k. answers k None) (sym same) bad)

-- what a call then answers
pub answers_again : {D N E : Type 0} (graph_of : D → Graph N E) (P : Graph N E → Type 0) (Q : ReadError → Type 0)
    (result : Result D ReadError) (read : Result (Graph N E) ReadError → Type 0)
    → ((r : Result (Graph N E) ReadError) → read r → MatchResult r P Q)
    → IfOk result (λ x. read (Ok (graph_of x))) → IfErr result (λ e. (e ≡ Memory) ⊎ read (Err e))
    → MatchResult result (λ x. P (graph_of x)) (λ e. (e ≡ Memory) ⊎ Q e)
answers_again graph_of P Q (Ok x) read again ok err = again (Ok (graph_of x)) ok
answers_again graph_of P Q (Err e) read again ok err = elim err [
  | inl m ↦ inl m
  | inr r ↦ inr (again (Err e) r)
]

-- ---- what is written so that it is read again

module _ {N E : Type 0} (node_as node_again : N → Data → Type 0) (edge_as edge_again : E → Data → Type 0)
    (nodes : (w : N) (d : Data) → node_as w d → node_again w d)
    (edges : (w : E) (d : Data) → edge_as w d → edge_again w d) where
  entry_again : (x : Option (Edge E)) (d : Data) → IsEntry edge_as x d → IsEntry edge_again x d
  entry_again None d e = e
  entry_again (Some x) d e = (e.0, edges x.weight e.0 e.1, e.2)

  -- the document of a graph, where what stands for a weight has one more property
  pub document_again : (g : Graph N E) (d : Data)
      → IsDocumentOf node_as edge_as g d → IsDocumentOf node_again edge_again g d
  document_again g d doc =
      record {
        entries = doc.entries;
        weights = doc.weights;
        edges =
            zip_weaker (IsEntry edge_as) (IsEntry edge_again) entry_again (take (edge_bound g) g.edges)
            doc.entries doc.edges;
        nodes = zip_weaker node_as node_again nodes (node_weights g) doc.weights doc.nodes;
        is = doc.is;
      }
