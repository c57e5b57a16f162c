-- Slots that hold a graph without vacant slots store it.
use Rattle.std.proofs.Common.{◌≡◌, ℕ, zero, suc, ◌<◌, ◌≤◌, ◌↔◌, List, [], ◌∷◌, map, length, get_or, Option, Some, None}
use Rattle.std.proofs.Common.{is_some, slice_get, refl, sym, ap, subst, ◌∙◌, arith, Contains}
use Rattle.std.specs.List.{count_by}
use Rattle.std.specs.Option.{option_map}
use Rattle.std.proofs.lemmas.List.{length-map}
use Rattle.std.proofs.lemmas.Option.{same_Some, none-some, slice_get-map, get_or_from_slice_get}
use Rattle.daggy_base.specs.declared.index.Direction.{Direction}
use Rattle.daggy_base.specs.declared.index.Direction.TheVariants.{Outgoing, Incoming}
use Rattle.daggy_base.specs.Cursor.{first_of, after, cursor_after}
use Rattle.daggy_base.specs.Graph.{Graph, Edge as PlainEdge, slot, edge_at, list_at, near_end}
use Rattle.daggy_base.specs.WellFormed.{AreDistinct}
use Rattle.daggy_base.proofs.FullSlots.{IsFull, count_full, full_from}
use Rattle.daggy_cells.specs.declared.cell.Node.{Node}
use Rattle.daggy_cells.specs.declared.cell.Edge.{Edge}
use Rattle.daggy_cells.specs.Links.{nth_list, IsLinkedList, AreLinkedLists, ListsBy}
use Rattle.daggy_cells.specs.Raw.{raw_first, raw_next}
use Rattle.daggy_cells.specs.Fields.{firsts_of, nexts_of, lists_at}
use Rattle.daggy_base.proofs.Lists.{Contains-nil}
use Rattle.daggy_stable.specs.Held.{HoldsGraph}
use Rattle.daggy_stable.specs.Stored.{weight_of, plain_edge, shown, list_firsts, end_of, IsFreeList, Stores}
use Rattle.daggy_stable.proofs.Slots.{slot_inside}

-- slots that are shown one by one
slots_are : {A C : Type 0} (k : A → Option C) (xs : List (Option C)) (cells : List A)
    → length cells ≡ length xs → ((i : ℕ) (x : A) → slice_get cells i ≡ Some x → slot xs i ≡ k x) → xs ≡ map k cells
slots_are k [] [] long shows = refl
slots_are k [] (c ∷ cs) long shows = absurd (omega (arith, long))
slots_are k (x ∷ xs) [] long shows = absurd (omega (arith, long))
slots_are k (x ∷ xs) (c ∷ cs) long shows =
    ap (λ y. y ∷ xs) (shows 0 c refl)
    ∙ ap (λ l. k c ∷ l) (slots_are k xs cs (omega (arith, long)) (λ i. shows (suc i)))

some_at : {A : Type 0} (xs : List A) (i : ℕ) → i < length xs → (x : A) × (slice_get xs i ≡ Some x)
some_at [] i within = absurd (omega (arith, within))
some_at (x ∷ xs) zero within = (x, refl)
some_at (x ∷ xs) (suc i) within = some_at xs i (omega (arith, within))

mapped_at : {A : Type 0} (f : A → ℕ) (xs : List A) (i : ℕ) (x : A)
    → slice_get xs i ≡ Some x → slice_get (map f xs) i ≡ Some (f x)
mapped_at f xs i x at = slice_get-map f xs i ∙ ap (option_map f) at

-- where no slot is vacant, each link is shown
shown_full : {A : Type 0} (end : ℕ) (xs : List (Option A)) (links : List ℕ)
    → length links ≡ length xs → IsFull xs → shown end xs links ≡ links
shown_full end [] [] long full = refl
shown_full end [] (l ∷ links) long full = absurd (omega (arith, long))
shown_full end (x ∷ xs) [] long full = absurd (omega (arith, long))
shown_full end (None ∷ xs) (l ∷ links) long full = absurd (full 0 refl)
shown_full end (Some x ∷ xs) (l ∷ links) long full =
    ap (λ z. l ∷ z) (shown_full end xs links (omega (arith, long)) (λ i. full (suc i)))

-- no slot is vacant
none_linked : {A : Type 0} (end : ℕ) (slots : List (Option A)) {links : List ℕ} (vacant : List ℕ) (count : ℕ)
    → vacant ≡ [] → ((i : ℕ) → Contains vacant i ↔ (slice_get slots i ≡ Some None)) → count ≡ count_by is_some slots
    → length links ≡ length slots → length slots ≤ end
    → IsFreeList end slots links end count vacant
none_linked end slots {links} vacant count none exact counted long few =
    record {
      linked =
          subst (IsLinkedList end links end) (sym none)
          (record { starts = refl; distinct = tt; goes_on = λ e p. absurd (Contains-nil e p) });
      exact = exact;
      counted = counted;
      long = long;
      few = few;
    }

module _ {N E Ix : Type 0} (end : ℕ) (g : Graph N E) {nodes : List (Node (Option N) Ix)}
    {edges : List (Edge (Option E) Ix)} (h : HoldsGraph end nodes edges g) where
  lists_many : (dir : Direction) → length (lists_at dir g) ≡ length g.nodes
  lists_many Outgoing = h.well_formed.out_list_count
  lists_many Incoming = h.well_formed.in_list_count

  distinct : (dir : Direction) (n : ℕ) → AreDistinct (nth_list (lists_at dir g) n)
  distinct Outgoing n = h.well_formed.out_of.once n
  distinct Incoming n = h.well_formed.in_of.once n

  exact : (dir : Direction) (n e : ℕ)
      → Contains (nth_list (lists_at dir g) n) e ↔ ((x : PlainEdge E) × (edge_at g e ≡ Some x) × (near_end dir x ≡ n))
  exact Outgoing = h.well_formed.out_of.exact
  exact Incoming = h.well_formed.in_of.exact

  list_seen : (dir : Direction) (n : ℕ) → nth_list (lists_at dir g) n ≡ list_at dir g n
  list_seen Outgoing n = refl
  list_seen Incoming n = refl

  nodes_are : g.nodes ≡ map weight_of nodes
  nodes_are = slots_are weight_of g.nodes nodes h.node_cells.count h.node_cells.weight

  edges_are : g.edges ≡ map plain_edge edges
  edges_are = slots_are plain_edge g.edges edges h.edge_cells.count h.edge_cells.edge

  nodes_full : IsFull g.nodes
  nodes_full = full_from g.nodes g.vacant_nodes h.well_formed.node_slots h.compact.nodes

  edges_full : IsFull g.edges
  edges_full = full_from g.edges g.vacant_edges h.well_formed.edge_slots h.compact.edges

  firsts_shown : (dir : Direction) → list_firsts end dir nodes ≡ firsts_of dir nodes
  firsts_shown dir =
      shown_full end (map weight_of nodes) (firsts_of dir nodes)
      (length-map nodes (raw_first dir) ∙ sym (length-map nodes weight_of)) (subst IsFull nodes_are nodes_full)

  starts : (dir : Direction) (n : ℕ)
      → n < length (firsts_of dir nodes) → get_or (firsts_of dir nodes) n 0 ≡ first_of end (nth_list (lists_at dir g) n)
  starts dir n within =
      let cell = some_at nodes n (omega (arith, within, length-map nodes (raw_first dir))) in
      get_or_from_slice_get (firsts_of dir nodes) n (raw_first dir cell.0) 0
      (mapped_at (raw_first dir) nodes n cell.0 cell.1)
      ∙ h.node_cells.first dir n cell.0 cell.1 ∙ ap (first_of end) (sym (list_seen dir n))

  goes_on : (dir : Direction) (n e : ℕ) → Contains (nth_list (lists_at dir g) n) e
      → slice_get (nexts_of dir edges) e ≡ Some (after end (nth_list (lists_at dir g) n) e)
  goes_on dir n e p =
      let found = (exact dir n e).0 p in
      let x : PlainEdge E = found.0 in
      let cell = some_at edges e (omega (arith, slot_inside g.edges e x found.1, h.edge_cells.count)) in
      let next : raw_next dir cell.0 ≡ after end (nth_list (lists_at dir g) n) e =
      h.edge_cells.next dir e cell.0 cell.1 ∙ ap (cursor_after dir end g e) found.1
      ∙ ap (λ m. after end (list_at dir g m) e) found.2 ∙ ap (λ l. after end l e) (sym (list_seen dir n)) in
      mapped_at (raw_next dir) edges e cell.0 cell.1 ∙ ap Some next

  linked : (dir : Direction) → AreLinkedLists end (list_firsts end dir nodes) (nexts_of dir edges) (lists_at dir g)
  linked dir =
      subst (λ z. AreLinkedLists end z (nexts_of dir edges) (lists_at dir g)) (sym (firsts_shown dir))
      (record {
        rows = omega (arith, lists_many dir, h.node_cells.count, length-map nodes (raw_first dir));
        each = λ n within. record { starts = starts dir n within; distinct = distinct dir n; goes_on = goes_on dir n };
      })

  listed_back : (dir : Direction) (n e : ℕ) (o : Option (PlainEdge E))
      → edge_at g e ≡ o → option_map (near_end dir) o ≡ Some n → Contains (nth_list (lists_at dir g) n) e
  listed_back dir n e None at is = absurd (none-some n is)
  listed_back dir n e (Some x) at is = (exact dir n e).1 (x, at, same_Some (near_end dir x) n is)

  listed : (dir : Direction) → ListsBy (end_of dir g) (lists_at dir g)
  listed dir n e = (
    λ p. let found = (exact dir n e).0 p in ap (option_map (near_end dir)) found.1 ∙ ap Some found.2,
    λ q. listed_back dir n e (edge_at g e) refl q,
  )

  -- in the words of the code
  pub Stores-held : {node_head edge_head nodes_counted edges_counted : ℕ} → node_head ≡ end → edge_head ≡ end
      → nodes_counted ≡ length nodes → edges_counted ≡ length edges
      → Stores end nodes edges node_head edge_head nodes_counted edges_counted g
  Stores-held {node_head} {edge_head} {nodes_counted} {edges_counted} node_end edge_end nodes_many edges_many =
      rw (node_end, edge_end)
      (record {
        nodes_are = nodes_are;
        edges_are = edges_are;
        linked = elim [ Outgoing ↦ linked Outgoing | Incoming ↦ linked Incoming ];
        listed = elim [ Outgoing ↦ listed Outgoing | Incoming ↦ listed Incoming ];
        node_slots =
            none_linked end g.nodes g.vacant_nodes nodes_counted h.compact.nodes h.well_formed.node_slots.exact
            (nodes_many ∙ h.node_cells.count ∙ sym (count_full g.nodes nodes_full))
            (length-map nodes (raw_first Outgoing) ∙ h.node_cells.count) h.well_formed.few_nodes;
        edge_slots =
            none_linked end g.edges g.vacant_edges edges_counted h.compact.edges h.well_formed.edge_slots.exact
            (edges_many ∙ h.edge_cells.count ∙ sym (count_full g.edges edges_full))
            (length-map edges (raw_next Outgoing) ∙ h.edge_cells.count) h.well_formed.few_edges;
      })
