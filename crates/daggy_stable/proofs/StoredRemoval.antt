-- What is stored after a removal.
use Rattle.std.proofs.Common.{◌≡◌, ◌≢◌, ℕ, zero, suc, ◌+◌, ◌-◌, ◌<◌, ◌≤◌, List, [], ◌∷◌, ◌++◌, map, length, get_or, set}
use Rattle.std.proofs.Common.{take, drop, Option, Some, None, IsSome, OnSome, IfNone, slice_get, unwrap_or, true, refl}
use Rattle.std.proofs.Common.{sym, ap, subst, ◌∙◌, inl, inr, arith, Contains}
use Rattle.std.specs.Option.{option_map, option_and_then}
use Rattle.std.proofs.lemmas.Bool.{cases_lt}
use Rattle.std.proofs.lemmas.List.{length-set, length-map, map-set, get_or-map, take-map, length-take-le}
use Rattle.std.proofs.lemmas.Option.{slice_get-get_or, slice_get_within, slice_get_past, same_Some, none-some}
use Rattle.std.proofs.lemmas.Option.{unwrap_or-slice_get}
use Rattle.daggy_base.specs.declared.index.Direction.{Direction}
use Rattle.daggy_base.specs.declared.index.Direction.TheVariants.{Outgoing, Incoming}
use Rattle.daggy_base.specs.Graph.{Graph, Edge as PlainEdge, slot, edge_at, list_at, near_end}
use Rattle.daggy_base.specs.Cursor.{first_of}
use Rattle.daggy_base.specs.Removal.{without, renamed, without_edge, with_node_dropped, without_all_edges}
use Rattle.daggy_base.specs.declared.kind.Kind.TheVariants.{Stable}
use Rattle.daggy_base.specs.TakingBack.{with_edge_taken_back, with_node_taken_back}
use Rattle.daggy_cells.specs.declared.cell.Node.{Node}
use Rattle.daggy_cells.specs.declared.cell.Edge.{Edge}
use Rattle.daggy_cells.specs.Links.{nth_list, IsLinkedList, AreLinkedLists, ListsBy, Redirected}
use Rattle.daggy_cells.specs.Raw.{raw_first, raw_next}
use Rattle.daggy_cells.specs.Fields.{with_first, with_next, firsts_of, nexts_of, ends_of, end_at, lists_at}
use Rattle.daggy_cells.specs.Fields.{plain_edge as stored_edge, IsReady, Redirects, IsRedirected}
use Rattle.daggy_base.proofs.Lists.{Contains-nil, slice_get-set_other, slice_get-set_same, slice_get-take}
use Rattle.daggy_base.proofs.Lists.{slice_get-take_past, map_so_far}
use Rattle.daggy_cells.proofs.LinkedLists.{Contains-from_without}
use Rattle.daggy_cells.proofs.LinkedListChanges.{row-map, row_past, row_within, IsLinkedList-at, AreLinkedLists-kept}
use Rattle.daggy_cells.proofs.LinkedListChanges.{AreLinkedLists-with_edge_unlinked, ListsBy-without, linked_within}
use Rattle.daggy_cells.proofs.LinkedListChanges.{AreLinkedLists-none, ListsBy-none}
use Rattle.daggy_base.proofs.MappedSlots.{slot_read}
use Rattle.daggy_cells.proofs.RedirectLemmas.{IsListOf, Ready-row, Redirected-list_from}
use Rattle.daggy_cells.proofs.FieldLemmas.{firsts_as_many}
use Rattle.daggy_stable.specs.Stored.{weight_of, plain, plain_edge, shown, list_firsts, end_of, with_links_emptied}
use Rattle.daggy_stable.specs.Stored.{with_lists_emptied, IsFreeList, IsUnlinked, Stores}
use Rattle.daggy_stable.proofs.Slots.{relinked, vacated, cut, slot_not_vacant, not_listed, count_vacate}
use Rattle.daggy_stable.proofs.Shown.{length-shown, shown_some, shown-set, shown-set_vacant, shown-vacate, shown-take}
use Rattle.daggy_stable.proofs.Stores.{reads_itself, nodes_long, edges_long, firsts_long, row_from, first_shown}
use Rattle.daggy_stable.proofs.Stores.{listed_within, near_exists, edge_within, end_stored, stands, some_is, node_read}
use Rattle.daggy_stable.proofs.Stores.{no_slots, weights_seen}
use Rattle.daggy_stable.proofs.Changes.{node_inside}

-- what is seen of stored edges, by less

abbrev part_of : {E : Type 0} → Option (PlainEdge (Option E)) → Option (PlainEdge E)
part_of None = None
part_of (Some y) = option_map (λ w. record { parent = y.parent; child = y.child; weight = w }) y.weight

pub edges_seen : {E Ix : Type 0} (xs ys : List (Edge (Option E) Ix))
    → map stored_edge xs ≡ map stored_edge ys → map plain_edge xs ≡ map plain_edge ys
edges_seen {E} {Ix} xs ys same = sym (joined xs) ∙ ap (map part_of) same ∙ joined ys
  where
    joined : (xs : List (Edge (Option E) Ix)) → map part_of (map stored_edge xs) ≡ map plain_edge xs
    joined [] = refl
    joined (x ∷ xs) = ap (λ l. plain_edge x ∷ l) (joined xs)

slot-set_same : {A : Type 0} (xs : List (Option A)) (i : ℕ) (o : Option A) → i < length xs → slot (set xs i o) i ≡ o
slot-set_same xs i o within = ap (option_and_then (λ z. z)) (slice_get-set_same xs i o within)

slot-set_other : {A : Type 0} (xs : List (Option A)) (i f : ℕ) (o : Option A) → f ≢ i → slot (set xs i o) f ≡ slot xs f
slot-set_other xs i f o other = ap (option_and_then (λ z. z)) (slice_get-set_other xs i f o other)

module _ {N E Ix : Type 0} {end : ℕ} {nodes : List (Node (Option N) Ix)} {edges : List (Edge (Option E) Ix)}
    {node_head edge_head nodes_counted edges_counted : ℕ} {g : Graph N E}
    (s : Stores end nodes edges node_head edge_head nodes_counted edges_counted g) where
  -- an edge is taken out of its lists
  module _ (e : ℕ) {y : PlainEdge E} (at : edge_at g e ≡ Some y) where
    e_in : e < length edges
    e_in = edge_within s e y at

    edges_few : length edges ≤ end
    edges_few = omega (arith, s.edge_slots.few, edges_long s)

    there : (dir : Direction) → Contains (nth_list (lists_at dir g) (near_end dir y)) e
    there dir = stands s dir e y at

    n_in : (dir : Direction) → near_end dir y < length nodes
    n_in dir = listed_within s dir (near_end dir y) e (there dir)

    node_is : (dir : Direction) → (w : N) × (slot (map weight_of nodes) (near_end dir y) ≡ Some w)
    node_is dir = let found = near_exists s dir (near_end dir y) e (there dir) in
        (found.0, ap (λ l. slot l (near_end dir y)) (sym s.nodes_are) ∙ found.1)

    the_row : (dir : Direction)
        → IsLinkedList end (nexts_of dir edges) (get_or (firsts_of dir nodes) (near_end dir y) 0)
        (nth_list (lists_at dir g) (near_end dir y))
    the_row dir =
        let found = near_exists s dir (near_end dir y) e (there dir) in
        subst (λ z. IsLinkedList end (nexts_of dir edges) z (nth_list (lists_at dir g) (near_end dir y)))
        (sym (first_shown s dir (near_end dir y) found.0 found.1)) (row_from s dir (near_end dir y))

    end_is : (dir : Direction) → get_or (ends_of dir edges) e 0 ≡ near_end dir y
    end_is dir = go edges refl e_in
      where
        go : (cells : List (Edge (Option E) Ix))
            → cells ≡ edges → e < length cells → get_or (ends_of dir edges) e 0 ≡ near_end dir y
        go [] is p = absurd (omega (arith, p))
        go (d ∷ ds) is p =
            get_or-map (end_at dir) edges e d 0 e_in
            ∙ end_stored s dir e y (get_or edges e d) at e_in (reads_itself edges e d e_in)

    list_of : (dir : Direction)
        → IsListOf end dir nodes edges e (near_end dir y) (nth_list (lists_at dir g) (near_end dir y))
    list_of dir = record { linked = the_row dir; end_is = end_is dir; few = edges_few }

    pub ready : (dir : Direction) → IsReady end dir nodes edges e
    ready dir = Ready-row (list_of dir) (n_in dir) e_in (there dir)

    module _ {nodes' : List (Node (Option N) Ix)} {edges' : List (Edge (Option E) Ix)}
        (unlinked : IsUnlinked nodes nodes' edges edges' e) where
      weights : map weight_of nodes' ≡ map weight_of nodes
      weights = weights_seen nodes' nodes unlinked.weights

      plains : map plain_edge edges' ≡ map plain_edge edges
      plains = edges_seen edges' edges unlinked.plains

      raw_red : (dir : Direction)
          → Redirected (nth_list (lists_at dir g) (near_end dir y)) (near_end dir y) e (get_or (nexts_of dir edges) e 0)
          (firsts_of dir nodes) (nexts_of dir edges) (firsts_of dir nodes') (nexts_of dir edges')
      raw_red dir = Redirected-list_from (list_of dir) nodes' edges' (unlinked.links dir)

      shown_red : (dir : Direction)
          → Redirected (nth_list (lists_at dir g) (near_end dir y)) (near_end dir y) e (get_or (nexts_of dir edges) e 0)
          (list_firsts end dir nodes) (nexts_of dir edges) (list_firsts end dir nodes') (nexts_of dir edges')
      shown_red dir =
          let r = raw_red dir in
          let n = near_end dir y in
          let new = get_or (nexts_of dir edges) e 0 in
          let found = node_is dir in
          record {
            first =
                ap (λ l. shown end l (firsts_of dir nodes')) weights ∙ ap (shown end (map weight_of nodes)) r.first
                ∙ shown-set end (map weight_of nodes) (firsts_of dir nodes) n
                (renamed e new (get_or (firsts_of dir nodes) n 0)) found.0 found.1
                ∙ ap (λ z. set (list_firsts end dir nodes) n (renamed e new z)) (sym (shown_some end
                (map weight_of nodes) (firsts_of dir nodes) n found.0 (firsts_as_many weight_of dir nodes) found.1));
            same_length = r.same_length;
            inside = r.inside;
            outside = r.outside;
          }

      with_edge_unlinked : (dir : Direction)
          → AreLinkedLists end (list_firsts end dir nodes') (nexts_of dir edges') (map (without e) (lists_at dir g))
      with_edge_unlinked dir =
          let inside : e < length (nexts_of dir edges) = omega (arith, e_in, length-map edges (raw_next dir)) in
          AreLinkedLists-with_edge_unlinked (end_of dir g) (s.linked dir) (s.listed dir)
          (ap (option_map (near_end dir)) at) (omega (arith, n_in dir, firsts_long s dir))
          (omega (arith, e_in, edges_few)) (slice_get-get_or (nexts_of dir edges) e 0 inside) (shown_red dir)

      -- members of the lists that are left
      left_over : (dir : Direction) (n f : ℕ)
          → Contains (nth_list (map (without e) (lists_at dir g)) n) f → (f < length edges) × (f ≢ e)
      left_over dir n f p =
          let was =
          Contains-from_without e f (nth_list (lists_at dir g) n)
          (subst (λ l. Contains l f) (row-map (without e) refl (lists_at dir g) n) p) in (
            omega (
              arith,
              linked_within end _ _ (lists_at dir g) n f (s.linked dir) was.0,
              length-map edges (raw_next dir),
            ),
            was.1,
          )

      node_slots' : IsFreeList end g.nodes (firsts_of Outgoing nodes') node_head nodes_counted g.vacant_nodes
      node_slots' =
          let r = raw_red Outgoing in
          let n = near_end Outgoing y in
          let found = near_exists s Outgoing n e (there Outgoing) in
          let new = renamed e (get_or (nexts_of Outgoing edges) e 0) (get_or (firsts_of Outgoing nodes) n 0) in
          relinked s.node_slots
          (firsts_of Outgoing nodes') (ap length r.first ∙ length-set (firsts_of Outgoing nodes) n new) (λ f p.
          let other : f ≢ n = λ same.
          slot_not_vacant g.nodes n found.0 found.1
          ((s.node_slots.exact n).0 (subst (Contains g.vacant_nodes) same p)) in
          ap (λ l. slice_get l f) r.first ∙ slice_get-set_other (firsts_of Outgoing nodes) n f new other)

      vacant_kept : (f : ℕ) → Contains g.vacant_edges f
          → (slice_get (nexts_of Outgoing edges') f ≡ slice_get (nexts_of Outgoing edges) f) × (f ≢ e)
      vacant_kept f p = (
        (raw_red Outgoing).outside f (λ q.
            let none : edge_at g f ≡ None = ap (option_and_then (λ z. z)) ((s.edge_slots.exact f).0 p) in
            none-some (near_end Outgoing y)
            (sym (ap (option_map (near_end Outgoing)) none) ∙ (s.listed Outgoing (near_end Outgoing y) f).0 q)),
        λ same. slot_not_vacant g.edges e y at ((s.edge_slots.exact e).0 (subst (Contains g.vacant_edges) same p)),
      )

      edges_long' : length edges' ≡ length edges
      edges_long' = sym (length-map edges' plain_edge) ∙ ap length plains ∙ length-map edges plain_edge

      -- and its slot vacated
      pub edge_removed : (cell : Edge (Option E) Ix)
          → cell.weight ≡ None → cell.next_out ≡ edge_head → {count' : ℕ} → edges_counted ≡ suc count'
          → Stores end nodes' (set edges' e cell) node_head e nodes_counted count' (without_edge Stable g e)
      edge_removed cell none leads {count'} count_is =
          let written : (dir : Direction)
          → nexts_of dir (set edges' e cell) ≡ set (nexts_of dir edges') e (raw_next dir cell) =
          λ dir.
          map-set (raw_next dir) edges' e cell in
          let links : (dir : Direction)
          → AreLinkedLists end (list_firsts end dir nodes') (nexts_of dir (set edges' e cell))
          (map (without e) (lists_at dir g)) =
          λ dir.
          AreLinkedLists-kept end _ _ (nexts_of dir edges') (nexts_of dir (set edges' e cell))
          (map (without e) (lists_at dir g)) (with_edge_unlinked dir) refl
          (λ n f p.
          ap (λ l. slice_get l f) (written dir)
          ∙ slice_get-set_other (nexts_of dir edges') e f (raw_next dir cell) (left_over dir n f p).1) in
          let inside : e < length g.edges = omega (arith, e_in, edges_long s) in
          let lists : (dir : Direction)
          → ListsBy (λ f. option_map (near_end dir) (slot (set g.edges e None) f)) (map (without e) (lists_at dir g)) =
          λ dir.
          ListsBy-without (end_of dir g) _ (lists_at dir g) e (s.listed dir)
          (ap (option_map (near_end dir)) (slot-set_same g.edges e None inside))
          (λ f other. ap (option_map (near_end dir)) (slot-set_other g.edges e f None other)) in
          let goes : slice_get (nexts_of Outgoing (set edges' e cell)) e ≡ Some edge_head =
          ap (λ l. slice_get l e) (written Outgoing)
          ∙ slice_get-set_same (nexts_of Outgoing edges') e (raw_next Outgoing cell)
          (omega (arith, e_in, edges_long', length-map edges' (raw_next Outgoing)))
          ∙ ap Some leads in
          let long : length (nexts_of Outgoing (set edges' e cell)) ≡ length (nexts_of Outgoing edges) =
          ap length (written Outgoing) ∙ length-set (nexts_of Outgoing edges') e (raw_next Outgoing cell)
          ∙ length-map edges' (raw_next Outgoing) ∙ edges_long' ∙ sym (length-map edges (raw_next Outgoing)) in
          record {
            nodes_are = s.nodes_are ∙ sym weights;
            edges_are =
                ap (λ l. set l e None) (s.edges_are ∙ sym plains)
                ∙ ap (set (map plain_edge edges') e) (sym (ap (option_map (plain cell)) none))
                ∙ sym (map-set plain_edge edges' e cell);
            linked = elim [ Outgoing ↦ links Outgoing | Incoming ↦ links Incoming ];
            listed = elim [ Outgoing ↦ lists Outgoing | Incoming ↦ lists Incoming ];
            node_slots = node_slots';
            edge_slots =
                vacated s.edge_slots e y at (nexts_of Outgoing (set edges' e cell)) count' long goes
                (λ f p. ap (λ l. slice_get l f) (written Outgoing)
                ∙ slice_get-set_other (nexts_of Outgoing edges') e f (raw_next Outgoing cell) (vacant_kept f p).1
                ∙ (vacant_kept f p).0) count_is;
          }

      -- or its slot, which is the last, cut off
      pub edge_cut : e + 1 ≡ length edges → {count' : ℕ} → edges_counted ≡ suc count'
          → Stores end nodes' (take e edges') node_head edge_head nodes_counted count' (with_edge_taken_back true g e)
      edge_cut last {count'} count_is =
          let cut_off : (dir : Direction) → nexts_of dir (take e edges') ≡ take e (nexts_of dir edges') = λ dir.
          sym (take-map (raw_next dir) e edges') in
          let links : (dir : Direction)
          → AreLinkedLists end (list_firsts end dir nodes') (nexts_of dir (take e edges'))
          (map (without e) (lists_at dir g)) =
          λ dir.
          AreLinkedLists-kept end _ _ (nexts_of dir edges') (nexts_of dir (take e edges'))
          (map (without e) (lists_at dir g)) (with_edge_unlinked dir) refl
          (λ n f p. let was = left_over dir n f p in
          ap (λ l. slice_get l f) (cut_off dir)
          ∙ slice_get-take e (nexts_of dir edges') f (omega (arith, was.0, was.1, last))) in
          let lists : (dir : Direction)
          → ListsBy (λ f. option_map (near_end dir) (slot (take e g.edges) f)) (map (without e) (lists_at dir g)) =
          λ dir.
          ListsBy-without (end_of dir g) _ (lists_at dir g) e (s.listed dir) (ap (option_map (near_end dir))
          (ap (option_and_then (λ z. z)) (slice_get-take_past e g.edges e (omega arith))))
          (λ f other. ap (option_map (near_end dir)) (ap (option_and_then (λ z. z)) (taken_other f other))) in
          let short : length (nexts_of Outgoing (take e edges')) ≡ e =
          length-map (take e edges') (raw_next Outgoing) ∙ length-take-le e edges' (omega (arith, last, edges_long')) in
          record {
            nodes_are = s.nodes_are ∙ sym weights;
            edges_are = ap (take e) (s.edges_are ∙ sym plains) ∙ take-map plain_edge e edges';
            linked = elim [ Outgoing ↦ links Outgoing | Incoming ↦ links Incoming ];
            listed = elim [ Outgoing ↦ lists Outgoing | Incoming ↦ lists Incoming ];
            node_slots = node_slots';
            edge_slots =
                cut s.edge_slots e y at
                (nexts_of Outgoing (take e edges')) count' (omega (arith, last, edges_long s)) short
                (λ f p.
                let below : f < e =
                omega (
                  arith,
                  (vacant_kept f p).1,
                  last,
                  edges_long s,
                  slice_get_within g.edges f _ ((s.edge_slots.exact f).0 p),
                ) in
                ap (λ l. slice_get l f) (cut_off Outgoing) ∙ slice_get-take e (nexts_of Outgoing edges') f below
                ∙ (vacant_kept f p).0) count_is;
          }
        where
          taken_other : (f : ℕ) → f ≢ e → slice_get (take e g.edges) f ≡ slice_get g.edges f
          taken_other f other =
              elim (cases_lt f e) [
                | inl below ↦ slice_get-take e g.edges f below
                | inr past ↦
                    slice_get-take_past e g.edges f past
                    ∙ sym (slice_get_past g.edges f (omega (arith, past, other, last, edges_long s)))
              ]

  -- a node that has no edges
  module _ (n : ℕ) (w : N) (at : slot g.nodes n ≡ Some w)
      (empty : (dir : Direction) → nth_list (lists_at dir g) n ≡ []) where
    at' : slot (map weight_of nodes) n ≡ Some w
    at' = ap (λ l. slot l n) (sym s.nodes_are) ∙ at

    leads_nowhere : (dir : Direction) → get_or (firsts_of dir nodes) n 0 ≡ end
    leads_nowhere dir = first_shown s dir n w at ∙ ap (first_of end) (empty dir)

    n_within : n < length nodes
    n_within = elim (cases_lt n (length nodes)) [
      | inl p ↦ p
      | inr past ↦
          absurd (none-some w
          (sym (ap (option_and_then (λ z. z)) (slice_get_past (map weight_of nodes) n (omega (
            arith,
            past,
            length-map nodes weight_of,
          ))))
          ∙ at'))
    ]

    -- its slot is vacated
    pub node_dropped : (cell : Node (Option N) Ix)
        → cell.weight ≡ None → cell.first_out ≡ node_head → (count' : ℕ) → nodes_counted ≡ suc count'
        → Stores end (set nodes n cell) edges n edge_head count' edges_counted (with_node_dropped Stable g n)
    node_dropped cell none leads count' count_is =
        let gone : map weight_of (set nodes n cell) ≡ set (map weight_of nodes) n None =
        map-set weight_of nodes n cell ∙ ap (set (map weight_of nodes) n) none in
        let written : (dir : Direction)
        → firsts_of dir (set nodes n cell) ≡ set (firsts_of dir nodes) n (raw_first dir cell) =
        λ dir.
        map-set (raw_first dir) nodes n cell in
        let inside : n < length (map weight_of nodes) = omega (arith, n_within, length-map nodes weight_of) in
        let firsts : (dir : Direction) → list_firsts end dir (set nodes n cell) ≡ list_firsts end dir nodes =
        λ dir.
        ap (λ l. shown end l (firsts_of dir (set nodes n cell))) gone
        ∙ ap (shown end (set (map weight_of nodes) n None)) (written dir)
        ∙ shown-set_vacant end (set (map weight_of nodes) n None) (firsts_of dir nodes) n (raw_first dir cell)
        (slot-set_same (map weight_of nodes) n None inside)
        ∙ shown-vacate end (map weight_of nodes) (firsts_of dir nodes) n (firsts_as_many weight_of dir nodes)
        (leads_nowhere dir) in
        let links : (dir : Direction)
        → AreLinkedLists end (list_firsts end dir (set nodes n cell)) (nexts_of dir edges) (lists_at dir g) =
        λ dir.
        AreLinkedLists-kept end _ _ (nexts_of dir edges) (nexts_of dir edges) (lists_at dir g) (s.linked dir)
        (firsts dir) (λ m f p. refl) in
        let long : length (firsts_of Outgoing (set nodes n cell)) ≡ length (firsts_of Outgoing nodes) =
        ap length (written Outgoing) ∙ length-set (firsts_of Outgoing nodes) n (raw_first Outgoing cell) in
        let goes : slice_get (firsts_of Outgoing (set nodes n cell)) n ≡ Some node_head =
        ap (λ l. slice_get l n) (written Outgoing)
        ∙ slice_get-set_same (firsts_of Outgoing nodes) n (raw_first Outgoing cell)
        (omega (arith, n_within, length-map nodes (raw_first Outgoing)))
        ∙ ap Some leads in
        record {
          nodes_are = ap (λ l. set l n None) s.nodes_are ∙ sym gone;
          edges_are = s.edges_are;
          linked = elim [ Outgoing ↦ links Outgoing | Incoming ↦ links Incoming ];
          listed = elim [ Outgoing ↦ s.listed Outgoing | Incoming ↦ s.listed Incoming ];
          node_slots =
              vacated s.node_slots n w at (firsts_of Outgoing (set nodes n cell)) count' long goes
              (λ f p.
              let other : f ≢ n = λ same.
              not_listed s.node_slots n w at (subst (Contains g.vacant_nodes) same p) in
              ap (λ l. slice_get l f) (written Outgoing)
              ∙ slice_get-set_other (firsts_of Outgoing nodes) n f (raw_first Outgoing cell) other) count_is;
          edge_slots = s.edge_slots;
        }

    -- or, where it is the last, cut off
    pub node_cut : n + 1 ≡ length nodes → (count' : ℕ) → nodes_counted ≡ suc count'
        → Stores end (take n nodes) edges node_head edge_head count' edges_counted (with_node_taken_back true g n)
    node_cut last count' count_is =
        let firsts : (dir : Direction) → take n (list_firsts end dir nodes) ≡ list_firsts end dir (take n nodes) =
        λ dir.
        sym (ap (λ l. shown end l (firsts_of dir (take n nodes))) (sym (take-map weight_of n nodes))
        ∙ ap (shown end (take n (map weight_of nodes))) (sym (take-map (raw_first dir) n nodes))
        ∙ shown-take end n (map weight_of nodes) (firsts_of dir nodes)) in
        let links : (dir : Direction)
        → AreLinkedLists end (list_firsts end dir (take n nodes)) (nexts_of dir edges) (take n (lists_at dir g)) =
        λ dir.
        subst (λ z. AreLinkedLists end z (nexts_of dir edges) (take n (lists_at dir g))) (firsts dir)
        (linked_taken dir) in
        let lists : (dir : Direction) → ListsBy (end_of dir g) (take n (lists_at dir g)) = λ dir. listed_taken dir in
        let short : length (firsts_of Outgoing (take n nodes)) ≡ n =
        length-map (take n nodes) (raw_first Outgoing) ∙ length-take-le n nodes (omega (arith, last)) in
        record {
          nodes_are = ap (take n) s.nodes_are ∙ take-map weight_of n nodes;
          edges_are = s.edges_are;
          linked = elim [ Outgoing ↦ links Outgoing | Incoming ↦ links Incoming ];
          listed = elim [ Outgoing ↦ lists Outgoing | Incoming ↦ lists Incoming ];
          node_slots =
              cut s.node_slots n w at
              (firsts_of Outgoing (take n nodes)) count' (omega (arith, last, nodes_long s)) short
              (λ f p.
              let other : f ≢ n = λ same.
              not_listed s.node_slots n w at (subst (Contains g.vacant_nodes) same p) in
              let below : f < n =
              omega (arith, other, last, nodes_long s, slice_get_within g.nodes f _ ((s.node_slots.exact f).0 p)) in
              ap (λ l. slice_get l f) (sym (take-map (raw_first Outgoing) n nodes))
              ∙ slice_get-take n (firsts_of Outgoing nodes) f below) count_is;
          edge_slots = s.edge_slots;
        }
      where
        rows_long : (dir : Direction) → length (lists_at dir g) ≡ length nodes
        rows_long dir = (s.linked dir).rows ∙ firsts_long s dir

        row-take : (lists : List (List ℕ)) (m : ℕ) → m < n → nth_list (take n lists) m ≡ nth_list lists m
        row-take lists m below = ap (λ o. unwrap_or o []) (slice_get-take n lists m below)

        get_or-take : (xs : List ℕ) (m : ℕ) → m < n → get_or (take n xs) m 0 ≡ get_or xs m 0
        get_or-take xs m below =
            sym (unwrap_or-slice_get (take n xs) m 0) ∙ ap (λ o. unwrap_or o 0) (slice_get-take n xs m below)
            ∙ unwrap_or-slice_get xs m 0

        linked_taken : (dir : Direction)
            → AreLinkedLists end (take n (list_firsts end dir nodes)) (nexts_of dir edges) (take n (lists_at dir g))
        linked_taken dir =
            let firsts_short : length (take n (list_firsts end dir nodes)) ≡ n =
            length-take-le n (list_firsts end dir nodes) (omega (arith, last, firsts_long s dir)) in
            record {
              rows = length-take-le n (lists_at dir g) (omega (arith, last, rows_long dir)) ∙ sym firsts_short;
              each = λ m within.
                  let below : m < n = omega (arith, within, firsts_short) in
                  IsLinkedList-at _ _ _ _ (get_or-take (list_firsts end dir nodes) m below)
                  (row-take (lists_at dir g) m below)
                  ((s.linked dir).each m (omega (arith, below, last, firsts_long s dir)));
            }

        listed_taken : (dir : Direction) → ListsBy (end_of dir g) (take n (lists_at dir g))
        listed_taken dir m f =
            elim (cases_lt m n) [
              | inl below ↦ (
                λ p. (s.listed dir m f).0 (subst (λ l. Contains l f) (row-take (lists_at dir g) m below) p),
                λ q. subst (λ l. Contains l f) (sym (row-take (lists_at dir g) m below)) ((s.listed dir m f).1 q),
              )
              | inr past ↦ (
                λ p. absurd (Contains-nil f (subst (λ l. Contains l f) (row_past (take n (lists_at dir g)) m (omega (
                  arith,
                  past,
                  length-take-le n (lists_at dir g) (omega (arith, last, rows_long dir)),
                ))) p)),
                λ q.
                    let was = (s.listed dir m f).1 q in
                    let is_n : m ≡ n = omega (arith, past, last, rows_long dir, row_within (lists_at dir g) m f was) in
                    absurd (Contains-nil f
                    (subst (λ l. Contains l f) (ap (nth_list (lists_at dir g)) is_n ∙ empty dir) was)),
              )
            ]

-- in the words of the code

pub ready_kept : {N E Ix : Type 0} {end : ℕ} (dir : Direction) {nodes nodes' : List (Node N Ix)}
    {edges edges' : List (Edge E Ix)} {old : ℕ}
    → firsts_of dir nodes' ≡ firsts_of dir nodes → nexts_of dir edges' ≡ nexts_of dir edges
    → ends_of dir edges' ≡ ends_of dir edges
    → IsReady end dir nodes edges old → IsReady end dir nodes' edges' old
ready_kept dir {nodes} {nodes'} {edges} {edges'} {old} firsts nexts ends r =
    let long_nodes : length nodes' ≡ length nodes =
    sym (length-map nodes' (raw_first dir)) ∙ ap length firsts ∙ length-map nodes (raw_first dir) in
    let long_edges : length edges' ≡ length edges =
    sym (length-map edges' (raw_next dir)) ∙ ap length nexts ∙ length-map edges (raw_next dir) in
    record {
      edge = omega (arith, r.edge, long_edges);
      node = omega (arith, r.node, long_nodes, ap (λ l. get_or l old 0) ends);
      linked = rw (firsts, nexts, ends) r.linked;
      listed = rw (firsts, nexts, ends) r.listed;
      few = omega (arith, r.few, long_edges);
    }

pub both_redirected : {N E Ix : Type 0} {nodes n1 n2 : List (Node N Ix)} {edges e1 e2 : List (Edge E Ix)}
    {e out into : ℕ}
    → IsRedirected Outgoing nodes edges e out n1 e1 → IsRedirected Incoming n1 e1 e into n2 e2
    → out ≡ get_or (nexts_of Outgoing edges) e 0 → into ≡ get_or (nexts_of Incoming edges) e 0
    → (dir : Direction) → Redirects dir nodes edges e (get_or (nexts_of dir edges) e 0) n2 e2
both_redirected s1 s2 out_is into_is =
    elim [
      | Outgoing ↦ rw (← out_is, s2.keeps.firsts, s2.keeps_edges.nexts) s1.links
      | Incoming ↦ rw (← into_is) (rw (s1.keeps.firsts, s1.keeps_edges.nexts, s1.keeps_edges.ends Incoming) at s2.links)
    ]

pub weight_plain : {E Ix : Type 0} (x : Edge (Option E) Ix) → option_map (λ z. z.weight) (plain_edge x) ≡ x.weight
weight_plain {E} {Ix} x = go x.weight
  where
    go : (o : Option E) → option_map (λ z. z.weight) (option_map (plain x) o) ≡ o
    go None = refl
    go (Some w) = refl

pub on_some_is : {A : Type 0} (r : Option A) (P : Type 0) → P → OnSome r P
on_some_is None P p = tt
on_some_is (Some x) P p = p

pub none_not : {A B : Type 0} (f : B → A) (o : Option B) (r : Option A) (P : Type 0)
    → IsSome o → r ≡ option_map f o → IfNone r P
none_not f None r P has is = absurd cc
none_not f (Some x) None P has is = absurd (none-some (f x) is)
none_not f (Some x) (Some y) P has is = tt

module _ {N E Ix : Type 0} {end : ℕ} {nodes : List (Node (Option N) Ix)} {edges : List (Edge (Option E) Ix)}
    {node_head edge_head nodes_counted edges_counted : ℕ} {g : Graph N E}
    (s : Stores end nodes edges node_head edge_head nodes_counted edges_counted g) where
  pub edges_some : (e : ℕ) → IsSome (edge_at g e) → edges_counted ≡ suc (edges_counted - 1)
  edges_some e has = let found = some_is _ has in
      let step = count_vacate g.edges e found.0 found.1 in omega (arith, step, s.edge_slots.counted)

  pub nodes_some : (n : ℕ) → IsSome (slot g.nodes n) → nodes_counted ≡ suc (nodes_counted - 1)
  nodes_some n has = let found = some_is _ has in
      let step = count_vacate g.nodes n found.0 found.1 in omega (arith, step, s.node_slots.counted)

  pub ready_code : (e : ℕ) → IsSome (edge_at g e) → (dir : Direction) → IsReady end dir nodes edges e
  ready_code e has = ready s e (some_is _ has).1

  module _ {e : ℕ} (has : IsSome (edge_at g e)) {nodes' : List (Node (Option N) Ix)}
      {edges' : List (Edge (Option E) Ix)} (unlinked : IsUnlinked nodes nodes' edges edges' e) where
    pub edge_inside : e < length edges'
    edge_inside =
        let found = some_is _ has in
        let within = edge_within s e found.0 found.1 in
        omega (
          arith,
          within,
          sym (length-map edges' stored_edge) ∙ ap length unlinked.plains ∙ length-map edges stored_edge,
        )

    pub cell_weight : (x : Edge (Option E) Ix)
        → x ≡ get_or edges' e x → x.weight ≡ option_map (λ z. z.weight) (edge_at g e)
    cell_weight x reads =
        let same : edge_at g e ≡ plain_edge x =
        ap (λ l. slot l e) (s.edges_are ∙ sym (edges_seen edges' edges unlinked.plains))
        ∙ slot_read plain_edge edges' e x edge_inside reads in
        sym (weight_plain x) ∙ sym (ap (option_map (λ z. z.weight)) same)

    pub removed_weight : {i : ℕ} {x x' : Edge (Option E) Ix} {taken : Option E} → i ≡ e → x ≡ get_or edges' i x
        → x' ≡ with_next Outgoing x edge_head → taken ≡ x'.weight → taken ≡ option_map (λ z. z.weight) (edge_at g e)
    removed_weight {x = x} i_is reads x'_is taken_is =
        taken_is ∙ ap (λ z. z.weight) x'_is ∙ cell_weight x (reads ∙ ap (λ z. get_or edges' z x) i_is)

    pub edge_removed_code : {i : ℕ} (x : Edge (Option E) Ix) {x' : Edge (Option E) Ix} {left : Option E}
        → i ≡ e → x' ≡ with_next Outgoing x edge_head → left ≡ None
        → Stores end nodes' (set edges' i (record {
          weight = left;
          parent = x'.parent;
          child = x'.child;
          next_out = x'.next_out;
          next_in = x'.next_in;
        }))
        node_head e nodes_counted (edges_counted - 1) (without_edge Stable g e)
    edge_removed_code x {x'} {left} i_is x'_is left_is =
        let cell : Edge (Option E) Ix = record {
          weight = left;
          parent = x'.parent;
          child = x'.child;
          next_out = x'.next_out;
          next_in = x'.next_in;
        } in
        rw i_is
        (edge_removed s e (some_is _ has).1 unlinked cell left_is (ap (λ z. z.next_out) x'_is) (edges_some e has))

    pub edge_cut_code : e + 1 ≡ length edges
        → Stores end nodes' (take e edges') node_head edge_head nodes_counted (edges_counted - 1)
        (with_edge_taken_back true g e)
    edge_cut_code last = edge_cut s e (some_is _ has).1 unlinked last (edges_some e has)

  module _ (n : ℕ) (has : IsSome (slot g.nodes n)) (empty : (dir : Direction) → list_at dir g n ≡ []) where
    pub rows_empty : (dir : Direction) → nth_list (lists_at dir g) n ≡ []
    rows_empty Outgoing = empty Outgoing
    rows_empty Incoming = empty Incoming

    pub node_dropped_code : {i : ℕ} (x x' : Node (Option N) Ix) (left : Option N)
        → i ≡ n → x' ≡ with_first Outgoing x node_head → left ≡ None
        → Stores end (set nodes i (record { weight = left; first_out = x'.first_out; first_in = x'.first_in })) edges n
        edge_head (nodes_counted - 1) edges_counted (with_node_dropped Stable g n)
    node_dropped_code x x' left i_is x'_is left_is =
        let found = some_is _ has in
        let cell : Node (Option N) Ix = record { weight = left; first_out = x'.first_out; first_in = x'.first_in } in
        rw i_is (node_dropped s n found.0 found.1 rows_empty cell left_is (ap (λ z. z.first_out) x'_is)
        (nodes_counted - 1) (nodes_some n has))

    pub node_cut_code : n + 1 ≡ length nodes
        → Stores end (take n nodes) edges node_head edge_head (nodes_counted - 1) edges_counted
        (with_node_taken_back true g n)
    node_cut_code last =
        let found = some_is _ has in
        node_cut s n found.0 found.1 rows_empty last (nodes_counted - 1) (nodes_some n has)

  pub node_weight_read : (n i : ℕ) (x : Node (Option N) Ix)
      → IsSome (slot g.nodes n) → i ≡ n → x ≡ get_or nodes i x → x.weight ≡ slot g.nodes n
  node_weight_read n i x has i_is reads =
      sym (node_read s n x (node_inside s n has) (reads ∙ ap (λ z. get_or nodes z x) i_is))

-- all lists are emptied

module _ {N Ix : Type 0} (end : ℕ) where
  emptied_weight : (x : Node (Option N) Ix) → weight_of (with_lists_emptied end x) ≡ weight_of x
  emptied_weight x = go x.weight refl
    where
      go : (o : Option N) → x.weight ≡ o → weight_of (with_links_emptied end o x) ≡ weight_of x
      go None is = refl
      go (Some w) is = refl

  emptied_weights : (xs : List (Node (Option N) Ix))
      → map weight_of (map (with_lists_emptied end) xs) ≡ map weight_of xs
  emptied_weights [] = refl
  emptied_weights (x ∷ xs) =
      ap (λ o. o ∷ map weight_of (map (with_lists_emptied end) xs)) (emptied_weight x)
      ∙ ap (λ l. weight_of x ∷ l) (emptied_weights xs)

  emptied_first : (dir : Direction) (x : Node (Option N) Ix) (w : N)
      → x.weight ≡ Some w → raw_first dir (with_lists_emptied end x) ≡ end
  emptied_first Outgoing x w is = ap (λ o. raw_first Outgoing (with_links_emptied end o x)) is
  emptied_first Incoming x w is = ap (λ o. raw_first Incoming (with_links_emptied end o x)) is

  emptied_shown : (dir : Direction) (xs : List (Node (Option N) Ix)) (n : ℕ) → n < length xs
      → get_or (shown end (map weight_of xs) (firsts_of dir (map (with_lists_emptied end) xs))) n 0 ≡ end
  emptied_shown dir [] n within = absurd (omega (arith, within))
  emptied_shown dir (x ∷ xs) n within = go (λ m p. emptied_shown dir xs m p) x.weight refl n within
    where
      go : ((m : ℕ) → m < length xs
          → get_or (shown end (map weight_of xs) (firsts_of dir (map (with_lists_emptied end) xs))) m 0 ≡ end)
          → (o : Option N) → x.weight ≡ o
          → (m : ℕ) → m < suc (length xs)
          → get_or (shown end (o ∷ map weight_of xs)
          (raw_first dir (with_lists_emptied end x) ∷ firsts_of dir (map (with_lists_emptied end) xs))) m 0
          ≡ end
      go more None is zero p = refl
      go more (Some w) is zero p = emptied_first dir x w is
      go more None is (suc m) p = more m (omega (arith, p))
      go more (Some w) is (suc m) p = more m (omega (arith, p))

  emptied_vacant : (xs : List (Node (Option N) Ix)) (f : ℕ) → slice_get (map weight_of xs) f ≡ Some None
      → slice_get (firsts_of Outgoing (map (with_lists_emptied end) xs)) f ≡ slice_get (firsts_of Outgoing xs) f
  emptied_vacant [] f is = refl
  emptied_vacant (x ∷ xs) zero is =
      ap (λ o. Some (raw_first Outgoing (with_links_emptied end o x))) (same_Some x.weight None is)
  emptied_vacant (x ∷ xs) (suc f) is = emptied_vacant xs f is

pub Stores-emptied : {N E Ix : Type 0} {end : ℕ} {nodes : List (Node (Option N) Ix)} {edges : List (Edge (Option E) Ix)}
    {node_head edge_head nodes_counted edges_counted : ℕ} {g : Graph N E}
    → Stores end nodes edges node_head edge_head nodes_counted edges_counted g → (head : ℕ) → head ≡ end
    → Stores end (map (with_lists_emptied end) nodes) [] node_head head nodes_counted 0 (without_all_edges g)
Stores-emptied {N} {E} {Ix} {end} {nodes} {edges} {node_head} {edge_head} {nodes_counted} {edges_counted} {g} s head
    head_is =
    let firsts_all : (dir : Direction)
    → length (list_firsts end dir (map (with_lists_emptied end) nodes)) ≡ length nodes =
    λ dir.
    ap (λ l. length (shown end l (firsts_of dir (map (with_lists_emptied end) nodes)))) (emptied_weights end nodes)
    ∙ length-shown end (map weight_of nodes) (firsts_of dir (map (with_lists_emptied end) nodes))
    (length-map (map (with_lists_emptied end) nodes) (raw_first dir) ∙ length-map nodes (with_lists_emptied end)
    ∙ sym (length-map nodes weight_of))
    ∙ length-map nodes weight_of in
    let links : (dir : Direction)
    → AreLinkedLists end (list_firsts end dir (map (with_lists_emptied end) nodes)) []
    (map (λ _. []) (lists_at dir g)) =
    λ dir.
    AreLinkedLists-none end (list_firsts end dir (map (with_lists_emptied end) nodes)) (lists_at dir g)
    ((s.linked dir).rows ∙ firsts_long s dir ∙ sym (firsts_all dir))
    (λ n within.
    ap (λ l. get_or (shown end l (firsts_of dir (map (with_lists_emptied end) nodes))) n 0) (emptied_weights end nodes)
    ∙ emptied_shown end dir nodes n (omega (arith, within, firsts_all dir))) in
    let lists : (dir : Direction)
    → ListsBy (λ e. option_map (near_end dir) (slot {A = PlainEdge E} [] e)) (map (λ _. []) (lists_at dir g)) =
    λ dir.
    ListsBy-none _ (lists_at dir g) (λ e. refl) in
    record {
      nodes_are = s.nodes_are ∙ sym (emptied_weights end nodes);
      edges_are = refl;
      linked = elim [ Outgoing ↦ links Outgoing | Incoming ↦ links Incoming ];
      listed = elim [ Outgoing ↦ lists Outgoing | Incoming ↦ lists Incoming ];
      node_slots =
          relinked s.node_slots (firsts_of Outgoing (map (with_lists_emptied end) nodes))
          (length-map (map (with_lists_emptied end) nodes) (raw_first Outgoing)
          ∙ length-map nodes (with_lists_emptied end) ∙ sym (length-map nodes (raw_first Outgoing)))
          (λ f p. emptied_vacant end nodes f (ap (λ l. slice_get l f) (sym s.nodes_are) ∙ (s.node_slots.exact f).0 p));
      edge_slots = no_slots (PlainEdge E) end head head_is;
    }

-- in the words of the code: one more element is changed
pub changing_step : {A : Type 0} (f : A → A) (old : List A) {now : List A} {i : ℕ} {j : ℕ} {x y : A}
    → j ≡ suc i → now ≡ map f (take i old) ++ drop i old → i < length old → x ≡ get_or now i x → y ≡ f x
    → set now i y ≡ map f (take j old) ++ drop j old
changing_step f old {now} {i} {j} {x} j_is is within reads y_is =
    ap (set now i) y_is ∙ ap (λ l. set l i (f x)) is ∙ map_so_far f old i x within (reads ∙ ap (λ l. get_or l i x) is)
    ∙ ap (λ k. map f (take k old) ++ drop k old) (sym j_is)

-- the last of a list is popped
pub popped : {A : Type 0} (xs : List A) (i n : ℕ) → i + 1 ≡ n → take (n - 1) xs ≡ take i xs
popped xs i n last = ap (λ k. take k xs) (omega (arith, last))

pub popped_last : {A : Type 0} (xs : List A) (i n : ℕ) (r : Option A) (x : A)
    → i + 1 ≡ n → r ≡ Some (get_or xs (n - 1) x) → r ≡ Some x → x ≡ get_or xs i x
popped_last xs i n r x last value is =
    same_Some x (get_or xs i x) (sym is ∙ value ∙ ap (λ k. Some (get_or xs k x)) (omega (arith, last)))
