-- What stays of a stored graph when its lists are permuted.
use Rattle.std.proofs.Common.{◌≡◌, ◌≢◌, ℕ, suc, ◌+◌, ◌<◌, cond, List, map, length, take, get_or, set, Option, Some}
use Rattle.std.proofs.Common.{true, false, None, is_some, slice_get, refl, sym, ap, subst, ◌∙◌, arith, Contains}
use Rattle.std.specs.List.{count_by}
use Rattle.std.specs.Option.{option_map}
use Rattle.std.proofs.lemmas.List.{length-map}
use Rattle.std.proofs.lemmas.Option.{none-some}
use Rattle.daggy_base.specs.declared.index.Direction.{Direction}
use Rattle.daggy_base.specs.declared.index.Direction.TheVariants.{Outgoing, Incoming}
use Rattle.daggy_base.specs.Graph.{Graph, slot, near_end}
use Rattle.daggy_base.specs.WellFormed.{IsWellFormed}
use Rattle.daggy_base.specs.Orders.{lists_by_slots, with_orders, AreOrders}
use Rattle.daggy_base.proofs.Lists.{slice_get-set_other}
use Rattle.daggy_base.proofs.MappedSlots.{slot_read}
use Rattle.daggy_base.proofs.Slots.{slot_vacant}
use Rattle.daggy_base.proofs.Orders.{length-lists_by_slots, row_vacant, row_taken, count_before, count_next}
use Rattle.daggy_base.proofs.Orders.{well_formed_with_orders}
use Rattle.daggy_cells.specs.declared.cell.Node.{Node}
use Rattle.daggy_cells.specs.declared.cell.Edge.{Edge}
use Rattle.daggy_cells.specs.Links.{nth_list, AreLinkedLists, CanLinkAll}
use Rattle.daggy_cells.specs.Fields.{weight_of as stored_weight, plain_edge as stored_edge, firsts_of, nexts_of}
use Rattle.daggy_cells.specs.Fields.{lists_at, order_at, Relinks}
use Rattle.daggy_cells.proofs.ListOrders.{can_link_all, rows_listed}
use Rattle.daggy_cells.proofs.RelinkedLists.{AreLinkedBelow, none_below, below_empty, below_linked, all_linked}
use Rattle.daggy_cells.proofs.FieldLemmas.{firsts_as_many, as_many as same_long}
use Rattle.daggy_stable.specs.Stored.{weight_of, plain_edge, shown, list_firsts, Stores}
use Rattle.daggy_stable.specs.Ordering.{new_lists}
use Rattle.daggy_stable.proofs.ListSearches.{none_from, some_from}
use Rattle.daggy_stable.proofs.Shown.{length-shown, shown_none, shown-set}
use Rattle.daggy_stable.proofs.Slots.{relinked}
use Rattle.daggy_stable.proofs.Stores.{edges_long, well_formed, weights_seen}
use Rattle.daggy_stable.proofs.StoredRemoval.{edges_seen}

counted_to : {A : Type 0} (xs : List (Option A)) (i bit : ℕ) → i < length xs → cond (is_some (slot xs i)) 1 0 ≡ bit
    → count_by is_some (take (i + 1) xs) ≡ count_by is_some (take i xs) + bit
counted_to xs i bit within is =
    let next : i + 1 ≡ suc i = omega arith in
    let step = count_next xs i within in
    let same = ap (λ k. count_by is_some (take k xs)) next in
    omega (arith, same, step, is)

-- the lists of the nodes before the index i are linked, and so many of those nodes exist
module _ {N E Ix : Type 0} (end : ℕ) (nodes : List (Node (Option N) Ix)) (edges : List (Edge (Option E) Ix))
    (orders : List (List ℕ × List ℕ)) where
  pub record IsOrdering (nodes' : List (Node (Option N) Ix)) (edges' : List (Edge (Option E) Ix))
      (i next : ℕ) : Type 0 where
    pub weights : map weight_of nodes' ≡ map weight_of nodes
    pub lines : map plain_edge edges' ≡ map plain_edge edges
    pub counted : next ≡ count_by is_some (take i (map weight_of nodes))
    pub rows : (dir : Direction)
        → AreLinkedBelow i end (nexts_of dir edges) (list_firsts end dir nodes') (nexts_of dir edges')
        (new_lists dir nodes orders)
    pub vacant : (n : ℕ) → slot (map weight_of nodes) n ≡ None
        → slice_get (firsts_of Outgoing nodes') n ≡ slice_get (firsts_of Outgoing nodes) n

  pub ordering_start : IsOrdering nodes edges 0 0
  ordering_start = record {
    weights = refl;
    lines = refl;
    counted = refl;
    rows = λ dir. none_below _ _ _ _;
    vacant = λ n none. refl;
  }

  module _ {nodes' : List (Node (Option N) Ix)} {edges' : List (Edge (Option E) Ix)} {i next : ℕ}
      (o : IsOrdering nodes' edges' i next) where
    pub as_many_nodes : length nodes' ≡ length nodes
    as_many_nodes = same_long weight_of _ _ o.weights

    pub as_many_edges : length edges' ≡ length edges
    as_many_edges = same_long plain_edge _ _ o.lines

    -- what is read at i
    read_slot : (x : Node (Option N) Ix)
        → i < length nodes → x ≡ get_or nodes' i x → slot (map weight_of nodes) i ≡ x.weight
    read_slot x within is =
        ap (λ l. slot l i) (sym o.weights) ∙ slot_read weight_of nodes' i x (omega (arith, within, as_many_nodes)) is

    pub taken_at : (x : Node (Option N) Ix) → i < length nodes → x ≡ get_or nodes' i x → is_some x.weight ≡ true
        → (w : N) × (slot (map weight_of nodes) i ≡ Some w)
    taken_at x within is some = let there = some_from x.weight some in (there.0, read_slot x within is ∙ there.1)

    -- all are linked
    pub ordering_done : i ≡ length nodes → (dir : Direction)
        → AreLinkedLists end (list_firsts end dir nodes') (nexts_of dir edges') (new_lists dir nodes orders)
    ordering_done all dir =
        let firsts : length (list_firsts end dir nodes') ≡ length nodes =
        length-shown end (map weight_of nodes') (firsts_of dir nodes') (firsts_as_many weight_of dir nodes')
        ∙ length-map nodes' weight_of ∙ as_many_nodes in
        let lists : length (new_lists dir nodes orders) ≡ length nodes =
        length-lists_by_slots (map weight_of nodes) (map (order_at dir) orders) ∙ length-map nodes weight_of in
        all_linked i end (o.rows dir) (all ∙ sym firsts) (lists ∙ sym firsts)

    -- a vacant slot is passed over
    pub ordering_vacant : (x : Node (Option N) Ix) → i < length nodes → x ≡ get_or nodes' i x
        → is_some x.weight ≡ false → IsOrdering nodes' edges' (i + 1) next
    ordering_vacant x within is vacant =
        let none = read_slot x within is ∙ none_from x.weight vacant in
        let slots : i < length (map weight_of nodes) = omega (arith, within, length-map nodes weight_of) in
        let still : i < length (map weight_of nodes') =
        omega (arith, within, as_many_nodes, length-map nodes' weight_of) in
        let none' : slot (map weight_of nodes') i ≡ None = ap (λ l. slot l i) o.weights ∙ none in
        let bit = ap (λ z. cond (is_some z) 1 0) none in
        let more = counted_to (map weight_of nodes) i 0 slots bit in
        record {
          weights = o.weights;
          lines = o.lines;
          counted = omega (arith, o.counted, more);
          rows = λ dir.
              below_empty i end (o.rows dir) (shown_none end (map weight_of nodes') (firsts_of dir nodes') i
              (firsts_as_many weight_of dir nodes') still none')
              (row_vacant (map weight_of nodes) (map (order_at dir) orders) i none);
          vacant = o.vacant;
        }

    -- the lists of a node that exists
    module _ (w : N) (within : i < length nodes) (some : slot (map weight_of nodes) i ≡ Some w) where
      pub order_left : {m : ℕ} → m ≡ count_by is_some (map weight_of nodes) → next < m
      order_left count = omega (arith, count_before (map weight_of nodes) i w some, count, o.counted)

      pub row_is : (dir : Direction) (list : List ℕ)
          → nth_list (map (order_at dir) orders) next ≡ list → nth_list (new_lists dir nodes orders) i ≡ list
      row_is dir list is =
          row_taken (map weight_of nodes) (map (order_at dir) orders) i w some
          ∙ ap (nth_list (map (order_at dir) orders)) (sym o.counted) ∙ is

      pub ordering_step : ((dir : Direction) → CanLinkAll (length edges) (new_lists dir nodes orders))
          → (order : List ℕ × List ℕ)
          → ((dir : Direction) → nth_list (map (order_at dir) orders) next ≡ order_at dir order)
          → (nodes'' : List (Node (Option N) Ix)) (edges'' : List (Edge (Option E) Ix))
          → ((dir : Direction) → Relinks end dir nodes' edges' i (order_at dir order) nodes'' edges'')
          → map stored_weight nodes'' ≡ map stored_weight nodes' → map stored_edge edges'' ≡ map stored_edge edges'
          → IsOrdering nodes'' edges'' (i + 1) (next + 1)
      ordering_step can order reads nodes'' edges'' made same_weights same_lines =
          let slots : i < length (map weight_of nodes) = omega (arith, within, length-map nodes weight_of) in
          let some' : slot (map weight_of nodes') i ≡ Some w = ap (λ l. slot l i) o.weights ∙ some in
          let weights' = weights_seen nodes'' nodes' same_weights in
          let bit = ap (λ z. cond (is_some z) 1 0) some in
          let more = counted_to (map weight_of nodes) i 1 slots bit in
          let firsts : (dir : Direction) → list_firsts end dir nodes'' ≡ set (list_firsts end dir nodes') i _ =
          λ dir.
          ap (λ l. shown end l (firsts_of dir nodes'')) weights'
          ∙ ap (shown end (map weight_of nodes')) (made dir).first
          ∙ shown-set end (map weight_of nodes') (firsts_of dir nodes') i _ w some' in
          record {
            weights = weights' ∙ o.weights;
            lines = edges_seen edges'' edges' same_lines ∙ o.lines;
            counted = omega (arith, o.counted, more);
            rows = λ dir.
                below_linked i end (o.rows dir) (can dir)
                (omega (
                  arith,
                  within,
                  as_many_nodes,
                  length-shown end (map weight_of nodes') (firsts_of dir nodes') (firsts_as_many weight_of dir nodes'),
                  length-map nodes' weight_of,
                ))
                (order_at dir order) (row_is dir (order_at dir order) (reads dir)) (firsts dir) (made dir).nexts;
            vacant = λ n none.
                let other : n ≢ i = λ same. none-some w (sym none ∙ ap (slot (map weight_of nodes)) same ∙ some) in
                ap (λ l. slice_get l n) (made Outgoing).first
                ∙ slice_get-set_other (firsts_of Outgoing nodes') i n _ other ∙ o.vacant n none;
          }

module _ {N E Ix : Type 0} {end : ℕ} {nodes : List (Node (Option N) Ix)} {edges : List (Edge (Option E) Ix)}
    {node_head edge_head nodes_counted edges_counted : ℕ} {g : Graph N E}
    (s : Stores end nodes edges node_head edge_head nodes_counted edges_counted g) (orders : List (List ℕ × List ℕ))
    (are : AreOrders g orders) where
  still_well_formed : IsWellFormed end (with_orders g orders)
  still_well_formed = well_formed_with_orders end g orders (well_formed s) are

  pub as_many : length orders ≡ count_by is_some (map weight_of nodes)
  as_many = are.count ∙ ap (count_by is_some) s.nodes_are

  rows_same : (dir : Direction) → lists_at dir (with_orders g orders) ≡ new_lists dir nodes orders
  rows_same Outgoing = ap (λ l. lists_by_slots l (map (λ p. p.0) orders)) s.nodes_are
  rows_same Incoming = ap (λ l. lists_by_slots l (map (λ p. p.1) orders)) s.nodes_are

  pub can_link : (dir : Direction) → CanLinkAll (length edges) (new_lists dir nodes orders)
  can_link dir =
      subst (CanLinkAll (length edges)) (rows_same dir)
      (can_link_all (with_orders g orders) still_well_formed (length edges) (edges_long s) dir)

  -- no vacant edge stands in a list
  not_listed : (e : ℕ)
      → Contains g.vacant_edges e → (n : ℕ) → ¬ Contains (nth_list (new_lists Outgoing nodes orders) n) e
  not_listed e vacant n p =
      let none = slot_vacant g.edges e ((s.edge_slots.exact e).0 vacant) in
      let listed =
      (rows_listed (with_orders g orders) still_well_formed Outgoing n e).0
      (subst (λ l. Contains (nth_list l n) e) (sym (rows_same Outgoing)) p) in
      none-some n (sym (ap (option_map (near_end Outgoing)) none) ∙ listed)

  pub ordered : {nodes' : List (Node (Option N) Ix)} {edges' : List (Edge (Option E) Ix)}
      → ((dir : Direction)
      → AreLinkedLists end (list_firsts end dir nodes') (nexts_of dir edges') (new_lists dir nodes orders))
      → map weight_of nodes' ≡ map weight_of nodes → map plain_edge edges' ≡ map plain_edge edges
      → ((n : ℕ) → slot (map weight_of nodes) n ≡ None
      → slice_get (firsts_of Outgoing nodes') n ≡ slice_get (firsts_of Outgoing nodes) n)
      → ((e : ℕ) → ((n : ℕ) → ¬ Contains (nth_list (new_lists Outgoing nodes orders) n) e)
      → slice_get (nexts_of Outgoing edges') e ≡ slice_get (nexts_of Outgoing edges) e)
      → length (nexts_of Outgoing edges') ≡ length (nexts_of Outgoing edges)
      → Stores end nodes' edges' node_head edge_head nodes_counted edges_counted (with_orders g orders)
  ordered {nodes'} {edges'} linked weights lines vacant others as_long =
      let firsts_as_long : length (firsts_of Outgoing nodes') ≡ length (firsts_of Outgoing nodes) =
      firsts_as_many weight_of Outgoing nodes' ∙ ap length weights ∙ sym (firsts_as_many weight_of Outgoing nodes) in
      record {
        nodes_are = s.nodes_are ∙ sym weights;
        edges_are = s.edges_are ∙ sym lines;
        linked = λ dir.
            subst (AreLinkedLists end (list_firsts end dir nodes') (nexts_of dir edges')) (sym (rows_same dir))
            (linked dir);
        listed = rows_listed (with_orders g orders) still_well_formed;
        node_slots =
            relinked s.node_slots (firsts_of Outgoing nodes') firsts_as_long
            (λ f p.
            vacant f (ap (λ l. slot l f) (sym s.nodes_are) ∙ slot_vacant g.nodes f ((s.node_slots.exact f).0 p)));
        edge_slots =
            relinked s.edge_slots (nexts_of Outgoing edges') as_long (λ f p. others f (not_listed f p));
      }
