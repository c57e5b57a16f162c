-- What stays of a stored graph when its lists are permuted.
use Rattle.std.proofs.Common.{◌≡◌, ℕ, List, map, length, Some, is_some, sym, ap, subst, ◌∙◌, arith}
use Rattle.std.specs.List.{count_by}
use Rattle.std.proofs.lemmas.List.{length-map}
use Rattle.daggy_base.specs.declared.index.Direction.{Direction}
use Rattle.daggy_base.specs.declared.index.Direction.TheVariants.{Outgoing, Incoming}
use Rattle.daggy_base.specs.Graph.{Graph, slot, near_end}
use Rattle.daggy_base.specs.WellFormed.{ListsEdges, IsWellFormed}
use Rattle.daggy_base.specs.Orders.{lists_by_slots, with_orders, AreOrders}
use Rattle.daggy_base.proofs.MappedSlots.{count-slots}
use Rattle.daggy_base.proofs.Orders.{rows_by_full, well_formed_with_orders}
use Rattle.daggy_cells.specs.declared.cell.Node.{Node}
use Rattle.daggy_cells.specs.declared.cell.Edge.{Edge}
use Rattle.daggy_cells.specs.Links.{nth_list, AreLinkedLists, ListsEach, CanLinkAll}
use Rattle.daggy_cells.specs.Fields.{weight_of, plain_edge, firsts_of, nexts_of, ends_of, lists_at, order_at}
use Rattle.daggy_cells.proofs.ListOrders.{can_link_all}
use Rattle.daggy_graph.specs.Stored.{Stores}
use Rattle.daggy_graph.proofs.WellFormedLemmas.{IsWellFormed-stored, end_shown, end_stored}

module _ {N E Ix : Type 0} {end : ℕ} {nodes : List (Node N Ix)} {edges : List (Edge E Ix)} {g : Graph N E}
    (s : Stores end nodes edges g) (orders : List (List ℕ × List ℕ)) (are : AreOrders g orders) where
  well_formed : IsWellFormed end (with_orders g orders)
  well_formed = well_formed_with_orders end g orders (IsWellFormed-stored end nodes edges g s) are

  pub as_many : length orders ≡ length nodes
  as_many = are.count ∙ ap (count_by is_some) s.nodes_are ∙ count-slots (λ x. x.weight) nodes

  rows_same : (dir : Direction) → lists_at dir (with_orders g orders) ≡ map (order_at dir) orders
  rows_same Outgoing =
      ap (λ l. lists_by_slots l (map (λ p. p.0) orders)) s.nodes_are
      ∙ rows_by_full (λ x. x.weight) nodes (map (λ p. p.0) orders) (length-map orders (λ p. p.0) ∙ as_many)
  rows_same Incoming =
      ap (λ l. lists_by_slots l (map (λ p. p.1) orders)) s.nodes_are
      ∙ rows_by_full (λ x. x.weight) nodes (map (λ p. p.1) orders) (length-map orders (λ p. p.1) ∙ as_many)

  pub can_link : (dir : Direction) → CanLinkAll (length edges) (map (order_at dir) orders)
  can_link dir =
      subst (CanLinkAll (length edges)) (rows_same dir) (can_link_all (with_orders g orders) well_formed
      (length edges) (ap length s.edges_are ∙ length-map edges plain_edge) dir)

  module _ (nodes' : List (Node N Ix)) (edges' : List (Edge E Ix))
      (weights : map weight_of nodes' ≡ map weight_of nodes)
      (lines : map plain_edge edges' ≡ map plain_edge edges) where
    side_listed : (dir : Direction) (lists : List (List ℕ))
        → ListsEdges (with_orders g orders) (near_end dir) (nth_list lists) → ListsEach (ends_of dir edges') lists
    side_listed dir lists l n e =
        let same : g.edges ≡ map plain_edge edges' = s.edges_are ∙ sym lines in (
          λ p. let x = (l.exact n e).0 p in
              end_stored dir edges' e x.0 (ap (λ z. slot z e) (sym same) ∙ x.1) ∙ ap Some x.2,
          λ q. let x = end_shown dir edges' e n q in (l.exact n e).1 (x.0, ap (λ z. slot z e) same ∙ x.1, x.2),
        )

    pub ordered : ((dir : Direction)
        → AreLinkedLists end (firsts_of dir nodes') (nexts_of dir edges') (map (order_at dir) orders))
        → Stores end nodes' edges' (with_orders g orders)
    ordered linked =
        record {
          nodes_are = s.nodes_are ∙ sym weights;
          edges_are = s.edges_are ∙ sym lines;
          no_vacant_node = s.no_vacant_node;
          no_vacant_edge = s.no_vacant_edge;
          linked = λ dir.
              subst (AreLinkedLists end (firsts_of dir nodes') (nexts_of dir edges')) (sym (rows_same dir))
              (linked dir);
          listed = elim [
            | Outgoing ↦ side_listed Outgoing _ well_formed.out_of
            | Incoming ↦ side_listed Incoming _ well_formed.in_of
          ];
          few_nodes =
              omega (arith, s.few_nodes, ap length weights, length-map nodes weight_of, length-map nodes' weight_of);
          few_edges =
              omega (arith, s.few_edges, ap length lines, length-map edges plain_edge, length-map edges' plain_edge);
        }
