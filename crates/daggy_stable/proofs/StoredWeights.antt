-- What is stored after a weight is written.
use Rattle.std.proofs.Common.{◌≡◌, ℕ, List, map, get_or, set, Option, Some, IsSome, refl, sym, ap, subst, ◌∙◌, inl, inr}
use Rattle.std.specs.Option.{option_map, option_and_then}
use Rattle.std.proofs.lemmas.Bool.{cases_eq}
use Rattle.std.proofs.lemmas.List.{map-set}
use Rattle.daggy_base.specs.declared.index.Direction.{Direction}
use Rattle.daggy_base.specs.declared.index.Direction.TheVariants.{Outgoing, Incoming}
use Rattle.daggy_base.specs.Graph.{Graph, Edge as PlainEdge, slot, edge_at, near_end}
use Rattle.daggy_base.specs.Weights.{with_node_weight, with_edge_weight, edge_with_weight}
use Rattle.daggy_cells.specs.declared.cell.Node.{Node}
use Rattle.daggy_cells.specs.declared.cell.Edge.{Edge}
use Rattle.daggy_cells.specs.Links.{AreLinkedLists, ListsBy}
use Rattle.daggy_cells.specs.Raw.{raw_first, raw_next}
use Rattle.daggy_cells.specs.Fields.{firsts_of, nexts_of, lists_at}
use Rattle.daggy_base.proofs.Lists.{slice_get-set_same, slice_get-set_other, map-set_same}
use Rattle.daggy_stable.specs.Stored.{weight_of, plain_edge, shown, list_firsts, end_of, IsFreeList, Stores}
use Rattle.daggy_stable.proofs.Slots.{renewed, slot_inside}
use Rattle.daggy_stable.proofs.Shown.{shown-renew}
use Rattle.daggy_stable.proofs.Stores.{some_is, cell_of, edge_within}

module _ {N E Ix : Type 0} {end : ℕ} {nodes : List (Node (Option N) Ix)} {edges : List (Edge (Option E) Ix)}
    {node_head edge_head nodes_counted edges_counted : ℕ} {g : Graph N E}
    (s : Stores end nodes edges node_head edge_head nodes_counted edges_counted g) where
  pub node_weighed : (n : ℕ) (w : N) (x : Node (Option N) Ix) → IsSome (slot g.nodes n) → x ≡ get_or nodes n x
      → Stores end (set nodes n (record x { weight = Some w })) edges node_head edge_head nodes_counted edges_counted
      (with_node_weight g n w)
  node_weighed n w x has is =
      let found = some_is _ has in
      let cell : Node (Option N) Ix = record x { weight = Some w } in
      let at : slot (map weight_of nodes) n ≡ Some found.0 = ap (λ l. slot l n) (sym s.nodes_are) ∙ found.1 in
      let firsts : (dir : Direction) → firsts_of dir (set nodes n cell) ≡ firsts_of dir nodes =
      elim [
        | Outgoing ↦ map-set_same (raw_first Outgoing) nodes n x cell is refl
        | Incoming ↦ map-set_same (raw_first Incoming) nodes n x cell is refl
      ] in
      let rows : (dir : Direction) → list_firsts end dir nodes ≡ list_firsts end dir (set nodes n cell) =
      λ dir.
      sym (ap (λ l. shown end l (firsts_of dir (set nodes n cell))) (map-set weight_of nodes n cell)
      ∙ ap (shown end (set (map weight_of nodes) n (Some w))) (firsts dir)
      ∙ shown-renew end (map weight_of nodes) (firsts_of dir nodes) n found.0 w at) in
      let links : (dir : Direction)
      → AreLinkedLists end (list_firsts end dir (set nodes n cell)) (nexts_of dir edges) (lists_at dir g) =
      λ dir.
      subst (λ z. AreLinkedLists end z (nexts_of dir edges) (lists_at dir g)) (rows dir) (s.linked dir) in
      record {
        nodes_are = ap (λ l. set l n (Some w)) s.nodes_are ∙ sym (map-set weight_of nodes n cell);
        edges_are = s.edges_are;
        linked = elim [ Outgoing ↦ links Outgoing | Incoming ↦ links Incoming ];
        listed = elim [ Outgoing ↦ s.listed Outgoing | Incoming ↦ s.listed Incoming ];
        node_slots =
            subst (λ z. IsFreeList end (set g.nodes n (Some w)) z node_head nodes_counted g.vacant_nodes)
            (sym (firsts Outgoing)) (renewed s.node_slots n found.0 found.1 w);
        edge_slots = s.edge_slots;
      }

  near_reweighed : (dir : Direction) (y : PlainEdge E) (w : E) → near_end dir (edge_with_weight w y) ≡ near_end dir y
  near_reweighed Outgoing y w = refl
  near_reweighed Incoming y w = refl

  pub edge_weighed : (e : ℕ) (w : E) (x : Edge (Option E) Ix) → IsSome (edge_at g e) → x ≡ get_or edges e x
      → Stores end nodes (set edges e (record x { weight = Some w })) node_head edge_head nodes_counted edges_counted
      (with_edge_weight g e w)
  edge_weighed e w x has is =
      let found = some_is _ has in
      let y : PlainEdge E = found.0 in
      let within = edge_within s e y found.1 in
      let stored = cell_of s e y x found.1 within is in
      let cell : Edge (Option E) Ix = record x { weight = Some w } in
      let new_is : option_map (edge_with_weight w) (edge_at g e) ≡ Some (edge_with_weight w y) =
      ap (option_map (edge_with_weight w)) found.1 in
      let plain_is : plain_edge cell ≡ Some (edge_with_weight w y) = ap (λ z. Some (edge_with_weight w z)) stored.2 in
      let nexts : (dir : Direction) → nexts_of dir (set edges e cell) ≡ nexts_of dir edges =
      elim [
        | Outgoing ↦ map-set_same (raw_next Outgoing) edges e x cell is refl
        | Incoming ↦ map-set_same (raw_next Incoming) edges e x cell is refl
      ] in
      let links : (dir : Direction)
      → AreLinkedLists end (list_firsts end dir nodes) (nexts_of dir (set edges e cell)) (lists_at dir g) =
      λ dir.
      subst (λ z. AreLinkedLists end (list_firsts end dir nodes) z (lists_at dir g)) (sym (nexts dir)) (s.linked dir) in
      let same_end : (dir : Direction) (f : ℕ)
      → option_map (near_end dir) (slot (set g.edges e (Some (edge_with_weight w y))) f) ≡ end_of dir g f =
      λ dir f. elim (cases_eq f e) [
        | inl same ↦
            ap (λ z. option_map (near_end dir) (slot (set g.edges e (Some (edge_with_weight w y))) z)) same
            ∙ ap (λ o. option_map (near_end dir) (option_and_then (λ z. z) o))
            (slice_get-set_same g.edges e (Some (edge_with_weight w y)) (slot_inside g.edges e y found.1))
            ∙ ap Some (near_reweighed dir y w) ∙ sym (ap (option_map (near_end dir)) found.1)
            ∙ ap (end_of dir g) (sym same)
        | inr other ↦
            ap (λ o. option_map (near_end dir) (option_and_then (λ z. z) o))
            (slice_get-set_other g.edges e f (Some (edge_with_weight w y)) other)
      ] in
      let lists : (dir : Direction)
      → ListsBy (λ f.
      option_map (near_end dir) (slot (set g.edges e (Some (edge_with_weight w y))) f)) (lists_at dir g) =
      λ dir n f. (λ p. same_end dir f ∙ (s.listed dir n f).0 p, λ q. (s.listed dir n f).1 (sym (same_end dir f) ∙ q)) in
      let free_list =
      renewed s.edge_slots e y found.1 (edge_with_weight w y) in
      rw new_is (
      record {
        nodes_are = s.nodes_are;
        edges_are =
            ap (λ l. set l e (Some (edge_with_weight w y))) s.edges_are
            ∙ ap (set (map plain_edge edges) e) (sym plain_is) ∙ sym (map-set plain_edge edges e cell);
        linked = elim [ Outgoing ↦ links Outgoing | Incoming ↦ links Incoming ];
        listed = elim [ Outgoing ↦ lists Outgoing | Incoming ↦ lists Incoming ];
        node_slots = s.node_slots;
        edge_slots =
            subst
            (λ z. IsFreeList end (set g.edges e (Some (edge_with_weight w y))) z edge_head edges_counted g.vacant_edges)
            (sym (nexts Outgoing)) free_list;
      })
