-- The rest of a list of a node's edges, before and after a step.
use Rattle.std.proofs.Common.{◌≡◌, ℕ, zero, suc, ◌<◌, ◌≤◌, List, [], ◌∷◌, map, length, get_or, Option, Some, None}
use Rattle.std.proofs.Common.{IsSome, is_some, false, eqb, unwrap_or, refl, sym, ap, subst, ◌∙◌, arith, Contains}
use Rattle.std.specs.List.{filter_map, cons_option, find}
use Rattle.std.specs.Option.{option_map}
use Rattle.std.proofs.lemmas.List.{length-map}
use Rattle.daggy_base.specs.declared.index.Direction.{Direction}
use Rattle.daggy_base.specs.declared.index.Direction.TheVariants.{Outgoing}
use Rattle.daggy_base.specs.Finding.{leads_to, find_edge}
use Rattle.daggy_base.specs.Cursor.{first_of}
use Rattle.daggy_base.specs.Graph.{Graph, Edge as PlainEdge, slot, list_at}
use Rattle.daggy_cells.specs.declared.cell.Node.{Node}
use Rattle.daggy_cells.specs.declared.cell.Edge.{Edge}
use Rattle.daggy_base.specs.Iterating.{edges_at}
use Rattle.daggy_cells.specs.Links.{nth_list, IsLinkedList}
use Rattle.daggy_cells.specs.Raw.{raw_next}
use Rattle.daggy_cells.specs.Fields.{nexts_of, lists_at, list_from, enters}
use Rattle.daggy_cells.proofs.LinkedLists.{row_is, find_same}
use Rattle.daggy_base.proofs.Lists.{Contains-here, Contains-there}
use Rattle.daggy_cells.proofs.RestLemmas.{step_on, IsOnList-step, follow_past, follow_few, filter_map_few}
use Rattle.daggy_base.proofs.MappedSlots.{slot_read}
use Rattle.daggy_stable.specs.Rest.{numbered_edge, edges_left, IsOnFullList}
use Rattle.daggy_stable.specs.Stored.{plain, plain_edge, Stores}
use Rattle.daggy_stable.proofs.ListSearches.{plain_some}
use Rattle.daggy_stable.proofs.Stores.{row_from, nexts_few, list_seen, end_back, edges_long, is_some_at}

module _ {E Ix : Type 0} (dir : Direction) (edges : List (Edge (Option E) Ix)) where
  abbrev pub held : ℕ → Option (ℕ × PlainEdge E)
  held i = numbered_edge i (slot (map plain_edge edges) i)

  pub left_past : (e : ℕ) → length edges ≤ e → edges_left dir edges e ≡ []
  left_past e past =
      ap (filter_map held) (follow_past (nexts_of dir edges) (length (nexts_of dir edges)) e (omega (
        arith,
        past,
        length-map edges (raw_next dir),
      )))

  -- no more is left than there are slots
  pub left_few : (e : ℕ) → length (edges_left dir edges e) ≤ length edges
  left_few e =
      let one = filter_map_few held (list_from dir edges e) in
      let two = follow_few (nexts_of dir edges) (length (nexts_of dir edges)) e in
      omega (arith, one, two, length-map edges (raw_next dir))

  -- a step from an edge that is there
  module _ (end e : ℕ) (x : Edge (Option E) Ix) (within : e < length edges) (is : x ≡ get_or edges e x)
      (s : IsOnFullList end dir edges e) where
    goes : list_from dir edges e ≡ e ∷ list_from dir edges (raw_next dir x)
    goes = (step_on end dir edges e x within is s.on_list).0

    pub weight_there : IsSome x.weight
    weight_there =
        sym (plain_some x) ∙ ap is_some (sym (slot_read plain_edge edges e x within is))
        ∙ s.full e (subst (λ l. Contains l e) (sym goes) (Contains-here e (list_from dir edges (raw_next dir x))))

    pub IsOnFullList-step : IsOnFullList end dir edges (raw_next dir x)
    IsOnFullList-step = record {
      on_list = IsOnList-step end dir edges e x within is s.on_list;
      full = λ i p.
          s.full i (subst (λ l. Contains l i) (sym goes) (Contains-there e i (list_from dir edges (raw_next dir x)) p));
    }

    pub left_step : (p : ℕ × PlainEdge E)
        → numbered_edge e (plain_edge x) ≡ Some p → edges_left dir edges e ≡ p ∷ edges_left dir edges (raw_next dir x)
    left_step p at =
        let rest = edges_left dir edges (raw_next dir x) in
        ap (filter_map held) goes
        ∙ ap (λ o. cons_option (numbered_edge e o) rest) (slot_read plain_edge edges e x within is)
        ∙ ap (λ o. cons_option o rest) at

-- the list of a node
module _ {N E Ix : Type 0} {end : ℕ} {nodes : List (Node (Option N) Ix)} {edges : List (Edge (Option E) Ix)}
    {node_head edge_head nodes_counted edges_counted : ℕ} {g : Graph N E}
    (s : Stores end nodes edges node_head edge_head nodes_counted edges_counted g)
    (dir : Direction) (n e : ℕ) (is : e ≡ first_of end (list_at dir g n)) where
  begins : IsLinkedList end (nexts_of dir edges) e (nth_list (lists_at dir g) n)
  begins =
      subst (λ z. IsLinkedList end (nexts_of dir edges) z (nth_list (lists_at dir g) n))
      (ap (first_of end) (list_seen s dir n) ∙ sym is) (row_from s dir n)

  walk_begins : list_from dir edges e ≡ nth_list (lists_at dir g) n
  walk_begins = row_is end e (nexts_of dir edges) _ begins (nexts_few s dir)

  pub IsOnFullList-begins : IsOnFullList end dir edges e
  IsOnFullList-begins = record {
    on_list = record {
      linked = subst (IsLinkedList end (nexts_of dir edges) e) (sym walk_begins) begins;
      few = omega (arith, edges_long s, s.edge_slots.few);
    };
    full = λ i p.
        let found = end_back s dir n i ((s.listed dir n i).0 (subst (λ l. Contains l i) walk_begins p)) in
        is_some_at _ found.0 (ap (λ l. slot l i) (sym s.edges_are) ∙ found.1);
  }

  pub left_begins : edges_left dir edges e ≡ edges_at dir g n
  left_begins =
      ap (filter_map (λ i. numbered_edge i (slot (map plain_edge edges) i))) (walk_begins ∙ list_seen s dir n)
      ∙ ap (λ l. filter_map (λ i. numbered_edge i (slot l i)) (list_at dir g n)) (sym s.edges_are)

-- whether an edge that is there enters the node v
enters_seen : {E Ix : Type 0} (v : ℕ) (edges : List (Edge (Option E) Ix)) (e : ℕ)
    → IsSome (slot (map plain_edge edges) e)
    → enters edges v e ≡ unwrap_or (option_map (λ x. eqb x.child v) (slot (map plain_edge edges) e)) false
enters_seen v [] e has = absurd cc
enters_seen {E} v (x ∷ xs) zero has = go x.weight has
  where
    go : (o : Option E) → IsSome (option_map (plain x) o)
        → eqb x.child v ≡ unwrap_or (option_map (λ z. eqb z.child v) (option_map (plain x) o)) false
    go None has = absurd cc
    go (Some w) has = refl
enters_seen v (x ∷ xs) (suc e) has = enters_seen v xs e has

-- what is found along the links is what is found in the list
pub found_to : {N E Ix : Type 0} {end : ℕ} {nodes : List (Node (Option N) Ix)} {edges : List (Edge (Option E) Ix)}
    {node_head edge_head nodes_counted edges_counted : ℕ} {g : Graph N E}
    → Stores end nodes edges node_head edge_head nodes_counted edges_counted g
    → (n v e : ℕ) → e ≡ first_of end (list_at Outgoing g n)
    → find (enters edges v) (list_from Outgoing edges e) ≡ find_edge g n v
found_to {edges = edges} {g = g} s n v e is =
    let on = IsOnFullList-begins s Outgoing n e is in
    find_same (enters edges v) (leads_to g v) (list_from Outgoing edges e) (λ f p.
    enters_seen v edges f (on.full f p)
    ∙ ap (λ l. unwrap_or (option_map (λ x. eqb x.child v) (slot l f)) false) (sym s.edges_are))
    ∙ ap (find (leads_to g v)) (walk_begins s Outgoing n e is ∙ list_seen s Outgoing n)
