-- One more slot in a stored graph.
use Rattle.std.proofs.Common.{◌≡◌, ℕ, ◌+◌, ◌<◌, not, cond, List, [], ◌∷◌, ◌++◌, map, length, set, Option, Some, None}
use Rattle.std.proofs.Common.{is_some, slice_get, refl, sym, ap, subst, ◌∙◌, inl, inr, arith, Contains}
use Rattle.std.specs.List.{count_by}
use Rattle.std.specs.Option.{option_map}
use Rattle.std.proofs.lemmas.Bool.{cases_eq}
use Rattle.std.proofs.lemmas.List.{length_push, length-map, map_push}
use Rattle.daggy_base.specs.declared.index.Direction.{Direction}
use Rattle.daggy_base.specs.declared.index.Direction.TheVariants.{Outgoing, Incoming}
use Rattle.daggy_base.specs.Graph.{Graph, Edge as PlainEdge, slot, near_end, edge_count}
use Rattle.daggy_cells.specs.declared.cell.Node.{Node}
use Rattle.daggy_cells.specs.declared.cell.Edge.{Edge}
use Rattle.daggy_cells.specs.Links.{nth_list, AreLinkedLists, ListsBy}
use Rattle.daggy_cells.specs.Raw.{raw_first, raw_next}
use Rattle.daggy_base.specs.FromSlots.{graph_of_slots, vacant_down}
use Rattle.daggy_cells.specs.Fields.{firsts_of, nexts_of, lists_at, AreLedTo, edge_put_first}
use Rattle.daggy_base.proofs.Lists.{slice_get-push_old, slice_get-push_new, slice_get-push_other}
use Rattle.daggy_cells.proofs.LinkedListChanges.{row_push, linked_within, AreLinkedLists-node, AreLinkedLists-kept}
use Rattle.daggy_cells.proofs.FieldLemmas.{firsts_as_many}
use Rattle.daggy_stable.specs.Stored.{weight_of, plain_edge, shown, list_firsts, end_of, IsFreeList, Stores}
use Rattle.daggy_base.proofs.SlotLists.{slot_push_new, slot_push_other, none_past, vacant_down_more, of_slots_node}
use Rattle.daggy_base.proofs.SlotLists.{of_slots_left, of_slots_taken}
use Rattle.daggy_stable.proofs.Shown.{shown_push}
use Rattle.daggy_base.proofs.Slots.{count_cons}
use Rattle.daggy_base.specs.Adding.{with_node, with_edge}
use Rattle.daggy_stable.proofs.Slots.{one_vacant, one_taken, counted_full, count_push, vacant_inside, slot_inside}
use Rattle.daggy_stable.proofs.Stores.{weights_seen, nodes_long, edges_long, some_is}
use Rattle.daggy_stable.proofs.Changes.{AreNodes, IsPutFirst, fresh_node, edge_put}

module _ {A : Type 0} where
  count_push_vacant : (xs : List (Option A)) → count_by is_some (xs ++ None ∷ []) ≡ count_by is_some xs
  count_push_vacant [] = let step = count_cons {A = A} None [] in omega (arith, step)
  count_push_vacant (z ∷ zs) =
      let more = count_push_vacant zs in
      let left = count_cons z (zs ++ None ∷ []) in
      let right = count_cons z zs in
      omega (arith, more, left, right)

  slot_push_vacant : (xs : List (Option A)) (i : ℕ) → slot (xs ++ None ∷ []) i ≡ slot xs i
  slot_push_vacant xs i =
      elim (cases_eq i (length xs)) [
        | inl last ↦
            ap (slot (xs ++ None ∷ [])) last ∙ slot_push_new xs None ∙ sym (none_past xs i (omega (arith, last)))
        | inr other ↦ slot_push_other xs None i other
      ]

  shown_push_vacant : (end : ℕ) (slots : List (Option A)) (links : List ℕ) (new : ℕ) → length links ≡ length slots
      → shown end (slots ++ None ∷ []) (links ++ new ∷ []) ≡ shown end slots links ++ end ∷ []
  shown_push_vacant end [] [] new long = refl
  shown_push_vacant end [] (l ∷ links) new long = absurd (omega (arith, long))
  shown_push_vacant end (z ∷ zs) [] new long = absurd (omega (arith, long))
  shown_push_vacant end (None ∷ zs) (l ∷ links) new long =
      ap (λ ls. end ∷ ls) (shown_push_vacant end zs links new (omega (arith, long)))
  shown_push_vacant end (Some z ∷ zs) (l ∷ links) new long =
      ap (λ ls. l ∷ ls) (shown_push_vacant end zs links new (omega (arith, long)))

  module _ {end : ℕ} {slots : List (Option A)} {links : List ℕ} {head count : ℕ} {vacant : List ℕ}
      (t : IsFreeList end slots links head count vacant) (index_left : length slots < end) where
    inside : (f : ℕ) → Contains vacant f → f < length slots
    inside = vacant_inside t

    old_link : (l f : ℕ) → Contains vacant f → slice_get (links ++ l ∷ []) f ≡ slice_get links f
    old_link l f p = slice_get-push_old links l f (omega (arith, inside f p, t.long))

    as_long : (x : Option A) (l : ℕ) → length (links ++ l ∷ []) ≡ length (slots ++ x ∷ [])
    as_long x l = omega (arith, length_push links l, length_push slots x, t.long)

    -- a slot that is not vacant
    pub free_list_with_taken : (x : A) (l : ℕ)
        → IsFreeList end (slots ++ Some x ∷ []) (links ++ l ∷ []) head (count + 1) vacant
    free_list_with_taken x l =
        one_taken t (length slots) (λ p. omega (arith, inside (length slots) p))
        (λ i other. slice_get-push_other slots (Some x) i other) (old_link l)
        (omega (arith, t.counted, count_push slots x)) (as_long (Some x) l)
        (omega (arith, index_left, length_push slots (Some x))) x (slice_get-push_new slots (Some x))

    -- a vacant one
    pub free_list_with_vacant : IsFreeList end (slots ++ None ∷ []) (links ++ head ∷ []) (length slots) count
        (length slots ∷ vacant)
    free_list_with_vacant =
        one_vacant t (length slots) (λ p. omega (arith, inside (length slots) p))
        (λ i other. slice_get-push_other slots None i other) (old_link head) (t.counted ∙ sym (count_push_vacant slots))
        (as_long None head) (omega (arith, index_left, length_push slots None)) (slice_get-push_new slots None)
        (ap (slice_get (links ++ head ∷ [])) (sym t.long) ∙ slice_get-push_new links head)

module _ {N E Ix : Type 0} {end : ℕ} {nodes : List (Node (Option N) Ix)} {edges : List (Edge (Option E) Ix)}
    {node_head edge_head nodes_counted edges_counted : ℕ} {g : Graph N E}
    (s : Stores end nodes edges node_head edge_head nodes_counted edges_counted g) where
  -- one more slot of a node
  module _ (x : Node (Option N) Ix) where
    pub node_slot : ((dir : Direction) → list_firsts end dir (nodes ++ x ∷ []) ≡ list_firsts end dir nodes ++ end ∷ [])
        → (head' count' : ℕ) (vacant : List ℕ)
        → IsFreeList end (g.nodes ++ x.weight ∷ []) (firsts_of Outgoing (nodes ++ x ∷ [])) head' count' vacant
        → Stores end (nodes ++ x ∷ []) edges head' edge_head count' edges_counted (record {
          nodes = g.nodes ++ x.weight ∷ [];
          edges = g.edges;
          out_lists = g.out_lists ++ [] ∷ [];
          in_lists = g.in_lists ++ [] ∷ [];
          vacant_nodes = vacant;
          vacant_edges = g.vacant_edges;
        })
    node_slot firsts head' count' vacant free_list =
        let links : (dir : Direction)
        → AreLinkedLists end (list_firsts end dir (nodes ++ x ∷ [])) (nexts_of dir edges) (lists_at dir g ++ [] ∷ []) =
        λ dir.
        subst (λ z. AreLinkedLists end z (nexts_of dir edges) (lists_at dir g ++ [] ∷ [])) (sym (firsts dir))
        (AreLinkedLists-node end _ _ _ (s.linked dir)) in
        let lists : (dir : Direction) → ListsBy (end_of dir g) (lists_at dir g ++ [] ∷ []) = λ dir n e.
        rw (row_push (lists_at dir g) n) (s.listed dir n e) in
        record {
          nodes_are = ap (λ l. l ++ x.weight ∷ []) s.nodes_are ∙ sym (map_push weight_of nodes x);
          edges_are = s.edges_are;
          linked = elim [ Outgoing ↦ links Outgoing | Incoming ↦ links Incoming ];
          listed = elim [ Outgoing ↦ lists Outgoing | Incoming ↦ lists Incoming ];
          node_slots = free_list;
          edge_slots = s.edge_slots;
        }

    firsts_more : (dir : Direction) → firsts_of dir (nodes ++ x ∷ []) ≡ firsts_of dir nodes ++ raw_first dir x ∷ []
    firsts_more dir = map_push (raw_first dir) nodes x

    weights_more : map weight_of (nodes ++ x ∷ []) ≡ map weight_of nodes ++ x.weight ∷ []
    weights_more = map_push weight_of nodes x

    shown_more : (dir : Direction)
        → list_firsts end dir (nodes ++ x ∷ [])
        ≡ shown end (map weight_of nodes ++ x.weight ∷ []) (firsts_of dir nodes ++ raw_first dir x ∷ [])
    shown_more dir =
        ap (λ l. shown end l (firsts_of dir (nodes ++ x ∷ []))) weights_more
        ∙ ap (shown end (map weight_of nodes ++ x.weight ∷ [])) (firsts_more dir)

    pub node_taken : (w : N) → x ≡ record { weight = Some w; first_out = end; first_in = end } → length nodes < end
        → Stores end (nodes ++ x ∷ []) edges node_head edge_head (nodes_counted + 1) edges_counted (record {
          nodes = g.nodes ++ x.weight ∷ [];
          edges = g.edges;
          out_lists = g.out_lists ++ [] ∷ [];
          in_lists = g.in_lists ++ [] ∷ [];
          vacant_nodes = g.vacant_nodes;
          vacant_edges = g.vacant_edges;
        })
    node_taken w is index_left =
        let some : x.weight ≡ Some w = ap weight_of is in
        let at_end : (dir : Direction) → raw_first dir x ≡ end =
        elim [ Outgoing ↦ ap (raw_first Outgoing) is | Incoming ↦ ap (raw_first Incoming) is ] in
        let firsts : (dir : Direction) → list_firsts end dir (nodes ++ x ∷ []) ≡ list_firsts end dir nodes ++ end ∷ [] =
        λ dir.
        shown_more dir
        ∙ ap (λ o. shown end (map weight_of nodes ++ o ∷ []) (firsts_of dir nodes ++ raw_first dir x ∷ [])) some
        ∙ ap (λ z. shown end (map weight_of nodes ++ Some w ∷ []) (firsts_of dir nodes ++ z ∷ [])) (at_end dir)
        ∙ shown_push end (map weight_of nodes) (firsts_of dir nodes) w end (firsts_as_many weight_of dir nodes) in
        let free_list =
        free_list_with_taken s.node_slots (omega (arith, index_left, nodes_long s)) w (raw_first Outgoing x) in
        node_slot firsts node_head (nodes_counted + 1) g.vacant_nodes (rw (firsts_more Outgoing, some) free_list)

    pub node_left : x ≡ record { weight = None; first_out = node_head; first_in = end } → length nodes < end
        → Stores end (nodes ++ x ∷ []) edges (length nodes) edge_head nodes_counted edges_counted (record {
          nodes = g.nodes ++ x.weight ∷ [];
          edges = g.edges;
          out_lists = g.out_lists ++ [] ∷ [];
          in_lists = g.in_lists ++ [] ∷ [];
          vacant_nodes = length nodes ∷ g.vacant_nodes;
          vacant_edges = g.vacant_edges;
        })
    node_left is index_left =
        let none : x.weight ≡ None = ap weight_of is in
        let firsts : (dir : Direction) → list_firsts end dir (nodes ++ x ∷ []) ≡ list_firsts end dir nodes ++ end ∷ [] =
        λ dir.
        shown_more dir
        ∙ ap (λ o. shown end (map weight_of nodes ++ o ∷ []) (firsts_of dir nodes ++ raw_first dir x ∷ [])) none
        ∙ shown_push_vacant end (map weight_of nodes) (firsts_of dir nodes) (raw_first dir x)
        (firsts_as_many weight_of dir nodes) in
        let free_list =
        free_list_with_vacant s.node_slots (omega (arith, index_left, nodes_long s)) in
        node_slot firsts (length nodes) nodes_counted (length nodes ∷ g.vacant_nodes)
        (rw (firsts_more Outgoing, ap (raw_first Outgoing) is, none, ← nodes_long s) free_list)

  -- one more slot of an edge, which is vacant
  pub edge_left : (y : Edge (Option E) Ix) → y.weight ≡ None → y.next_out ≡ edge_head → length edges < end
      → Stores end nodes (edges ++ y ∷ []) node_head (length edges) nodes_counted edges_counted (record {
        nodes = g.nodes;
        edges = g.edges ++ None ∷ [];
        out_lists = g.out_lists;
        in_lists = g.in_lists;
        vacant_nodes = g.vacant_nodes;
        vacant_edges = length edges ∷ g.vacant_edges;
      })
  edge_left y none head_is index_left =
      let more : (dir : Direction) → nexts_of dir (edges ++ y ∷ []) ≡ nexts_of dir edges ++ raw_next dir y ∷ [] = λ dir.
      map_push (raw_next dir) edges y in
      let links : (dir : Direction)
      → AreLinkedLists end (list_firsts end dir nodes) (nexts_of dir (edges ++ y ∷ [])) (lists_at dir g) =
      λ dir.
      AreLinkedLists-kept end _ _ (nexts_of dir edges) _ (lists_at dir g) (s.linked dir) refl
      (λ n f p. ap (λ l. slice_get l f) (more dir) ∙ slice_get-push_old (nexts_of dir edges) (raw_next dir y) f
      (linked_within end _ _ (lists_at dir g) n f (s.linked dir) p)) in
      let lists : (dir : Direction)
      → ListsBy (λ e. option_map (near_end dir) (slot (g.edges ++ None ∷ []) e)) (lists_at dir g) =
      λ dir n e. let same = ap (option_map (near_end dir)) (slot_push_vacant g.edges e) in
      (λ p. same ∙ (s.listed dir n e).0 p, λ q. (s.listed dir n e).1 (sym same ∙ q)) in
      let free_list =
      free_list_with_vacant s.edge_slots (omega (arith, index_left, edges_long s)) in
      record {
        nodes_are = s.nodes_are;
        edges_are =
            ap (λ l. l ++ None ∷ []) s.edges_are ∙ ap (λ o. map plain_edge edges ++ o ∷ []) (sym (plain_none none))
            ∙ sym (map_push plain_edge edges y);
        linked = elim [ Outgoing ↦ links Outgoing | Incoming ↦ links Incoming ];
        listed = elim [ Outgoing ↦ lists Outgoing | Incoming ↦ lists Incoming ];
        node_slots = s.node_slots;
        edge_slots = rw (← edges_long s, more Outgoing, head_is) free_list;
      }
    where
      plain_none : y.weight ≡ None → plain_edge y ≡ None
      plain_none p = ap (option_map (λ (w : E). record { parent = y.parent; child = y.child; weight = w })) p

  -- one that is taken
  module _ {a b : ℕ} (w : E) (ends : AreNodes g a b) (index_left : length edges < end)
      {nodes' : List (Node (Option N) Ix)} (led : AreLedTo nodes nodes' a b (length edges)) where
    abbrev cell : Edge (Option E) Ix
    cell = edge_put_first nodes a b (Some w)

    abbrev line : PlainEdge E
    line = record { parent = a; child = b; weight = w }

    more : (dir : Direction) → nexts_of dir (edges ++ cell ∷ []) ≡ nexts_of dir edges ++ raw_next dir cell ∷ []
    more dir = map_push (raw_next dir) edges cell

    link : (dir : Direction)
        → slice_get (nexts_of dir (edges ++ cell ∷ [])) (length edges) ≡ Some (raw_next dir cell)
    link dir =
        ap (slice_get (nexts_of dir (edges ++ cell ∷ []))) (sym (length-map edges (raw_next dir)))
        ∙ ap (λ l. slice_get l (length (nexts_of dir edges))) (more dir)
        ∙ slice_get-push_new (nexts_of dir edges) (raw_next dir cell)

    pub edge_taken : Stores end nodes' (edges ++ cell ∷ []) node_head edge_head nodes_counted (edges_counted + 1)
        (record {
          nodes = g.nodes;
          edges = g.edges ++ Some line ∷ [];
          out_lists = set g.out_lists a (length edges ∷ nth_list g.out_lists a);
          in_lists = set g.in_lists b (length edges ∷ nth_list g.in_lists b);
          vacant_nodes = g.vacant_nodes;
          vacant_edges = g.vacant_edges;
        })
    edge_taken =
        let free_list =
        free_list_with_taken s.edge_slots (omega (arith, index_left, edges_long s)) line (raw_next Outgoing cell) in
        edge_put s {e = length edges} ends led {slots = g.edges ++ Some line ∷ []} (record {
          free = none_past g.edges (length edges) (omega (arith, edges_long s));
          plains = map_push plain_edge edges cell ∙ ap (λ l. l ++ Some line ∷ []) (sym s.edges_are);
          here = ap (slot (g.edges ++ Some line ∷ [])) (sym (edges_long s)) ∙ slot_push_new g.edges (Some line);
          elsewhere = λ f other. slot_push_other g.edges (Some line) f (λ same. other (same ∙ edges_long s));
          link = elim [ Outgoing ↦ link Outgoing | Incoming ↦ link Incoming ];
          others = λ dir f other inside.
              ap (λ l. slice_get l f) (more dir)
              ∙ slice_get-push_old (nexts_of dir edges) (raw_next dir cell) f
              (omega (arith, inside, length-map edges (raw_next dir)));
        })
        (rw (more Outgoing) free_list)

  -- where no slot is vacant, a new one is the next, in the words of the code
  pub node_made_code : (w : N) {y : Node (Option N) Ix} {reserved_cells nodes' : List (Node (Option N) Ix)}
      → g.vacant_nodes ≡ [] → nodes_counted < end → y ≡ fresh_node end w → reserved_cells ≡ nodes
      → nodes' ≡ reserved_cells ++ y ∷ []
      → Stores end nodes' edges node_head edge_head (nodes_counted + 1) edges_counted (with_node g w)
  node_made_code w {y} none few y_is reserved pushed =
      let full =
      counted_full (subst (IsFreeList end g.nodes (firsts_of Outgoing nodes) node_head nodes_counted) none
      s.node_slots) in
      let made = node_taken (fresh_node end w) w refl (omega (arith, few, full, nodes_long s)) in
      rw (pushed, reserved, y_is, none) (rw none at made)

  pub edge_made_code : {a b u v e : ℕ} {w : E} {y : Edge (Option E) Ix} {nodes' : List (Node (Option N) Ix)}
      {edges' : List (Edge (Option E) Ix)}
      → AreNodes g a b → u ≡ a → v ≡ b → IsPutFirst nodes nodes' u v e (Some w) y
      → e ≡ length edges → g.vacant_edges ≡ [] → edge_count g < end → edges' ≡ edges ++ y ∷ []
      → Stores end nodes' edges' node_head edge_head nodes_counted (edges_counted + 1) (with_edge g a b w)
  edge_made_code {a} {b} {w = w} {y} {nodes'} ends u_is v_is put e_is none few pushed =
      let put_at : IsPutFirst nodes nodes' a b (length edges) (Some w) y = rw (← u_is, ← v_is, ← e_is) put in
      let full =
      counted_full (subst (IsFreeList end g.edges (nexts_of Outgoing edges) edge_head edges_counted) none
      s.edge_slots) in
      let made = edge_taken w ends (omega (arith, few, s.edge_slots.counted, full, edges_long s)) put_at.led in
      rw (pushed, put_at.stored, none, edges_long s) (rw none at made)

-- what is stored is the graph that the slots make, in the words of the code
module _ {N E Ix : Type 0} (end : ℕ) where
  abbrev Built : List (Node (Option N) Ix) → List (Edge (Option E) Ix)
      → (node_head edge_head nodes_counted edges_counted : ℕ) → Type 0
  Built nodes edges node_head edge_head n m =
      Stores end nodes edges node_head edge_head n m (graph_of_slots (map weight_of nodes) (map plain_edge edges))

  module _ {nodes : List (Node (Option N) Ix)} {edges : List (Edge (Option E) Ix)} {node_head edge_head n m : ℕ}
      (s : Built nodes edges node_head edge_head n m) where
    pub built_node_taken : edges ≡ []
        → (x : Node (Option N) Ix) (w : N) → x ≡ record { weight = Some w; first_out = end; first_in = end }
        → length nodes < end → Built (nodes ++ x ∷ []) edges node_head edge_head (n + 1) m
    built_node_taken none x w is index_left =
        let weights = map weight_of nodes in
        let some : x.weight ≡ Some w = ap weight_of is in
        let vacant : vacant_down weights ≡ vacant_down (weights ++ x.weight ∷ []) =
        sym (vacant_down_more weights x.weight
        ∙ ap (λ o. cond (not (is_some o)) (length weights ∷ vacant_down weights) (vacant_down weights)) some) in
        subst (Stores end (nodes ++ x ∷ []) edges node_head edge_head (n + 1) m)
        (of_slots_node weights x.weight (map plain_edge edges) (ap (map plain_edge) none) (vacant_down weights) vacant
        ∙ ap (λ l. graph_of_slots l (map plain_edge edges)) (sym (map_push weight_of nodes x)))
        (node_taken s x w is index_left)

    pub built_node_left : edges ≡ []
        → (x : Node (Option N) Ix) (head : ℕ) → x ≡ record { weight = None; first_out = node_head; first_in = end }
        → head ≡ length nodes → length nodes < end → Built (nodes ++ x ∷ []) edges head edge_head n m
    built_node_left none x head is head_is index_left =
        let weights = map weight_of nodes in
        let gone : x.weight ≡ None = ap weight_of is in
        let vacant : length nodes ∷ vacant_down weights ≡ vacant_down (weights ++ x.weight ∷ []) =
        ap (λ k. k ∷ vacant_down weights) (sym (length-map nodes weight_of))
        ∙ sym (vacant_down_more weights x.weight
        ∙ ap (λ o. cond (not (is_some o)) (length weights ∷ vacant_down weights) (vacant_down weights)) gone) in
        rw head_is (
        subst (Stores end (nodes ++ x ∷ []) edges (length nodes) edge_head n m)
        (of_slots_node weights x.weight (map plain_edge edges) (ap (map plain_edge) none)
        (length nodes ∷ vacant_down weights) vacant
        ∙ ap (λ l. graph_of_slots l (map plain_edge edges)) (sym (map_push weight_of nodes x)))
        (node_left s x is index_left))

    pub built_edge_left : (y : Edge (Option E) Ix) (head : ℕ) → y.weight ≡ None → y.next_out ≡ edge_head
        → head ≡ length edges → length edges < end → Built nodes (edges ++ y ∷ []) node_head head n m
    built_edge_left y head none next head_is index_left =
        let weights = map weight_of nodes in
        let shown_as : map plain_edge edges ++ None ∷ [] ≡ map plain_edge (edges ++ y ∷ []) =
        ap (λ o. map plain_edge edges ++ o ∷ [])
        (sym (ap (option_map (λ (w : E). record { parent = y.parent; child = y.child; weight = w })) none))
        ∙ sym (map_push plain_edge edges y) in
        rw head_is (
        subst (Stores end nodes (edges ++ y ∷ []) node_head (length edges) n m)
        (of_slots_left weights (map plain_edge edges) (length edges) (sym (length-map edges plain_edge))
        ∙ ap (graph_of_slots weights) shown_as)
        (edge_left s y none next index_left))

    pub built_edge_taken : {a b : ℕ} {w : E} {y : Edge (Option E) Ix} {e : ℕ} {nodes' : List (Node (Option N) Ix)}
        → AreNodes (graph_of_slots (map weight_of nodes) (map plain_edge edges)) a b → length edges < end
        → e ≡ length edges → IsPutFirst nodes nodes' a b e (Some w) y
        → Built nodes' (edges ++ y ∷ []) node_head edge_head n (m + 1)
    built_edge_taken {a} {b} {w} {nodes' = nodes'} ends index_left e_is put =
        let old = map weight_of nodes in
        let cell : Edge (Option E) Ix = edge_put_first nodes a b (Some w) in
        let from = some_is (slot old a) ends.parent in
        let into = some_is (slot old b) ends.child in
        let whole = edge_taken s w ends index_left (subst (AreLedTo nodes nodes' a b) e_is put.led) in
        rw put.stored (
        subst (Stores end nodes' (edges ++ cell ∷ []) node_head edge_head n (m + 1))
        (of_slots_taken old (map plain_edge edges) a b w (length edges) (sym (length-map edges plain_edge))
        (slot_inside old a from.0 from.1) (slot_inside old b into.0 into.1)
        ∙ ap (graph_of_slots old) (sym (map_push plain_edge edges cell))
        ∙ ap (λ l. graph_of_slots l (map plain_edge (edges ++ cell ∷ []))) (sym (weights_seen _ _ put.led.weights)))
        whole)
