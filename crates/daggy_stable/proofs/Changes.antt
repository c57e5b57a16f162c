-- What is stored after each change of nodes and edges.
use Rattle.std.proofs.Common.{◌≡◌, ◌≢◌, ℕ, zero, suc, ◌+◌, ◌<◌, ◌≤◌, List, [], ◌∷◌, map, length, get_or, set, Option}
use Rattle.std.proofs.Common.{Some, None, IsSome, slice_get, refl, sym, ap, subst, ◌∙◌, arith, Contains}
use Rattle.std.specs.Option.{option_map, option_and_then}
use Rattle.std.proofs.lemmas.List.{length-set, length-map, map-set, set-get_or}
use Rattle.std.proofs.lemmas.Option.{none-some, unwrap_or-slice_get}
use Rattle.daggy_base.specs.declared.index.Direction.{Direction}
use Rattle.daggy_base.specs.declared.index.Direction.TheVariants.{Outgoing, Incoming}
use Rattle.daggy_base.specs.Graph.{Graph, Edge as PlainEdge, slot, edge_at, near_end}
use Rattle.daggy_base.specs.Adding.{with_node, with_edge}
use Rattle.daggy_cells.specs.declared.cell.Node.{Node}
use Rattle.daggy_cells.specs.declared.cell.Edge.{Edge}
use Rattle.daggy_cells.specs.Links.{nth_list, AreLinkedLists, ListsBy}
use Rattle.daggy_cells.specs.Raw.{raw_first, raw_next}
use Rattle.daggy_cells.specs.Fields.{firsts_of, nexts_of, lists_at, AreLedTo, edge_put_first}
use Rattle.daggy_base.proofs.Lists.{slice_get-set_other, slice_get-set_same, slice_get_mapped}
use Rattle.daggy_cells.proofs.LinkedListChanges.{AreLinkedLists-put, ListsBy-put}
use Rattle.daggy_cells.proofs.FieldLemmas.{firsts_as_many}
use Rattle.daggy_stable.specs.Stored.{weight_of, plain_edge, shown, list_firsts, end_of, IsFreeList, Stores}
use Rattle.daggy_stable.proofs.Slots.{filled, relinked, slot_not_vacant, vacant_none, vacant_some, vacant_inside}
use Rattle.daggy_stable.proofs.Shown.{shown_some, shown-set, shown-fill}
use Rattle.daggy_stable.proofs.Stores.{weights_seen, nodes_long, edges_long, firsts_long, none_shown, some_is}

-- a node as it is stored at first
abbrev pub fresh_node : {N Ix : Type 0} → (end : ℕ) → N → Node (Option N) Ix
fresh_node end w = record { weight = Some w; first_out = end; first_in = end }

-- the ends of an edge are nodes of the graph
pub record AreNodes {N E : Type 0} (g : Graph N E) (a b : ℕ) : Type 0 where
  pub parent : IsSome (slot g.nodes a)
  pub child : IsSome (slot g.nodes b)

-- the edge e with this weight goes first in the lists of a and b, and y is what is to be stored of it
pub record IsPutFirst {N E Ix : Type 0} (nodes nodes' : List (Node N Ix)) (a b e : ℕ) (w : E) (y : Edge E Ix)
    : Type 0 where
  pub led : AreLedTo nodes nodes' a b e
  pub stored : y ≡ edge_put_first nodes a b w

-- the new edge is stored in the slot e, which was vacant or past the end, before the first edges of its ends, and the
-- other edges keep their links; the slots are then these
pub record IsNewEdge {N E Ix : Type 0} (nodes : List (Node (Option N) Ix)) (edges edges' : List (Edge (Option E) Ix))
    (g : Graph N E) (new : PlainEdge E) (e : ℕ) (slots : List (Option (PlainEdge E))) : Type 0 where
  pub free : edge_at g e ≡ None
  pub plains : map plain_edge edges' ≡ slots
  pub here : slot slots e ≡ Some new
  pub elsewhere : (f : ℕ) → f ≢ e → slot slots f ≡ edge_at g f
  pub link : (dir : Direction)
      → slice_get (nexts_of dir edges') e ≡ Some (get_or (firsts_of dir nodes) (near_end dir new) 0)
  pub others : (dir : Direction) (f : ℕ) → f ≢ e → f < length edges
      → slice_get (nexts_of dir edges') f ≡ slice_get (nexts_of dir edges) f

raw_fresh : {N : Type 0} (Ix : Type 0) (dir : Direction) (end : ℕ) (w : N)
    → raw_first {N = Option N} {Ix = Ix} dir (fresh_node end w) ≡ end
raw_fresh Ix Outgoing end w = refl
raw_fresh Ix Incoming end w = refl

set_empty : (lists : List (List ℕ)) (n : ℕ) → nth_list lists n ≡ [] → set lists n [] ≡ lists
set_empty lists n empty = ap (set lists n) (sym empty ∙ unwrap_or-slice_get lists n []) ∙ set-get_or lists n []

slot_in : {N Ix : Type 0} (cells : List (Node (Option N) Ix)) (i : ℕ) (y : N)
    → slot (map weight_of cells) i ≡ Some y → i < length cells
slot_in [] i y p = absurd (none-some y p)
slot_in (c ∷ cs) zero y p = omega arith
slot_in (c ∷ cs) (suc i) y p = let more = slot_in cs i y p in omega (arith, more)

module _ {N E Ix : Type 0} {end : ℕ} {nodes : List (Node (Option N) Ix)} {edges : List (Edge (Option E) Ix)}
    {node_head edge_head nodes_counted edges_counted : ℕ} {g : Graph N E}
    (s : Stores end nodes edges node_head edge_head nodes_counted edges_counted g) where
  -- one more node, in the slot vacated last
  pub node_filled : (w : N) (v : ℕ) (vs : List ℕ) (head' : ℕ)
      → g.vacant_nodes ≡ v ∷ vs → slice_get (firsts_of Outgoing nodes) v ≡ Some head'
      → Stores end (set nodes v (fresh_node end w)) edges head' edge_head (suc nodes_counted) edges_counted
      (with_node g w)
  node_filled w v vs head' some goes =
      let x : Node (Option N) Ix = fresh_node end w in
      let t : IsFreeList end g.nodes (firsts_of Outgoing nodes) node_head nodes_counted (v ∷ vs) =
      subst (IsFreeList end g.nodes (firsts_of Outgoing nodes) node_head nodes_counted) some s.node_slots in
      let vacant : slice_get g.nodes v ≡ Some None = (t.exact v).0 (0, omega arith, refl) in
      let vacant' : slice_get (map weight_of nodes) v ≡ Some None =
      ap (λ l. slice_get l v) (sym s.nodes_are) ∙ vacant in
      let written : (dir : Direction) → firsts_of dir (set nodes v x) ≡ set (firsts_of dir nodes) v end = λ dir.
      map-set (raw_first dir) nodes v x ∙ ap (set (firsts_of dir nodes) v) (raw_fresh Ix dir end w) in
      let firsts : (dir : Direction) → list_firsts end dir nodes ≡ list_firsts end dir (set nodes v x) =
      λ dir.
      sym (ap (λ l. shown end l (firsts_of dir (set nodes v x))) (map-set weight_of nodes v x)
      ∙ ap (shown end (set (map weight_of nodes) v (Some w))) (written dir)
      ∙ shown-fill end (map weight_of nodes) (firsts_of dir nodes) v w vacant') in
      let empty : (dir : Direction) → lists_at dir g ≡ set (lists_at dir g) v [] = λ dir.
      sym (set_empty (lists_at dir g) v (none_shown s dir v (ap (option_and_then (λ z. z)) vacant))) in
      let links : (dir : Direction)
      → AreLinkedLists end (list_firsts end dir (set nodes v x)) (nexts_of dir edges) (set (lists_at dir g) v []) =
      λ dir.
      subst (λ z. AreLinkedLists end z (nexts_of dir edges) (set (lists_at dir g) v [])) (firsts dir)
      (subst (AreLinkedLists end (list_firsts end dir nodes) (nexts_of dir edges)) (empty dir) (s.linked dir)) in
      let lists : (dir : Direction) → ListsBy (end_of dir g) (set (lists_at dir g) v []) = λ dir.
      subst (ListsBy (end_of dir g)) (empty dir) (s.listed dir) in
      let kept : (f : ℕ)
      → Contains vs f → slice_get (firsts_of Outgoing (set nodes v x)) f ≡ slice_get (firsts_of Outgoing nodes) f =
      λ f p.
      ap (λ l. slice_get l f) (written Outgoing)
      ∙ slice_get-set_other (firsts_of Outgoing nodes) v f end
      (λ same. t.linked.distinct.0 (subst (Contains vs) same p)) in
      let long : length (firsts_of Outgoing (set nodes v x)) ≡ length (firsts_of Outgoing nodes) =
      ap length (written Outgoing) ∙ length-set (firsts_of Outgoing nodes) v end in
      rw some (
      record {
        nodes_are = ap (λ l. set l v (Some w)) s.nodes_are ∙ sym (map-set weight_of nodes v x);
        edges_are = s.edges_are;
        linked = elim [ Outgoing ↦ links Outgoing | Incoming ↦ links Incoming ];
        listed = elim [ Outgoing ↦ lists Outgoing | Incoming ↦ lists Incoming ];
        node_slots =
            filled t w (firsts_of Outgoing (set nodes v x)) head' long kept goes;
        edge_slots = s.edge_slots;
      })

  -- one more edge
  module _ {u v e : ℕ} {w : E} (ends : AreNodes g u v) {nodes' : List (Node (Option N) Ix)}
      (led : AreLedTo nodes nodes' u v e) {edges' : List (Edge (Option E) Ix)} {slots : List (Option (PlainEdge E))}
      (stored : IsNewEdge nodes edges edges' g (record { parent = u; child = v; weight = w }) e slots) where
    found_u : (from : N) × (slot g.nodes u ≡ Some from)
    found_u = some_is _ ends.parent

    found_v : (into : N) × (slot g.nodes v ≡ Some into)
    found_v = some_is _ ends.child

    node_slots' : IsFreeList end g.nodes (firsts_of Outgoing nodes') node_head nodes_counted g.vacant_nodes
    node_slots' =
        relinked s.node_slots
        (firsts_of Outgoing nodes') (ap length led.outs ∙ length-set (firsts_of Outgoing nodes) u e) (λ f p.
        let other : f ≢ u = λ same.
        slot_not_vacant g.nodes u found_u.0 found_u.1
        ((s.node_slots.exact u).0 (subst (Contains g.vacant_nodes) same p)) in
        ap (λ l. slice_get l f) led.outs ∙ slice_get-set_other (firsts_of Outgoing nodes) u f e other)

    one_side : (dir : Direction) (n : ℕ) (wn : N)
        → slot g.nodes n ≡ Some wn → firsts_of dir nodes' ≡ set (firsts_of dir nodes) n e
        → slice_get (nexts_of dir edges') e ≡ Some (get_or (firsts_of dir nodes) n 0)
        → AreLinkedLists end (list_firsts end dir nodes') (nexts_of dir edges')
        (set (lists_at dir g) n (e ∷ nth_list (lists_at dir g) n))
    one_side dir n wn at firsts new_link =
        let at' : slot (map weight_of nodes) n ≡ Some wn = ap (λ l. slot l n) (sym s.nodes_are) ∙ at in
        let is : set (list_firsts end dir nodes) n e ≡ list_firsts end dir nodes' =
        sym (shown-set end (map weight_of nodes) (firsts_of dir nodes) n e wn at')
        ∙ ap (shown end (map weight_of nodes)) (sym firsts)
        ∙ ap (λ l. shown end l (firsts_of dir nodes')) (sym (weights_seen _ _ led.weights)) in
        let within : n < length (list_firsts end dir nodes) =
        omega (arith, firsts_long s dir, slot_in nodes n wn at') in
        subst (λ z. AreLinkedLists end z (nexts_of dir edges')
        (set (lists_at dir g) n (e ∷ nth_list (lists_at dir g) n))) is
        (AreLinkedLists-put n e (s.linked dir) within
        (λ m p. none-some m (sym (ap (option_map (near_end dir)) stored.free) ∙ (s.listed dir m e).0 p))
        (new_link
        ∙ ap Some (sym
        (shown_some end (map weight_of nodes) (firsts_of dir nodes) n wn (firsts_as_many weight_of dir nodes) at')))
        (λ f other inside. stored.others dir f other (omega (arith, inside, length-map edges (raw_next dir)))))

    side_listed : (dir : Direction) (n : ℕ) (wn : N) → slot g.nodes n ≡ Some wn
        → near_end dir (record { parent = u; child = v; weight = w }) ≡ n
        → ListsBy (λ f. option_map (near_end dir) (slot slots f))
        (set (lists_at dir g) n (e ∷ nth_list (lists_at dir g) n))
    side_listed dir n wn at is =
        let within : n < length (lists_at dir g) =
        omega (
          arith,
          (s.linked dir).rows,
          firsts_long s dir,
          slot_in nodes n wn (ap (λ l. slot l n) (sym s.nodes_are) ∙ at),
        ) in
        ListsBy-put (end_of dir g) _ (lists_at dir g) e (s.listed dir) within
        (ap (option_map (near_end dir)) stored.free)
        (ap (option_map (near_end dir)) stored.here ∙ ap Some is)
        (λ f other. ap (option_map (near_end dir)) (stored.elsewhere f other))

    pub edge_put : {edge_head' edges_counted' : ℕ} {vacant : List ℕ}
        → IsFreeList end slots (nexts_of Outgoing edges') edge_head' edges_counted' vacant
        → Stores end nodes' edges' node_head edge_head' nodes_counted edges_counted' (record {
          nodes = g.nodes;
          edges = slots;
          out_lists = set g.out_lists u (e ∷ nth_list g.out_lists u);
          in_lists = set g.in_lists v (e ∷ nth_list g.in_lists v);
          vacant_nodes = g.vacant_nodes;
          vacant_edges = vacant;
        })
    edge_put free_list =
        record {
          nodes_are = s.nodes_are ∙ sym (weights_seen _ _ led.weights);
          edges_are = sym stored.plains;
          linked = elim [
            | Outgoing ↦ one_side Outgoing u found_u.0 found_u.1 led.outs (stored.link Outgoing)
            | Incoming ↦ one_side Incoming v found_v.0 found_v.1 led.ins (stored.link Incoming)
          ];
          listed = elim [
            | Outgoing ↦ side_listed Outgoing u found_u.0 found_u.1 refl
            | Incoming ↦ side_listed Incoming v found_v.0 found_v.1 refl
          ];
          node_slots = node_slots';
          edge_slots = free_list;
        }

-- in the words of the code

module _ {N E Ix : Type 0} {end : ℕ} {nodes : List (Node (Option N) Ix)} {edges : List (Edge (Option E) Ix)}
    {node_head edge_head nodes_counted edges_counted : ℕ} {g : Graph N E}
    (s : Stores end nodes edges node_head edge_head nodes_counted edges_counted g) where
  pub node_none : length nodes ≤ node_head → g.vacant_nodes ≡ []
  node_none past =
      vacant_none g.vacant_nodes s.node_slots (omega (arith, past, nodes_long s))

  pub edge_none : length edges ≤ edge_head → g.vacant_edges ≡ []
  edge_none past =
      vacant_none g.vacant_edges s.edge_slots (omega (arith, past, edges_long s))

  pub node_some : node_head < length nodes → g.vacant_nodes ≢ []
  node_some within q =
      let found =
      vacant_some g.vacant_nodes s.node_slots (omega (arith, within, nodes_long s)) in
      omega (arith, ap length (sym found.1 ∙ q))

  pub edge_some : edge_head < length edges → g.vacant_edges ≢ []
  edge_some within q =
      let found =
      vacant_some g.vacant_edges s.edge_slots (omega (arith, within, edges_long s)) in
      omega (arith, ap length (sym found.1 ∙ q))

  pub node_next : g.vacant_nodes ≢ [] → (vs : List ℕ) × (g.vacant_nodes ≡ node_head ∷ vs) × (node_head < length nodes)
  node_next some = go g.vacant_nodes refl
    where
      go : (vacant : List ℕ)
          → g.vacant_nodes ≡ vacant → (vs : List ℕ) × (g.vacant_nodes ≡ node_head ∷ vs) × (node_head < length nodes)
      go [] is = absurd (some is)
      go (v ∷ vs) is =
          let t = subst (IsFreeList end g.nodes (firsts_of Outgoing nodes) node_head nodes_counted) is s.node_slots in
          let within =
          vacant_inside t v (0, omega arith, refl) in
          (vs, is ∙ ap (λ z. z ∷ vs) (sym t.linked.starts), omega (arith, within, t.linked.starts, nodes_long s))

  pub edge_next : g.vacant_edges ≢ [] → (vs : List ℕ) × (g.vacant_edges ≡ edge_head ∷ vs) × (edge_head < length edges)
  edge_next some = go g.vacant_edges refl
    where
      go : (vacant : List ℕ)
          → g.vacant_edges ≡ vacant → (vs : List ℕ) × (g.vacant_edges ≡ edge_head ∷ vs) × (edge_head < length edges)
      go [] is = absurd (some is)
      go (v ∷ vs) is =
          let t = subst (IsFreeList end g.edges (nexts_of Outgoing edges) edge_head edges_counted) is s.edge_slots in
          let within =
          vacant_inside t v (0, omega arith, refl) in
          (vs, is ∙ ap (λ z. z ∷ vs) (sym t.linked.starts), omega (arith, within, t.linked.starts, edges_long s))

  pub node_filled_code : (w : N) {i head' : ℕ} {x y : Node (Option N) Ix}
      → g.vacant_nodes ≢ [] → i ≡ node_head → x ≡ get_or nodes i x → head' ≡ raw_first Outgoing x → y ≡ fresh_node end w
      → Stores end (set nodes i y) edges head' edge_head (nodes_counted + 1) edges_counted (with_node g w)
  node_filled_code w {i} {head'} {x} some i_is reads head_is y_is =
      let found = node_next some in
      let more : suc nodes_counted ≡ nodes_counted + 1 = omega arith in
      let at_head : x ≡ get_or nodes node_head x = reads ∙ ap (λ z. get_or nodes z x) i_is in
      let goes = slice_get_mapped (raw_first Outgoing) nodes node_head x found.2 at_head ∙ ap Some (sym head_is) in
      rw (i_is, y_is) (subst
      (λ k. Stores end (set nodes node_head (fresh_node end w)) edges head' edge_head k edges_counted (with_node g w))
      more (node_filled s w node_head found.0 head' found.1 goes))

  module _ {a b : ℕ} (w : E) (ends : AreNodes g a b) where
    -- what is stored of the new edge
    abbrev cell : Edge (Option E) Ix
    cell = edge_put_first nodes a b (Some w)

    abbrev new_edge : PlainEdge E
    new_edge = record { parent = a; child = b; weight = w }

    edge_filled : {vs : List ℕ} {head' : ℕ} {nodes' : List (Node (Option N) Ix)} → g.vacant_edges ≡ edge_head ∷ vs
        → edge_head < length edges → slice_get (nexts_of Outgoing edges) edge_head ≡ Some head'
        → AreLedTo nodes nodes' a b edge_head
        → Stores end nodes' (set edges edge_head cell) node_head head' nodes_counted (suc edges_counted)
        (with_edge g a b w)
    edge_filled {vs} {head'} {nodes'} some within goes led =
        let t : IsFreeList end g.edges (nexts_of Outgoing edges) edge_head edges_counted (edge_head ∷ vs) =
        subst (IsFreeList end g.edges (nexts_of Outgoing edges) edge_head edges_counted) some s.edge_slots in
        let written : (dir : Direction)
        → nexts_of dir (set edges edge_head cell) ≡ set (nexts_of dir edges) edge_head (raw_next dir cell) =
        λ dir.
        map-set (raw_next dir) edges edge_head cell in
        let link : (dir : Direction)
        → slice_get (nexts_of dir (set edges edge_head cell)) edge_head ≡ Some (raw_next dir cell) =
        λ dir.
        ap (λ l. slice_get l edge_head) (written dir)
        ∙ slice_get-set_same (nexts_of dir edges) edge_head (raw_next dir cell)
        (omega (arith, within, length-map edges (raw_next dir))) in
        let others : (dir : Direction) (f : ℕ)
        → f ≢ edge_head → slice_get (nexts_of dir (set edges edge_head cell)) f ≡ slice_get (nexts_of dir edges) f =
        λ dir f other.
        ap (λ l. slice_get l f) (written dir)
        ∙ slice_get-set_other (nexts_of dir edges) edge_head f (raw_next dir cell) other in
        let long : length (nexts_of Outgoing (set edges edge_head cell)) ≡ length (nexts_of Outgoing edges) =
        ap length (written Outgoing) ∙ length-set (nexts_of Outgoing edges) edge_head (raw_next Outgoing cell) in
        let free_list =
        filled t new_edge (nexts_of Outgoing (set edges edge_head cell)) head' long
        (λ f p. others Outgoing f (λ same. t.linked.distinct.0 (subst (Contains vs) same p))) goes in
        let slots = set g.edges edge_head (Some new_edge) in
        rw some (edge_put s {e = edge_head} ends led {slots = slots} (record {
          free = ap (option_and_then (λ z. z)) ((t.exact edge_head).0 (0, omega arith, refl));
          plains =
              map-set plain_edge edges edge_head cell ∙ ap (λ l. set l edge_head (Some new_edge)) (sym s.edges_are);
          here =
              ap (option_and_then (λ z. z))
              (slice_get-set_same g.edges edge_head (Some new_edge) (omega (arith, within, edges_long s)));
          elsewhere = λ f other.
              ap (option_and_then (λ z. z)) (slice_get-set_other g.edges edge_head f (Some new_edge) other);
          link = elim [ Outgoing ↦ link Outgoing | Incoming ↦ link Incoming ];
          others = λ dir f other inside. others dir f other;
        }) free_list)

  pub edge_filled_code : {a b u v i head' : ℕ} {w : E} {x y : Edge (Option E) Ix} {nodes' : List (Node (Option N) Ix)}
      → AreNodes g a b → u ≡ a → v ≡ b → IsPutFirst nodes nodes' u v edge_head (Some w) y
      → g.vacant_edges ≢ [] → i ≡ edge_head → x ≡ get_or edges i x → head' ≡ raw_next Outgoing x
      → Stores end nodes' (set edges i y) node_head head' nodes_counted (edges_counted + 1) (with_edge g a b w)
  edge_filled_code {a} {b} {w = w} {x = x} {y} {nodes'} ends u_is v_is put some i_is reads head_is =
      let found = edge_next some in
      let more : suc edges_counted ≡ edges_counted + 1 = omega arith in
      let at_head : x ≡ get_or edges edge_head x = reads ∙ ap (λ z. get_or edges z x) i_is in
      let goes = slice_get_mapped (raw_next Outgoing) edges edge_head x found.2 at_head ∙ ap Some (sym head_is) in
      let put_at : IsPutFirst nodes nodes' a b edge_head (Some w) y = rw (← u_is, ← v_is) put in
      let whole = edge_filled w ends found.1 found.2 goes put_at.led in
      rw (i_is, put_at.stored, ← more) whole

  pub node_inside : (n : ℕ) → IsSome (slot g.nodes n) → n < length nodes
  node_inside n p = let found = some_is _ p in slot_in nodes n found.0 (ap (λ l. slot l n) (sym s.nodes_are) ∙ found.1)
