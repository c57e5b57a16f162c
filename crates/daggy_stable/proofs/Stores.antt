-- What is stored, and what it shows.
use Rattle.std.proofs.Common.{◌≡◌, ℕ, zero, suc, ◌<◌, ◌≤◌, List, [], ◌∷◌, map, length, get_or, Option, Some, None}
use Rattle.std.proofs.Common.{IsSome, is_some, refl, sym, ap, subst, ◌∙◌, inl, inr, arith, Contains}
use Rattle.std.specs.Option.{option_map, option_and_then}
use Rattle.std.proofs.lemmas.Bool.{cases_lt}
use Rattle.std.proofs.lemmas.List.{length-map, get_or-map}
use Rattle.std.proofs.lemmas.Option.{same_Some, none-some}
use Rattle.daggy_base.specs.declared.index.Direction.{Direction}
use Rattle.daggy_base.specs.declared.index.Direction.TheVariants.{Outgoing, Incoming}
use Rattle.daggy_base.specs.Graph.{empty, Graph, Edge as PlainEdge, slot, edge_at, list_at, near_end}
use Rattle.daggy_base.specs.Cursor.{first_of, after, cursor_after}
use Rattle.daggy_base.specs.Look.{IsLook}
use Rattle.daggy_base.specs.WellFormed.{IsWellFormed}
use Rattle.daggy_cells.specs.declared.cell.Node.{Node}
use Rattle.daggy_cells.specs.declared.cell.Edge.{Edge}
use Rattle.daggy_cells.specs.Links.{nth_list, IsLinkedList}
use Rattle.daggy_cells.specs.Raw.{raw_first, raw_next}
use Rattle.daggy_cells.specs.Fields.{weight_of as stored_weight, end_at, firsts_of, nexts_of, lists_at}
use Rattle.daggy_base.proofs.Lists.{Contains-nil, Contains-here, slice_get_mapped}
use Rattle.daggy_cells.proofs.LinkedListChanges.{row_within, row_past, rows_are, linked_within}
use Rattle.daggy_cells.proofs.FieldLemmas.{same_graph, firsts_as_many}
use Rattle.daggy_base.proofs.MappedSlots.{slot_read, slot_beyond}
use Rattle.daggy_stable.specs.Stored.{weight_of, plain, plain_edge, list_firsts, end_of, stored_graph, IsFreeList}
use Rattle.daggy_stable.specs.Stored.{Stores}
use Rattle.daggy_stable.proofs.Slots.{vacant_is}
use Rattle.daggy_stable.proofs.Shown.{length-shown, shown_some, shown_none}

-- the weights that are seen, by those that are stored
pub weights_seen : {N Ix : Type 0} (xs ys : List (Node (Option N) Ix))
    → map stored_weight xs ≡ map stored_weight ys → map weight_of xs ≡ map weight_of ys
weights_seen {N} {Ix} xs ys same =
    let join : Option (Option N) → Option N = option_and_then (λ z. z) in
    sym (joined xs) ∙ ap (map join) same ∙ joined ys
  where
    joined : (xs : List (Node (Option N) Ix)) → map (option_and_then (λ z. z)) (map stored_weight xs) ≡ map weight_of xs
    joined [] = refl
    joined (x ∷ xs) = ap (λ l. weight_of x ∷ l) (joined xs)

slot_vacant_or : {A : Type 0} (xs : List (Option A)) (i : ℕ) (P : Type 0)
    → (slot xs i ≡ None → P) → ((x : A) → slot xs i ≡ Some x → P) → P
slot_vacant_or {A} xs i P none some = go (slot xs i) refl
  where
    go : (o : Option A) → slot xs i ≡ o → P
    go None at = none at
    go (Some x) at = some x at

-- what is read at a place, whatever is read past the end
pub reads_itself : {A : Type 0} (xs : List A) (i : ℕ) (d : A)
    → i < length xs → get_or xs i d ≡ get_or xs i (get_or xs i d)
reads_itself [] i d within = refl
reads_itself (x ∷ xs) zero d within = refl
reads_itself (x ∷ xs) (suc i) d within = reads_itself xs i d (omega (arith, within))

pub some_is : {A : Type 0} (o : Option A) → IsSome o → (x : A) × (o ≡ Some x)
some_is None p = absurd cc
some_is (Some x) p = (x, refl)

pub is_some_at : {A : Type 0} (o : Option A) (x : A) → o ≡ Some x → IsSome o
is_some_at o x at = ap is_some at

first_in : (end : ℕ) (l : List ℕ) (e : ℕ) → Contains l e → Contains l (first_of end l)
first_in end [] e p = absurd (Contains-nil e p)
first_in end (x ∷ xs) e p = Contains-here x xs

module _ {N E Ix : Type 0} {end : ℕ} {nodes : List (Node (Option N) Ix)} {edges : List (Edge (Option E) Ix)}
    {node_head edge_head nodes_counted edges_counted : ℕ} {g : Graph N E}
    (s : Stores end nodes edges node_head edge_head nodes_counted edges_counted g) where
  pub nodes_long : length g.nodes ≡ length nodes
  nodes_long = ap length s.nodes_are ∙ length-map nodes weight_of

  pub edges_long : length g.edges ≡ length edges
  edges_long = ap length s.edges_are ∙ length-map edges plain_edge

  pub nexts_few : (dir : Direction) → length (nexts_of dir edges) ≤ end
  nexts_few dir = omega (arith, length-map edges (raw_next dir), edges_long, s.edge_slots.few)

  pub firsts_long : (dir : Direction) → length (list_firsts end dir nodes) ≡ length nodes
  firsts_long dir =
      let same = firsts_as_many weight_of dir nodes in
      length-shown end (map weight_of nodes) (firsts_of dir nodes) same ∙ length-map nodes weight_of

  -- what is stored is what the view shows
  pub stored_is : stored_graph end nodes edges node_head edge_head ≡ g
  stored_is =
      same_graph g (sym s.nodes_are) (sym s.edges_are) (rows_are end _ _ _ (s.linked Outgoing) (nexts_few Outgoing))
      (rows_are end _ _ _ (s.linked Incoming) (nexts_few Incoming))
      (vacant_is s.node_slots)
      (vacant_is s.edge_slots)

  pub Stores-itself : Stores end nodes edges node_head edge_head nodes_counted edges_counted
      (stored_graph end nodes edges node_head edge_head)
  Stores-itself = subst (Stores end nodes edges node_head edge_head nodes_counted edges_counted) (sym stored_is) s

  -- where a slot is read
  pub node_read : (n : ℕ) (x : Node (Option N) Ix) → n < length nodes → x ≡ get_or nodes n x → slot g.nodes n ≡ x.weight
  node_read n x within is = ap (λ l. slot l n) s.nodes_are ∙ slot_read weight_of nodes n x within is

  pub node_beyond : (n : ℕ) → length nodes ≤ n → slot g.nodes n ≡ None
  node_beyond n past = ap (λ l. slot l n) s.nodes_are ∙ slot_beyond weight_of nodes n past

  pub edge_read : (e : ℕ) (x : Edge (Option E) Ix)
      → e < length edges → x ≡ get_or edges e x → edge_at g e ≡ plain_edge x
  edge_read e x within is = ap (λ l. slot l e) s.edges_are ∙ slot_read plain_edge edges e x within is

  -- the list of a node
  pub listed_within : (dir : Direction) (n e : ℕ) → Contains (nth_list (lists_at dir g) n) e → n < length nodes
  listed_within dir n e p = omega (arith, row_within (lists_at dir g) n e p, (s.linked dir).rows, firsts_long dir)

  -- only nodes that exist have edges
  pub near_exists : (dir : Direction) (n e : ℕ)
      → Contains (nth_list (lists_at dir g) n) e → (w : N) × (slot g.nodes n ≡ Some w)
  near_exists dir n e p =
      let within = listed_within dir n e p in
      let r = (s.linked dir).each n (omega (arith, within, firsts_long dir)) in
      let first : first_of end (nth_list (lists_at dir g) n) < end =
      omega (
        arith,
        linked_within end _ _ (lists_at dir g) n _ (s.linked dir) (first_in end (nth_list (lists_at dir g) n) e p),
        nexts_few dir,
      ) in
      slot_vacant_or g.nodes n ((w : N) × (slot g.nodes n ≡ Some w))
      (λ none.
      let at : slot (map weight_of nodes) n ≡ None = ap (λ l. slot l n) (sym s.nodes_are) ∙ none in
      let same = firsts_as_many weight_of dir nodes in
      let is_end =
      shown_none end (map weight_of nodes) (firsts_of dir nodes) n same
      (omega (arith, within, length-map nodes weight_of)) at in
      absurd (omega (arith, first, sym r.starts ∙ is_end)))
      (λ w at. (w, at))

  pub none_shown : (dir : Direction) (n : ℕ) → slot g.nodes n ≡ None → nth_list (lists_at dir g) n ≡ []
  none_shown dir n none = go (nth_list (lists_at dir g) n) refl
    where
      go : (l : List ℕ) → nth_list (lists_at dir g) n ≡ l → nth_list (lists_at dir g) n ≡ []
      go [] is = is
      go (x ∷ xs) is =
          let found = near_exists dir n x (subst (λ l. Contains l x) (sym is) (Contains-here x xs)) in
          absurd (none-some found.0 (sym none ∙ found.1))

  pub first_shown : (dir : Direction) (n : ℕ) (w : N)
      → slot g.nodes n ≡ Some w → get_or (firsts_of dir nodes) n 0 ≡ first_of end (nth_list (lists_at dir g) n)
  first_shown dir n w at =
      let at' : slot (map weight_of nodes) n ≡ Some w = ap (λ l. slot l n) (sym s.nodes_are) ∙ at in
      let same = firsts_as_many weight_of dir nodes in
      let within : n < length nodes =
      elim (cases_lt n (length nodes)) [
        | inl p ↦ p
        | inr past ↦ absurd (none-some w (sym (node_beyond n past) ∙ at))
      ] in
      sym (shown_some end (map weight_of nodes) (firsts_of dir nodes) n w same at')
      ∙ ((s.linked dir).each n (omega (arith, within, firsts_long dir))).starts

  -- the list of a node as a list that begins with its first
  pub row_from : (dir : Direction) (n : ℕ)
      → IsLinkedList end (nexts_of dir edges) (first_of end (nth_list (lists_at dir g) n)) (nth_list (lists_at dir g) n)
  row_from dir n =
      elim (cases_lt n (length nodes)) [
        | inl within ↦
            let r = (s.linked dir).each n (omega (arith, within, firsts_long dir)) in
            record { starts = refl; distinct = r.distinct; goes_on = r.goes_on }
        | inr past ↦
            let none = row_past (lists_at dir g) n (omega (arith, past, (s.linked dir).rows, firsts_long dir)) in
            subst (λ l. IsLinkedList end (nexts_of dir edges) (first_of end l) l) (sym none)
            (record { starts = refl; distinct = tt; goes_on = λ e p. absurd (Contains-nil e p) })
      ]

  near_end_is : (dir : Direction) (x : Edge (Option E) Ix) (w : E) → near_end dir (plain x w) ≡ end_at dir x
  near_end_is Outgoing x w = refl
  near_end_is Incoming x w = refl

  -- the cell of an edge that exists
  pub cell_of : (e : ℕ) (y : PlainEdge E) (x : Edge (Option E) Ix)
      → edge_at g e ≡ Some y → e < length edges → x ≡ get_or edges e x → (w : E) × (x.weight ≡ Some w) × (plain x w ≡ y)
  cell_of e y x at within is = go x.weight refl
    where
      go : (o : Option E) → x.weight ≡ o → (w : E) × (x.weight ≡ Some w) × (plain x w ≡ y)
      go None none = absurd (none-some y (ap (option_map (plain x)) (sym none) ∙ sym (edge_read e x within is) ∙ at))
      go (Some w) some = (
        w,
        some,
        same_Some (plain x w) y (ap (option_map (plain x)) (sym some) ∙ sym (edge_read e x within is) ∙ at),
      )

  pub edge_within : (e : ℕ) (y : PlainEdge E) → edge_at g e ≡ Some y → e < length edges
  edge_within e y at =
      elim (cases_lt e (length edges)) [
        | inl p ↦ p
        | inr past ↦
            absurd (none-some y (sym (ap (λ l. slot l e) s.edges_are ∙ slot_beyond plain_edge edges e past) ∙ at))
      ]

  pub end_stored : (dir : Direction) (e : ℕ) (y : PlainEdge E) (x : Edge (Option E) Ix)
      → edge_at g e ≡ Some y → e < length edges → x ≡ get_or edges e x → end_at dir x ≡ near_end dir y
  end_stored dir e y x at within is =
      let found = cell_of e y x at within is in
      sym (near_end_is dir x found.0) ∙ ap (near_end dir) found.2

  -- an edge stands in the list of its end
  pub stands : (dir : Direction) (e : ℕ) (y : PlainEdge E)
      → edge_at g e ≡ Some y → Contains (nth_list (lists_at dir g) (near_end dir y)) e
  stands dir e y at = (s.listed dir (near_end dir y) e).1 (ap (option_map (near_end dir)) at)

  pub next_shown : (dir : Direction) (e : ℕ) (y : PlainEdge E) (x : Edge (Option E) Ix)
      → edge_at g e ≡ Some y → e < length edges → x ≡ get_or edges e x
      → raw_next dir x ≡ after end (nth_list (lists_at dir g) (near_end dir y)) e
  next_shown dir e y x at within is =
      let there = stands dir e y at in
      let n_in : near_end dir y < length (list_firsts end dir nodes) =
      omega (arith, listed_within dir (near_end dir y) e there, firsts_long dir) in
      same_Some _ _ (sym (slice_get_mapped (raw_next dir) edges e x within is)
      ∙ ((s.linked dir).each (near_end dir y) n_in).goes_on e there)

  cursor_seen : (dir : Direction) (e : ℕ) (y : PlainEdge E)
      → after end (nth_list (lists_at dir g) (near_end dir y)) e ≡ cursor_after dir end g e (Some y)
  cursor_seen Outgoing e y = refl
  cursor_seen Incoming e y = refl

  pub cursor_shown : (dir : Direction) (e : ℕ) (y : PlainEdge E) (x : Edge (Option E) Ix) → edge_at g e ≡ Some y
      → e < length edges → x ≡ get_or edges e x → raw_next dir x ≡ cursor_after dir end g e (edge_at g e)
  cursor_shown dir e y x at within is =
      next_shown dir e y x at within is ∙ cursor_seen dir e y ∙ ap (cursor_after dir end g e) (sym at)

  pub look_shown : (e child next : ℕ) (x : Edge (Option E) Ix) → IsSome (edge_at g e) → x ≡ get_or edges e x
      → child ≡ end_at Incoming x → next ≡ raw_next Outgoing x → IsLook end g e child next
  look_shown e child next x has is child_is next_is =
      let found = some_is _ has in
      let within = edge_within e found.0 found.1 in
      record {
        edge = found.0;
        at = found.1;
        child_is = child_is ∙ end_stored Incoming e found.0 x found.1 within is;
        next_is = next_is ∙ next_shown Outgoing e found.0 x found.1 within is;
      }

  pub list_seen : (dir : Direction) (n : ℕ) → nth_list (lists_at dir g) n ≡ list_at dir g n
  list_seen Outgoing n = refl
  list_seen Incoming n = refl

  pub first_listed : (dir : Direction) (n : ℕ) (x : Node (Option N) Ix) (w : N)
      → n < length nodes → x ≡ get_or nodes n x → x.weight ≡ Some w → raw_first dir x ≡ first_of end (list_at dir g n)
  first_listed dir n x w within is some =
      ap (raw_first dir) is ∙ sym (get_or-map (raw_first dir) nodes n x 0 within)
      ∙ first_shown dir n w (node_read n x within is ∙ some) ∙ ap (first_of end) (list_seen dir n)

  pub none_listed : (dir : Direction) (n : ℕ) → slot g.nodes n ≡ None → end ≡ first_of end (list_at dir g n)
  none_listed dir n none = sym (ap (first_of end) (sym (list_seen dir n) ∙ none_shown dir n none))

  -- what is stored is well formed
  pub end_back : (dir : Direction) (n e : ℕ)
      → end_of dir g e ≡ Some n → (x : PlainEdge E) × (edge_at g e ≡ Some x) × (near_end dir x ≡ n)
  end_back dir n e h = go (edge_at g e) refl
    where
      go : (o : Option (PlainEdge E))
          → edge_at g e ≡ o → (x : PlainEdge E) × (edge_at g e ≡ Some x) × (near_end dir x ≡ n)
      go None at = absurd (none-some n (sym (ap (option_map (near_end dir)) at) ∙ h))
      go (Some x) at = (x, at, same_Some (near_end dir x) n (sym (ap (option_map (near_end dir)) at) ∙ h))

  pub well_formed : IsWellFormed end g
  well_formed =
      record {
        out_list_count = (s.linked Outgoing).rows ∙ firsts_long Outgoing ∙ sym nodes_long;
        in_list_count = (s.linked Incoming).rows ∙ firsts_long Incoming ∙ sym nodes_long;
        parents = λ e x at. let found = near_exists Outgoing x.parent e (stands Outgoing e x at) in
            is_some_at _ found.0 found.1;
        children = λ e x at. let found = near_exists Incoming x.child e (stands Incoming e x at) in
            is_some_at _ found.0 found.1;
        out_of = record {
          exact = λ n e. (
            λ p. end_back Outgoing n e ((s.listed Outgoing n e).0 p),
            λ q. (s.listed Outgoing n e).1 (ap (option_map (near_end Outgoing)) q.1 ∙ ap Some q.2),
          );
          once = λ n. (row_from Outgoing n).distinct;
        };
        in_of = record {
          exact = λ n e. (
            λ p. end_back Incoming n e ((s.listed Incoming n e).0 p),
            λ q. (s.listed Incoming n e).1 (ap (option_map (near_end Incoming)) q.1 ∙ ap Some q.2),
          );
          once = λ n. (row_from Incoming n).distinct;
        };
        node_slots = record { exact = s.node_slots.exact; once = s.node_slots.linked.distinct };
        edge_slots = record { exact = s.edge_slots.exact; once = s.edge_slots.linked.distinct };
        few_nodes = s.node_slots.few;
        few_edges = s.edge_slots.few;
      }

pub no_slots : (A : Type 0) (end head : ℕ) → head ≡ end → IsFreeList {A = A} end [] [] head 0 []
no_slots A end head is =
    record {
      linked = record { starts = is; distinct = tt; goes_on = λ e p. absurd (Contains-nil e p) };
      exact = λ i. (λ p. absurd (Contains-nil i p), λ q. absurd (none-some None q));
      counted = refl;
      long = refl;
      few = omega arith;
    }

pub Stores-empty : {N E Ix : Type 0} (end node_head edge_head : ℕ)
    → node_head ≡ end → edge_head ≡ end → Stores {N = N} {E = E} {Ix = Ix} end [] [] node_head edge_head 0 0 empty
Stores-empty {N} {E} {Ix} end node_head edge_head nodes_end edges_end =
    record {
      nodes_are = refl;
      edges_are = refl;
      linked = elim [
        | Outgoing ↦ record { rows = refl; each = λ n within. absurd (omega (arith, within)) }
        | Incoming ↦ record { rows = refl; each = λ n within. absurd (omega (arith, within)) }
      ];
      listed = elim [
        | Outgoing ↦ λ n e. (λ p. absurd (Contains-nil e p), λ q. absurd (none-some n q))
        | Incoming ↦ λ n e. (λ p. absurd (Contains-nil e p), λ q. absurd (none-some n q))
      ];
      node_slots = no_slots N end node_head nodes_end;
      edge_slots = no_slots (PlainEdge E) end edge_head edges_end;
    }
