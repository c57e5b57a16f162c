-- A graph to which the kept nodes and then the kept edges are added.
use Rattle.std.proofs.Common.{◌≡◌, ℕ, zero, suc, ◌+◌, ◌≤◌, List, [], ◌∷◌, ◌++◌, map, length, Option, Some, None}
use Rattle.std.proofs.Common.{slice_get, slice_set, unwrap_or, refl, sym, ap, subst, ◌∙◌, arith, append_assoc}
use Rattle.std.proofs.Common.{append-nil}
use Rattle.std.proofs.lemmas.List.{length_push, map_push}
use Rattle.std.proofs.lemmas.Option.{same_Some, none-some}
use Rattle.std.specs.Borrow.{Bor}
use Rattle.std.specs.List.{range_with_len}
use Rattle.std.specs.Option.{option_map}
use Rattle.daggy_base.specs.declared.index.Direction.TheVariants.{Outgoing, Incoming}
use Rattle.daggy_base.specs.Graph.{Graph, Edge, empty, slot, ends_of}
use Rattle.daggy_base.specs.Adding.{with_node, with_edge, next_node}
use Rattle.daggy_base.specs.Reduction.{IsDescending}
use Rattle.daggy_base.specs.Filtering.{with_kept_node, new_ends, FiltersNodes, FiltersEdge}
use Rattle.daggy_base.specs.Filtering.{FiltersEdges, IsFiltered, ListsDescend, HaveSameEnds}
use Rattle.daggy_graph.proofs.FilterLemmas.{both_are}

-- lists that descend from below k

abbrev pub DescendBelow : ℕ → List (List ℕ) → Type 0
DescendBelow k [] = Unit {0}
DescendBelow k (r ∷ rs) = IsDescending (k ∷ r) × DescendBelow k rs

raised : (k : ℕ) (r : List ℕ) → IsDescending (k ∷ r) → IsDescending ((k + 1) ∷ r)
raised k [] d = tt
raised k (y ∷ ys) d = (omega (arith, d.0), d.1)

all_raised : (k : ℕ) (rs : List (List ℕ)) → DescendBelow k rs → DescendBelow (k + 1) rs
all_raised k [] d = tt
all_raised k (r ∷ rs) d = (raised k r d.0, all_raised k rs d.1)

descend_with_row : (k : ℕ) (rs : List (List ℕ)) → DescendBelow k rs → DescendBelow k (rs ++ [] ∷ [])
descend_with_row k [] d = (tt, tt)
descend_with_row k (r ∷ rs) d = (d.0, descend_with_row k rs d.1)

descend_with_first : (k : ℕ) (rs : List (List ℕ)) (u : ℕ)
    → DescendBelow k rs → DescendBelow (k + 1) (slice_set rs u (k ∷ unwrap_or (slice_get rs u) []))
descend_with_first k [] u d = tt
descend_with_first k (r ∷ rs) zero d = ((omega arith, d.0), all_raised k rs d.1)
descend_with_first k (r ∷ rs) (suc u) d = (raised k r d.0, descend_with_first k rs u d.1)

lowered : (k : ℕ) (r : List ℕ) → IsDescending (k ∷ r) → IsDescending r
lowered k [] d = tt
lowered k (y ∷ ys) d = d.1

descends_at : (k : ℕ) (rs : List (List ℕ)) (n : ℕ) → DescendBelow k rs → IsDescending (unwrap_or (slice_get rs n) [])
descends_at k [] n d = tt
descends_at k (r ∷ rs) zero d = lowered k r d.0
descends_at k (r ∷ rs) (suc n) d = descends_at k rs n d.1

module _ {V W : Type 0} where
  -- no slot of the graph is vacant, and its lists descend
  pub record IsTidy (h : Graph V W) : Type 0 where
    pub no_vacant_node : h.vacant_nodes ≡ []
    pub no_vacant_edge : h.vacant_edges ≡ []
    pub out_lists : DescendBelow (length h.edges) h.out_lists
    pub in_lists : DescendBelow (length h.edges) h.in_lists

  pub tidy_empty : IsTidy empty
  tidy_empty = record { no_vacant_node = refl; no_vacant_edge = refl; out_lists = tt; in_lists = tt }

  pub tidy_with_node : (h : Graph V W) (v : V) → IsTidy h → IsTidy (with_node h v)
  tidy_with_node h v t =
      rw t.no_vacant_node (
      record {
        no_vacant_node = refl;
        no_vacant_edge = t.no_vacant_edge;
        out_lists = descend_with_row (length h.edges) h.out_lists t.out_lists;
        in_lists = descend_with_row (length h.edges) h.in_lists t.in_lists;
      })

  pub tidy_with_edge : (h : Graph V W) (a b : ℕ) (w : W) → IsTidy h → IsTidy (with_edge h a b w)
  tidy_with_edge h a b w t =
      let x : Edge W = record { parent = a; child = b; weight = w } in
      let longer = sym (length_push h.edges (Some x)) in
      rw t.no_vacant_edge (
      record {
        no_vacant_node = t.no_vacant_node;
        no_vacant_edge = refl;
        out_lists =
            subst
            (λ k. DescendBelow k (slice_set h.out_lists a (length h.edges ∷ unwrap_or (slice_get h.out_lists a) [])))
            longer (descend_with_first (length h.edges) h.out_lists a t.out_lists);
        in_lists =
            subst
            (λ k. DescendBelow k (slice_set h.in_lists b (length h.edges ∷ unwrap_or (slice_get h.in_lists b) [])))
            longer (descend_with_first (length h.edges) h.in_lists b t.in_lists);
      })

  pub tidy_kept_node : (h : Graph V W) (r : Option V) → IsTidy h → IsTidy (with_kept_node h r)
  tidy_kept_node h None t = t
  tidy_kept_node h (Some v) t = tidy_with_node h v t

  pub ListsDescend-tidy : (h : Graph V W) → IsTidy h → ListsDescend h
  ListsDescend-tidy h t = elim [
    | Outgoing ↦ λ n. descends_at (length h.edges) h.out_lists n t.out_lists
    | Incoming ↦ λ n. descends_at (length h.edges) h.in_lists n t.in_lists
  ]

  with_node_nodes : (h : Graph V W) (v : V) → IsTidy h → (with_node h v).nodes ≡ h.nodes ++ Some v ∷ []
  with_node_nodes h v t = rw t.no_vacant_node refl

  with_edge_edges : (h : Graph V W) (a b : ℕ) (w : W)
      → IsTidy h → (with_edge h a b w).edges ≡ h.edges ++ Some (record { parent = a; child = b; weight = w }) ∷ []
  with_edge_edges h a b w t = rw t.no_vacant_edge refl

  longer_by_edge : (h : Graph V W) (a b : ℕ) (w : W) → IsTidy h → length (with_edge h a b w).edges ≡ length h.edges + 1
  longer_by_edge h a b w t = let x : Edge W = record { parent = a; child = b; weight = w } in
      ap length (with_edge_edges h a b w t) ∙ length_push h.edges (Some x)

module _ {V W G : Type 0} where
  -- an edge whose new ends are these was added to the graph h, which made `past`, or left out
  record EdgePassed (h : Graph V W) (ends : Option (ℕ × ℕ)) (later : G → Graph V W → Type 0) : Type 0 where
    next : G
    past : Graph V W
    more : later next past
    tidy : IsTidy past
    nodes : past.nodes ≡ h.nodes
    one_at_most : length past.edges ≤ length h.edges + 1
    stayed : length past.edges ≡ length h.edges + 1 → (at : ℕ × ℕ) × (ends ≡ Some at)
    added : length past.edges ≡ length h.edges + 1
        → map (option_map ends_of) past.edges ≡ map (option_map ends_of) h.edges ++ ends ∷ []

  edge_left_out : {h : Graph V W} (ends : Option (ℕ × ℕ)) (later : G → Graph V W → Type 0) (next : G)
      → IsTidy h → later next h → EdgePassed h ends later
  edge_left_out {h} ends later next t more =
      record {
        next = next;
        past = h;
        more = more;
        tidy = t;
        nodes = refl;
        one_at_most = omega arith;
        stayed = λ long. absurd (omega (arith, long));
        added = λ long. absurd (omega (arith, long));
      }

module _ {N V W F I : Type 0} (step : F → I → Bor N → Option V → F → Type 0) (of : ℕ → I) where
  pub tidy_nodes : (f : F) (i : ℕ) (xs : List (Option N)) (h : Graph V W) (names : List (Option ℕ)) (new : Graph V W)
      → IsTidy h → FiltersNodes step of f i xs h names new → IsTidy new
  tidy_nodes f i [] h names new t p = subst IsTidy (sym p.1) t
  tidy_nodes f i (None ∷ xs) h names new t (rest, is, more) = tidy_nodes f (i + 1) xs h rest new t more
  tidy_nodes f i (Some x ∷ xs) h names new t (r, next, called, rest, is, more) =
      tidy_nodes next (i + 1) xs (with_kept_node h r) rest new (tidy_kept_node h r t) more

module _ {E V W G I : Type 0} (step : G → I → Bor E → Option W → G → Type 0) (of : ℕ → I)
    (names : List (Option ℕ)) where
  edge_passed : (g : G) (e : ℕ) (w : E) (ends : Option (ℕ × ℕ)) {h : Graph V W} (later : G → Graph V W → Type 0)
      → IsTidy h → FiltersEdge step of names g e w ends h later → EdgePassed h ends later
  edge_passed g e w None later t p = edge_left_out None later g t p
  edge_passed g e w (Some ends) later t (None, next, called, more) = edge_left_out (Some ends) later next t more
  edge_passed g e w (Some ends) {h} later t (Some v, next, called, more) =
      let long = longer_by_edge h ends.0 ends.1 v t in
      record {
        next = next;
        past = with_edge h ends.0 ends.1 v;
        more = more;
        tidy = tidy_with_edge h ends.0 ends.1 v t;
        nodes = refl;
        one_at_most = omega (arith, long);
        stayed = λ _. (ends, refl);
        added = λ _.
            ap (map (option_map ends_of)) (with_edge_edges h ends.0 ends.1 v t)
            ∙ map_push (option_map ends_of) h.edges _;
      }

  first_passed : (g : G) (e : ℕ) (x : Edge E) (xs : List (Option (Edge E))) {h : Graph V W} (new : Graph V W)
      → IsTidy h → FiltersEdges step of names g e (Some x ∷ xs) h new
      → EdgePassed h (new_ends names x) (λ next past. FiltersEdges step of names next (e + 1) xs past new)
  first_passed g e x xs new t p =
      edge_passed g e x.weight (new_ends names x) (λ next past. FiltersEdges step of names next (e + 1) xs past new) t p

  pub tidy_edges : (g : G) (e : ℕ) (xs : List (Option (Edge E))) (h new : Graph V W)
      → IsTidy h → FiltersEdges step of names g e xs h new → IsTidy new
  tidy_edges g e [] h new t p = subst IsTidy (sym p) t
  tidy_edges g e (None ∷ xs) h new t p = tidy_edges g (e + 1) xs h new t p
  tidy_edges g e (Some x ∷ xs) h new t p =
      let s = first_passed g e x xs new t p in
      tidy_edges s.next (e + 1) xs s.past new s.tidy s.more

-- nothing was left out

named_itself : (b n i a : ℕ) → slot (map (λ k. Some k) (range_with_len b n)) i ≡ Some a → a ≡ b + i
named_itself b zero i a p = absurd (none-some a p)
named_itself b (suc n) zero a p = omega (arith, same_Some b a p)
named_itself b (suc n) (suc i) a p = omega (arith, named_itself (b + 1) n i a p)

module _ {N V W F I : Type 0} (step : F → I → Bor N → Option V → F → Type 0) (of : ℕ → I) where
  pub nodes_keep_edges : (f : F) (i : ℕ) (xs : List (Option N)) (h : Graph V W) (names : List (Option ℕ))
      (new : Graph V W)
      → FiltersNodes step of f i xs h names new → new.edges ≡ h.edges
  nodes_keep_edges f i [] h names new p = ap (λ z. z.edges) p.1
  nodes_keep_edges f i (None ∷ xs) h names new (rest, is, more) = nodes_keep_edges f (i + 1) xs h rest new more
  nodes_keep_edges f i (Some x ∷ xs) h names new (None, next, called, rest, is, more) =
      nodes_keep_edges next (i + 1) xs h rest new more
  nodes_keep_edges f i (Some x ∷ xs) h names new (Some v, next, called, rest, is, more) =
      nodes_keep_edges next (i + 1) xs (with_node h v) rest new more

  longer_by_node : (h : Graph V W) (v : V) → IsTidy h → length (with_node h v).nodes ≡ length h.nodes + 1
  longer_by_node h v t = ap length (with_node_nodes h v t) ∙ length_push h.nodes (Some v)

  pub nodes_few : (f : F) (i : ℕ) (xs : List (Option N)) (h : Graph V W) (names : List (Option ℕ)) (new : Graph V W)
      → IsTidy h → FiltersNodes step of f i xs h names new → length new.nodes ≤ length h.nodes + length xs
  nodes_few f i [] h names new t p = omega (arith, ap (λ z. length z.nodes) p.1)
  nodes_few f i (None ∷ xs) h names new t (rest, is, more) = omega (arith, nodes_few f (i + 1) xs h rest new t more)
  nodes_few f i (Some x ∷ xs) h names new t (None, next, called, rest, is, more) =
      omega (arith, nodes_few next (i + 1) xs h rest new t more)
  nodes_few f i (Some x ∷ xs) h names new t (Some v, next, called, rest, is, more) =
      omega (
        arith,
        nodes_few next (i + 1) xs (with_node h v) rest new (tidy_with_node h v t) more,
        longer_by_node h v t,
      )

  pub names_whole : (f : F) (i : ℕ) (xs : List (Option N)) (h : Graph V W) (names : List (Option ℕ)) (new : Graph V W)
      → IsTidy h → length new.nodes ≡ length h.nodes + length xs → FiltersNodes step of f i xs h names new
      → names ≡ map (λ k. Some k) (range_with_len (length h.nodes) (length xs))
  names_whole f i [] h names new t all p = p.0
  names_whole f i (None ∷ xs) h names new t all (rest, is, more) = let few = nodes_few f (i + 1) xs h rest new t more in
      absurd (omega (arith, few, all))
  names_whole f i (Some x ∷ xs) h names new t all (None, next, called, rest, is, more) =
      let few = nodes_few next (i + 1) xs h rest new t more in
      absurd (omega (arith, few, all))
  names_whole f i (Some x ∷ xs) h names new t all (Some v, next, called, rest, is, more) =
      let long = longer_by_node h v t in
      let later =
      names_whole next (i + 1) xs (with_node h v) rest new (tidy_with_node h v t) (omega (arith, all, long)) more in
      let first : next_node h ≡ length h.nodes = rw t.no_vacant_node refl in
      is ∙ ap (λ k. Some k ∷ rest) first ∙ ap (λ l. Some (length h.nodes) ∷ l) later
      ∙ ap (λ b. Some (length h.nodes) ∷ map (λ k. Some k) (range_with_len b (length xs))) long

module _ {E V W G I : Type 0} (step : G → I → Bor E → Option W → G → Type 0) (of : ℕ → I)
    (names : List (Option ℕ)) where
  pub edges_keep_nodes : (g : G) (e : ℕ) (xs : List (Option (Edge E))) (h new : Graph V W)
      → IsTidy h → FiltersEdges step of names g e xs h new → new.nodes ≡ h.nodes
  edges_keep_nodes g e [] h new t p = ap (λ z. z.nodes) p
  edges_keep_nodes g e (None ∷ xs) h new t p = edges_keep_nodes g (e + 1) xs h new t p
  edges_keep_nodes g e (Some x ∷ xs) h new t p =
      let s = first_passed step of names g e x xs new t p in
      edges_keep_nodes s.next (e + 1) xs s.past new s.tidy s.more ∙ s.nodes

  edges_few : (g : G) (e : ℕ) (xs : List (Option (Edge E))) (h new : Graph V W)
      → IsTidy h → FiltersEdges step of names g e xs h new → length new.edges ≤ length h.edges + length xs
  edges_few g e [] h new t p = omega (arith, ap (λ z. length z.edges) p)
  edges_few g e (None ∷ xs) h new t p = omega (arith, edges_few g (e + 1) xs h new t p)
  edges_few g e (Some x ∷ xs) h new t p =
      let s = first_passed step of names g e x xs new t p in
      omega (arith, edges_few s.next (e + 1) xs s.past new s.tidy s.more, s.one_at_most)

  pub ends_whole : ((i a : ℕ) → slot names i ≡ Some a → a ≡ i)
      → (g : G) (e : ℕ) (xs : List (Option (Edge E))) {h : Graph V W} (new : Graph V W)
      → IsTidy h → length new.edges ≡ length h.edges + length xs → FiltersEdges step of names g e xs h new
      → map (option_map ends_of) new.edges ≡ map (option_map ends_of) h.edges ++ map (option_map ends_of) xs
  ends_whole itself g e [] {h} new t all p =
      ap (λ z. map (option_map ends_of) z.edges) p ∙ sym (append-nil (map (option_map ends_of) h.edges))
  ends_whole itself g e (None ∷ xs) {h} new t all p = let few = edges_few g (e + 1) xs h new t p in
      absurd (omega (arith, few, all))
  ends_whole itself g e (Some x ∷ xs) {h} new t all p =
      let s = first_passed step of names g e x xs new t p in
      let few = edges_few s.next (e + 1) xs s.past new s.tidy s.more in
      let long : length s.past.edges ≡ length h.edges + 1 = omega (arith, all, few, s.one_at_most) in
      let stayed = s.stayed long in
      let parts = both_are _ _ stayed.0.0 stayed.0.1 (sym stayed.1) in
      let ends_are : new_ends names x ≡ Some (x.parent, x.child) =
      stayed.1 ∙ ap (λ a. Some (a, stayed.0.1)) (itself x.parent stayed.0.0 parts.0)
      ∙ ap (λ b. Some (x.parent, b)) (itself x.child stayed.0.1 parts.1) in
      ends_whole itself s.next (e + 1) xs new s.tidy (omega (arith, all, long)) s.more
      ∙ ap (λ l. l ++ map (option_map ends_of) xs) (s.added long)
      ∙ append_assoc (map (option_map ends_of) h.edges) (new_ends names x ∷ []) (map (option_map ends_of) xs)
      ∙ ap (λ o. map (option_map ends_of) h.edges ++ o ∷ map (option_map ends_of) xs) ends_are

module _ {N E V W F G I : Type 0} {of : ℕ → I} {step_f : F → I → Bor N → Option V → F → Type 0}
    {step_g : G → I → Bor E → Option W → G → Type 0} {f : F} {g : G} {old : Graph N E} {new : Graph V W}
    (p : IsFiltered of step_f step_g f g old new) where
  pub ListsDescend-filtered : ListsDescend new
  ListsDescend-filtered =
      ListsDescend-tidy new (tidy_edges step_g of p.names g 0 old.edges p.middle new
      (tidy_nodes step_f of f 0 old.nodes empty p.names p.middle tidy_empty p.nodes) p.edges)

  pub HaveSameEnds-filtered : length new.nodes ≡ length old.nodes → length new.edges ≡ length old.edges
      → HaveSameEnds old new
  HaveSameEnds-filtered all all_edges =
      let tidy = tidy_nodes step_f of f 0 old.nodes empty p.names p.middle tidy_empty p.nodes in
      let none : p.middle.edges ≡ [] = nodes_keep_edges step_f of f 0 old.nodes empty p.names p.middle p.nodes in
      let same_nodes : new.nodes ≡ p.middle.nodes =
      edges_keep_nodes step_g of p.names g 0 old.edges p.middle new tidy p.edges in
      let are =
      names_whole step_f of f 0 old.nodes empty p.names p.middle tidy_empty (omega (arith, all, ap length same_nodes))
      p.nodes in
      let itself : (i a : ℕ) → slot p.names i ≡ Some a → a ≡ i = λ i a q.
      omega (arith, named_itself 0 (length old.nodes) i a (subst (λ l. slot l i ≡ Some a) are q)) in
      ends_whole step_g of p.names itself g 0 old.edges new tidy (omega (arith, all_edges, ap length none))
      p.edges
      ∙ ap (λ l. map (option_map ends_of) l ++ map (option_map ends_of) old.edges) none
