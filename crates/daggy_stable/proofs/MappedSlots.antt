-- What stays of a stored graph when its slots are mapped.
use Rattle.std.proofs.Common.{◌≡◌, ℕ, zero, suc, ◌+◌, ◌↔◌, List, [], ◌∷◌, map, length, Option, Some, None, is_some}
use Rattle.std.proofs.Common.{slice_get, refl, sym, ap, subst, ◌∙◌, arith, Contains}
use Rattle.std.proofs.lemmas.Option.{same_Some, none-some}
use Rattle.std.specs.Borrow.{Bor}
use Rattle.std.specs.List.{count_by}
use Rattle.std.specs.Option.{option_map}
use Rattle.daggy_base.specs.declared.index.Direction.{Direction}
use Rattle.daggy_base.specs.declared.index.Direction.TheVariants.{Outgoing, Incoming}
use Rattle.daggy_base.specs.Graph.{Graph, Edge as PlainEdge, slot, near_end}
use Rattle.daggy_cells.specs.declared.cell.Node.{Node}
use Rattle.daggy_cells.specs.declared.cell.Edge.{Edge}
use Rattle.daggy_cells.specs.Links.{follow, linked_lists, nth_list, IsLinkedList, AreLinkedLists, ListsBy}
use Rattle.daggy_base.specs.Mapping.{MapsSlots, IsMapped, weight_in, with_weight}
use Rattle.daggy_cells.specs.Fields.{firsts_of, nexts_of}
use Rattle.daggy_cells.proofs.MappingLemmas.{mapped_length}
use Rattle.daggy_stable.specs.Stored.{weight_of, plain_edge, shown, list_firsts, end_of, stored_graph, IsFreeList}
use Rattle.daggy_stable.specs.Stored.{Stores}
use Rattle.daggy_base.proofs.Slots.{count_cons}

-- what mapped slots have in common with the old
module _ {F I W V A B : Type 0} (step : F → I → Bor W → V → F → Type 0) (of : ℕ → I) (weight : A → W)
    (with : A → V → B) where
  mapped_count : (f : F) (i : ℕ) (xs : List (Option A)) (ys : List (Option B))
      → MapsSlots step of weight with f i xs ys → count_by is_some ys ≡ count_by is_some xs
  mapped_count f i [] ys m = ap (count_by is_some) m
  mapped_count f i (None ∷ xs) ys (later, is, more) =
      omega (
        arith,
        ap (count_by is_some) is,
        count_cons None later,
        count_cons None xs,
        mapped_count f (i + 1) xs later more,
      )
  mapped_count f i (Some x ∷ xs) ys (v, next, called, later, is, more) =
      omega (
        arith,
        ap (count_by is_some) is,
        count_cons (Some (with x v)) later,
        count_cons (Some x) xs,
        mapped_count next (i + 1) xs later more,
      )

  mapped_vacant : (f : F) (i : ℕ) (xs : List (Option A)) (ys : List (Option B))
      → MapsSlots step of weight with f i xs ys → (k : ℕ) → slice_get ys k ≡ Some None ↔ slice_get xs k ≡ Some None
  mapped_vacant f i [] ys m k = (
    λ p. absurd (none-some None (sym (ap (λ l. slice_get l k) m) ∙ p)),
    λ q. absurd (none-some None q),
  )
  mapped_vacant f i (None ∷ xs) ys (later, is, more) zero = (λ p. refl, λ q. ap (λ l. slice_get l 0) is)
  mapped_vacant f i (None ∷ xs) ys (later, is, more) (suc k) =
      let rest = mapped_vacant f (i + 1) xs later more k in
      (λ p. rest.0 (sym (ap (λ l. slice_get l (suc k)) is) ∙ p), λ q. ap (λ l. slice_get l (suc k)) is ∙ rest.1 q)
  mapped_vacant f i (Some x ∷ xs) ys (v, next, called, later, is, more) zero = (
    λ p. absurd (none-some (with x v) (sym (same_Some (Some (with x v)) None (sym (ap (λ l. slice_get l 0) is) ∙ p)))),
    λ q. absurd (none-some x (sym (same_Some (Some x) None q))),
  )
  mapped_vacant f i (Some x ∷ xs) ys (v, next, called, later, is, more) (suc k) =
      let rest = mapped_vacant next (i + 1) xs later more k in
      (λ p. rest.0 (sym (ap (λ l. slice_get l (suc k)) is) ∙ p), λ q. ap (λ l. slice_get l (suc k)) is ∙ rest.1 q)

  mapped_shown : (end : ℕ) (f : F) (i : ℕ) (xs : List (Option A)) (ys : List (Option B)) (links : List ℕ)
      → MapsSlots step of weight with f i xs ys → shown end ys links ≡ shown end xs links
  mapped_shown end f i [] ys links m = ap (λ l. shown end l links) m
  mapped_shown end f i (None ∷ xs) ys [] (later, is, more) = ap (λ l. shown end l []) is
  mapped_shown end f i (None ∷ xs) ys (l ∷ links) (later, is, more) =
      ap (λ z. shown end z (l ∷ links)) is ∙ ap (λ z. end ∷ z) (mapped_shown end f (i + 1) xs later links more)
  mapped_shown end f i (Some x ∷ xs) ys [] (v, next, called, later, is, more) = ap (λ l. shown end l []) is
  mapped_shown end f i (Some x ∷ xs) ys (l ∷ links) (v, next, called, later, is, more) =
      ap (λ z. shown end z (l ∷ links)) is ∙ ap (λ z. l ∷ z) (mapped_shown end next (i + 1) xs later links more)

  -- what the answers do not touch of what stands in a slot
  mapped_keep : {X : Type 0} (h : A → X) (k : B → X) → ((x : A) (v : V) → k (with x v) ≡ h x)
      → (f : F) (i : ℕ) (xs : List (Option A)) (ys : List (Option B)) → MapsSlots step of weight with f i xs ys
      → (e : ℕ) → option_map k (slot ys e) ≡ option_map h (slot xs e)
  mapped_keep h k same f i [] ys m e = ap (λ l. option_map k (slot l e)) m
  mapped_keep h k same f i (None ∷ xs) ys (later, is, more) zero = ap (λ l. option_map k (slot l 0)) is
  mapped_keep h k same f i (None ∷ xs) ys (later, is, more) (suc e) =
      ap (λ l. option_map k (slot l (suc e))) is ∙ mapped_keep h k same f (i + 1) xs later more e
  mapped_keep h k same f i (Some x ∷ xs) ys (v, next, called, later, is, more) zero =
      ap (λ l. option_map k (slot l 0)) is ∙ ap Some (same x v)
  mapped_keep h k same f i (Some x ∷ xs) ys (v, next, called, later, is, more) (suc e) =
      ap (λ l. option_map k (slot l (suc e))) is ∙ mapped_keep h k same next (i + 1) xs later more e

  -- they form the same free list as the old links
  mapped_free_list : {end : ℕ} (f : F) {xs : List (Option A)} {ys : List (Option B)} {links links' : List ℕ}
      {head count : ℕ} {vacant : List ℕ}
      → MapsSlots step of weight with f 0 xs ys → links' ≡ links → IsFreeList end xs links head count vacant
      → IsFreeList end ys links' head count vacant
  mapped_free_list {end} f {xs} {ys} {links} {links'} {head} {count} {vacant} m same t =
      let long = mapped_length step of weight with f 0 xs ys m in
      record {
        linked = subst (λ l. IsLinkedList end l head vacant) (sym same) t.linked;
        exact = λ i. (
          λ p. (mapped_vacant f 0 xs ys m i).1 ((t.exact i).0 p),
          λ q. (t.exact i).1 ((mapped_vacant f 0 xs ys m i).0 q),
        );
        counted = t.counted ∙ sym (mapped_count f 0 xs ys m);
        long = ap length same ∙ t.long ∙ sym long;
        few = omega (arith, t.few, long);
      }

near_end_kept : {E W : Type 0} (dir : Direction) (x : PlainEdge E) (w : W)
    → near_end dir (with_weight x w) ≡ near_end dir x
near_end_kept Outgoing x w = refl
near_end_kept Incoming x w = refl

-- what a loop over the slots of nodes and one over those of edges give
pub record MapsStored {N E V W Ix F G I : Type 0} (of : ℕ → I) (step_f : F → I → Bor N → V → F → Type 0)
    (step_g : G → I → Bor E → W → G → Type 0) (f : F) (g : G) (nodes : List (Node (Option N) Ix))
    (edges : List (Edge (Option E) Ix)) (nodes' : List (Node (Option V) Ix))
    (edges' : List (Edge (Option W) Ix)) : Type 0 where
  pub for_nodes : MapsSlots step_f of (λ w. w) (λ w v. v) f 0 (map weight_of nodes) (map weight_of nodes')
  pub for_edges : MapsSlots step_g of weight_in with_weight g 0 (map plain_edge edges) (map plain_edge edges')
  pub firsts : (dir : Direction) → firsts_of dir nodes' ≡ firsts_of dir nodes
  pub nexts : (dir : Direction) → nexts_of dir edges' ≡ nexts_of dir edges

module _ {N E V W Ix F G I : Type 0} {of : ℕ → I} {step_f : F → I → Bor N → V → F → Type 0}
    {step_g : G → I → Bor E → W → G → Type 0} {f : F} {g : G} {nodes : List (Node (Option N) Ix)}
    {edges : List (Edge (Option E) Ix)} {nodes' : List (Node (Option V) Ix)} {edges' : List (Edge (Option W) Ix)}
    (m : MapsStored of step_f step_g f g nodes edges nodes' edges') (end node_head edge_head : ℕ) where
  abbrev old : Graph N E
  old = stored_graph end nodes edges node_head edge_head

  abbrev new : Graph V W
  new = stored_graph end nodes' edges' node_head edge_head

  same_firsts : (dir : Direction) → list_firsts end dir nodes' ≡ list_firsts end dir nodes
  same_firsts dir =
      mapped_shown step_f of (λ w. w) (λ w v. v) end f 0 (map weight_of nodes) (map weight_of nodes')
      (firsts_of dir nodes') m.for_nodes
      ∙ ap (shown end (map weight_of nodes)) (m.firsts dir)

  same_rows : (dir : Direction)
      → linked_lists (list_firsts end dir nodes') (nexts_of dir edges')
      ≡ linked_lists (list_firsts end dir nodes) (nexts_of dir edges)
  same_rows dir =
      ap (λ z. linked_lists z (nexts_of dir edges')) (same_firsts dir)
      ∙ ap (linked_lists (list_firsts end dir nodes)) (m.nexts dir)

  linked_again : (dir : Direction)
      → AreLinkedLists end (list_firsts end dir nodes) (nexts_of dir edges)
      (linked_lists (list_firsts end dir nodes) (nexts_of dir edges))
      → AreLinkedLists end (list_firsts end dir nodes') (nexts_of dir edges')
      (linked_lists (list_firsts end dir nodes') (nexts_of dir edges'))
  linked_again dir s =
      let one =
      subst (λ z. AreLinkedLists end z (nexts_of dir edges) (linked_lists z (nexts_of dir edges)))
      (sym (same_firsts dir)) s in
      subst (λ z. AreLinkedLists end (list_firsts end dir nodes') z (linked_lists (list_firsts end dir nodes') z))
      (sym (m.nexts dir)) one

  listed_again : (dir : Direction)
      → ListsBy (end_of dir old) (linked_lists (list_firsts end dir nodes) (nexts_of dir edges))
      → ListsBy (end_of dir new) (linked_lists (list_firsts end dir nodes') (nexts_of dir edges'))
  listed_again dir s n e =
      let same =
      mapped_keep step_g of weight_in with_weight (near_end dir) (near_end dir) (near_end_kept dir) g 0
      (map plain_edge edges) (map plain_edge edges') m.for_edges e in
      let one = subst (λ z. Contains (nth_list z n) e ↔ (end_of dir old e ≡ Some n)) (sym (same_rows dir)) (s n e) in
      (λ p. same ∙ one.0 p, λ q. one.1 (sym same ∙ q))

  pub Stores-mapped : {nodes_counted edges_counted : ℕ}
      → Stores end nodes edges node_head edge_head nodes_counted edges_counted old
      → Stores end nodes' edges' node_head edge_head nodes_counted edges_counted new
  Stores-mapped {nodes_counted} {edges_counted} s =
      let vacant : new.vacant_nodes ≡ old.vacant_nodes = ap (λ l. follow l (length l) node_head) (m.firsts Outgoing) in
      let vacant' : new.vacant_edges ≡ old.vacant_edges = ap (λ l. follow l (length l) edge_head) (m.nexts Outgoing) in
      record {
        nodes_are = refl;
        edges_are = refl;
        linked = elim [
          | Outgoing ↦ linked_again Outgoing (s.linked Outgoing)
          | Incoming ↦ linked_again Incoming (s.linked Incoming)
        ];
        listed = elim [
          | Outgoing ↦ listed_again Outgoing (s.listed Outgoing)
          | Incoming ↦ listed_again Incoming (s.listed Incoming)
        ];
        node_slots = subst (IsFreeList end new.nodes (firsts_of Outgoing nodes') node_head nodes_counted) (sym vacant)
            (mapped_free_list step_f of (λ w. w) (λ w v. v) f m.for_nodes (m.firsts Outgoing) s.node_slots);
        edge_slots = subst (IsFreeList end new.edges (nexts_of Outgoing edges') edge_head edges_counted) (sym vacant')
            (mapped_free_list step_g of weight_in with_weight g m.for_edges (m.nexts Outgoing) s.edge_slots);
      }

  pub IsMapped-stored : IsMapped of step_f step_g f g old new
  IsMapped-stored =
      record {
        nodes = m.for_nodes;
        edges = m.for_edges;
        out_lists = same_rows Outgoing;
        in_lists = same_rows Incoming;
        vacant_nodes = ap (λ l. follow l (length l) node_head) (m.firsts Outgoing);
        vacant_edges = ap (λ l. follow l (length l) edge_head) (m.nexts Outgoing);
      }
