-- Removing an edge: it is unlinked from its two lists, and the last edge is moved into its index.
use Rattle.std.proofs.Common.{◌≡◌, ◌≢◌, ℕ, suc, ◌-◌, ◌<◌, ◌≤◌, List, map, length, get_or, set, take, Some, None}
use Rattle.std.proofs.Common.{slice_get, refl, sym, ap, subst, inl, inr, ◌∙◌, arith, Contains}
use Rattle.std.proofs.lemmas.Bool.{cases_eq}
use Rattle.std.specs.List.{swap_remove}
use Rattle.std.proofs.lemmas.List.{length-map, length-set, length-take-le}
use Rattle.std.proofs.lemmas.Option.{slice_get-get_or, same_Some}
use Rattle.daggy_base.specs.Cursor.{first_of, after}
use Rattle.daggy_base.specs.Graph.{Graph}
use Rattle.daggy_base.specs.Removal.{without, renamed}
use Rattle.daggy_cells.specs.declared.cell.Node.{Node}
use Rattle.daggy_cells.specs.declared.cell.Edge.{Edge}
use Rattle.daggy_base.specs.declared.index.Direction.{Direction}
use Rattle.daggy_base.specs.declared.index.Direction.TheVariants.{Outgoing, Incoming}
use Rattle.daggy_cells.specs.Links.{nth_list, AreLinkedLists, ListsEach}
use Rattle.daggy_cells.specs.Raw.{raw_first, raw_next}
use Rattle.daggy_cells.specs.Fields.{weight_of, plain_edge, end_at, firsts_of, nexts_of, ends_of, lists_at, IsReady}
use Rattle.daggy_cells.specs.Fields.{IsHead, IsRedirected}
use Rattle.daggy_graph.specs.Stored.{Stores, IsDetached}
use Rattle.daggy_cells.proofs.LinkedLists.{Contains-from_without, Contains-without, renamed_other, first_cases}
use Rattle.daggy_cells.proofs.LinkedLists.{first_of-without}
use Rattle.daggy_cells.proofs.LinkedListChanges.{row-map, row_within, AreLinkedLists-with_edge_unlinked}
use Rattle.daggy_cells.proofs.LinkedListChanges.{AreLinkedLists-renamed, AreLinkedLists-cut, ListsEach-removed}
use Rattle.daggy_base.proofs.Lists.{IsSwapRemoved, IsSwapRemoved-from, IsSwapRemoved-mapped, map-swap_remove}
use Rattle.daggy_cells.proofs.RedirectLemmas.{IsListOf, list_of_end, Ready-row, Redirected-list_from, head_kept}

-- the edge e is there, and `last` is the last one
pub record HasLastEdge {E Ix : Type 0} (edges : List (Edge E Ix)) (e last : ℕ) : Type 0 where
  pub inside : e < length edges
  pub long : length edges ≡ suc last

-- the links and the ends of that direction are the same
record SameLinks {N E Ix : Type 0} (dir : Direction) (nodes nodes' : List (Node N Ix)) (edges edges' : List (Edge E Ix))
    : Type 0 where
  firsts : firsts_of dir nodes' ≡ firsts_of dir nodes
  nexts : nexts_of dir edges' ≡ nexts_of dir edges
  ends : ends_of dir edges' ≡ ends_of dir edges

-- the edge is taken out of its list of that direction, and the edges keep their ends of that direction
record IsTakenOut {N E Ix : Type 0} (end : ℕ) (dir : Direction) (g : Graph N E) (e : ℕ) (edges : List (Edge E Ix))
    (nodes' : List (Node N Ix)) (edges' : List (Edge E Ix)) : Type 0 where
  ends : ends_of dir edges' ≡ ends_of dir edges
  linked : AreLinkedLists end (firsts_of dir nodes') (nexts_of dir edges') (map (without e) (lists_at dir g))

as_long : {E Ix : Type 0} (dir : Direction) (edges edges' : List (Edge E Ix))
    → ends_of dir edges' ≡ ends_of dir edges → length edges' ≡ length edges
as_long dir edges edges' ends = sym (length-map edges' (end_at dir)) ∙ ap length ends ∙ length-map edges (end_at dir)

module _ {N E Ix : Type 0} {end : ℕ} {nodes : List (Node N Ix)} {edges : List (Edge E Ix)} {g : Graph N E}
    (s : Stores end nodes edges g) where
  module _ (dir : Direction) where
    stands : (f : ℕ) → f < length edges → slice_get (ends_of dir edges) f ≡ Some (get_or (ends_of dir edges) f 0)
    stands f f_in = slice_get-get_or (ends_of dir edges) f 0 (omega (arith, f_in, length-map edges (end_at dir)))

    there : (f : ℕ) → f < length edges → Contains (nth_list (lists_at dir g) (get_or (ends_of dir edges) f 0)) f
    there f f_in = (s.listed dir (get_or (ends_of dir edges) f 0) f).1 (stands f f_in)

    -- an edge's ends are there
    pub n_in : (f : ℕ) → f < length edges → get_or (ends_of dir edges) f 0 < length nodes
    n_in f f_in =
        omega (
          arith,
          row_within (lists_at dir g) _ f (there f f_in),
          (s.linked dir).rows,
          length-map nodes (raw_first dir),
        )

  module _ {e last : ℕ} (has : HasLastEdge edges e last) {dir : Direction} {nodes' : List (Node N Ix)}
      {edges' : List (Edge E Ix)} where
    module _ (same : SameLinks dir nodes nodes' edges edges') where
      linked' : AreLinkedLists end (firsts_of dir nodes') (nexts_of dir edges') (lists_at dir g)
      linked' = rw (same.firsts, same.nexts) (s.linked dir)

      n_in' : get_or (ends_of dir edges) e 0 < length nodes'
      n_in' =
          omega (
            arith,
            n_in dir e has.inside,
            sym (length-map nodes' (raw_first dir)) ∙ ap length same.firsts ∙ length-map nodes (raw_first dir),
          )

      list_of_e : let n = get_or (ends_of dir edges) e 0 in
          IsListOf end dir nodes' edges' e n (nth_list (lists_at dir g) n)
      list_of_e =
          list_of_end linked' (ap (λ l. get_or l e 0) same.ends) n_in'
          (omega (arith, s.few_edges, as_long dir edges edges' same.ends))

      -- before e is taken out of its list
      unlink_ready : IsReady end dir nodes' edges' e
      unlink_ready =
          Ready-row list_of_e n_in' (omega (arith, has.inside, as_long dir edges edges' same.ends))
          (there dir e has.inside)

      taken_out : {new : ℕ} {nodes'' : List (Node N Ix)} {edges'' : List (Edge E Ix)}
          → new ≡ get_or (nexts_of dir edges) e 0 → IsRedirected dir nodes' edges' e new nodes'' edges''
          → IsTakenOut end dir g e edges nodes'' edges''
      taken_out {new} {nodes''} {edges''} new_is step =
          let goes : slice_get (nexts_of dir edges') e ≡ Some new =
          ap (λ l. slice_get l e) same.nexts
          ∙ slice_get-get_or (nexts_of dir edges) e 0 (omega (arith, has.inside, length-map edges (raw_next dir)))
          ∙ ap Some (sym new_is) in
          record {
            ends = step.keeps_edges.ends dir ∙ same.ends;
            linked =
                AreLinkedLists-with_edge_unlinked (slice_get (ends_of dir edges)) linked' (s.listed dir)
                (stands dir e has.inside) (omega (arith, n_in', length-map nodes' (raw_first dir)))
                (omega (arith, has.inside, s.few_edges)) goes
                (Redirected-list_from list_of_e nodes'' edges'' step.links);
          }

    module _ (out : IsTakenOut end dir g e edges nodes' edges') where
      long' : length edges' ≡ length edges
      long' = as_long dir edges edges' out.ends

      nodes_kept : length nodes' ≡ length nodes
      nodes_kept =
          sym (length-map nodes' (raw_first dir)) ∙ sym out.linked.rows
          ∙ length-map (lists_at dir g) (without e) ∙ (s.linked dir).rows ∙ length-map nodes (raw_first dir)

      kept_row : (m f : ℕ) → Contains (nth_list (map (without e) (lists_at dir g)) m) f
          → Contains (nth_list (lists_at dir g) m) f × (f ≢ e)
      kept_row m f p =
          Contains-from_without e f (nth_list (lists_at dir g) m)
          (subst (λ l. Contains l f) (row-map (without e) refl (lists_at dir g) m) p)

      apart_rows : (m k f : ℕ) → Contains (nth_list (map (without e) (lists_at dir g)) m) f
          → Contains (nth_list (map (without e) (lists_at dir g)) k) f → m ≡ k
      apart_rows m k f p q =
          same_Some m k (sym ((s.listed dir m f).0 (kept_row m f p).0) ∙ (s.listed dir k f).0 (kept_row k f q).0)

      no_e : (m : ℕ) → ¬ Contains (nth_list (map (without e) (lists_at dir g)) m) e
      no_e m p = (kept_row m e p).1 refl

      last_there : e ≢ last
          → Contains (nth_list (map (without e) (lists_at dir g)) (get_or (ends_of dir edges) last 0)) last
      last_there differs =
          subst (λ l. Contains l last) (sym (row-map (without e) refl (lists_at dir g) _))
          (Contains-without e last _ (λ q. differs (sym q)) (there dir last (omega (arith, has.long))))

      last_in : get_or (ends_of dir edges) last 0 < length nodes'
      last_in = omega (arith, n_in dir last (omega (arith, has.long)), nodes_kept)

      list_of_last : let n = get_or (ends_of dir edges) last 0 in
          IsListOf end dir nodes' edges' last n (nth_list (map (without e) (lists_at dir g)) n)
      list_of_last =
          list_of_end out.linked (ap (λ l. get_or l last 0) out.ends) last_in (omega (arith, s.few_edges, long'))

      -- before the last edge is renamed
      rename_ready : e ≢ last → IsReady end dir nodes' edges' last
      rename_ready differs =
          Ready-row list_of_last last_in (omega (arith, has.long, long')) (last_there differs)

      renamed_links : {nodes'' : List (Node N Ix)} {edges'' : List (Edge E Ix)} (nexts : List ℕ) → e ≢ last
          → IsRedirected dir nodes' edges' last e nodes'' edges'' → IsSwapRemoved (nexts_of dir edges'') nexts e last
          → AreLinkedLists end (firsts_of dir nodes'') nexts
          (map (map (renamed last e)) (map (without e) (lists_at dir g)))
      renamed_links {nodes''} {edges''} nexts differs step moves =
          AreLinkedLists-renamed out.linked
          (record { apart = apart_rows; unlisted = no_e; there = last_there differs; differs = differs })
          (omega (arith, last_in, length-map nodes' (raw_first dir)))
          (omega (arith, has.long, long', length-map edges' (raw_next dir))) (omega (arith, has.long, s.few_edges))
          (Redirected-list_from list_of_last nodes'' edges'' step.links) moves

      -- where the list of the last edge begins
      moved_head : {node first next node' first' : ℕ} → IsHead dir nodes edges last node first
          → next ≡ get_or (nexts_of dir edges) e 0 → node' ≡ node → first' ≡ renamed e next first
          → IsHead dir nodes' edges' last node' first'
      moved_head {first = first} {next = next} head next_is node_is first_is =
          let m = get_or (ends_of dir edges) last 0 in
          let m_in : m < length nodes = n_in dir last (omega (arith, has.long)) in
          let list = nth_list (lists_at dir g) m in
          let was = (s.linked dir).each m (omega (arith, m_in, length-map nodes (raw_first dir))) in
          let is = out.linked.each m (omega (arith, m_in, nodes_kept, length-map nodes' (raw_first dir))) in
          let inside : e ≢ end = omega (arith, has.inside, s.few_edges) in
          let starts : first ≡ first_of end list = head.first_is ∙ was.starts in
          let goes : slice_get (nexts_of dir edges) e ≡ Some next =
          slice_get-get_or (nexts_of dir edges) e 0 (omega (arith, has.inside, length-map edges (raw_next dir)))
          ∙ ap Some (sym next_is) in
          let renames : renamed e (after end list e) first ≡ renamed e next first =
          elim (cases_eq first e) [
            | inl same ↦
                let there : Contains list e = elim (first_cases end list) [
                  | inl first ↦ subst (Contains list) (sym starts ∙ same) first
                  | inr none ↦ absurd (inside (sym same ∙ starts ∙ none))
                ] in
                ap (λ z. renamed e z first) (same_Some _ next (sym (was.goes_on e there) ∙ goes))
            | inr other ↦ renamed_other e (after end list e) first other ∙ sym (renamed_other e next first other)
          ] in
          let end_is : get_or (ends_of dir edges') last 0 ≡ m = ap (λ l. get_or l last 0) out.ends in
          record {
            node_is = node_is ∙ head.node_is ∙ sym end_is;
            first_is =
                first_is ∙ sym renames ∙ ap (renamed e (after end list e)) starts
                ∙ sym (first_of-without end e list was.distinct inside)
                ∙ sym (ap (first_of end) (row-map (without e) refl (lists_at dir g) m)) ∙ sym is.starts
                ∙ ap (λ z. get_or (firsts_of dir nodes') z 0) (sym end_is);
          }

      -- e is the last edge
      cut_links : (nexts : List ℕ) → e ≡ last → IsSwapRemoved (nexts_of dir edges') nexts e last
          → AreLinkedLists end (firsts_of dir nodes') nexts
          (map (map (renamed last e)) (map (without e) (lists_at dir g)))
      cut_links nexts same moves =
          AreLinkedLists-cut end nexts e last out.linked no_e
          (omega (arith, has.long, long', length-map edges' (raw_next dir))) same moves

-- the nodes keep their weights, and the edges their weights and ends
pub record AreRelinked {N E Ix : Type 0} (nodes nodes' : List (Node N Ix)) (edges edges' : List (Edge E Ix))
    : Type 0 where
  pub weights : map weight_of nodes' ≡ map weight_of nodes
  pub plain : map plain_edge edges' ≡ map plain_edge edges
  pub ends : (d : Direction) → ends_of d edges' ≡ ends_of d edges

-- all of it
pub IsDetached-from : {N E Ix : Type 0} {end : ℕ} {nodes : List (Node N Ix)} {edges : List (Edge E Ix)} {g : Graph N E}
    → Stores end nodes edges g → {e last : ℕ} → HasLastEdge edges e last
    → {nodes' : List (Node N Ix)} {edges' : List (Edge E Ix)} → AreRelinked nodes nodes' edges edges'
    → ((d : Direction) (nexts : List ℕ) → IsSwapRemoved (nexts_of d edges') nexts e last
    → AreLinkedLists end (firsts_of d nodes') nexts (map (map (renamed last e)) (map (without e) (lists_at d g))))
    → IsDetached end g e nodes' edges'
IsDetached-from {N} {E} {Ix} {end} {nodes} {edges} {g} s {e} {last} has {nodes'} {edges'} kept links x =
    let edges_long : length edges' ≡ length edges =
    sym (length-map edges' plain_edge) ∙ ap length kept.plain ∙ length-map edges plain_edge in
    let nodes_long : length nodes' ≡ length nodes =
    sym (length-map nodes' weight_of) ∙ ap length kept.weights ∙ length-map nodes weight_of in
    let moves = IsSwapRemoved-from edges' e last x (omega (arith, has.inside, edges_long)) (edges_long ∙ has.long) in
    let count : length g.edges - 1 ≡ last =
    omega (arith, ap length s.edges_are, length-map edges plain_edge, has.long) in
    let listed : (d : Direction)
    → ListsEach (ends_of d (swap_remove edges' e x)) (map (map (renamed last e)) (map (without e) (lists_at d g))) =
    λ d.
    ListsEach-removed (ends_of d edges') (ends_of d (swap_remove edges' e x)) (lists_at d g) e last
    (subst (λ l. ListsEach l (lists_at d g)) (sym (kept.ends d)) (s.listed d))
    (omega (arith, has.inside, edges_long, length-map edges' (end_at d)))
    (IsSwapRemoved-mapped (end_at d) edges' (swap_remove edges' e x) e last moves) in
    let linked : (d : Direction)
    → AreLinkedLists end (firsts_of d nodes') (nexts_of d (swap_remove edges' e x))
    (map (map (renamed last e)) (map (without e) (lists_at d g))) =
    λ d.
    links d (nexts_of d (swap_remove edges' e x))
    (IsSwapRemoved-mapped (raw_next d) edges' (swap_remove edges' e x) e last moves) in
    let shorter : length (swap_remove edges' e x) ≤ length edges' =
    omega (
      arith,
      length-take-le (length edges' - 1) (set edges' e (get_or edges' (length edges' - 1) x))
          (omega (arith, length-set edges' e (get_or edges' (length edges' - 1) x))),
    ) in
    rw count (
    record {
      nodes_are = s.nodes_are ∙ sym kept.weights;
      edges_are =
          ap (λ k. take k (set g.edges e (get_or g.edges k None))) (sym count)
          ∙ ap (λ l. swap_remove l e None) (s.edges_are ∙ sym kept.plain)
          ∙ sym (map-swap_remove plain_edge edges' e x None (omega (arith, has.inside, edges_long)));
      no_vacant_node = s.no_vacant_node;
      no_vacant_edge = s.no_vacant_edge;
      linked = elim [ Outgoing ↦ linked Outgoing | Incoming ↦ linked Incoming ];
      listed = elim [ Outgoing ↦ listed Outgoing | Incoming ↦ listed Incoming ];
      few_nodes = omega (arith, s.few_nodes, nodes_long);
      few_edges = omega (arith, s.few_edges, edges_long, shorter);
    })

AreLinkedLists-seen : {end : ℕ} {lists : List (List ℕ)} (firsts firsts' nexts nexts' : List ℕ) → firsts' ≡ firsts
    → nexts' ≡ nexts → AreLinkedLists end firsts nexts lists → AreLinkedLists end firsts' nexts' lists
AreLinkedLists-seen firsts firsts' nexts nexts' p q l = rw (p, q) l

-- what follows the edge in its two lists
pub record AreNexts {E Ix : Type 0} (edges : List (Edge E Ix)) (e out into : ℕ) : Type 0 where
  pub out_is : out ≡ get_or (nexts_of Outgoing edges) e 0
  pub into_is : into ≡ get_or (nexts_of Incoming edges) e 0

-- the calls that `detach` makes, in turn
module _ {N E Ix : Type 0} {end : ℕ} {nodes : List (Node N Ix)} {edges : List (Edge E Ix)} {g : Graph N E}
    (s : Stores end nodes edges g) {e last : ℕ} (has : HasLastEdge edges e last) where
  same : SameLinks Outgoing nodes nodes edges edges
  same = record { firsts = refl; nexts = refl; ends = refl }

  pub ready_1 : IsReady end Outgoing nodes edges e
  ready_1 = unlink_ready s has same

  module _ {out into : ℕ} (nexts : AreNexts edges e out into) {n1 : List (Node N Ix)} {e1 : List (Edge E Ix)}
      (s1 : IsRedirected Outgoing nodes edges e out n1 e1) where
    out_1 : IsTakenOut end Outgoing g e edges n1 e1
    out_1 = taken_out s has same nexts.out_is s1

    same_1 : SameLinks Incoming nodes n1 edges e1
    same_1 = record { firsts = s1.keeps.firsts; nexts = s1.keeps_edges.nexts; ends = s1.keeps_edges.ends Incoming }

    pub ready_2 : IsReady end Incoming n1 e1 e
    ready_2 = unlink_ready s has same_1

    pub head_2 : {node first : ℕ} → IsHead Incoming nodes edges e node first → IsHead Incoming n1 e1 e node first
    head_2 = head_kept s1.keeps.firsts (s1.keeps_edges.ends Incoming)

    module _ {n2 : List (Node N Ix)} {e2 : List (Edge E Ix)} (s2 : IsRedirected Incoming n1 e1 e into n2 e2) where
      ends_2 : (d : Direction) → ends_of d e2 ≡ ends_of d edges
      ends_2 d = s2.keeps_edges.ends d ∙ s1.keeps_edges.ends d

      out_2 : IsTakenOut end Outgoing g e edges n2 e2
      out_2 = record {
        ends = ends_2 Outgoing;
        linked = AreLinkedLists-seen _ _ _ _ s2.keeps.firsts s2.keeps_edges.nexts out_1.linked;
      }

      in_2 : IsTakenOut end Incoming g e edges n2 e2
      in_2 = taken_out s has same_1 nexts.into_is s2

      pub ready_3 : e ≢ last → IsReady end Outgoing n2 e2 last
      ready_3 = rename_ready s has out_2

      pub head_3 : {node first node' first' : ℕ} → IsHead Outgoing nodes edges last node first → node' ≡ node
          → first' ≡ renamed e out first → IsHead Outgoing n2 e2 last node' first'
      head_3 head = moved_head s has out_2 head nexts.out_is

      pub detached_last : e ≡ last → IsDetached end g e n2 e2
      detached_last same =
          IsDetached-from s has (record {
            weights = s2.keeps.weights ∙ s1.keeps.weights;
            plain = s2.keeps_edges.edges ∙ s1.keeps_edges.edges;
            ends = ends_2;
          }) (elim [
            | Outgoing ↦ λ nexts moves. cut_links s has out_2 nexts same moves
            | Incoming ↦ λ nexts moves. cut_links s has in_2 nexts same moves
          ])

      module _ {n3 : List (Node N Ix)} {e3 : List (Edge E Ix)} (s3 : IsRedirected Outgoing n2 e2 last e n3 e3) where
        ends_3 : (d : Direction) → ends_of d e3 ≡ ends_of d edges
        ends_3 d = s3.keeps_edges.ends d ∙ ends_2 d

        in_3 : IsTakenOut end Incoming g e edges n3 e3
        in_3 = record {
          ends = ends_3 Incoming;
          linked = AreLinkedLists-seen _ _ _ _ s3.keeps.firsts s3.keeps_edges.nexts in_2.linked;
        }

        pub ready_4 : e ≢ last → IsReady end Incoming n3 e3 last
        ready_4 = rename_ready s has in_3

        pub head_4 : {node first node' first' : ℕ} → IsHead Incoming nodes edges last node first → node' ≡ node
            → first' ≡ renamed e into first → IsHead Incoming n3 e3 last node' first'
        head_4 head = moved_head s has in_3 head nexts.into_is

        module _ {n4 : List (Node N Ix)} {e4 : List (Edge E Ix)} (s4 : IsRedirected Incoming n3 e3 last e n4 e4) where
          pub detached_other : e ≢ last → IsDetached end g e n4 e4
          detached_other differs =
              IsDetached-from s has (record {
                weights = s4.keeps.weights ∙ s3.keeps.weights ∙ s2.keeps.weights ∙ s1.keeps.weights;
                plain = s4.keeps_edges.edges ∙ s3.keeps_edges.edges ∙ s2.keeps_edges.edges ∙ s1.keeps_edges.edges;
                ends = λ d. s4.keeps_edges.ends d ∙ ends_3 d;
              }) (elim [
                | Outgoing ↦ λ nexts moves.
                    let at_3 =
                    renamed_links s has out_2 nexts differs s3
                    (subst (λ l. IsSwapRemoved l nexts e last) s4.keeps_edges.nexts moves) in
                    AreLinkedLists-seen _ _ _ _ s4.keeps.firsts refl at_3
                | Incoming ↦ λ nexts moves. renamed_links s has in_3 nexts differs s4 moves
              ])
