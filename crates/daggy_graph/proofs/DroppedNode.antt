-- Moving the last node into the index of a node without edges.
use Rattle.std.proofs.Common.{◌≡◌, ◌≢◌, ◌↔◌, ℕ, suc, ◌-◌, ◌<◌, ◌≤◌, List, [], ◌∷◌, map, length, get_or, set, Option}
use Rattle.std.proofs.Common.{Some, None, slice_get, unwrap_or, refl, sym, ap, subst, ◌∙◌, inl, inr, arith, Contains}
use Rattle.std.specs.List.{swap_remove}
use Rattle.std.specs.Option.{option_map}
use Rattle.std.proofs.lemmas.Bool.{cases_eq, cases_lt}
use Rattle.std.proofs.lemmas.List.{length-map, length-set, length-take-le, get_or-map}
use Rattle.std.proofs.lemmas.Option.{slice_get-map, same_Some, none-some, unwrap_or-slice_get}
use Rattle.daggy_base.specs.Graph.{Graph}
use Rattle.daggy_base.specs.Removal.{renamed, with_ends_renamed, with_node_dropped}
use Rattle.daggy_base.specs.declared.kind.Kind.TheVariants.{Compact}
use Rattle.daggy_cells.specs.declared.cell.Node.{Node}
use Rattle.daggy_cells.specs.declared.cell.Edge.{Edge}
use Rattle.daggy_base.specs.declared.index.Direction.{Direction}
use Rattle.daggy_base.specs.declared.index.Direction.TheVariants.{Outgoing, Incoming}
use Rattle.daggy_cells.specs.Links.{nth_list, IsLinkedList, AreLinkedLists, ListsEach}
use Rattle.daggy_cells.specs.Raw.{raw_first, raw_next}
use Rattle.daggy_cells.specs.Fields.{weight_of, plain_edge, with_end_renamed, firsts_of, nexts_of, ends_of, lists_at}
use Rattle.daggy_cells.specs.Fields.{list_from}
use Rattle.daggy_graph.specs.Stored.{Stores}
use Rattle.daggy_base.proofs.Lists.{Contains-nil, IsSwapRemoved, IsSwapRemoved-from, IsSwapRemoved-mapped}
use Rattle.daggy_base.proofs.Lists.{map-swap_remove}
use Rattle.daggy_cells.proofs.LinkedLists.{row_is, renamed_here, renamed_other}
use Rattle.daggy_cells.proofs.LinkedListChanges.{row_within, IsLinkedList-at, renamed_itself}

pub length-swap_remove : {A : Type 0} (xs : List A) (i last : ℕ) (d : A)
    → length xs ≡ suc last → length (swap_remove xs i d) ≡ last
length-swap_remove xs i last d long =
    let is : length xs - 1 ≡ last = omega (arith, long) in
    length-take-le (length xs - 1) (set xs i (get_or xs (length xs - 1) d))
    (omega (arith, length-set xs i (get_or xs (length xs - 1) d)))
    ∙ is

get_or_same : (xs ys : List ℕ) (i j d : ℕ) → slice_get xs i ≡ slice_get ys j → get_or xs i d ≡ get_or ys j d
get_or_same xs ys i j d p = sym (unwrap_or-slice_get xs i d) ∙ ap (λ o. unwrap_or o d) p ∙ unwrap_or-slice_get ys j d

pub AreLinkedLists-dropped : {end : ℕ} {firsts firsts' nexts : List ℕ} {lists : List (List ℕ)} {lists' : List (List ℕ)}
    {i last : ℕ}
    → AreLinkedLists end firsts nexts lists → IsSwapRemoved firsts firsts' i last → IsSwapRemoved lists lists' i last
    → length firsts' ≡ last → length lists' ≡ last → AreLinkedLists end firsts' nexts lists'
AreLinkedLists-dropped {end} {firsts} {firsts'} {nexts} {lists} {lists'} {i} {last} linked moves rows long rows_long =
    record {
      rows = rows_long ∙ sym long;
      each = λ m within.
          elim (cases_eq m i) [
            | inl same ↦
                let differs : i ≢ last = λ q. omega (arith, same, q, within, long) in
                IsLinkedList-at (get_or firsts last 0) (get_or firsts' m 0) (nth_list lists last) (nth_list lists' m)
                (get_or_same firsts' firsts m last 0 (ap (slice_get firsts') same ∙ moves.moved differs))
                (ap (λ o. unwrap_or o []) (ap (slice_get lists') same ∙ rows.moved differs))
                (linked.each last (omega (arith, moves.long)))
            | inr other ↦
                let below : m < last = omega (arith, within, long) in
                IsLinkedList-at (get_or firsts m 0) (get_or firsts' m 0) (nth_list lists m) (nth_list lists' m)
                (get_or_same firsts' firsts m m 0 (moves.kept m below other))
                (ap (λ o. unwrap_or o []) (rows.kept m below other)) (linked.each m (omega (arith, below, moves.long)))
          ];
    }

pub ListsEach-dropped : (ends ends' : List ℕ) (lists : List (List ℕ)) {lists' : List (List ℕ)} (i last : ℕ)
    → ListsEach ends lists → nth_list lists i ≡ [] → IsSwapRemoved lists lists' i last
    → ends' ≡ map (renamed last i) ends → ListsEach ends' lists'
ListsEach-dropped ends ends' lists {lists'} i last listed empty rows ends_is m f = (forwards, backwards)
  where
    reads : slice_get ends' f ≡ option_map (renamed last i) (slice_get ends f)
    reads = ap (λ l. slice_get l f) ends_is ∙ slice_get-map (renamed last i) ends f

    not_i : (k : ℕ) → slice_get ends f ≡ Some k → k ≢ i
    not_i k p same = Contains-nil f (subst (λ l. Contains l f) (ap (nth_list lists) same ∙ empty) ((listed k f).1 p))

    forwards : Contains (nth_list lists' m) f → slice_get ends' f ≡ Some m
    forwards p =
        elim (cases_lt m last) [
          | inr past ↦
              absurd (Contains-nil f (subst (λ l. Contains l f) (ap (λ o. unwrap_or o []) (rows.gone m past)) p))
          | inl below ↦ elim (cases_eq m i) [
            | inl same ↦
                let at : nth_list lists' m ≡ nth_list lists last =
                ap (λ o. unwrap_or o [])
                (ap (slice_get lists') same ∙ rows.moved (λ q. omega (arith, same, q, below))) in
                reads ∙ ap (option_map (renamed last i)) ((listed last f).0 (subst (λ l. Contains l f) at p))
                ∙ ap Some (renamed_here last i ∙ sym same)
            | inr other ↦
                let at : nth_list lists' m ≡ nth_list lists m = ap (λ o. unwrap_or o []) (rows.kept m below other) in
                reads ∙ ap (option_map (renamed last i)) ((listed m f).0 (subst (λ l. Contains l f) at p))
                ∙ ap Some (renamed_other last i m (λ q. omega (arith, q, below)))
          ]
        ]

    find : (o : Option ℕ)
        → slice_get ends f ≡ o → option_map (renamed last i) o ≡ Some m → Contains (nth_list lists' m) f
    find None is q = absurd (none-some m q)
    find (Some k) is q =
        let named : renamed last i k ≡ m = same_Some _ m q in
        let there = (listed k f).1 is in
        let k_in : k < length lists = row_within lists k f there in
        elim (cases_eq k last) [
          | inl at_last ↦
              let m_is : m ≡ i = sym named ∙ ap (renamed last i) at_last ∙ renamed_here last i in
              let differs : i ≢ last = λ z. not_i k is (at_last ∙ sym z) in
              let at : nth_list lists' m ≡ nth_list lists k =
              ap (λ o. unwrap_or o [])
              (ap (slice_get lists') m_is ∙ rows.moved differs ∙ ap (slice_get lists) (sym at_last)) in
              subst (λ l. Contains l f) (sym at) there
          | inr before ↦
              let m_is : m ≡ k = sym named ∙ renamed_other last i k before in
              let at : nth_list lists' m ≡ nth_list lists k =
              ap (λ o. unwrap_or o [])
              (ap (slice_get lists') m_is ∙ rows.kept k (omega (arith, k_in, rows.long, before)) (not_i k is)) in
              subst (λ l. Contains l f) (sym at) there
        ]

    backwards : slice_get ends' f ≡ Some m → Contains (nth_list lists' m) f
    backwards q = find (slice_get ends f) refl (sym reads ∙ q)

module _ {E Ix : Type 0} (last i : ℕ) where
  edges_renamed : (es : List (Edge E Ix))
      → map (option_map (with_ends_renamed last i)) (map plain_edge es)
      ≡ map plain_edge (map (with_end_renamed Incoming last i) (map (with_end_renamed Outgoing last i) es))
  edges_renamed [] = refl
  edges_renamed (x ∷ xs) =
      ap (λ l. plain_edge (with_end_renamed Incoming last i (with_end_renamed Outgoing last i x)) ∷ l)
      (edges_renamed xs)

  nexts_kept : (d : Direction) (es : List (Edge E Ix))
      → nexts_of d (map (with_end_renamed Incoming last i) (map (with_end_renamed Outgoing last i) es)) ≡ nexts_of d es
  nexts_kept d [] = refl
  nexts_kept Outgoing (x ∷ xs) = ap (λ l. x.next_out ∷ l) (nexts_kept Outgoing xs)
  nexts_kept Incoming (x ∷ xs) = ap (λ l. x.next_in ∷ l) (nexts_kept Incoming xs)

  ends_renamed : (d : Direction) (es : List (Edge E Ix))
      → ends_of d (map (with_end_renamed Incoming last i) (map (with_end_renamed Outgoing last i) es))
      ≡ map (renamed last i) (ends_of d es)
  ends_renamed d [] = refl
  ends_renamed Outgoing (x ∷ xs) = ap (λ l. renamed last i x.parent ∷ l) (ends_renamed Outgoing xs)
  ends_renamed Incoming (x ∷ xs) = ap (λ l. renamed last i x.child ∷ l) (ends_renamed Incoming xs)

-- a node without edges is dropped, and the ends at the last node are renamed
pub Stores-dropped : {N E Ix : Type 0} {end : ℕ} (nodes : List (Node N Ix)) (edges : List (Edge E Ix)) {g : Graph N E}
    → Stores end nodes edges g → (i last : ℕ) (x : Node N Ix) → i < length nodes → length nodes ≡ suc last
    → ((d : Direction) → nth_list (lists_at d g) i ≡ [])
    → Stores end (swap_remove nodes i x)
    (map (with_end_renamed Incoming last i) (map (with_end_renamed Outgoing last i) edges))
    (with_node_dropped Compact g i)
Stores-dropped {N} {E} {Ix} {end} nodes edges {g} s i last x i_in long empty =
    let nodes' = swap_remove nodes i x in
    let edges' = map (with_end_renamed Incoming last i) (map (with_end_renamed Outgoing last i) edges) in
    let moves = IsSwapRemoved-from nodes i last x i_in long in
    let nodes_long : length nodes' ≡ last = length-swap_remove nodes i last x long in
    let count : length g.nodes - 1 ≡ last = omega (arith, ap length s.nodes_are, length-map nodes weight_of, long) in
    let rows_long : (d : Direction) → length (lists_at d g) ≡ suc last = λ d.
    (s.linked d).rows ∙ length-map nodes (raw_first d) ∙ long in
    let rows : (d : Direction) → IsSwapRemoved (lists_at d g) (swap_remove (lists_at d g) i []) i last = λ d.
    IsSwapRemoved-from (lists_at d g) i last [] (omega (arith, i_in, long, rows_long d)) (rows_long d) in
    let linked : (d : Direction)
    → AreLinkedLists end (firsts_of d nodes') (nexts_of d edges') (swap_remove (lists_at d g) i []) =
    λ d.
    subst (λ l. AreLinkedLists end (firsts_of d nodes') l (swap_remove (lists_at d g) i []))
    (sym (nexts_kept last i d edges))
    (AreLinkedLists-dropped
    (s.linked d) (IsSwapRemoved-mapped (raw_first d) nodes nodes' i last moves) (rows d)
    (length-map nodes' (raw_first d) ∙ nodes_long) (length-swap_remove (lists_at d g) i last [] (rows_long d))) in
    let listed : (d : Direction) → ListsEach (ends_of d edges') (swap_remove (lists_at d g) i []) =
    λ d.
    ListsEach-dropped (ends_of d edges) (ends_of d edges') (lists_at d g) i last (s.listed d) (empty d) (rows d)
    (ends_renamed last i d edges) in
    record {
      nodes_are = ap (λ l. swap_remove l i None) s.nodes_are ∙ sym (map-swap_remove weight_of nodes i x None i_in);
      edges_are =
          ap (λ k. map (option_map (with_ends_renamed k i)) g.edges) count
          ∙ ap (map (option_map (with_ends_renamed last i))) s.edges_are ∙ edges_renamed last i edges;
      no_vacant_node = s.no_vacant_node;
      no_vacant_edge = s.no_vacant_edge;
      linked = elim [ Outgoing ↦ linked Outgoing | Incoming ↦ linked Incoming ];
      listed = elim [ Outgoing ↦ listed Outgoing | Incoming ↦ listed Incoming ];
      few_nodes = omega (arith, s.few_nodes, nodes_long, long);
      few_edges = omega (
        arith,
        s.few_edges,
        length-map (map (with_end_renamed Outgoing last i) edges) (with_end_renamed Incoming last i),
        length-map edges (with_end_renamed Outgoing last i),
      );
    }

-- where it is the last node, nothing is renamed
pub reassigned_none : {E Ix : Type 0} (i : ℕ) (es : List (Edge E Ix))
    → map (with_end_renamed Incoming i i) (map (with_end_renamed Outgoing i i) es) ≡ es
reassigned_none i [] = refl
reassigned_none {E} {Ix} i (x ∷ xs) =
    let mk : ℕ → ℕ → Edge E Ix = λ p c. record x { parent = p; child = c } in
    ap (λ p. mk p (renamed i i x.child) ∷ map (with_end_renamed Incoming i i) (map (with_end_renamed Outgoing i i) xs))
    (renamed_itself i x.parent)
    ∙ ap (λ c. mk x.parent c ∷ map (with_end_renamed Incoming i i) (map (with_end_renamed Outgoing i i) xs))
    (renamed_itself i x.child)
    ∙ ap (λ l. x ∷ l) (reassigned_none i xs)

pub nexts_kept_out : {E Ix : Type 0} (a b : ℕ) (es : List (Edge E Ix))
    → nexts_of Incoming (map (with_end_renamed Outgoing a b) es) ≡ nexts_of Incoming es
nexts_kept_out a b [] = refl
nexts_kept_out a b (x ∷ xs) = ap (λ l. x.next_in ∷ l) (nexts_kept_out a b xs)

pub ends_kept_out : {E Ix : Type 0} (a b : ℕ) (es : List (Edge E Ix))
    → ends_of Incoming (map (with_end_renamed Outgoing a b) es) ≡ ends_of Incoming es
ends_kept_out a b [] = refl
ends_kept_out a b (x ∷ xs) = ap (λ l. x.child ∷ l) (ends_kept_out a b xs)

-- what `reassign` asks, for the list of the node m
pub reassign_ready : {N E Ix : Type 0} {end : ℕ} {nodes : List (Node N Ix)} {edges : List (Edge E Ix)} {g : Graph N E}
    → Stores end nodes edges g → (dir : Direction) (edges' : List (Edge E Ix))
    → nexts_of dir edges' ≡ nexts_of dir edges → ends_of dir edges' ≡ ends_of dir edges
    → {m k : ℕ} {first : ℕ} {x : Node N Ix} → k < length nodes → k ≡ m → x ≡ get_or nodes k x → first ≡ raw_first dir x
    → IsLinkedList end (nexts_of dir edges') first (list_from dir edges' first)
    × ((e : ℕ) → Contains (list_from dir edges' first) e ↔ (slice_get (ends_of dir edges') e ≡ Some m))
reassign_ready {N} {E} {Ix} {end} {nodes} {edges} {g} s dir edges' nexts_same ends_same {m} {k} {first} {x} k_in k_is x_is
    first_is =
    let at : first ≡ get_or (firsts_of dir nodes) k 0 =
    first_is ∙ ap (raw_first dir) x_is ∙ sym (get_or-map (raw_first dir) nodes k x 0 k_in) in
    let row_k : IsLinkedList end (nexts_of dir edges') first (nth_list (lists_at dir g) k) =
    subst (λ l. IsLinkedList end l first (nth_list (lists_at dir g) k)) (sym nexts_same)
    (subst (λ z. IsLinkedList end (nexts_of dir edges) z (nth_list (lists_at dir g) k)) (sym at)
    ((s.linked dir).each k (omega (arith, k_in, length-map nodes (raw_first dir))))) in
    let few : length (nexts_of dir edges') ≤ end =
    omega (arith, ap length nexts_same, length-map edges (raw_next dir), s.few_edges) in
    let is : list_from dir edges' first ≡ nth_list (lists_at dir g) k =
    row_is end first (nexts_of dir edges') (nth_list (lists_at dir g) k) row_k few in
    let is_m : list_from dir edges' first ≡ nth_list (lists_at dir g) m = is ∙ ap (nth_list (lists_at dir g)) k_is in (
      subst (IsLinkedList end (nexts_of dir edges') first) (sym is) row_k,
      λ e. (
        λ p. ap (λ l. slice_get l e) ends_same ∙ (s.listed dir m e).0 (subst (λ l. Contains l e) is_m p),
        λ q. subst (λ l. Contains l e) (sym is_m) ((s.listed dir m e).1 (sym (ap (λ l. slice_get l e) ends_same) ∙ q)),
      ),
    )
