-- The first wrong entry of the orders, entry by entry.
use Rattle.std.proofs.Common.{◌≡◌, ℕ, zero, suc, ◌+◌, ◌<◌, ◌≤◌, inl, inr, Bool, true, false, Option, Some, None, IsSome}
use Rattle.std.proofs.Common.{is_some, List, [], ◌∷◌, ◌++◌, length, get_or, take, drop, map, count_by, slice_get, refl, sym}
use Rattle.std.proofs.Common.{ap, subst, ◌∙◌, arith, add-zero, zero-add, append_assoc}
use Rattle.std.specs.List.{AllZip}
use Rattle.std.specs.Prelude.{Contains, option_and_then}
use Rattle.std.specs.Option.{option_map}
use Rattle.std.proofs.lemmas.Bool.{false≢true}
use Rattle.std.proofs.lemmas.List.{map-append, take_more, take_all, length-map, length-append, length-take}
use Rattle.std.proofs.lemmas.List.Sums.{count_by-le-length}
use Rattle.std.proofs.lemmas.Option.{same_Some, none-some}
use Rattle.std.proofs.lemmas.Slice.Zip.{AllZip-long}
use Rattle.serde_json.specs.Data.{Data}
use Rattle.daggy_base.specs.declared.index.Direction.{Direction}
use Rattle.daggy_base.specs.declared.index.Direction.TheVariants.{Outgoing, Incoming}
use Rattle.daggy_base.specs.Graph.{Graph, Edge, slot, list_at, node_count}
use Rattle.daggy_base.specs.Iterating.{numbered, node_identifiers}
use Rattle.daggy_base.specs.FromSlots.{graph_of_slots, has_end, down_from}
use Rattle.daggy_base.specs.Orders.{IsOrder, AreOrders, lists_by_slots}
use Rattle.daggy_json.specs.Reading.{pair_in, all_in, array_in, orders_in}
use Rattle.daggy_json.specs.Found.{chosen, row_in}
use Rattle.daggy_json.specs.Fault.{HasLists, IsWrongRow, AreWrongAt}
use Rattle.daggy_json.specs.FoundFault.{AreFresh, MarksOnly, HasEdges, IsListOf, AreSearched}
use Rattle.serde_json.specs.Find.{as_array}
use Rattle.serde_json.specs.View.{view, items_of}
use Rattle.serde_json.specs.declared.value.Value.{Value}
use Rattle.daggy_json.proofs.FoundParts.{array_some, array_none}
use Rattle.daggy_json.proofs.OrderBounds.{row_past, row_some}
use Rattle.daggy_json.proofs.NodeLists.{down_low}
use Rattle.daggy_json.proofs.Parts.{zip_more, slot_some, not_some}
use Rattle.daggy_json.proofs.NumberedSlots.{numbers_pass, numbered_skips}
use Rattle.daggy_json.proofs.TrimmedSlots.{numbered_count}
use Rattle.daggy_json.proofs.MarkedLists.{row}
use Rattle.daggy_json.proofs.RearrangedLists.{at_dir, lists_at, one_end, ordered_at}

-- ---- lists

get_mid : (xs : List ℕ) (x : ℕ) (ys : List ℕ) → slice_get (xs ++ x ∷ ys) (length xs) ≡ Some x
get_mid [] x ys = refl
get_mid (y ∷ xs) x ys = get_mid xs x ys

take_front : (xs ys : List ℕ) → take (length xs) (xs ++ ys) ≡ xs
take_front [] ys = none ys
  where
    none : (zs : List ℕ) → take {A = ℕ} 0 zs ≡ []
    none [] = refl
    none (z ∷ zs) = refl
take_front (x ∷ xs) ys = ap (λ z. x ∷ z) (take_front xs ys)

-- the existing indices below n
abbrev pub first_ids : {N : Type 0} → ℕ → List (Option N) → List ℕ
first_ids n xs = map (λ p. p.0) (numbered 0 (take n xs))

numbered_front : {N : Type 0} (i n : ℕ) (xs : List (Option N))
    → numbered i xs ≡ numbered i (take n xs) ++ numbered (i + n) (drop n xs)
numbered_front i zero [] = refl
numbered_front i (suc n) [] = refl
numbered_front i zero (x ∷ xs) = ap (λ k. numbered k (x ∷ xs)) (sym (add-zero i))
numbered_front i (suc n) (None ∷ xs) =
    let k : i + suc n ≡ i + 1 + n = omega arith in rw k (numbered_front (i + 1) n xs)
numbered_front i (suc n) (Some x ∷ xs) =
    let k : i + suc n ≡ i + 1 + n = omega arith in rw k (ap (λ z. (i, x) ∷ z) (numbered_front (i + 1) n xs))

-- an existing slot has its number behind those below
ids_at : {N : Type 0} (n : ℕ) (xs : List (Option N)) (x : N) → slot xs n ≡ Some x
    → (rest : List ℕ) × (map (λ p. p.0) (numbered 0 xs) ≡ first_ids n xs ++ n ∷ rest)
ids_at n xs x some = (
  map (λ p. p.0) (numbered (0 + (n + 1)) (drop (n + 1) xs)),
  ap (map (λ p. p.0)) (numbered_front 0 (n + 1) xs)
      ∙ (map-append (λ p. p.0) (numbered 0 (take (n + 1) xs)) (numbered (0 + (n + 1)) (drop (n + 1) xs))
      ∙ (ap (λ z. z ++ map (λ p. p.0) (numbered (0 + (n + 1)) (drop (n + 1) xs))) (numbers_pass n xs x some)
      ∙ append_assoc (first_ids n xs) (n ∷ []) (map (λ p. p.0) (numbered (0 + (n + 1)) (drop (n + 1) xs))))),
)

-- ---- entry by entry

-- the entries of the nodes below n are right
pub record RowsSoFar {N E : Type 0} (g : Graph N E) (ds : List Data) (n passed : ℕ) : Type 0 where
  pub count : length (first_ids n g.nodes) ≡ passed
  pub each : AllZip (HasLists g) (first_ids n g.nodes) (take passed ds)

module _ {N E : Type 0} {g : Graph N E} {ds : List Data} {n passed : ℕ} (s : RowsSoFar g ds n passed) where
  pub rows_skipped : slot g.nodes n ≡ None → (passed' : ℕ) → passed' ≡ passed → RowsSoFar g ds (n + 1) passed'
  rows_skipped none passed' same =
      let ids : first_ids (n + 1) g.nodes ≡ first_ids n g.nodes = ap (map (λ p. p.0)) (numbered_skips n g.nodes none) in
      rw same (record { count = ap length ids ∙ s.count; each = rw ids s.each })

  module _ (x : N) (some : slot g.nodes n ≡ Some x) where
    pub rows_low : length ds ≡ node_count g → passed < length ds
    rows_low long =
        let at = ids_at n g.nodes x some in
        omega (
          arith,
          long,
          s.count,
          numbered_count 0 g.nodes,
          length-map (numbered 0 g.nodes) (λ p. p.0),
          ap length at.1,
          length-append (first_ids n g.nodes) (n ∷ at.0),
        )

    module _ (d : Data) (low : passed < length ds) (here : d ≡ get_or ds passed d) where
      pub rows_passed : HasLists g n d → (passed' : ℕ) → passed' ≡ passed + 1 → RowsSoFar g ds (n + 1) passed'
      rows_passed has passed' next =
          let ids = numbers_pass n g.nodes x some in
          let rows : take (passed + 1) ds ≡ take passed ds ++ d ∷ [] =
          take_more ds passed d low ∙ ap (λ z. take passed ds ++ z ∷ []) (sym here) in
          rw next (record {
            count = ap length ids ∙ (length-append (first_ids n g.nodes) (n ∷ []) ∙ ap (λ z. z + 1) s.count);
            each = rw (ids, rows) (zip_more (HasLists g) (first_ids n g.nodes) (take passed ds) n d s.each has);
          })

      pub row_wrong : (HasLists g n d → ⊥) → IsWrongRow g ds passed
      row_wrong wrong =
          let at = ids_at n g.nodes x some in
          record {
            node = n;
            node_at =
                ap (λ z. slice_get z passed) at.1
                ∙ (ap (λ k. slice_get (first_ids n g.nodes ++ n ∷ at.0) k) (sym s.count)
                ∙ get_mid (first_ids n g.nodes) n at.0);
            entry = d;
            entry_at = entry_there ds passed d low here;
            wrong = wrong;
            earlier =
                subst (λ z. AllZip (HasLists g) z (take passed ds))
                (sym (ap (λ z. take passed z) at.1
                ∙ (ap (λ k. take k (first_ids n g.nodes ++ n ∷ at.0)) (sym s.count)
                ∙ take_front (first_ids n g.nodes) (n ∷ at.0)))) s.each;
          }
        where
          entry_there : (xs : List Data) (i : ℕ) (y : Data) → i < length xs → y ≡ get_or xs i y → slice_get xs i ≡ Some y
          entry_there [] i y less is = absurd (omega arith)
          entry_there (z ∷ xs) zero y less is = ap Some (sym is)
          entry_there (z ∷ xs) (suc i) y less is = entry_there xs i y (omega arith) is

  pub rows_few : passed ≤ n
  rows_few =
      omega (
        arith,
        s.count,
        length-map (numbered 0 (take n g.nodes)) (λ p. p.0),
        numbered_count 0 (take n g.nodes),
        count_by-le-length is_some (take n g.nodes),
        length-take n g.nodes,
      )

  pub rows_whole : length g.nodes ≤ n → length ds ≡ node_count g → AllZip (HasLists g) (node_identifiers g) ds
  rows_whole past long =
      let ids : first_ids n g.nodes ≡ node_identifiers g = ap (λ z. map (λ p. p.0) (numbered 0 z)) (take_all n g.nodes past) in
      let count : length ds ≤ passed =
      omega (
        arith,
        long,
        s.count,
        ap length ids,
        numbered_count 0 g.nodes,
        length-map (numbered 0 g.nodes) (λ p. p.0),
      ) in
      let each = subst (λ z. AllZip (HasLists g) z (take passed ds)) ids s.each in
      subst (λ z. AllZip (HasLists g) (node_identifiers g) z) (take_all passed ds count) each

pub no_rows : {N E : Type 0} (g : Graph N E) (ds : List Data) → RowsSoFar g ds 0 0
no_rows g ds = record { count = ap (λ z. length (map (λ p. p.0) (numbered 0 z))) (none g.nodes); each = zip }
  where
    none : {A : Type 0} (zs : List A) → take 0 zs ≡ []
    none [] = refl
    none (z ∷ zs) = refl

    zip : AllZip (HasLists g) (first_ids 0 g.nodes) (take 0 ds)
    zip =
        subst (λ z. AllZip (HasLists g) (map (λ p. p.0) (numbered 0 z)) (take 0 ds)) (sym (none g.nodes))
        (subst (λ z. AllZip (HasLists g) [] z) (sym (none ds)) tt)

-- ---- marks

-- what is marked is at a node below n
pub record MarkedBelow (at : ℕ → ℕ → Bool) (n : ℕ) (m : List Bool) : Type 0 where
  pub each : (e : ℕ) → get_or m e false ≡ true → (k : ℕ) × (k < n) × (at k e ≡ true)

pub none_below : (at : ℕ → ℕ → Bool) (m : List Bool) → ((e : ℕ) → get_or m e false ≡ false) → MarkedBelow at 0 m
none_below at m none = record { each = λ e h. absurd (false≢true (sym (none e) ∙ h)) }

module _ {at : ℕ → ℕ → Bool} {n : ℕ} {m : List Bool} (s : MarkedBelow at n m) where
  pub below_skipped : (m' : List Bool) → m' ≡ m → MarkedBelow at (n + 1) m'
  below_skipped m' same =
      rw same (record { each = λ e h. let b = s.each e h in (b.0, omega (arith, b.1), b.2) })

  pub below_passed : (m' m'' : List Bool) → m'' ≡ m' → MarksOnly (at n) m m' → MarkedBelow at (n + 1) m''
  below_passed m' m'' same only =
      rw same (record {
        each = λ e h. elim (only e h) [
          | inl old ↦ (let b = s.each e old in (b.0, omega (arith, b.1), b.2))
          | inr new ↦ (n, omega arith, new)
        ];
      })

pub below_fresh : {E : Type 0} (dir : Direction) (edges : List (Option (Edge E))) (n : ℕ) (m : List Bool)
    → MarkedBelow (has_end dir edges) n m → AreFresh (has_end dir edges n) m
below_fresh dir edges n m s e h = at (get_or m e false) refl
  where
    at : (b : Bool) → get_or m e false ≡ b → get_or m e false ≡ false
    at false is = is
    at true is = let b = s.each e is in let same = one_end dir edges b.0 n e b.2 h in absurd (omega (arith, b.1, same))

-- ---- the lists of the graph

module _ {N E : Type 0} (nodes : List (Option N)) (edges : List (Option (Edge E))) where
  list_is : (dir : Direction) (n : ℕ) → n < length nodes
      → list_at dir (graph_of_slots nodes edges) n ≡ down_from (has_end dir edges n) (length edges)
  list_is dir n low = at_dir dir edges nodes dir n ∙ lists_at dir edges nodes n low

  pub lists_from_edges : (n : ℕ) (d : Data) → n < length nodes → HasEdges edges n d
      → HasLists (graph_of_slots nodes edges) n d
  lists_from_edges n d low h = (
    h.0,
    h.1,
    subst (λ z. IsOrder z h.0.0) (sym (list_is Outgoing n low)) h.2,
    subst (λ z. IsOrder z h.0.1) (sym (list_is Incoming n low)) h.3,
  )

  pub edges_from_lists : (n : ℕ) (d : Data) → n < length nodes → HasLists (graph_of_slots nodes edges) n d
      → HasEdges edges n d
  edges_from_lists n d low h = (
    h.0,
    h.1,
    subst (λ z. IsOrder z h.0.0) (list_is Outgoing n low) h.2,
    subst (λ z. IsOrder z h.0.1) (list_is Incoming n low) h.3,
  )

-- ---- an entry that was read

-- without a row of indices below the bound there are no lists
pub no_lists : {E : Type 0} (edges : List (Option (Edge E))) (bound n : ℕ) (d : Data) → bound ≡ length edges
    → row_in bound d ≡ None → HasEdges edges n d → ⊥
no_lists edges bound n d long none h = at past.0 past.2
  where
    past : (dir : Direction) × (e : ℕ) × Contains (chosen dir h.0) e × (bound ≤ e)
    past = row_past bound d h.0 none h.1

    at : (dir : Direction) → Contains (chosen dir h.0) past.1 → ⊥
    at Outgoing c =
        let low = down_low (has_end Outgoing edges n) (length edges) past.1 ((h.2.exact past.1).0 c) in
        omega (arith, low, past.3, long)
    at Incoming c =
        let low = down_low (has_end Incoming edges n) (length edges) past.1 ((h.3.exact past.1).0 c) in
        omega (arith, low, past.3, long)

module _ {E : Type 0} (edges : List (Option (Edge E))) (k bound n : ℕ) (d : Data) (r : List ℕ × List ℕ)
    (long : k ≡ length edges) (read : row_in bound d ≡ Some r) where
  pub lists_both : IsListOf (has_end Outgoing edges n) k r.0 → IsListOf (has_end Incoming edges n) k r.1
      → HasEdges edges n d
  lists_both a b = (
    r,
    row_some bound d r read,
    subst (λ z. IsListOf (has_end Outgoing edges n) z r.0) long a,
    subst (λ z. IsListOf (has_end Incoming edges n) z r.1) long b,
  )

  pub lists_apart : HasEdges edges n d
      → IsListOf (has_end Outgoing edges n) k r.0 × IsListOf (has_end Incoming edges n) k r.1
  lists_apart h =
      let same = same_Some h.0 r (sym h.1 ∙ row_some bound d r read) in (
        subst (λ z. IsListOf (has_end Outgoing edges n) z r.0) (sym long)
            (subst (λ (z : List ℕ × List ℕ). IsListOf (has_end Outgoing edges n) (length edges) z.0) same h.2),
        subst (λ z. IsListOf (has_end Incoming edges n) z r.1) (sym long)
            (subst (λ (z : List ℕ × List ℕ). IsListOf (has_end Incoming edges n) (length edges) z.1) same h.3),
      )

-- ---- slots

slot_here : {A : Type 0} (xs : List (Option A)) (i : ℕ) (o : Option A) → i < length xs → o ≡ get_or xs i o → slot xs i ≡ o
slot_here [] i o low is = absurd (omega arith)
slot_here (x ∷ xs) zero o low is = sym is
slot_here (x ∷ xs) (suc i) o low is = slot_here xs i o (omega arith) is

pub occupied : {A : Type 0} (xs : List (Option A)) (i : ℕ) (o : Option A) → i < length xs → o ≡ get_or xs i o
    → is_some o ≡ true → (x : A) × (slot xs i ≡ Some x)
occupied xs i o low is some = let x = slot_some o some in (x.0, slot_here xs i o low is ∙ x.1)

pub vacant : {A : Type 0} (xs : List (Option A)) (i : ℕ) (o : Option A) → i < length xs → o ≡ get_or xs i o
    → is_some o ≡ false → slot xs i ≡ None
vacant xs i o low is none =
    slot_here xs i o low is ∙ not_some o (λ t. false≢true (sym none ∙ t))

-- ---- the place

module _ {N E : Type 0} (g : Graph N E) (d : Data) (entry : Option ℕ) where
  pub no_array : None ≡ as_array d → entry ≡ None → AreWrongAt g d entry
  no_array none at =
      subst (AreWrongAt g d) (sym at) (λ ds some same. let gone = array_none d none in absurd (none-some ds (sym gone ∙ some)))

  module _ (vs : List Value) (array : Some (items_of (map view vs)) ≡ as_array d) where
    pub wrong_count : (length vs ≡ node_count g → ⊥) → entry ≡ None → AreWrongAt g d entry
    wrong_count wrong at =
        subst (AreWrongAt g d) (sym at) (λ ds some same.
        let is = same_Some (map view vs) ds (sym (array_some d vs array) ∙ some) in
        wrong (sym (length-map vs view) ∙ (ap length is ∙ same)))

    pub wrong_there : length vs ≡ node_count g → (o : Option ℕ) (i : ℕ)
        → AreSearched g (map view vs) o → o ≡ Some i → entry ≡ Some i → AreWrongAt g d entry
    wrong_there long o i h is at =
        subst (AreWrongAt g d) (sym at) (
          map view vs,
          array_some d vs array,
          length-map vs view ∙ long,
          subst (AreSearched g (map view vs)) is h,
        )

-- ---- all entries are right

-- these are permutations of the lists of these nodes
abbrev ArePermuted : {N E : Type 0} → Graph N E → Direction → List ℕ → List (List ℕ) → Type 0
ArePermuted g dir = AllZip (λ n l. IsOrder (list_at dir g n) l)

rows_of : {N E : Type 0} (g : Graph N E) (ns : List ℕ) (ds : List Data) → AllZip (HasLists g) ns ds
    → (rows : List (List ℕ × List ℕ)) × (all_in pair_in ds ≡ Some rows)
    × ((dir : Direction) → ArePermuted g dir ns (map (chosen dir) rows))
rows_of g [] [] h = ([], refl, λ dir. tt)
rows_of g (n ∷ ns) (d ∷ ds) h =
    let rest = rows_of g ns ds h.1 in (
      h.0.0 ∷ rest.0,
      ap (option_and_then (λ x. option_map (λ xs. x ∷ xs) (all_in pair_in ds))) h.0.1
          ∙ ap (option_map (λ xs. h.0.0 ∷ xs)) rest.1,
      λ dir. (elim dir as (λ k. IsOrder (list_at k g n) (chosen k h.0.0)) [ Outgoing ↦ h.0.2 | Incoming ↦ h.0.3 ], rest.2 dir),
    )
rows_of g [] (d ∷ ds) h = absurd h
rows_of g (n ∷ ns) [] h = absurd h

row_by_slots : {N : Type 0} (R : ℕ → List ℕ → Type 0) (i : ℕ) (slots : List (Option N)) (lists : List (List ℕ))
    → AllZip R (map (λ p. p.0) (numbered i slots)) lists → (n : ℕ) → IsSome (slot slots n)
    → R (i + n) (row (lists_by_slots slots lists) n)
row_by_slots R i [] lists h n some = absurd (false≢true some)
row_by_slots R i (None ∷ slots) lists h zero some = absurd (false≢true some)
row_by_slots R i (None ∷ slots) lists h (suc n) some =
    let k : i + 1 + n ≡ i + suc n = omega arith in
    subst (λ z. R z (row (lists_by_slots slots lists) n)) k (row_by_slots R (i + 1) slots lists h n some)
row_by_slots R i (Some x ∷ slots) [] h n some = absurd h
row_by_slots R i (Some x ∷ slots) (l ∷ lists) h zero some = subst (λ z. R z l) (sym (add-zero i)) h.0
row_by_slots R i (Some x ∷ slots) (l ∷ lists) h (suc n) some =
    let k : i + 1 + n ≡ i + suc n = omega arith in
    subst (λ z. R z (row (lists_by_slots slots lists) n)) k (row_by_slots R (i + 1) slots lists h.1 n some)

-- then they are orders of the graph
pub rows_right : {N E : Type 0} (nodes : List (Option N)) (edges : List (Option (Edge E))) (d : Data) (ds : List Data)
    → array_in d ≡ Some ds
    → AllZip (HasLists (graph_of_slots nodes edges)) (node_identifiers (graph_of_slots nodes edges)) ds
    → ((orders : List (List ℕ × List ℕ)) → orders_in d ≡ Some orders
    → AreOrders (graph_of_slots nodes edges) orders → ⊥) → ⊥
rows_right {N} {E} nodes edges d ds array h wrong =
    let found = rows_of (graph_of_slots nodes edges) (node_identifiers (graph_of_slots nodes edges)) ds h in
    let rows = found.0 in
    wrong rows (ap (option_and_then (all_in pair_in)) array ∙ found.1) (record {
      count = long rows (found.2 Outgoing);
      each = λ dir n some.
          let there =
          row_by_slots (λ k l. IsOrder (list_at dir (graph_of_slots nodes edges) k) l) 0 nodes (map (chosen dir) rows)
          (found.2 dir) n some in
          subst (λ z. IsOrder (list_at dir (graph_of_slots nodes edges) n) z) (sym (ordered_at dir edges nodes dir rows n))
          (subst (λ z. IsOrder (list_at dir (graph_of_slots nodes edges) z) (row (lists_by_slots nodes (map (chosen dir) rows)) n))
          (zero-add n) there);
    })
  where
    long : (rows : List (List ℕ × List ℕ))
        → ArePermuted (graph_of_slots nodes edges) Outgoing (map (λ p. p.0) (numbered 0 nodes)) (map (chosen Outgoing) rows)
        → length rows ≡ count_by is_some nodes
    long rows zip =
        omega (
          arith,
          AllZip-long _ _ _ zip,
          length-map rows (chosen Outgoing),
          length-map (numbered 0 nodes) (λ p. p.0),
          numbered_count 0 nodes,
        )
