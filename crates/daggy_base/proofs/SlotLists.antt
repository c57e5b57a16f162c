-- Lists that stand from the greatest index down, and what one more slot makes of them.
use Rattle.std.proofs.Common.{◌≡◌, ℕ, zero, suc, ◌+◌, ◌<◌, ◌≤◌, Bool, true, false, not, eqb, cond, List, [], ◌∷◌, ◌++◌}
use Rattle.std.proofs.Common.{length, get_or, set, Option, Some, None, IsSome, slice_get, is_some, unwrap_or, refl, sym}
use Rattle.std.proofs.Common.{ap, subst, ◌∙◌, inl, inr, arith}
use Rattle.std.specs.Option.{option_map, option_and_then}
use Rattle.std.proofs.lemmas.Bool.{cases_eq, cases_lt, eq-eqb, ne_eqb, false≢true}
use Rattle.std.proofs.lemmas.List.{length-set, length_push, length-append, get_or-set_same, get_or-set_other}
use Rattle.std.proofs.lemmas.List.FromFn.{length-map-range_with_len, get_or-map-range_with_len, map-range_with_len_more}
use Rattle.std.proofs.lemmas.List.FromFn.{fill_by_all}
use Rattle.std.proofs.lemmas.Option.{unwrap_or-slice_get, slice_get_past}
use Rattle.daggy_base.specs.declared.index.Direction.{Direction}
use Rattle.daggy_base.specs.declared.index.Direction.TheVariants.{Outgoing, Incoming}
use Rattle.daggy_base.specs.Graph.{Graph, Edge, slot, near_end}
use Rattle.daggy_base.specs.Reduction.{IsDescending}
use Rattle.daggy_base.specs.FromSlots.{down_from, vacant_down, has_end, lists_down, graph_of_slots}
use Rattle.daggy_base.specs.Filtering.{ListsDescend}
use Rattle.daggy_base.specs.Adding.{with_node, with_edge}
use Rattle.daggy_base.proofs.Lists.{slice_get-push_old, slice_get-push_new, slice_get-push_other}
use Rattle.daggy_base.proofs.EdgeTakenBack.{same_graph}

-- the list of n
abbrev pub row : List (List ℕ) → ℕ → List ℕ
row lists n = unwrap_or (slice_get lists n) []

down_from_same : (p q : ℕ → Bool) (k : ℕ) → ((i : ℕ) → i < k → p i ≡ q i) → down_from p k ≡ down_from q k
down_from_same p q zero same = refl
down_from_same p q (suc k) same =
    ap (λ b. cond b (k ∷ down_from p k) (down_from p k)) (same k (omega arith))
    ∙ ap (λ l. cond (q k) (k ∷ l) l) (down_from_same p q k (λ i within. same i (omega (arith, within))))

-- one more number, which passes if b
down_from_more : (p q : ℕ → Bool) (k n : ℕ) (b : Bool)
    → n ≡ k + 1 → q k ≡ b → ((i : ℕ) → i < k → q i ≡ p i) → down_from q n ≡ cond b (k ∷ down_from p k) (down_from p k)
down_from_more p q k n b is here below =
    let next : n ≡ suc k = omega (arith, is) in
    ap (down_from q) next ∙ ap (λ l. cond (q k) (k ∷ l) l) (down_from_same q p k below)
    ∙ ap (λ z. cond z (k ∷ down_from p k) (down_from p k)) here

pub none_past : {A : Type 0} (xs : List (Option A)) (i : ℕ) → length xs ≤ i → slot xs i ≡ None
none_past xs i past = ap (option_and_then (λ z. z)) (slice_get_past xs i past)

-- one more slot
module _ {A : Type 0} (xs : List (Option A)) (x : Option A) where
  pub slot_push_new : slot (xs ++ x ∷ []) (length xs) ≡ x
  slot_push_new = ap (option_and_then (λ z. z)) (slice_get-push_new xs x)

  pub slot_push_old : (i : ℕ) → i < length xs → slot (xs ++ x ∷ []) i ≡ slot xs i
  slot_push_old i within = ap (option_and_then (λ z. z)) (slice_get-push_old xs x i within)

  pub slot_push_other : (i : ℕ) → ¬ (i ≡ length xs) → slot (xs ++ x ∷ []) i ≡ slot xs i
  slot_push_other i other = ap (option_and_then (λ z. z)) (slice_get-push_other xs x i other)

  pub vacant_down_more : vacant_down (xs ++ x ∷ [])
      ≡ cond (not (is_some x)) (length xs ∷ vacant_down xs) (vacant_down xs)
  vacant_down_more =
      down_from_more (λ i. not (is_some (slot xs i))) (λ i. not (is_some (slot (xs ++ x ∷ []) i))) (length xs)
      (length (xs ++ x ∷ [])) (not (is_some x)) (length_push xs x)
      (ap (λ o. not (is_some o)) slot_push_new) (λ i within. ap (λ o. not (is_some o)) (slot_push_old i within))

-- whether the edge has the end n
abbrev ends_at : {E : Type 0} → Direction → ℕ → Option (Edge E) → Bool
ends_at dir n x = unwrap_or (option_map (λ z. eqb (near_end dir z) n) x) false

module _ {E : Type 0} (dir : Direction) (nodes : ℕ) (edges : List (Option (Edge E))) where
  pub row_down : (n : ℕ)
      → n < nodes → row (lists_down dir nodes edges) n ≡ down_from (has_end dir edges n) (length edges)
  row_down n within =
      unwrap_or-slice_get (lists_down dir nodes edges) n []
      ∙ get_or-map-range_with_len (λ k. down_from (has_end dir edges k) (length edges)) 0 nodes n n [] within
      (omega arith)

  pub length-lists_down : length (lists_down dir nodes edges) ≡ nodes
  length-lists_down = length-map-range_with_len (λ k. down_from (has_end dir edges k) (length edges)) 0 nodes

  -- one more node
  pub lists_down-node : edges ≡ [] → (many : ℕ) → many ≡ nodes + 1
      → lists_down dir many edges ≡ lists_down dir nodes edges ++ [] ∷ []
  lists_down-node none many is =
      let listed : ℕ → List ℕ = λ k. down_from (has_end dir edges k) (length edges) in
      ap (λ k. lists_down dir k edges) is ∙ map-range_with_len_more listed 0 nodes nodes (omega arith)
      ∙ ap (λ l. lists_down dir nodes edges ++ l ∷ []) (ap (λ l. down_from (has_end dir edges nodes) (length l)) none)

  -- one more slot of an edge
  module _ (x : Option (Edge E)) where
    row_more : (n : ℕ)
        → down_from (has_end dir (edges ++ x ∷ []) n) (length (edges ++ x ∷ []))
        ≡ cond (ends_at dir n x) (length edges ∷ down_from (has_end dir edges n) (length edges))
        (down_from (has_end dir edges n) (length edges))
    row_more n =
        down_from_more (has_end dir edges n) (has_end dir (edges ++ x ∷ []) n) (length edges) (length (edges ++ x ∷ []))
        (ends_at dir n x) (length_push edges x)
        (ap (ends_at dir n) (slot_push_new edges x)) (λ i within. ap (ends_at dir n) (slot_push_old edges x i within))

    row_is : (n : ℕ)
        → n < nodes → get_or (lists_down dir nodes edges) n [] ≡ down_from (has_end dir edges n) (length edges)
    row_is n within =
        get_or-map-range_with_len (λ k. down_from (has_end dir edges k) (length edges)) 0 nodes n n [] within
        (omega arith)

  pub lists_down-vacant : lists_down dir nodes (edges ++ None ∷ []) ≡ lists_down dir nodes edges
  lists_down-vacant =
      sym (fill_by_all (λ n. down_from (has_end dir (edges ++ None ∷ []) n) (length (edges ++ None ∷ [])))
      (lists_down dir nodes edges) nodes [] length-lists_down
      (λ n within. row_is None n within ∙ sym (row_more None n)))

  pub lists_down-edge : (x : Edge E) (a : ℕ) → near_end dir x ≡ a → a < nodes
      → lists_down dir nodes (edges ++ Some x ∷ [])
      ≡ set (lists_down dir nodes edges) a (length edges ∷ row (lists_down dir nodes edges) a)
  lists_down-edge x a is inside =
      let lists = lists_down dir nodes edges in
      let new = set lists a (length edges ∷ row lists a) in
      sym (fill_by_all (λ n. down_from (has_end dir (edges ++ Some x ∷ []) n) (length (edges ++ Some x ∷ []))) new nodes
      [] (length-set lists a _ ∙ length-lists_down) (λ n within.
      elim (cases_eq n a) [
        | inl same ↦
            let passes : ends_at dir n (Some x) ≡ true = eq-eqb (near_end dir x) n (is ∙ sym same) in
            let old : row lists a ≡ down_from (has_end dir edges n) (length edges) =
            row_down a inside ∙ ap (λ k. down_from (has_end dir edges k) (length edges)) (sym same) in
            ap (λ k. get_or new k []) same
            ∙ get_or-set_same lists a (length edges ∷ row lists a) [] (omega (arith, inside, length-lists_down))
            ∙ ap (λ l. length edges ∷ l) old
            ∙ sym (row_more (Some x) n ∙ ap (λ b. cond b (length edges ∷ down_from (has_end dir edges n) (length edges))
            (down_from (has_end dir edges n) (length edges))) passes)
        | inr other ↦
            let fails : ends_at dir n (Some x) ≡ false = ne_eqb (near_end dir x) n (λ same. other (sym same ∙ is)) in
            get_or-set_other lists a n _ [] other ∙ row_is (Some x) n within
            ∙ sym (row_more (Some x) n ∙ ap (λ b. cond b (length edges ∷ down_from (has_end dir edges n) (length edges))
            (down_from (has_end dir edges n) (length edges))) fails)
      ]))

-- no slot is vacant

none_passes : (p : ℕ → Bool) (k : ℕ) → down_from p k ≡ [] → (i : ℕ) → i < k → p i ≡ false
none_passes p zero none i within = absurd (omega (arith, within))
none_passes p (suc k) none i within = go (p k) refl none (λ below. none_passes p k below i)
  where
    go : (b : Bool) → p k ≡ b → cond b (k ∷ down_from p k) (down_from p k) ≡ []
        → (down_from p k ≡ [] → i < k → p i ≡ false) → p i ≡ false
    go true here none lower = absurd cc
    go false here none lower = elim (cases_eq i k) [
      | inl same ↦ ap p same ∙ here
      | inr other ↦ lower none (omega (arith, within, other))
    ]

all_fail : (p : ℕ → Bool) (k : ℕ) → ((i : ℕ) → i < k → p i ≡ false) → down_from p k ≡ []
all_fail p zero fails = refl
all_fail p (suc k) fails =
    ap (λ b. cond b (k ∷ down_from p k) (down_from p k)) (fails k (omega arith))
    ∙ all_fail p k (λ i within. fails i (omega (arith, within)))

pub slot_between : {A : Type 0} (before : List (Option A)) (x : Option A) (behind : List (Option A))
    → slot (before ++ x ∷ behind) (length before) ≡ x
slot_between [] x behind = refl
slot_between (z ∷ before) x behind = slot_between before x behind

module _ {A : Type 0} where
  pub none_vacant : (slots : List (Option A))
      → ((i : ℕ) → i < length slots → IsSome (slot slots i)) → vacant_down slots ≡ []
  none_vacant slots full =
      all_fail (λ i. not (is_some (slot slots i))) (length slots) (λ i within. ap not (full i within))

  pub vacant_is_listed : (before behind slots : List (Option A))
      → slots ≡ before ++ None ∷ behind → vacant_down slots ≡ [] → ⊥
  vacant_is_listed before behind slots is none =
      let within : length before < length slots = omega (arith, ap length is, length-append before (None ∷ behind)) in
      let full = none_passes (λ i. not (is_some (slot slots i))) (length slots) none (length before) within in
      let here : slot slots (length before) ≡ None =
      ap (λ l. slot l (length before)) is ∙ slot_between before None behind in
      false≢true (sym full ∙ ap (λ o. not (is_some o)) here)

-- the graph that the slots make, with one more

module _ {N E : Type 0} (nodes : List (Option N)) where
  pub of_slots_node : (x : Option N) (edges : List (Option (Edge E)))
      → edges ≡ [] → (vacant : List ℕ) → vacant ≡ vacant_down (nodes ++ x ∷ [])
      → record {
        nodes = nodes ++ x ∷ [];
        edges = edges;
        out_lists = lists_down Outgoing (length nodes) edges ++ [] ∷ [];
        in_lists = lists_down Incoming (length nodes) edges ++ [] ∷ [];
        vacant_nodes = vacant;
        vacant_edges = vacant_down edges;
      }
      ≡ graph_of_slots (nodes ++ x ∷ []) edges
  of_slots_node x edges none vacant is =
      same_graph (graph_of_slots (nodes ++ x ∷ []) edges) refl refl
      (sym (lists_down-node Outgoing (length nodes) edges none (length (nodes ++ x ∷ [])) (length_push nodes x)))
      (sym (lists_down-node Incoming (length nodes) edges none (length (nodes ++ x ∷ [])) (length_push nodes x))) is
      refl

  pub of_slots_left : (edges : List (Option (Edge E))) (last : ℕ) → last ≡ length edges
      → record {
        nodes = nodes;
        edges = edges ++ None ∷ [];
        out_lists = lists_down Outgoing (length nodes) edges;
        in_lists = lists_down Incoming (length nodes) edges;
        vacant_nodes = vacant_down nodes;
        vacant_edges = last ∷ vacant_down edges;
      }
      ≡ graph_of_slots nodes (edges ++ None ∷ [])
  of_slots_left edges last is =
      same_graph (graph_of_slots nodes (edges ++ None ∷ [])) refl refl
      (sym (lists_down-vacant Outgoing (length nodes) edges))
      (sym (lists_down-vacant Incoming (length nodes) edges)) refl
      (ap (λ k. k ∷ vacant_down edges) is ∙ sym (vacant_down_more edges None))

  pub of_slots_taken : (edges : List (Option (Edge E))) (a b : ℕ) (w : E) (last : ℕ)
      → last ≡ length edges → a < length nodes → b < length nodes
      → record {
        nodes = nodes;
        edges = edges ++ Some (record { parent = a; child = b; weight = w }) ∷ [];
        out_lists =
            set (lists_down Outgoing (length nodes) edges) a (last ∷ row (lists_down Outgoing (length nodes) edges) a);
        in_lists =
            set (lists_down Incoming (length nodes) edges) b (last ∷ row (lists_down Incoming (length nodes) edges) b);
        vacant_nodes = vacant_down nodes;
        vacant_edges = vacant_down edges;
      } ≡ graph_of_slots nodes (edges ++ Some (record { parent = a; child = b; weight = w }) ∷ [])
  of_slots_taken edges a b w last is at_a at_b =
      let outs = lists_down Outgoing (length nodes) edges in
      let ins = lists_down Incoming (length nodes) edges in
      let x : Edge E = record { parent = a; child = b; weight = w } in
      same_graph (graph_of_slots nodes (edges ++ Some x ∷ [])) refl refl
      (ap (λ k. set outs a (k ∷ row outs a)) is ∙ sym (lists_down-edge Outgoing (length nodes) edges x a refl at_a))
      (ap (λ k. set ins b (k ∷ row ins b)) is ∙ sym (lists_down-edge Incoming (length nodes) edges x b refl at_b)) refl
      (sym (vacant_down_more edges (Some x)))

  -- where none is vacant, that is what adding makes
  pub of_slots_with_node : (w : N) → vacant_down nodes ≡ []
      → with_node (graph_of_slots {E = E} nodes []) w ≡ graph_of_slots (nodes ++ Some w ∷ []) []
  of_slots_with_node w none =
      let g : Graph N E = graph_of_slots nodes [] in
      let with_vacant : List ℕ → Graph N E = λ v.
      with_node (record {
        nodes = nodes;
        edges = [];
        out_lists = g.out_lists;
        in_lists = g.in_lists;
        vacant_nodes = v;
        vacant_edges = [];
      })
      w in
      ap with_vacant none ∙ of_slots_node (Some w) [] refl [] (sym (vacant_down_more nodes (Some w) ∙ none))

  pub of_slots_with_edge : (edges : List (Option (Edge E))) (a b : ℕ) (w : E)
      → vacant_down edges ≡ [] → a < length nodes → b < length nodes
      → with_edge (graph_of_slots nodes edges) a b w
      ≡ graph_of_slots nodes (edges ++ Some (record { parent = a; child = b; weight = w }) ∷ [])
  of_slots_with_edge edges a b w none at_a at_b =
      let g : Graph N E = graph_of_slots nodes edges in
      let with_vacant : List ℕ → Graph N E = λ v.
      with_edge (record {
        nodes = nodes;
        edges = edges;
        out_lists = g.out_lists;
        in_lists = g.in_lists;
        vacant_nodes = g.vacant_nodes;
        vacant_edges = v;
      })
      a b w in
      let new : Graph N E = graph_of_slots nodes (edges ++ Some (record { parent = a; child = b; weight = w }) ∷ []) in
      let seen : List ℕ → Graph N E = λ v. record {
        nodes = nodes;
        edges = new.edges;
        out_lists = set g.out_lists a (length edges ∷ row g.out_lists a);
        in_lists = set g.in_lists b (length edges ∷ row g.in_lists b);
        vacant_nodes = g.vacant_nodes;
        vacant_edges = v;
      } in
      ap with_vacant none ∙ ap seen (sym none) ∙ of_slots_taken edges a b w (length edges) refl at_a at_b

-- they descend

tail_step : (b : Bool) (k : ℕ) (rest : List ℕ) (top : ℕ)
    → k < top → IsDescending (k ∷ rest) → IsDescending (top ∷ rest) → IsDescending (top ∷ cond b (k ∷ rest) rest)
tail_step true k rest top below passes fails = (below, passes)
tail_step false k rest top below passes fails = fails

list_step : (b : Bool) (k : ℕ) (rest : List ℕ)
    → IsDescending (k ∷ rest) → IsDescending rest → IsDescending (cond b (k ∷ rest) rest)
list_step true k rest passes fails = passes
list_step false k rest passes fails = fails

down_tail : (p : ℕ → Bool) (k top : ℕ) → k ≤ top → IsDescending (top ∷ down_from p k)
down_tail p zero top below = tt
down_tail p (suc k) top below =
    tail_step (p k) k (down_from p k) top (omega (arith, below)) (down_tail p k k (omega arith))
    (down_tail p k top (omega (arith, below)))

down_descends : (p : ℕ → Bool) (k : ℕ) → IsDescending (down_from p k)
down_descends p zero = tt
down_descends p (suc k) = list_step (p k) k (down_from p k) (down_tail p k k (omega arith)) (down_descends p k)

row_descends : {E : Type 0} (dir : Direction) (nodes : ℕ) (edges : List (Option (Edge E))) (n : ℕ)
    → IsDescending (row (lists_down dir nodes edges) n)
row_descends dir nodes edges n =
    elim (cases_lt n nodes) [
      | inl within ↦
          subst IsDescending (sym (row_down dir nodes edges n within))
          (down_descends (has_end dir edges n) (length edges))
      | inr past ↦
          subst IsDescending (sym (ap (λ o. unwrap_or o []) (slice_get_past (lists_down dir nodes edges) n (omega (
            arith,
            past,
            length-lists_down dir nodes edges,
          )))))
          tt
    ]

pub of_slots_descend : {N E : Type 0} (nodes : List (Option N)) (edges : List (Option (Edge E)))
    → ListsDescend (graph_of_slots nodes edges)
of_slots_descend nodes edges =
    elim [
      | Outgoing ↦ λ n. row_descends Outgoing (length nodes) edges n
      | Incoming ↦ λ n. row_descends Incoming (length nodes) edges n
    ]
