-- Orders of a graph: what an order says about the graph, and which changes of the graph keep it one.
use Rattle.std.proofs.Common.{◌≡◌, ℕ, zero, suc, ◌-◌, ◌<◌, ◌⊎◌, ◌↔◌, inl, inr, Bool, true, not, eqb, List, [], ◌∷◌}
use Rattle.std.proofs.Common.{◌++◌, length, map, set, get_or, Option, Some, None, IsSome, refl, sym, ap, subst, ◌∙◌}
use Rattle.std.proofs.Common.{arith}
use Rattle.std.specs.List.{filter, filter_map, swap_remove}
use Rattle.std.proofs.lemmas.Bool.{false≢true, cases_eq, cases_lt}
use Rattle.std.proofs.lemmas.Bool.Decides.{nat_tests}
use Rattle.std.proofs.lemmas.List.{get_or-set_other, get_or-set_same, get_or-take, get_or_past, length-take}
use Rattle.std.proofs.lemmas.Option.{same_Some, none-some}
use Rattle.daggy_base.specs.Graph.{Graph, Edge, HasNode, node_weight, edge_at, slot, out_list, in_list, list_at, empty}
use Rattle.daggy_base.specs.Path.{AreJoined, IsAcyclic}
use Rattle.daggy_base.specs.Adding.{with_node, with_edge, with_neighbor, next_node}
use Rattle.daggy_base.specs.Removal.{without, renamed, with_ends_renamed, without_edge}
use Rattle.daggy_base.specs.declared.kind.Kind.{Kind}
use Rattle.daggy_base.specs.declared.kind.Kind.TheVariants.{Compact, Stable}
use Rattle.daggy_base.specs.Removal.{without_first, without_front, with_node_isolated, with_node_dropped, without_node}
use Rattle.daggy_base.specs.Removal.{without_all_edges}
use Rattle.daggy_base.specs.Weights.{with_node_weight, with_edge_weight}
use Rattle.daggy_base.specs.WellFormed.{IsWellFormed, IsIsolated}
use Rattle.daggy_base.specs.declared.index.Direction.{Direction}
use Rattle.daggy_base.specs.declared.index.Direction.TheVariants.{Outgoing, Incoming}
use Rattle.daggy_base.proofs.Lists.{Mem, contains_mem, mem_contains, unique_from_distinct}
use Rattle.daggy_base.proofs.Slots.{slot_taken}
use Rattle.daggy_search.proofs.SearchProgress.{path_stays}
use Rattle.daggy_base.proofs.PathsWithEdge.{joined_cases, joined_kept, free_edge}
use Rattle.daggy_base.proofs.PathsWithNewNode.{node_kept, node_new, not_before}
use Rattle.daggy_base.proofs.PathsWithoutNode.{IsApart, apart, slot-map, from_map}
use Rattle.daggy_base.proofs.PathsWithoutEdge.{joined_before}
use Rattle.daggy_base.proofs.PathsWithEdgeWeight as weight
use Rattle.daggy_base.specs.Ordered.{IsOrderOf, place}
use Rattle.daggy_base.proofs.Sorted.{distinct_from_unique, place_same, place_other, place_left, place_right}
use Rattle.daggy_base.proofs.Sorted.{sorted_from_places, places_from_sorted}
use Rattle.daggy_base.proofs.ListParts.{is_held, held_is}
use Rattle.daggy_order.proofs.SortedListChanges.{Lists, lists_filtered, lists_named, lists_last, lists_first}
use Rattle.daggy_order.proofs.SortedListChanges.{filter_map_some}

pub acyclic_from_order : {N E : Type 0} {g : Graph N E} (order : List ℕ) → IsOrderOf g order → IsAcyclic g
acyclic_from_order {N} {E} {g} order ord u v rest p e =
    let P : ℕ → Type 0 = λ z. place order u < place order z in
    let late : place order u < place order u =
    subst P e (path_stays g P (λ x y h j. omega (arith, h, ord.sorted x y j)) v rest p.2 (ord.sorted u v p.1)) in
    absurd (omega arith)

-- the ends of each edge exist
abbrev pub HasEnds : {N E : Type 0} → Graph N E → Type 0
HasEnds g = (u v : ℕ) → AreJoined g u v → HasNode g u × HasNode g v

pub ends_exist : {N E : Type 0} {end : ℕ} {g : Graph N E} → IsWellFormed end g → HasEnds g
ends_exist f u v j = (f.parents j.0 _ j.2, f.children j.0 _ j.2)

-- an order, by the list alone
pub lists_from_order : {N E : Type 0} {g : Graph N E} (order : List ℕ)
    → IsOrderOf g order → Lists (HasNode g) (AreJoined g) order
lists_from_order {N} {E} {g} order ord =
    let once = unique_from_distinct order ord.once in
    record {
      exact = λ n. (λ m. (ord.exact n).0 (mem_contains order n m), λ h. contains_mem order n ((ord.exact n).1 h));
      once = once;
      sorted = sorted_from_places (AreJoined g) order once (λ u v m n r. ord.sorted u v r);
    }

pub order_from_lists : {N E : Type 0} {g : Graph N E} (order : List ℕ)
    → HasEnds g → Lists (HasNode g) (AreJoined g) order → IsOrderOf g order
order_from_lists {N} {E} {g} order ends s =
    record {
      exact = λ n. (λ c. (s.exact n).0 (contains_mem order n c), λ h. mem_contains order n ((s.exact n).1 h));
      once = distinct_from_unique order s.once;
      sorted = λ u v j. let both = ends u v j in
          places_from_sorted (AreJoined g) order s.sorted u v ((s.exact u).1 both.0) ((s.exact v).1 both.1) j;
    }

pub order_empty : {N E : Type 0} → IsOrderOf (empty {N = N} {E = E}) []
order_empty {N} {E} =
    order_from_lists [] (λ u v j. absurd (none-some _ j.2))
    (record { exact = λ n. (λ m. absurd m, λ h. absurd (false≢true h)); once = tt; sorted = tt })

-- the same nodes, and no more pairs joined, whatever the weights are
pub order_fewer : {N E V W : Type 0} {old : Graph N E} {new : Graph V W} (order : List ℕ)
    → IsOrderOf old order → ((n : ℕ) → HasNode new n ↔ HasNode old n)
    → ((u v : ℕ) → AreJoined new u v → AreJoined old u v) → IsOrderOf new order
order_fewer order ord same fewer =
    record {
      exact = λ n. (λ c. (same n).1 ((ord.exact n).0 c), λ e. (ord.exact n).1 ((same n).0 e));
      once = ord.once;
      sorted = λ u v j. ord.sorted u v (fewer u v j);
    }

-- an edge more, from a node to one that stands after it
pub order_with_edge : {N E : Type 0} {g : Graph N E} (order : List ℕ)
    → IsOrderOf g order → (a b : ℕ) (w : E) → place order a < place order b → IsOrderOf (with_edge g a b w) order
order_with_edge {N} {E} {g} order ord a b w before =
    record {
      exact = ord.exact;
      once = ord.once;
      sorted = λ u v j.
          elim (joined_cases g a b w u v j) [
            | inl old ↦ ord.sorted u v old
            | inr new ↦ (
                let P : ℕ → Type 0 = λ z. place order z < place order v in
                let Q : ℕ → Type 0 = λ z. place order a < place order z in
                subst P (sym new.0) (subst Q (sym new.1) before)
                )
          ];
    }

-- the edge that was added last is taken out again
pub order_before_edge : {N E : Type 0} {end : ℕ} {g : Graph N E}
    → IsWellFormed end g → (order : List ℕ) (a b : ℕ) (w : E) → IsOrderOf (with_edge g a b w) order → IsOrderOf g order
order_before_edge {N} {E} {end} {g} f order a b w ord =
    order_fewer order ord (λ n. (λ h. h, λ h. h)) (joined_kept g a b w (free_edge g a b w end f))

module _ {N E V W : Type 0} {old : Graph N E} {new : Graph V W} (order : List ℕ) (ord : IsOrderOf old order)
    (ends : HasEnds new) where
  -- the nodes that pass a test, and no more pairs joined
  pub order_filtered : (test : ℕ → Bool) → ((n : ℕ) → HasNode new n ↔ (HasNode old n × (test n ≡ true)))
      → ((u v : ℕ) → AreJoined new u v → AreJoined old u v) → IsOrderOf new (filter test order)
  order_filtered test kept fewer =
      order_from_lists (filter test order) ends (lists_filtered order (lists_from_order order ord) test kept fewer)

  -- some of the nodes, under new names of which no two are one, and no more pairs joined
  pub order_named : (name : ℕ → Option ℕ) → ((u v k : ℕ) → name u ≡ Some k → name v ≡ Some k → u ≡ v)
      → ((k : ℕ) → HasNode new k ↔ ((n : ℕ) × HasNode old n × (name n ≡ Some k)))
      → ((k l : ℕ) → AreJoined new k l → (u v : ℕ) × (name u ≡ Some k) × (name v ≡ Some l) × AreJoined old u v)
      → IsOrderOf new (filter_map name order)
  order_named name one names before =
      order_from_lists (filter_map name order) ends
      (lists_named order (lists_from_order order ord) name (λ u v k m n. one u v k) names (λ u v k l m n p q j.
      let b = before k l j in
      let P : ℕ → Type 0 = λ z. AreJoined old z v in
      let Q : ℕ → Type 0 = λ z. AreJoined old b.0 z in
      subst P (one b.0 u k b.2 p) (subst Q (one b.1 v l b.3 q) b.4)))

  -- a node more, put last, with edges into it alone
  pub order_last : HasEnds old → (n : ℕ) → (HasNode old n → ⊥) → ((m : ℕ) → HasNode new m ↔ (HasNode old m ⊎ (m ≡ n)))
      → ((u v : ℕ) → AreJoined new u v → AreJoined old u v ⊎ (HasNode old u × (v ≡ n)))
      → IsOrderOf new (order ++ n ∷ [])
  order_last old_ends n absent more into =
      order_from_lists (order ++ n ∷ []) ends
      (lists_last order (lists_from_order order ord) n absent more into old_ends)

  -- a node more, put first, with edges out of it alone
  pub order_first : HasEnds old → (n : ℕ) → (HasNode old n → ⊥) → ((m : ℕ) → HasNode new m ↔ (HasNode old m ⊎ (m ≡ n)))
      → ((u v : ℕ) → AreJoined new u v → AreJoined old u v ⊎ ((u ≡ n) × HasNode old v)) → IsOrderOf new (n ∷ order)
  order_first old_ends n absent more out =
      order_from_lists (n ∷ order) ends (lists_first order (lists_from_order order ord) n absent more out old_ends)

-- slots
slot_get : {A : Type 0} (xs : List (Option A)) (i : ℕ) → slot xs i ≡ get_or xs i None
slot_get [] i = refl
slot_get (x ∷ xs) zero = refl
slot_get (x ∷ xs) (suc i) = slot_get xs i

some_as : {A : Type 0} {a b : Option A} → a ≡ b → IsSome b → IsSome a
some_as {A} e h = let P : Option A → Type 0 = λ z. IsSome z in subst P (sym e) h

pub slot_within : {A : Type 0} (xs : List (Option A)) (i : ℕ) → IsSome (slot xs i) → i < length xs
slot_within xs i h =
    elim (cases_lt i (length xs)) [
      | inl low ↦ low
      | inr past ↦ absurd (false≢true (some_as (sym (slot_get xs i ∙ get_or_past xs i None past)) h))
    ]

slot_here : {A : Type 0} (xs : List (Option A)) (i : ℕ) (x : Option A) → i < length xs → slot (set xs i x) i ≡ x
slot_here xs i x low = slot_get (set xs i x) i ∙ get_or-set_same xs i x None low

slot_other : {A : Type 0} (xs : List (Option A)) (i k : ℕ) (x : Option A)
    → (k ≡ i → ⊥) → slot (set xs i x) k ≡ slot xs k
slot_other xs i k x differs = slot_get (set xs i x) k ∙ (get_or-set_other xs i k x None differs ∙ sym (slot_get xs k))

-- a node is added
pub some_is : {A : Type 0} (o : Option A) → IsSome o → (x : A) × (o ≡ Some x)
some_is None h = absurd (false≢true h)
some_is (Some x) h = (x, refl)

pub before_last : (order : List ℕ) (u n : ℕ)
    → Mem u order → (Mem n order → ⊥) → place (order ++ n ∷ []) u < place (order ++ n ∷ []) n
before_last order u n m absent = omega (arith, place_left order (n ∷ []) u m, place_right order (n ∷ []) n absent)

pub first_before : (order : List ℕ) (u n : ℕ)
    → Mem u order → (Mem n order → ⊥) → place (n ∷ order) n < place (n ∷ order) u
first_before order u n m absent =
    let differs : n ≡ u → ⊥ = λ e. absent (let P : ℕ → Type 0 = λ z. Mem z order in subst P (sym e) m) in
    omega (arith, place_same n n order refl, place_other n u order differs)

module _ {N E : Type 0} {end : ℕ} {g : Graph N E} (f : IsWellFormed end g) (w : N) where
  nodes_more : (m : ℕ) → HasNode (with_node g w) m ↔ (HasNode g m ⊎ (m ≡ next_node g))
  nodes_more m = (
    λ h.
        let x = some_is (node_weight (with_node g w) m) h in
        elim (slot_taken g.nodes g.vacant_nodes w m x.0 x.1) [
          | inl new ↦ inr new.0
          | inr old ↦ inl (rw old refl)
        ],
    λ h. elim h [
      | inl old ↦ node_kept end g w f m old
      | inr new ↦ (let P : ℕ → Type 0 = λ z. HasNode (with_node g w) z in subst P (sym new) (node_new end g w f))
    ],
  )

  ends_more : HasEnds (with_node g w)
  ends_more u v j = let both = ends_exist f u v j in ((nodes_more u).1 (inl both.0), (nodes_more v).1 (inl both.1))

  -- the node that was added last is taken out again
  pub order_before_node : (order : List ℕ) → IsOrderOf (with_node g w) order → IsOrderOf g (without (next_node g) order)
  order_before_node order ord =
      order_filtered order ord (ends_exist f) (λ m. not (eqb m (next_node g))) (λ m. (
        λ h. (
          (nodes_more m).1 (inl h),
          is_held (next_node g) m (λ e. not_before end g w f (let P : ℕ → Type 0 = λ z. HasNode g z in subst P e h)),
        ),
        λ h. elim ((nodes_more m).0 h.0) [ inl old ↦ old | inr new ↦ absurd (held_is (next_node g) m h.1 new) ],
      )) (λ u v j. j)

  module _ (order : List ℕ) (ord : IsOrderOf g order) where
    not_listed : Mem (next_node g) order → ⊥
    not_listed m = not_before end g w f ((ord.exact (next_node g)).0 (mem_contains order (next_node g) m))

    -- put last, or first
    pub order_with_node_last : IsOrderOf (with_node g w) (order ++ next_node g ∷ [])
    order_with_node_last =
        order_last order ord ends_more (ends_exist f) (next_node g) (not_before end g w f) nodes_more (λ u v j. inl j)

    pub order_with_node_first : IsOrderOf (with_node g w) (next_node g ∷ order)
    order_with_node_first =
        order_first order ord ends_more (ends_exist f) (next_node g) (not_before end g w f) nodes_more (λ u v j. inl j)

    -- with an edge from an old node, or to one
    pub order_with_child : (n : ℕ) (e : E)
        → HasNode g n → IsOrderOf (with_neighbor Outgoing g n e w) (order ++ next_node g ∷ [])
    order_with_child n e exists =
        order_with_edge (order ++ next_node g ∷ []) order_with_node_last n (next_node g) e
        (before_last order n (next_node g) (contains_mem order n ((ord.exact n).1 exists)) not_listed)

    pub order_with_parent : (n : ℕ) (e : E)
        → HasNode g n → IsOrderOf (with_neighbor Incoming g n e w) (next_node g ∷ order)
    order_with_parent n e exists =
        order_with_edge (next_node g ∷ order) order_with_node_first (next_node g) n e
        (first_before order n (next_node g) (contains_mem order n ((ord.exact n).1 exists)) not_listed)

-- weights are written
pub nodes_with_weight : {N E : Type 0} (g : Graph N E) (n : ℕ) (w : N) → HasNode g n
    → (m : ℕ) → HasNode (with_node_weight g n w) m ↔ HasNode g m
nodes_with_weight {N} {E} g n w exists m =
    let within : n < length g.nodes = slot_within g.nodes n exists in (
      λ h. elim (cases_eq m n) [
        | inl e ↦ (let P : ℕ → Type 0 = λ z. HasNode g z in subst P (sym e) exists)
        | inr d ↦ some_as (sym (slot_other g.nodes n m (Some w) d)) h
      ],
      λ h. elim (cases_eq m n) [
        | inl e ↦
            (let P : ℕ → Type 0 = λ z. HasNode (with_node_weight g n w) z in
            subst P (sym e) (some_as (slot_here g.nodes n (Some w) within) refl))
        | inr d ↦ some_as (slot_other g.nodes n m (Some w) d) h
      ],
    )

pub order_with_node_weight : {N E : Type 0} {g : Graph N E} (order : List ℕ)
    → IsOrderOf g order → (n : ℕ) (w : N) → HasNode g n → IsOrderOf (with_node_weight g n w) order
order_with_node_weight {N} {E} {g} order ord n w exists =
    order_fewer order ord (nodes_with_weight g n w exists) (λ u v j. j)

pub order_with_edge_weight : {N E : Type 0} {g : Graph N E} (order : List ℕ)
    → IsOrderOf g order → (e : ℕ) (w : E) → IsOrderOf (with_edge_weight g e w) order
order_with_edge_weight {N} {E} {g} order ord e w =
    order_fewer order ord (λ m. (λ h. h, λ h. h)) (weight.joined_before g e w)

-- edges are removed
same_node : {N E : Type 0} (kind : Kind) (g : Graph N E) (e n : ℕ) → HasNode (without_edge kind g e) n ↔ HasNode g n
same_node Compact g e n = (λ h. h, λ h. h)
same_node Stable g e n = (λ h. h, λ h. h)

pub order_without_edge : {N E : Type 0} (kind : Kind) (g : Graph N E) (order : List ℕ) (e : ℕ)
    → IsOrderOf g order → IsOrderOf (without_edge kind g e) order
order_without_edge kind g order e ord = order_fewer order ord (same_node kind g e) (joined_before kind g e)

pub order_without_all_edges : {N E : Type 0} (g : Graph N E) (order : List ℕ)
    → IsOrderOf g order → IsOrderOf (without_all_edges g) order
order_without_all_edges g order ord = order_fewer order ord (λ n. (λ h. h, λ h. h)) (λ u v j. absurd (none-some _ j.2))

order_without_first : {N E : Type 0} (kind : Kind) (g : Graph N E) (order es : List ℕ)
    → IsOrderOf g order → IsOrderOf (without_first kind g es) order
order_without_first kind g order [] ord = ord
order_without_first kind g order (e ∷ es) ord = order_without_edge kind g order e ord

order_without_front : {N E : Type 0} (kind : Kind) (dir : Direction) (k : ℕ) (g : Graph N E) (order : List ℕ) (n : ℕ)
    → IsOrderOf g order → IsOrderOf (without_front kind dir k g n) order
order_without_front kind dir zero g order n ord = ord
order_without_front kind dir (suc k) g order n ord =
    order_without_front kind dir k (without_first kind g (list_at dir g n)) order n
    (order_without_first kind g order (list_at dir g n) ord)

pub order_isolated : {N E : Type 0} (kind : Kind) (g : Graph N E) (order : List ℕ) (n : ℕ)
    → IsOrderOf g order → IsOrderOf (with_node_isolated kind g n) order
order_isolated kind g order n ord =
    let h = without_front kind Outgoing (length (out_list g n)) g n in
    order_without_front kind Incoming (length (in_list h n)) h order n
    (order_without_front kind Outgoing (length (out_list g n)) g order n ord)

-- a node without edges is removed
module _ {A : Type 0} (xs : List (Option A)) (n : ℕ) (within : n < length xs) where
  swapped_low : (m : ℕ)
      → m < length xs - 1 → slot (swap_remove xs n None) m ≡ slot (set xs n (get_or xs (length xs - 1) None)) m
  swapped_low m low =
      let ys = set xs n (get_or xs (length xs - 1) None) in
      slot_get (swap_remove xs n None) m ∙ (get_or-take (length xs - 1) ys m None low ∙ sym (slot_get ys m))

  swapped_here : n < length xs - 1 → slot (swap_remove xs n None) n ≡ slot xs (length xs - 1)
  swapped_here low =
      swapped_low n low ∙ (slot_here xs n (get_or xs (length xs - 1) None) within ∙ sym (slot_get xs (length xs - 1)))

  swapped_other : (m : ℕ) → m < length xs - 1 → (m ≡ n → ⊥) → slot (swap_remove xs n None) m ≡ slot xs m
  swapped_other m low differs = swapped_low m low ∙ slot_other xs n m (get_or xs (length xs - 1) None) differs

  swapped_short : (m : ℕ) → IsSome (slot (swap_remove xs n None) m) → m < length xs - 1
  swapped_short m h =
      let ys = set xs n (get_or xs (length xs - 1) None) in
      omega (arith, slot_within (swap_remove xs n None) m h, length-take (length xs - 1) ys)

renamed_last : (last n : ℕ) → renamed last n last ≡ n
renamed_last last n = grind (arith, nat_tests)

renamed_other : (last n p : ℕ) → (p ≡ last → ⊥) → renamed last n p ≡ p
renamed_other last n p differs = grind (arith, nat_tests)

renamed_one : (last n a b : ℕ) → (a ≡ n → ⊥) → (b ≡ n → ⊥) → renamed last n a ≡ renamed last n b → a ≡ b
renamed_one last n a b da db e = grind (arith, nat_tests)

-- what an order makes of a node's removal
abbrev pub order_left : Kind → (last n : ℕ) → List ℕ → List ℕ
order_left Compact last n order = map (renamed last n) (without n order)
order_left Stable last n order = without n order

module _ {N E : Type 0} {end : ℕ} (g : Graph N E) (f : IsWellFormed end g) (order : List ℕ) (ord : IsOrderOf g order)
    (n : ℕ) (exists : HasNode g n) (alone : IsApart g n) where
  -- an existing node, and another
  abbrev Others : ℕ → Type 0
  Others m = HasNode g m × (m ≡ n → ⊥)

  others_listed : Lists Others (AreJoined g) (without n order)
  others_listed =
      lists_filtered order (lists_from_order order ord) (λ m. not (eqb m n)) (λ m. (
        λ h. (h.0, is_held n m h.1),
        λ h. (h.0, held_is n m h.1),
      )) (λ u v j. j)

  abbrev last : ℕ
  last = length g.nodes - 1

  n_within : n < length g.nodes
  n_within = slot_within g.nodes n exists

  there : (p m : ℕ) → Others p → renamed last n p ≡ m → HasNode (with_node_dropped Compact g n) m
  there p m other is =
      let here : p < length g.nodes = slot_within g.nodes p other.0 in
      let P : ℕ → Type 0 = λ z. HasNode (with_node_dropped Compact g n) z in
      subst P is (elim (cases_eq p last) [
        | inl e ↦ (
            let apart_from_last : last ≡ n → ⊥ = λ q. other.1 (e ∙ q) in
            let low : n < length g.nodes - 1 = omega (arith, n_within, apart_from_last) in
            let Q : ℕ → Type 0 = λ z. HasNode g z in
            subst P (sym (ap (renamed last n) e ∙ renamed_last last n))
            (some_as (swapped_here g.nodes n n_within low) (subst Q e other.0))
            )
        | inr d ↦ (
            let low : p < length g.nodes - 1 = omega (arith, here, d) in
            subst P (sym (renamed_other last n p d)) (some_as (swapped_other g.nodes n n_within p low other.1) other.0)
            )
      ])

  back : (m : ℕ) → HasNode (with_node_dropped Compact g n) m → (p : ℕ) × Others p × (renamed last n p ≡ m)
  back m h =
      let low : m < length g.nodes - 1 = swapped_short g.nodes n n_within m h in
      let is_low : m ≡ last → ⊥ = λ e. absurd (omega (arith, low, e)) in
      elim (cases_eq m n) [
        | inl e ↦ (
            let n_low : n < length g.nodes - 1 = omega (arith, low, e) in
            let P : ℕ → Type 0 = λ z. HasNode (with_node_dropped Compact g n) z in (
              last,
              (some_as (sym (swapped_here g.nodes n n_within n_low)) (subst P e h), λ q. is_low (e ∙ sym q)),
              renamed_last last n ∙ sym e,
            )
            )
        | inr d ↦ (m, (some_as (sym (swapped_other g.nodes n n_within m low d)) h, d), renamed_other last n m is_low)
      ]

  was_joined : (u v k l : ℕ) → Others u → Others v → renamed last n u ≡ k → renamed last n v ≡ l
      → AreJoined (with_node_dropped Compact g n) k l → AreJoined g u v
  was_joined u v k l a b p q j =
      let found =
      from_map (with_ends_renamed last n) (edge_at g j.0) _
      (sym (slot-map (with_ends_renamed last n) g.edges j.0) ∙ j.2) in
      let x : Edge E = found.0 in
      let from : renamed last n x.parent ≡ k = ap (λ (y : Edge E). y.parent) found.2 in
      let to : renamed last n x.child ≡ l = ap (λ (y : Edge E). y.child) found.2 in
      let P : ℕ → Type 0 = λ z. AreJoined g z v in
      let Q : ℕ → Type 0 = λ z. AreJoined g x.parent z in
      subst P (renamed_one last n x.parent u (alone.parents j.0 x found.1) a.1 (from ∙ sym p))
      (subst Q (renamed_one last n x.child v (alone.children j.0 x found.1) b.1 (to ∙ sym q)) (j.0, x.weight, found.1))

  ends_there : HasEnds (with_node_dropped Compact g n)
  ends_there k l j =
      let found =
      from_map (with_ends_renamed last n) (edge_at g j.0) _
      (sym (slot-map (with_ends_renamed last n) g.edges j.0) ∙ j.2) in
      let x : Edge E = found.0 in (
        there x.parent k (f.parents j.0 x found.1, alone.parents j.0 x found.1) (ap (λ (y : Edge E). y.parent) found.2),
        there x.child l (f.children j.0 x found.1, alone.children j.0 x found.1) (ap (λ (y : Edge E). y.child) found.2),
      )

  order_compact : IsOrderOf (with_node_dropped Compact g n) (map (renamed last n) (without n order))
  order_compact =
      let named =
      lists_named (without n order) others_listed (λ m. Some (renamed last n m))
      (λ u v k a b p q. renamed_one last n u v a.1 b.1 (same_Some _ _ (p ∙ sym q))) (λ k. (
        λ h. (let b = back k h in (b.0, b.1, ap Some b.2)),
        λ h. there h.0 k h.1 (same_Some _ _ h.2),
      )) (λ u v k l a b p q. was_joined u v k l a b (same_Some _ _ p) (same_Some _ _ q)) in
      let P : List ℕ → Type 0 = λ z.
      Lists (HasNode (with_node_dropped Compact g n)) (AreJoined (with_node_dropped Compact g n)) z in
      order_from_lists (map (renamed last n) (without n order)) ends_there
      (subst P (filter_map_some (renamed last n) (without n order)) named)

  order_stable : IsOrderOf (with_node_dropped Stable g n) (without n order)
  order_stable =
      let same : (m : ℕ) → HasNode (with_node_dropped Stable g n) m ↔ Others m = λ m. (
        λ h. elim (cases_eq m n) [
          | inl e ↦
              (let P : ℕ → Type 0 = λ z. HasNode (with_node_dropped Stable g n) z in
              absurd (false≢true (some_as (sym (slot_here g.nodes n None n_within)) (subst P e h))))
          | inr d ↦ (some_as (sym (slot_other g.nodes n m None d)) h, d)
        ],
        λ h. some_as (slot_other g.nodes n m None h.1) h.0,
      ) in
      order_from_lists (without n order) (λ u v j. let both = ends_exist f u v j in (
        (same u).1 (both.0, λ e. alone.parents j.0 _ j.2 e),
        (same v).1 (both.1, λ e. alone.children j.0 _ j.2 e),
      )) (record {
        exact = λ m. (λ h. (same m).1 ((others_listed.exact m).0 h), λ h. (others_listed.exact m).1 ((same m).0 h));
        once = others_listed.once;
        sorted = others_listed.sorted;
      })

  pub order_dropped : (kind : Kind) → IsOrderOf (with_node_dropped kind g n) (order_left kind last n order)
  order_dropped Compact = order_compact
  order_dropped Stable = order_stable

-- a node is removed with its edges
nodes_without_first : {N E : Type 0} (kind : Kind) (g : Graph N E) (es : List ℕ)
    → (without_first kind g es).nodes ≡ g.nodes
nodes_without_first kind g [] = refl
nodes_without_first Compact g (e ∷ es) = refl
nodes_without_first Stable g (e ∷ es) = refl

nodes_without_front : {N E : Type 0} (kind : Kind) (dir : Direction) (k : ℕ) (g : Graph N E) (n : ℕ)
    → (without_front kind dir k g n).nodes ≡ g.nodes
nodes_without_front kind dir zero g n = refl
nodes_without_front kind dir (suc k) g n =
    nodes_without_front kind dir k (without_first kind g (list_at dir g n)) n
    ∙ nodes_without_first kind g (list_at dir g n)

pub nodes_isolated : {N E : Type 0} (kind : Kind) (g : Graph N E) (n : ℕ)
    → (with_node_isolated kind g n).nodes ≡ g.nodes
nodes_isolated kind g n =
    let h = without_front kind Outgoing (length (out_list g n)) g n in
    nodes_without_front kind Incoming (length (in_list h n)) h n
    ∙ nodes_without_front kind Outgoing (length (out_list g n)) g n

pub order_without_node : {N E : Type 0} {end : ℕ} (kind : Kind) (g : Graph N E) (order : List ℕ) (n : ℕ)
    → IsOrderOf g order → HasNode g n → IsIsolated end (with_node_isolated kind g n) n
    → IsOrderOf (without_node kind g n) (order_left kind (length g.nodes - 1) n order)
order_without_node {N} {E} {end} kind g order n ord exists alone =
    let h = with_node_isolated kind g n in
    let same : h.nodes ≡ g.nodes = nodes_isolated kind g n in
    let still : HasNode h n = some_as (ap (λ z. slot z n) same) exists in
    let P : ℕ → Type 0 = λ z. IsOrderOf (without_node kind g n) (order_left kind (z - 1) n order) in
    subst P (ap length same) (order_dropped h alone.well_formed order (order_isolated kind g order n ord) n still
    (apart h n alone.well_formed (alone.no_edges Outgoing) (alone.no_edges Incoming)) kind)

-- where the node that is removed is the last one, no other is renamed
pub none_renamed : (n : ℕ) (xs : List ℕ) → map (renamed n n) xs ≡ xs
none_renamed n [] = refl
none_renamed n (x ∷ xs) =
    let same : renamed n n x ≡ x = grind (arith, nat_tests) in
    ap (λ (z : ℕ). z ∷ map (renamed n n) xs) same ∙ ap (λ (z : List ℕ). x ∷ z) (none_renamed n xs)
