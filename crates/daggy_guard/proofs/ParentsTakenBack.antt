-- Edges to a node from the parents of some items: added in turn, and taken back.
use Rattle.std.proofs.Common.{◌≡◌, ℕ, zero, suc, ◌+◌, ◌<◌, ◌≤◌, ◌↔◌, Bool, IsTrue, List, [], ◌∷◌, ◌++◌, map, length}
use Rattle.std.proofs.Common.{drop, reverse, get_or, Option, Some, None, refl, sym, ap, subst, ◌∙◌, arith, append_assoc}
use Rattle.std.specs.List.{All}
use Rattle.std.specs.Option.{option_map}
use Rattle.std.proofs.lemmas.Option.{same_Some}
use Rattle.std.proofs.lemmas.List.{length-append, length-map, length-reverse, map-append, reverse-append, reverse-reverse}
use Rattle.std.proofs.lemmas.List.{append-nil}
use Rattle.daggy_base.specs.Graph.{Graph, Edge, HasNode, edge_at, edge_count, pair_of, ends_of}
use Rattle.daggy_base.specs.Adding.{NewEdge, with_edge, next_edge}
use Rattle.daggy_base.specs.TakingBack.{with_edge_taken_back}
use Rattle.daggy_base.specs.WellFormed.{IsWellFormed}
use Rattle.daggy_base.specs.declared.kind.Kind.{Kind}
use Rattle.daggy_base.specs.declared.kind.Kind.TheVariants.{Compact}
use Rattle.daggy_guard.specs.EdgeBatch.{with_edges, new_edges}
use Rattle.daggy_guard.specs.BatchProgress.{IsBatchSoFar}
use Rattle.daggy_guard.specs.Parents.{edges_to}
use Rattle.daggy_guard.proofs.AcceptedEdges.{count_with_edges}
use Rattle.daggy_guard.proofs.AddAllLoop.{series_on}
use Rattle.daggy_guard.proofs.EdgesRolledBack.{Start, Progress, Rolling, IsLast, here, edge_there, rolls_on}
use Rattle.daggy_guard.proofs.EdgesRolledBack.{rolling_starts}

drop_whole : {A : Type 0} (xs : List A) (k : ℕ) → k ≡ length xs → drop k xs ≡ []
drop_whole {A} xs k h = ap (λ z. drop z xs) h ∙ all xs
  where
    all : (ys : List A) → drop (length ys) ys ≡ []
    all [] = refl
    all (y ∷ ys) = all ys

-- the item of an edge
record ItemOf {I E : Type 0} (number : I → ℕ) (n k : ℕ) (given : List (I × E)) (y : NewEdge E) : Type 0 where
  item : I × E
  rest_is : drop k given ≡ item ∷ drop (suc k) given
  edge_is : y ≡ (number item.0, n, item.1)

item_of : {I E : Type 0} (number : I → ℕ) (n k : ℕ) (given : List (I × E)) (y : NewEdge E) (ys : List (NewEdge E))
    → drop k (edges_to number n given) ≡ y ∷ ys → ItemOf number n k given y
item_of number n zero [] y ys h = absurd cc
item_of number n (suc k) [] y ys h = absurd cc
item_of number n zero (x ∷ xs) y ys h = record { item = x; rest_is = refl; edge_is = cc }
item_of number n (suc k) (x ∷ xs) y ys h =
    let more = item_of number n k xs y ys h in
    record { item = more.item; rest_is = more.rest_is; edge_is = more.edge_is }

-- the weights of the items that were put back
abbrev pub weights_put : {I E : Type 0} → ℕ → List (I × E) → List E
weights_put left given = map (λ x. x.1) (reverse (drop left given))

-- the loop of `take_back_parents`: the items from `left` on are put back, the last one first
pub record PuttingBack {I N E : Type 0} (number : I → ℕ) (limit : ℕ) (kind : Kind) (start : Start N E) (n : ℕ)
    (given held : List (I × E)) (now : Progress N E) (items : List (I × E)) : Type 0 where
  pub edges_are : start.items ≡ edges_to number n given
  pub rolling : Rolling limit kind start now
  pub weights_are : now.weights ≡ weights_put now.left given
  pub items_are : items ≡ held ++ reverse (drop now.left given)

pub putting_starts : {I N E : Type 0} {number : I → ℕ} {limit : ℕ} {kind : Kind} {before graph : Graph N E} {n : ℕ}
    {given held : List (I × E)} {edges : List ℕ} {slots left weights_held capacity looks : ℕ}
    → IsBatchSoFar limit kind before graph (edges_to number n given) edges slots
    → left ≡ length edges → weights_held + length edges ≤ capacity
    → PuttingBack number limit kind record {
      graph = before;
      items = edges_to number n given;
      edges = edges;
      slots = slots;
      looks = looks;
    } n given held record {
      graph = graph;
      left = left;
      weights = weights_put left given;
      weights_held = weights_held;
      capacity = capacity;
      looks = looks;
    } held
putting_starts {number = number} {before = before} {n = n} {given = given} {held = held} {left = left} s all fits =
    let many : left ≡ length given =
    all ∙ ap length s.indices_are ∙ indices_many before (edges_to number n given) ∙ length-map given _ in
    let none : reverse (drop left given) ≡ [] = ap reverse (drop_whole given left many) in
    record {
      edges_are = refl;
      rolling = rolling_starts s all (ap (map (λ x. x.1)) none) fits refl;
      weights_are = refl;
      items_are = sym (ap (λ z. held ++ z) none ∙ append-nil held);
    }
  where
    indices_many : {N E : Type 0} (g : Graph N E) (xs : List (NewEdge E)) → length (new_edges g xs) ≡ length xs
    indices_many g [] = refl
    indices_many g (x ∷ xs) = ap suc (indices_many (with_edge g x.0 x.1 x.2) xs)

module _ {I N E : Type 0} {number : I → ℕ} (one_index : (i j : I) → number i ≡ number j → i ≡ j) {limit : ℕ} {kind : Kind}
    {start : Start N E} {n : ℕ} {given held : List (I × E)} {now : Progress N E} {items : List (I × E)}
    (s : PuttingBack number limit kind start n given held now items) {k e : ℕ} (last : IsLast start now k e) where
  the_item : ItemOf number n k given (here s.rolling last).item
  the_item =
      item_of number n k given _ _
      (ap (drop k) (sym s.edges_are) ∙ (here s.rolling last).rest_is)

  -- the edge exists
  pub there_is : None ≡ option_map ends_of (edge_at now.graph e) → ⊥
  there_is h =
      let at = edge_there s.rolling last in
      let none = h ∙ ap (option_map ends_of) at in
      absurd cc

  module _ {made : Bool} (by_index : IsTrue made ↔ (start.slots ≤ e)) where
    -- `after` is what the loop has once it is taken back, and p its endpoints
    pub record IsPut (after : Progress N E) (p : I × I) (w : E) (items' : List (I × E)) : Type 0 where
      pub ends : option_map (pair_of number) (Some p) ≡ option_map ends_of (edge_at now.graph e)
      pub gives : Some w ≡ option_map (λ x. x.weight) (edge_at now.graph e)
      pub is_back : after.graph ≡ with_edge_taken_back made now.graph e
      pub left : after.left ≡ k
      pub weights : after.weights ≡ weights_put k given
      pub weights_held : after.weights_held ≡ now.weights_held + 1
      pub capacity : after.capacity ≡ now.capacity
      pub looks : after.looks ≡ now.looks
      pub put : items' ≡ items ++ (p.0, w) ∷ []

    pub puts_on : {after : Progress N E} {p : I × I} {w : E} {items' : List (I × E)}
        → IsPut after p w items' → PuttingBack number limit kind start n given held after items'
    puts_on {after} {p} {w} {items'} m =
        let x = the_item.item in
        let at = edge_there s.rolling last in
        let ends_are : pair_of number p ≡ (number x.0, n) =
        same_Some _ _ (m.ends ∙ ap (option_map ends_of) at)
        ∙ ap (λ (y : NewEdge E). (y.0, y.1)) the_item.edge_is in
        let same_parent : p.0 ≡ x.0 = one_index p.0 x.0 (ap (λ (q : ℕ × ℕ). q.0) ends_are) in
        let same_weight : w ≡ x.1 =
        same_Some _ _ (m.gives ∙ ap (option_map (λ (y : Edge E). y.weight)) at)
        ∙ ap (λ (y : NewEdge E). y.2) the_item.edge_is in
        let same : (p.0, w) ≡ x = ap (λ z. (z, w)) same_parent ∙ ap (λ z. (x.0, z)) same_weight in
        let more : reverse (drop k given) ≡ reverse (drop (suc k) given) ++ x ∷ [] =
        ap reverse the_item.rest_is ∙ reverse-append (x ∷ []) (drop (suc k) given) in
        let so_far : items ≡ held ++ reverse (drop (suc k) given) =
        s.items_are ∙ ap (λ z. held ++ reverse (drop z given)) last.one in
        record {
          edges_are = s.edges_are;
          rolling = rolls_on s.rolling last by_index record {
            weight = w;
            gives = m.gives;
            is_back = m.is_back;
            left = m.left;
            weights =
                m.weights ∙ ap (map (λ z. z.1)) more
                ∙ map-append (λ z. z.1) (reverse (drop (suc k) given)) (x ∷ [])
                ∙ ap (λ z. z ++ x.1 ∷ []) (sym (s.weights_are ∙ ap (λ z. weights_put z given) last.one))
                ∙ ap (λ z. now.weights ++ z ∷ []) (sym same_weight);
            weights_held = m.weights_held;
            capacity = m.capacity;
            looks = m.looks;
          };
          weights_are = m.weights ∙ ap (λ z. weights_put z given) (sym m.left);
          items_are =
              m.put ∙ ap (λ z. items ++ z ∷ []) same ∙ ap (λ z. z ++ x ∷ []) so_far
              ∙ append_assoc held (reverse (drop (suc k) given)) (x ∷ [])
              ∙ ap (λ z. held ++ z) (sym more) ∙ ap (λ z. held ++ reverse (drop z given)) (sym m.left);
        }

-- ---- added in turn

pub same_nodes : {N E : Type 0} (g : Graph N E) (xs : List (NewEdge E)) → (with_edges g xs).nodes ≡ g.nodes
same_nodes g [] = refl
same_nodes g (x ∷ xs) = same_nodes (with_edge g x.0 x.1 x.2) xs

-- what the loop of `add_parents` has: the graph, the items still to be added, the last one first, how many they are and
-- for how many there is memory, the indices so far, how many they are and for how many there is memory, and how many
-- slots of edges there were
pub record Turn (I N E : Type 0) : Type 0 where
  pub graph : Graph N E
  pub left : List (I × E)
  pub left_count : ℕ
  pub left_capacity : ℕ
  pub edges : List ℕ
  pub edge_count : ℕ
  pub edge_capacity : ℕ
  pub slots : ℕ

pub record InTurn {I N E : Type 0} (number : I → ℕ) (limit : ℕ) (kind : Kind) (before : Graph N E) (n : ℕ)
    (items : List (I × E)) (now : Turn I N E) : Type 0 where
  pub given : List (I × E)
  pub items_are : items ≡ given ++ reverse now.left
  pub batch : IsBatchSoFar limit kind before now.graph (edges_to number n given) now.edges now.slots
  pub count_is : now.left_count ≡ length now.left
  pub as_many : now.edge_count ≡ length given
  pub items_fit : now.left_count + length given ≤ now.left_capacity
  pub edges_fit : now.left_count + length given ≤ now.edge_capacity
  pub node : HasNode before n
  pub parents : All (λ x. HasNode before (number x.0)) items
  pub indices_left : edge_count before + length items ≤ limit

module _ {I N E : Type 0} {number : I → ℕ} {limit : ℕ} {kind : Kind} {before : Graph N E} {n : ℕ} {items : List (I × E)}
    {now : Turn I N E} (s : InTurn number limit kind before n items now) where
  there : (m : ℕ) → HasNode before m → HasNode now.graph m
  there m h =
      let P : List (Option N) → Type 0 = λ z. HasNode (record {
        nodes = z;
        edges = now.graph.edges;
        out_lists = now.graph.out_lists;
        in_lists = now.graph.in_lists;
        vacant_nodes = now.graph.vacant_nodes;
        vacant_edges = now.graph.vacant_edges;
      }) m in
      let same : now.graph.nodes ≡ before.nodes =
      ap (λ (z : Graph N E). z.nodes) s.batch.now_is ∙ same_nodes before (edges_to number n s.given) in
      subst P (sym same) h

  -- the same edges, where nothing changed
  pub batch_kept : (new : Graph N E) (edges' : List ℕ) → new ≡ now.graph → edges' ≡ now.edges
      → IsBatchSoFar limit kind before new (edges_to number n s.given) edges' now.slots
  batch_kept new edges' same kept = record {
    now_is = same ∙ s.batch.now_is;
    indices_are = kept ∙ s.batch.indices_are;
    well_formed = s.batch.well_formed;
    compact = s.batch.compact;
    slot_count_is = s.batch.slot_count_is;
  }

  pub node_there : HasNode now.graph n
  node_there = there n s.node

  -- the next item, and those behind it
  module _ (x : I × E) (rest : List (I × E)) (is : now.left ≡ rest ++ x ∷ []) where
    behind : reverse now.left ≡ x ∷ reverse rest
    behind = ap reverse is ∙ reverse-append rest (x ∷ [])

    items_now : items ≡ s.given ++ x ∷ reverse rest
    items_now = s.items_are ∙ ap (λ z. s.given ++ z) behind

    pub parent_there : HasNode now.graph (number x.0)
    parent_there =
        let k = length s.given in
        let P : I × E → Type 0 = λ z. HasNode before (number z.0) in
        let low : k < length items =
        omega (arith, ap length items_now, length-append s.given (x ∷ reverse rest)) in
        there (number x.0) (subst P (ap (λ z. get_or z k x) items_now ∙ at s.given) (s.parents k x low))
      where
        at : (xs : List (I × E)) → get_or (xs ++ x ∷ reverse rest) (length xs) x ≡ x
        at [] = refl
        at (y ∷ ys) = at ys

    pub index_there : edge_count now.graph < limit
    index_there =
        let as_many : length (edges_to number n s.given) ≡ length s.given =
        length-map s.given (λ (z : I × E). (number z.0, n, z.1)) in
        omega (
          arith,
          ap edge_count s.batch.now_is,
          count_with_edges limit before (edges_to number n s.given) s.batch.well_formed,
          as_many,
          ap length items_now,
          length-append s.given (x ∷ reverse rest),
          s.indices_left,
        )

    -- its edge is added
    pub record IsTaken (after : Turn I N E) : Type 0 where
      pub well_formed : IsWellFormed limit now.graph
      pub added : after.graph ≡ with_edge now.graph (number x.0) n x.1
      pub left : after.left ≡ rest
      pub left_count : after.left_count + 1 ≡ now.left_count
      pub left_capacity : after.left_capacity ≡ now.left_capacity
      pub noted : after.edges ≡ now.edges ++ next_edge now.graph ∷ []
      pub edge_count : after.edge_count ≡ now.edge_count + 1
      pub edge_capacity : after.edge_capacity ≡ now.edge_capacity
      pub slots : after.slots ≡ now.slots

    pub turns_on : {after : Turn I N E} → IsTaken after → InTurn number limit kind before n items after
    turns_on {after} m =
        let given = s.given ++ x ∷ [] in
        let longer : edges_to number n s.given ++ (number x.0, n, x.1) ∷ [] ≡ edges_to number n given =
        sym (map-append (λ (z : I × E). (number z.0, n, z.1)) s.given (x ∷ [])) in
        let R : List (NewEdge E) → Type 0 = λ z. IsBatchSoFar limit kind before after.graph z after.edges after.slots in
        let T : ℕ → Type 0 = λ z.
        IsBatchSoFar limit kind before after.graph (edges_to number n s.given ++ (number x.0, n, x.1) ∷ []) after.edges z
        in
        let more : length given ≡ length s.given + 1 = length-append s.given (x ∷ []) in
        let counted : length now.left ≡ length rest + 1 = ap length is ∙ length-append rest (x ∷ []) in
        record {
          given = given;
          items_are =
              items_now ∙ sym (append_assoc s.given (x ∷ []) (reverse rest)) ∙ ap (λ z. given ++ reverse z) (sym m.left);
          batch =
              subst R longer
              (subst T (sym m.slots)
              (series_on s.batch (number x.0, n, x.1) after.graph m.well_formed m.added after.edges m.noted));
          count_is = omega (arith, m.left_count, s.count_is, counted, ap length m.left);
          as_many = omega (arith, m.edge_count, s.as_many, more);
          items_fit = omega (arith, s.items_fit, m.left_count, m.left_capacity, more);
          edges_fit = omega (arith, s.edges_fit, m.left_count, m.edge_capacity, more);
          node = s.node;
          parents = s.parents;
          indices_left = s.indices_left;
        }

    -- or none is, and all items are put back
    pub put_back : {back : List (I × E)} → back ≡ (rest ++ x ∷ []) ++ reverse s.given → reverse back ≡ items
    put_back {back} h =
        ap reverse h ∙ reverse-append (rest ++ x ∷ []) (reverse s.given)
        ∙ ap (λ z. z ++ reverse (rest ++ x ∷ [])) (reverse-reverse s.given)
        ∙ ap (λ z. s.given ++ z) (reverse-append rest (x ∷ [])) ∙ sym items_now

  -- nothing is left
  pub all_given : now.left ≡ [] → s.given ≡ items
  all_given h = sym (s.items_are ∙ ap (λ z. s.given ++ reverse z) h ∙ append-nil s.given)

pub turn_begins : {I N E : Type 0} {number : I → ℕ} {limit : ℕ} {kind : Kind} {before : Graph N E} {n : ℕ}
    {items left : List (I × E)} {left_count left_capacity edge_count₀ edge_capacity : ℕ} {edges : List ℕ} {slots : ℕ}
    → (kind ≡ Compact → before.vacant_edges ≡ []) → HasNode before n → All (λ x. HasNode before (number x.0)) items
    → edge_count before + length items ≤ limit → slots ≡ length before.edges → left ≡ reverse items
    → left_count ≡ length items → left_count ≤ left_capacity → edges ≡ [] → edge_count₀ ≡ 0
    → left_count ≤ edge_capacity → InTurn number limit kind before n items record {
      graph = before;
      left = left;
      left_count = left_count;
      left_capacity = left_capacity;
      edges = edges;
      edge_count = edge_count₀;
      edge_capacity = edge_capacity;
      slots = slots;
    }
turn_begins {items = items} {left = left} compact node parents indices slots_are left_is count fits none no_edges room =
    record {
      given = [];
      items_are = sym (ap reverse left_is ∙ reverse-reverse items);
      batch =
          record {
            now_is = refl;
            indices_are = none;
            well_formed = λ k h. absurd (omega (arith, h));
            compact = compact;
            slot_count_is = slots_are;
          };
      count_is = omega (arith, count, ap length left_is, length-reverse items);
      as_many = no_edges;
      items_fit = omega (arith, fits);
      edges_fit = omega (arith, room);
      node = node;
      parents = parents;
      indices_left = indices;
    }
