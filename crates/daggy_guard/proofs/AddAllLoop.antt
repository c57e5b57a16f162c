-- The loop of `add_all`: the edges that were given so far are there.
use Rattle.std.proofs.Common.{◌≡◌, ℕ, suc, ◌+◌, ◌<◌, ◌≤◌, ◌⊎◌, inl, inr, Err, add-one, max, List, [], ◌∷◌}
use Rattle.std.proofs.Common.{◌++◌, map, length, take, reverse, Option, Vec, refl, sym, ap, subst, ◌∙◌, arith}
use Rattle.std.proofs.lemmas.Bool.{cases_lt}
use Rattle.std.proofs.lemmas.List.{length-append, length-map, length-reverse, map-append, take-append-le}
use Rattle.std.specs.Iterator.{Yields, Drains}
use Rattle.std.specs.Prelude.{◌↔◌, Contains}
use Rattle.daggy_base.specs.Graph.{Graph, HasNode, node_bound, node_count, edge_count}
use Rattle.daggy_base.specs.Path.{IsAcyclic}
use Rattle.daggy_base.specs.Adding.{with_edge, next_edge}
use Rattle.daggy_base.specs.declared.kind.Kind.{Kind}
use Rattle.daggy_base.specs.WellFormed.{IsWellFormed}
use Rattle.std.specs.declared.alloc.Global.{Global}
use Rattle.daggy_base.proofs.PathsWithEdge.{free_edge, still_cyclic, cyclic_with_edge}
use Rattle.daggy_base.specs.Ordered.{IsOrderOf}
use Rattle.daggy_order.proofs.OrderLaws.{order_with_edge}
use Rattle.daggy_guard.specs.EdgeBatch.{with_edges, new_edges, HasEnds, IsFaultless, IsAdded}
use Rattle.daggy_base.specs.Adding.{NewEdge, by_numbers}
use Rattle.daggy_guard.specs.EdgeBatch.{IsFirstFault, ClosesCycle, IsRefused, LacksEnd, LacksIndex, LacksMemory}
use Rattle.daggy_guard.specs.EdgeBatch.{weights_back, batch_looks, most_looks}
use Rattle.daggy_guard.specs.BatchProgress.{IsBatchSoFar, IsFault, IsKept, IsStep, IsWithin, BatchOrder, refusal}
use Rattle.daggy_guard.specs.declared.edge_batch.Fault.{Fault}
use Rattle.daggy_guard.specs.declared.edge_batch.Fault.TheVariants.{BadEndpoint, Full, Memory}
use Rattle.daggy_guard.specs.declared.edge_batch.Standing.{Standing}
use Rattle.daggy_guard.specs.declared.edge_batch.Standing.TheVariants.{Closed}
use Rattle.daggy_guard.proofs.AcceptedEdges.{accepted_if_acyclic, acyclic_if_accepted, order_before_edges}
use Rattle.daggy_guard.proofs.AcceptedEdges.{count_with_edge, count_with_edges}
use Rattle.daggy_guard.proofs.OrderAfterChange.{order_kept}
use Rattle.daggy_guard.proofs.StandingAfterEdge.{stepped, within_most, within_more}

-- one edge more
edges_more : {N E : Type 0} (g : Graph N E) (xs : List (NewEdge E)) (x : NewEdge E)
    → with_edges g (xs ++ x ∷ []) ≡ with_edge (with_edges g xs) x.0 x.1 x.2
edges_more g [] x = refl
edges_more g (y ∷ ys) x = edges_more (with_edge g y.0 y.1 y.2) ys x

indices_more : {N E : Type 0} (g : Graph N E) (xs : List (NewEdge E)) (x : NewEdge E)
    → new_edges g (xs ++ x ∷ []) ≡ new_edges g xs ++ next_edge (with_edges g xs) ∷ []
indices_more g [] x = refl
indices_more g (y ∷ ys) x = ap (λ z. next_edge g ∷ z) (indices_more (with_edge g y.0 y.1 y.2) ys x)

fault_more : {N E : Type 0} (limit : ℕ) (g : Graph N E) (xs : List (NewEdge E)) (x : NewEdge E) → IsFaultless limit g xs
    → HasEnds (with_edges g xs) x → edge_count (with_edges g xs) < limit → IsFaultless limit g (xs ++ x ∷ [])
fault_more limit g [] x f h r = (h, r, tt)
fault_more limit g (y ∷ ys) x f h r = (f.0, f.1, fault_more limit (with_edge g y.0 y.1 y.2) ys x f.2 h r)

length-new_edges : {N E : Type 0} (g : Graph N E) (xs : List (NewEdge E)) → length (new_edges g xs) ≡ length xs
length-new_edges g [] = refl
length-new_edges g (x ∷ xs) = ap suc (length-new_edges (with_edge g x.0 x.1 x.2) xs)

-- the same nodes
same_nodes : {N E : Type 0} (g : Graph N E) (xs : List (NewEdge E)) (n : ℕ) {A : Type 0}
    → A ↔ HasNode g n → A ↔ HasNode (with_edges g xs) n
same_nodes g [] n h = h
same_nodes g (x ∷ xs) n h = same_nodes (with_edge g x.0 x.1 x.2) xs n h

take_front : {A : Type 0} (xs : List A) (x : A) (k : ℕ) → k ≤ length xs → take k (xs ++ x ∷ []) ≡ take k xs
take_front xs x k h = take-append-le k xs (x ∷ []) h

take_whole : {A : Type 0} (xs : List A) (x : A) (k : ℕ) → k ≡ length xs → take k (xs ++ x ∷ []) ≡ xs
take_whole {A} xs x k h = ap (λ z. take z (xs ++ x ∷ [])) h ∙ whole xs
  where
    whole : (ys : List A) → take (length ys) (ys ++ x ∷ []) ≡ ys
    whole [] = refl
    whole (y ∷ ys) = ap (λ z. y ∷ z) (whole ys)

weights_numbered : {I E : Type 0} (number : I → ℕ) (given : List (I × I × E))
    → map (λ (x : NewEdge E). x.2) (map (by_numbers number) given) ≡ map (λ (x : I × I × E). x.2) given
weights_numbered number [] = refl
weights_numbered number (x ∷ xs) = ap (λ z. x.2 ∷ z) (weights_numbered number xs)

module _ {N E : Type 0} {limit : ℕ} {kind : Kind} {before now : Graph N E} {xs : List (NewEdge E)} {edges : List ℕ}
    {slots : ℕ} (s : IsBatchSoFar limit kind before now xs edges slots) where
  pub series_on : (x : NewEdge E) (new : Graph N E) → IsWellFormed limit now → new ≡ with_edge now x.0 x.1 x.2
      → (edges' : List ℕ) → edges' ≡ edges ++ next_edge now ∷ []
      → IsBatchSoFar limit kind before new (xs ++ x ∷ []) edges' slots
  series_on x new f is edges' noted =
      let R : Graph N E → Type 0 = λ z. IsWellFormed limit z in
      record {
        now_is = is ∙ ap (λ z. with_edge z x.0 x.1 x.2) s.now_is ∙ sym (edges_more before xs x);
        indices_are =
            noted ∙ ap (λ z. z ++ next_edge now ∷ []) s.indices_are
            ∙ ap (λ z. new_edges before xs ++ next_edge z ∷ []) s.now_is ∙ sym (indices_more before xs x);
        well_formed = λ k h. elim (cases_lt k (length xs)) [
          | inl a ↦ subst R (ap (with_edges before) (sym (take_front xs x k (omega (arith, a))))) (s.well_formed k a)
          | inr b ↦
              subst R (s.now_is
              ∙ ap (with_edges before) (sym (take_whole xs x k (omega (arith, b, h, length-append xs (x ∷ [])))))) f
        ];
        compact = s.compact;
        slot_count_is = s.slot_count_is;
      }

-- what a batch begins with: the graph, for how many nodes the scratch memory has room, and how often edges were looked
-- at till then
pub record Start (N E : Type 0) : Type 0 where
  pub graph : Graph N E
  pub room : ℕ
  pub looks : ℕ

-- what a batch has so far: the graph with its edges, the items that were given, the indices of its edges, how many
-- slots of edges there were before it, the weights that were taken back, how many weights and how many indices are held
-- and for how many weights there is room, how often edges were looked at, the order, and how that stands to the edges
pub record Batch (I N E : Type 0) : Type 0 where
  pub graph : Graph N E
  pub given : List (I × I × E)
  pub edges : List ℕ
  pub slots : ℕ
  pub weights : List E
  pub weights_held : ℕ
  pub edges_held : ℕ
  pub capacity : ℕ
  pub looks : ℕ
  pub order : List ℕ
  pub standing : Standing

-- the order beside it
abbrev pub batch_order : {I N E : Type 0} → Batch I N E → BatchOrder
batch_order batch = record { standing = batch.standing; order = batch.order }

-- how many edges the searches may read
abbrev pub budget : {N E : Type 0} → Start N E → ℕ
budget before = max (node_count before.graph) (edge_count before.graph)

-- the edges of the items that were given are all there, none of them is at fault, and the order is one of the graph
-- before them, and of the graph with them as long as it is kept
pub record Adding {I N E : Type 0} (number : I → ℕ) (limit : ℕ) (kind : Kind) (before : Start N E)
    (batch : Batch I N E) : Type 0 where
  pub series : IsBatchSoFar limit kind before.graph batch.graph (map (by_numbers number) batch.given) batch.edges
      batch.slots
  pub faultless : IsFaultless limit before.graph (map (by_numbers number) batch.given)
  pub empty : batch.weights ≡ []
  pub spare : batch.weights_held + batch.edges_held ≤ batch.capacity
  pub fits : node_bound batch.graph ≤ before.room
  pub few_looks : IsWithin (budget before) (edge_count batch.graph) before.looks batch.looks batch.standing
  pub ordered_before : IsOrderOf before.graph batch.order
  pub ordered_now : IsKept batch.standing → IsOrderOf batch.graph batch.order
  pub closed : batch.standing ≡ Closed → IsAcyclic batch.graph → ⊥

module _ {I N E : Type 0} {number : I → ℕ} {limit : ℕ} {kind : Kind} {before : Start N E} {batch : Batch I N E}
    (s : Adding number limit kind before batch) where
  abbrev all : List (NewEdge E)
  all = map (by_numbers number) batch.given

  -- how many edges there are now
  count_now : edge_count batch.graph ≡ edge_count before.graph + length batch.given
  count_now =
      omega (
        arith,
        ap edge_count s.series.now_is,
        count_with_edges limit before.graph all s.series.well_formed,
        length-map batch.given (by_numbers number),
      )

  as_many : length batch.edges ≡ length batch.given
  as_many =
      ap length s.series.indices_are ∙ length-new_edges before.graph all ∙ length-map batch.given (by_numbers number)

  -- the order after way was made for an edge more, whatever became of it
  pub order_then : (order' : List ℕ)
      → (order' ≡ batch.order) ⊎ IsOrderOf batch.graph order' → IsOrderOf before.graph order'
  order_then order' is =
      elim is [
        | inl e ↦ (let P : List ℕ → Type 0 = λ z. IsOrderOf before.graph z in subst P (sym e) s.ordered_before)
        | inr o ↦
            order_before_edges limit before.graph all s.series.well_formed order' (order_kept o (sym s.series.now_is))
      ]

  -- it holds the nodes that exist now
  pub held_now : (n : ℕ) → Contains batch.order n ↔ HasNode batch.graph n
  held_now n =
      let P : Graph N E → Type 0 = λ z. Contains batch.order n ↔ HasNode z n in
      subst P (sym s.series.now_is) (same_nodes before.graph all n (s.ordered_before.exact n))

  -- the batch `after` is this one with the edge of the item x more
  pub record IsNext (x : I × I × E) (after : Batch I N E) : Type 0 where
    pub well_formed : IsWellFormed limit batch.graph
    pub ends : HasEnds batch.graph (by_numbers number x)
    pub index_left : edge_count batch.graph < limit
    pub added : after.graph ≡ with_edge batch.graph (number x.0) (number x.1) x.2
    pub given : after.given ≡ batch.given ++ x ∷ []
    pub noted : after.edges ≡ batch.edges ++ next_edge batch.graph ∷ []
    pub same_slots : after.slots ≡ batch.slots
    pub same_weights : after.weights ≡ batch.weights
    pub spare : after.weights_held + after.edges_held ≤ after.capacity
    pub step : IsStep batch.graph (number x.0) (number x.1) (batch_order batch) (batch_order after)
    pub few_looks : IsWithin (budget before) (edge_count batch.graph) before.looks after.looks after.standing

  pub adding_on : (x : I × I × E) (after : Batch I N E) → IsNext x after → Adding number limit kind before after
  adding_on x after m =
      let a = number x.0 in
      let b = number x.1 in
      let g = batch.graph in
      let P : Graph N E → Type 0 = λ z. HasEnds z (by_numbers number x) in
      let Q : Graph N E → Type 0 = λ z. edge_count z < limit in
      let longer : map (by_numbers number) batch.given ++ by_numbers number x ∷ []
      ≡ map (by_numbers number) after.given =
      sym (map-append (by_numbers number) batch.given (x ∷ [])) ∙ ap (map (by_numbers number)) (sym m.given) in
      let R : List (NewEdge E) → Type 0 = λ z.
      IsBatchSoFar limit kind before.graph after.graph z after.edges after.slots in
      let T : ℕ → Type 0 = λ z.
      IsBatchSoFar limit kind before.graph after.graph (all ++ by_numbers number x ∷ []) after.edges z in
      let S : List (NewEdge E) → Type 0 = λ z. IsFaultless limit before.graph z in
      let free = free_edge g a b x.2 limit m.well_formed in
      let C : Graph N E → Type 0 = λ z. IsAcyclic z in
      let edges_then : edge_count after.graph ≡ suc (edge_count g) =
      ap edge_count m.added ∙ (count_with_edge limit g a b x.2 m.well_formed ∙ add-one (edge_count g)) in
      let t = stepped g a b (batch_order batch) (batch_order after) m.step in
      let W : ℕ → Type 0 = λ z. IsWithin (budget before) z before.looks after.looks after.standing in
      record {
        series =
            subst R longer
            (subst T (sym m.same_slots)
            (series_on s.series (by_numbers number x) after.graph m.well_formed m.added after.edges m.noted));
        faultless =
            subst S longer
            (fault_more limit before.graph all (by_numbers number x) s.faultless (subst P s.series.now_is m.ends)
            (subst Q s.series.now_is m.index_left));
        empty = m.same_weights ∙ s.empty;
        spare = m.spare;
        fits = (let B : Graph N E → Type 0 = λ z. node_bound z ≤ before.room in subst B (sym m.added) s.fits);
        few_looks = subst W (sym edges_then) (within_more _ _ _ _ after.standing m.few_looks);
        ordered_before = order_then after.order t.orders;
        ordered_now = λ kept.
            let k = t.kept kept in
            order_kept (order_with_edge after.order k.1 a b x.2 k.2) m.added;
        closed = λ at acyclic.
            elim (t.closed at) [
              | inl was ↦ s.closed was (still_cyclic g a b x.2 free (subst C m.added acyclic))
              | inr r ↦ cyclic_with_edge g a b x.2 free m.ends.0 r (subst C m.added acyclic)
            ];
      }

  -- the same batch, where nothing changed
  pub series_kept : (new : Graph N E) (edges' : List ℕ) → new ≡ batch.graph → edges' ≡ batch.edges
      → IsBatchSoFar limit kind before.graph new (map (by_numbers number) batch.given) edges' batch.slots
  series_kept new edges' same kept = record {
    now_is = same ∙ s.series.now_is;
    indices_are = kept ∙ s.series.indices_are;
    well_formed = s.series.well_formed;
    compact = s.series.compact;
    slot_count_is = s.series.slot_count_is;
  }

  pub handed_back : {back : List E}
      → back ≡ reverse (map (λ (x : NewEdge E). x.2) (map (by_numbers number) batch.given))
      → back ≡ weights_back batch.given
  handed_back is = is ∙ ap reverse (weights_numbered number batch.given)

  -- the item that the iterator gave after those of the batch
  pub record NextItem {S : Type 0} (gives : S → Option (I × I × E) → S → Type 0) (items : S) : Type 0 where
    pub item : I × I × E
    pub rest : S
    pub asked : Yields gives items (batch.given ++ item ∷ []) rest

  -- it is at fault, and the weights of the batch were handed back
  module _ {S : Type 0} {gives : S → Option (I × I × E) → S → Type 0} {items : S} (next : NextItem gives items)
      {back : List E} (returned : back ≡ reverse (map (λ (x : NewEdge E). x.2) (map (by_numbers number) batch.given)))
    where
      first_fault : (IsCause : Graph N E → NewEdge E → Type 0) (last : E)
          → IsCause batch.graph (by_numbers number next.item) → last ≡ next.item.2
          → IsFirstFault number limit gives items IsCause before.graph last back
      first_fault IsCause last at last_is =
          let P : Graph N E → Type 0 = λ z. IsCause z (by_numbers number next.item) in
          record {
            given = batch.given;
            at = next.item;
            rest = next.rest;
            asked = next.asked;
            faultless = s.faultless;
            cause = subst P s.series.now_is at;
            last_is = last_is;
            before_is = handed_back returned;
          }

  pub refused_at : {S : Type 0} {gives : S → Option (I × I × E) → S → Type 0} {items : S} (next : NextItem gives items)
      (fault : Fault E) (back : Vec E Global)
      → back.items ≡ reverse (map (λ (x : NewEdge E). x.2) (map (by_numbers number) batch.given))
      → IsFault limit batch.graph (by_numbers number next.item) fault
      → IsRefused number limit gives items before.graph (refusal fault back)
  refused_at next (BadEndpoint w) back returned at = first_fault next returned LacksEnd w at.1 at.0
  refused_at next (Full w) back returned at = first_fault next returned (LacksIndex limit) w at.1 at.0
  refused_at next (Memory w) back returned at = first_fault next returned (LacksMemory limit) w at.1 at.0

  pub closes_cycle : {S : Type 0} (gives : S → Option (I × I × E) → S → Type 0) (items : S) (back : List E)
      → Drains gives items batch.given → IsAcyclic before.graph → (IsAcyclic batch.graph → ⊥)
      → back ≡ reverse (map (λ (x : NewEdge E). x.2) (map (by_numbers number) batch.given))
      → ClosesCycle number limit gives items before.graph back
  closes_cycle gives items back asked acyclic cyclic returned =
      let P : Graph N E → Type 0 = λ z. IsAcyclic z in
      let not_with_all : IsAcyclic (with_edges before.graph all) → ⊥ = λ a. cyclic (subst P (sym s.series.now_is) a) in
      record {
        given = batch.given;
        drained = asked;
        faultless = s.faultless;
        cyclic = not_with_all;
        refused = λ accepted. not_with_all (acyclic_if_accepted limit before.graph all s.faultless acyclic accepted);
        weights_are = handed_back returned;
      }

  pub is_added : {S : Type 0} (gives : S → Option (I × I × E) → S → Type 0) (items : S)
      → Drains gives items batch.given → IsAcyclic batch.graph → (new : Graph N E) → new ≡ batch.graph
      → (edges' : List ℕ) → edges' ≡ batch.edges → IsAdded number limit gives items before.graph new edges'
  is_added gives items asked acyclic new same edges' kept =
      let P : Graph N E → Type 0 = λ z. IsAcyclic z in
      record {
        given = batch.given;
        drained = asked;
        faultless = s.faultless;
        added = same ∙ s.series.now_is;
        indices = kept ∙ s.series.indices_are;
        accepted =
            accepted_if_acyclic limit before.graph all s.series.well_formed s.faultless
            (subst P s.series.now_is acyclic);
      }

  -- how many weights are handed back, and how often was looked then
  as_many_back : {back : List E}
      → back ≡ reverse (map (λ (x : NewEdge E). x.2) (map (by_numbers number) batch.given))
      → length back ≡ length batch.given
  as_many_back is =
      omega (
        arith,
        ap length is,
        length-reverse (map (λ (x : NewEdge E). x.2) all),
        length-map all (λ (x : NewEdge E). x.2),
        length-map batch.given (by_numbers number),
      )

  pub few_added : (edges' : List ℕ) → edges' ≡ batch.edges → (looks' : ℕ)
      → looks' ≤ batch.looks + edge_count batch.graph
      → looks' ≤ before.looks + batch_looks before.graph (length edges')
  few_added edges' kept looks' few =
      omega (arith, within_most _ _ _ _ batch.standing s.few_looks, few, count_now, ap length kept, as_many)

  pub few_in_cycle : {back : List E}
      → back ≡ reverse (map (λ (x : NewEdge E). x.2) (map (by_numbers number) batch.given))
      → (looks' looks″ : ℕ) → looks' ≤ batch.looks + edge_count batch.graph
      → looks″ ≡ looks' → looks″ ≤ before.looks + batch_looks before.graph (length back)
  few_in_cycle returned looks' looks″ few same =
      omega (arith, within_most _ _ _ _ batch.standing s.few_looks, as_many_back returned, count_now, few, same)

  -- and where an item is at fault, however the order stands then
  pub few_at_fault : (fault : Fault E) (back : Vec E Global) (standing' : Standing)
      → back.items ≡ reverse (map (λ (x : NewEdge E). x.2) (map (by_numbers number) batch.given))
      → (looks' looks″ : ℕ) → IsWithin (budget before) (edge_count batch.graph) before.looks looks' standing'
      → looks″ ≡ looks' → looks″ ≤ before.looks + most_looks before.graph (Err (refusal fault back))
  few_at_fault (BadEndpoint w) back standing' returned looks' looks″ few same =
      omega (arith, within_most _ _ _ _ standing' few, as_many_back returned, count_now, same)
  few_at_fault (Full w) back standing' returned looks' looks″ few same =
      omega (arith, within_most _ _ _ _ standing' few, as_many_back returned, count_now, same)
  few_at_fault (Memory w) back standing' returned looks' looks″ few same =
      omega (arith, within_most _ _ _ _ standing' few, as_many_back returned, count_now, same)
