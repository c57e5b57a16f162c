-- Edges taken back, the last one first.
use Rattle.std.proofs.Common.{◌≡◌, ℕ, zero, suc, ◌+◌, ◌<◌, ◌≤◌, ◌↔◌, Bool, true, false, leb, IsTrue, List, [], ◌∷◌}
use Rattle.std.proofs.Common.{◌++◌, map, length, take, drop, reverse, get_or, Some, None, is_some, refl, sym, ap, subst}
use Rattle.std.proofs.Common.{◌∙◌, arith}
use Rattle.std.specs.List.{Contains}
use Rattle.std.specs.Option.{option_map}
use Rattle.std.proofs.lemmas.Bool.{false≢true, leb-true, le-leb}
use Rattle.std.proofs.lemmas.Option.{slice_get_within, same_Some}
use Rattle.std.proofs.lemmas.List.{length-append, length-set, reverse-append}
use Rattle.daggy_base.specs.Graph.{Graph, Edge, HasEdge, edge_at}
use Rattle.daggy_base.specs.Adding.{with_edge, next_edge, next_slot, with_slot_filled, remaining_vacant}
use Rattle.daggy_base.specs.declared.kind.Kind.{Kind}
use Rattle.daggy_base.specs.declared.kind.Kind.TheVariants.{Compact}
use Rattle.daggy_base.specs.WellFormed.{IsWellFormed}
use Rattle.daggy_base.specs.TakingBack.{is_slot_made, with_edge_taken_back}
use Rattle.daggy_base.proofs.Slots.{IsFree, slot_taken_new}
use Rattle.daggy_base.proofs.PathsWithEdge.{free_edge}
use Rattle.daggy_base.proofs.EdgeTakenBack.{taken_back_undoes}
use Rattle.daggy_guard.specs.EdgeBatch.{with_edges, new_edges}
use Rattle.daggy_base.specs.Adding.{NewEdge}
use Rattle.daggy_guard.specs.BatchProgress.{IsBatchSoFar}

-- the item at a place, and what stands before and behind it
pub record ItemAt {N E : Type 0} (g : Graph N E) (xs : List (NewEdge E)) (k : ℕ) : Type 0 where
  pub item : NewEdge E
  pub graph_is : with_edges g (take (suc k) xs) ≡ with_edge (with_edges g (take k xs)) item.0 item.1 item.2
  pub index_is : (d : ℕ) → get_or (new_edges g xs) k d ≡ next_edge (with_edges g (take k xs))
  pub weights_are : drop k (map (λ (x : NewEdge E). x.2) xs) ≡ item.2 ∷ drop (suc k) (map (λ (x : NewEdge E). x.2) xs)
  pub rest_is : drop k xs ≡ item ∷ drop (suc k) xs

pub item_at : {N E : Type 0} (g : Graph N E) (xs : List (NewEdge E)) (k : ℕ) → k < length xs → ItemAt g xs k
item_at g [] k h = absurd (omega arith)
item_at g (x ∷ xs) zero h = record { item = x; graph_is = refl; index_is = λ d. refl; weights_are = refl; rest_is = refl }
item_at g (x ∷ xs) (suc k) h =
    let more = item_at (with_edge g x.0 x.1 x.2) xs k (omega arith) in
    record {
      item = more.item;
      graph_is = more.graph_is;
      index_is = more.index_is;
      weights_are = more.weights_are;
      rest_is = more.rest_is;
    }

-- vacant slots are old ones, and new ones come behind them
abbrev AreBelow : ℕ → List ℕ → Type 0
AreBelow n [] = Unit {0}
AreBelow n (v ∷ vs) = (v < n) × AreBelow n vs

below_rest : (n : ℕ) (vs : List ℕ) → AreBelow n vs → AreBelow n (remaining_vacant vs)
below_rest n [] h = tt
below_rest n (v ∷ vs) h = h.1

length-taken : {A : Type 0} (slots : List A) (vs : List ℕ) (x : A) → length slots ≤ length (with_slot_filled slots vs x)
length-taken slots [] x = omega (arith, length-append slots (x ∷ []))
length-taken slots (v ∷ vs) x = omega (arith, length-set slots v x)

below_all : (n : ℕ) (vs : List ℕ) → ((v : ℕ) → Contains vs v → v < n) → AreBelow n vs
below_all n [] h = tt
below_all n (v ∷ vs) h = (h v (0, omega arith, refl), below_all n vs (λ u p. h u (suc p.0, omega (arith, p.1), p.2)))

record Slots {N E : Type 0} (n : ℕ) (g : Graph N E) : Type 0 where
  below : AreBelow n g.vacant_edges
  many : n ≤ length g.edges

slots_here : {N E : Type 0} (limit : ℕ) (g : Graph N E) → IsWellFormed limit g → Slots (length g.edges) g
slots_here limit g f = record {
  below =
      below_all (length g.edges) g.vacant_edges (λ v p. slice_get_within g.edges v None ((f.edge_slots.exact v).0 p));
  many = omega arith;
}

slots_more : {N E : Type 0} (n : ℕ) (g : Graph N E) (u v : ℕ) (w : E) → Slots n g → Slots n (with_edge g u v w)
slots_more n g u v w s = record {
  below = below_rest n g.vacant_edges s.below;
  many =
      omega (arith, s.many, length-taken g.edges g.vacant_edges (Some (record { parent = u; child = v; weight = w })));
}

slots_along : {N E : Type 0} (n : ℕ) (g : Graph N E) (xs : List (NewEdge E)) → Slots n g → Slots n (with_edges g xs)
slots_along n g [] s = s
slots_along n g (x ∷ xs) s = slots_along n (with_edge g x.0 x.1 x.2) xs (slots_more n g x.0 x.1 x.2 s)

none_along : {N E : Type 0} (g : Graph N E) (xs : List (NewEdge E))
    → g.vacant_edges ≡ [] → (with_edges g xs).vacant_edges ≡ []
none_along g [] h = h
none_along g (x ∷ xs) h = none_along (with_edge g x.0 x.1 x.2) xs (ap remaining_vacant h)

-- whether the slot was made, by the index alone
made_by_index : {A : Type 0} (n : ℕ) (slots : List A) (vacant : List ℕ) (made : Bool)
    → AreBelow n vacant → n ≤ length slots → (IsTrue made ↔ (n ≤ next_slot slots vacant)) → made ≡ is_slot_made vacant
made_by_index n slots [] true b m h = refl
made_by_index n slots [] false b m h = absurd (false≢true (h.1 m))
made_by_index n slots (v ∷ vs) true b m h = let low = h.0 refl in absurd (omega (arith, low, b.0))
made_by_index n slots (v ∷ vs) false b m h = refl

made_last : {A : Type 0} (slots : List A) (vacant : List ℕ) (x : A)
    → IsTrue (is_slot_made vacant) → next_slot slots vacant + 1 ≡ length (with_slot_filled slots vacant x)
made_last slots [] x h = omega (arith, length-append slots (x ∷ []))
made_last slots (v ∷ vs) x h = absurd (false≢true h)

made_none : (vacant : List ℕ) → vacant ≡ [] → IsTrue (is_slot_made vacant)
made_none [] h = refl
made_none (v ∷ vs) h = absurd cc

-- what the loop of `roll_back` begins with: the graph before the batch, and the items, indices and slots of the batch
pub record Start (N E : Type 0) : Type 0 where
  pub graph : Graph N E
  pub items : List (NewEdge E)
  pub edges : List ℕ
  pub slots : ℕ
  pub looks : ℕ

-- what the loop has so far: the graph, how many edges are left in it, and the weights of the edges that were taken back
pub record Progress (N E : Type 0) : Type 0 where
  pub graph : Graph N E
  pub left : ℕ
  pub weights : List E
  pub weights_held : ℕ
  pub capacity : ℕ
  pub looks : ℕ

-- the loop of `roll_back`: the edges of the first `left` items are there
pub record Rolling {N E : Type 0} (limit : ℕ) (kind : Kind) (start : Start N E) (now : Progress N E) : Type 0 where
  pub within : now.left ≤ length start.items
  pub graph_is : now.graph ≡ with_edges start.graph (take now.left start.items)
  pub returned : now.weights ≡ reverse (drop now.left (map (λ (x : NewEdge E). x.2) start.items))
  pub weights_fit : now.weights_held + now.left ≤ now.capacity
  pub uncounted : now.looks ≡ start.looks
  pub indices_are : start.edges ≡ new_edges start.graph start.items
  pub well_formed : (k : ℕ) → k < length start.items → IsWellFormed limit (with_edges start.graph (take k start.items))
  pub compact : kind ≡ Compact → start.graph.vacant_edges ≡ []
  pub slot_count_is : start.slots ≡ length start.graph.edges

length-new_edges : {N E : Type 0} (g : Graph N E) (xs : List (NewEdge E)) → length (new_edges g xs) ≡ length xs
length-new_edges g [] = refl
length-new_edges g (x ∷ xs) = ap suc (length-new_edges (with_edge g x.0 x.1 x.2) xs)

pub take_all : {A : Type 0} (xs : List A) → take (length xs) xs ≡ xs
take_all [] = refl
take_all (x ∷ xs) = ap (λ z. x ∷ z) (take_all xs)

drop_all : {A B : Type 0} (f : A → B) (xs : List A) → drop (length xs) (map f xs) ≡ []
drop_all f [] = refl
drop_all f (x ∷ xs) = drop_all f xs

take_none : {A : Type 0} (xs : List A) → take 0 xs ≡ []
take_none [] = refl
take_none (x ∷ xs) = refl

pub rolling_starts : {N E : Type 0} {limit : ℕ} {kind : Kind} {start : Start N E} {now : Progress N E}
    → IsBatchSoFar limit kind start.graph now.graph start.items start.edges start.slots
    → now.left ≡ length start.edges → now.weights ≡ [] → now.weights_held + length start.edges ≤ now.capacity
    → now.looks ≡ start.looks → Rolling limit kind start now
rolling_starts {N} {E} {limit} {kind} {start} {now} s all empty weights_fit uncounted =
    let xs = start.items in
    let many : now.left ≡ length xs = all ∙ ap length s.indices_are ∙ length-new_edges start.graph xs in
    record {
      within = omega (arith, many);
      graph_is = s.now_is ∙ ap (with_edges start.graph) (sym (ap (λ k. take k xs) many ∙ take_all xs));
      returned =
          empty
          ∙ ap reverse
          (sym (ap (λ k. drop k (map (λ (x : NewEdge E). x.2) xs)) many ∙ drop_all (λ (x : NewEdge E). x.2) xs));
      weights_fit = omega (arith, weights_fit, all);
      uncounted = uncounted;
      indices_are = s.indices_are;
      well_formed = s.well_formed;
      compact = s.compact;
      slot_count_is = s.slot_count_is;
    }

module _ {N E : Type 0} {limit : ℕ} {kind : Kind} {start : Start N E} {now : Progress N E}
    (s : Rolling limit kind start now) where
  pub left_within : now.left ≤ length start.edges
  left_within = omega (arith, s.within, ap length s.indices_are, length-new_edges start.graph start.items)

-- k is left after one step more, and e is the index that stands there
pub record IsLast {N E : Type 0} (start : Start N E) (now : Progress N E) (k e : ℕ) : Type 0 where
  pub one : now.left ≡ suc k
  pub is : e ≡ get_or start.edges k e

-- one step of the loop
module _ {N E : Type 0} {limit : ℕ} {kind : Kind} {start : Start N E} {now : Progress N E}
    (s : Rolling limit kind start now) {k e : ℕ} (last : IsLast start now k e) where
  pub here : ItemAt start.graph start.items k
  here = item_at start.graph start.items k (omega (arith, s.within, last.one))

  abbrev at_k : Graph N E
  at_k = with_edges start.graph (take k start.items)

  e_is : e ≡ next_edge at_k
  e_is = last.is ∙ ap (λ (z : List ℕ). get_or z k e) s.indices_are ∙ here.index_is e

  now_is : now.graph ≡ with_edge at_k here.item.0 here.item.1 here.item.2
  now_is = s.graph_is ∙ ap (λ z. with_edges start.graph (take z start.items)) last.one ∙ here.graph_is

  fine_k : IsWellFormed limit at_k
  fine_k = s.well_formed k (omega (arith, s.within, last.one))

  free_k : IsFree at_k.edges at_k.vacant_edges
  free_k = free_edge at_k 0 0 here.item.2 limit fine_k

  pub edge_there : edge_at now.graph e ≡ Some (record { parent = here.item.0; child = here.item.1; weight = here.item.2 })
  edge_there =
      let P : Graph N E → Type 0 = λ z.
      edge_at z e ≡ Some (record { parent = here.item.0; child = here.item.1; weight = here.item.2 }) in
      let Q : ℕ → Type 0 = λ z.
      edge_at (with_edge at_k here.item.0 here.item.1 here.item.2) z
      ≡ Some (record { parent = here.item.0; child = here.item.1; weight = here.item.2 }) in
      subst P (sym now_is) (subst Q (sym e_is) (slot_taken_new at_k.edges at_k.vacant_edges _ free_k))

  pub has_edge : HasEdge now.graph e
  has_edge = ap is_some edge_there

  module _ {made : Bool} (by_index : IsTrue made ↔ (start.slots ≤ e)) where
    made_is : made ≡ is_slot_made at_k.vacant_edges
    made_is =
        let before = start.graph in
        let fine₀ : IsWellFormed limit before =
        let P : List (NewEdge E) → Type 0 = λ z. IsWellFormed limit (with_edges before z) in
        subst P (take_none start.items) (s.well_formed 0 (omega (arith, s.within, last.one))) in
        let at : Slots (length before.edges) at_k =
        slots_along (length before.edges) before (take k start.items) (slots_here limit before fine₀) in
        let low : ℕ → Type 0 = λ z. IsTrue made ↔ (z ≤ e) in
        let high : ℕ → Type 0 = λ z. IsTrue made ↔ (length before.edges ≤ z) in
        made_by_index (length before.edges) at_k.edges at_k.vacant_edges made at.below at.many
        (subst high e_is (subst low s.slot_count_is by_index))

    pub made_where_compact : kind ≡ Compact → IsTrue made
    made_where_compact c =
        let P : Bool → Type 0 = λ z. IsTrue z in
        subst P (sym made_is)
        (made_none at_k.vacant_edges (none_along start.graph (take k start.items) (s.compact c)))

    pub made_at_end : IsTrue made → e + 1 ≡ length now.graph.edges
    made_at_end m =
        let P : Bool → Type 0 = λ z. IsTrue z in
        let end =
        made_last at_k.edges at_k.vacant_edges
        (Some (record { parent = here.item.0; child = here.item.1; weight = here.item.2 })) (subst P made_is m) in
        let many : length now.graph.edges ≡ length (with_edge at_k here.item.0 here.item.1 here.item.2).edges =
        ap (λ (z : Graph N E). length z.edges) now_is in
        omega (arith, end, many, e_is)

    -- `after` is what the loop has once the edge e is taken back, and `weight` is its weight
    pub record IsNext (after : Progress N E) : Type 0 where
      pub weight : E
      pub gives : Some weight ≡ option_map (λ x. x.weight) (edge_at now.graph e)
      pub is_back : after.graph ≡ with_edge_taken_back made now.graph e
      pub left : after.left ≡ k
      pub weights : after.weights ≡ now.weights ++ weight ∷ []
      pub weights_held : after.weights_held ≡ now.weights_held + 1
      pub capacity : after.capacity ≡ now.capacity
      pub looks : after.looks ≡ now.looks

    pub rolls_on : {after : Progress N E} → IsNext after → Rolling limit kind start after
    rolls_on {after} m =
        let xs = start.items in
        let w_is : m.weight ≡ here.item.2 =
        same_Some _ _ (m.gives ∙ ap (option_map (λ (x : Edge E). x.weight)) edge_there) in
        let undone : after.graph ≡ at_k =
        m.is_back ∙ ap (λ z. with_edge_taken_back made z e) now_is
        ∙ ap (with_edge_taken_back made (with_edge at_k here.item.0 here.item.1 here.item.2)) e_is
        ∙ ap (λ z. with_edge_taken_back z (with_edge at_k here.item.0 here.item.1 here.item.2) (next_edge at_k)) made_is
        ∙ taken_back_undoes limit at_k fine_k here.item.0 here.item.1 here.item.2 in
        let ws = map (λ (x : NewEdge E). x.2) xs in
        let before_it : now.weights ≡ reverse (drop (suc k) ws) =
        s.returned ∙ ap (λ z. reverse (drop z ws)) last.one in
        let with_it : now.weights ++ m.weight ∷ [] ≡ reverse (drop k ws) =
        ap (λ z. z ++ m.weight ∷ []) before_it ∙ ap (λ z. reverse (drop (suc k) ws) ++ z ∷ []) w_is
        ∙ sym (reverse-append (here.item.2 ∷ []) (drop (suc k) ws)) ∙ ap reverse (sym here.weights_are) in
        record {
          within = omega (arith, s.within, last.one, m.left);
          graph_is = undone ∙ ap (λ z. with_edges start.graph (take z xs)) (sym m.left);
          returned = m.weights ∙ with_it ∙ ap (λ z. reverse (drop z ws)) (sym m.left);
          weights_fit = omega (arith, s.weights_fit, last.one, m.weights_held, m.left, m.capacity);
          uncounted = m.looks ∙ s.uncounted;
          indices_are = s.indices_are;
          well_formed = s.well_formed;
          compact = s.compact;
          slot_count_is = s.slot_count_is;
        }

-- the test of the code
pub by_test : (n e i : ℕ) → i ≡ e → IsTrue (leb n i) ↔ (n ≤ e)
by_test n e i is = (λ t. omega (arith, leb-true n i t, is), λ h. le-leb n i (omega (arith, h, is)))

-- the number of what stands in a list stands in the list of the numbers
pub numbered_at : {I : Type 0} (number : I → ℕ) (xs : List I) (k : ℕ) (x : I)
    → x ≡ get_or xs k x → number x ≡ get_or (map number xs) k (number x)
numbered_at number [] k x h = refl
numbered_at number (y ∷ ys) zero x h = ap number h
numbered_at number (y ∷ ys) (suc k) x h = numbered_at number ys k x h
