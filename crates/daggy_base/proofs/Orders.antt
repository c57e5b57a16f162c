-- Lists by slots, and what other orders of its lists keep of a graph.
use Rattle.std.proofs.Common.{◌≡◌, ℕ, zero, suc, ◌+◌, ◌<◌, cond, List, [], ◌∷◌, map, length, take, Option, Some, None}
use Rattle.std.proofs.Common.{is_some, refl, sym, ap, subst, ◌∙◌, arith, ◌↔◌}
use Rattle.std.specs.List.{count_by, Contains}
use Rattle.std.proofs.lemmas.Bool.{false≢true}
use Rattle.std.proofs.lemmas.Option.{none-some}
use Rattle.daggy_base.specs.declared.index.Direction.{Direction}
use Rattle.daggy_base.specs.declared.index.Direction.TheVariants.{Outgoing, Incoming}
use Rattle.daggy_base.specs.Graph.{Graph, Edge, slot, HasNode, edge_at, list_at, near_end}
use Rattle.daggy_base.specs.WellFormed.{AreDistinct, ListsEdges, IsWellFormed}
use Rattle.daggy_base.specs.Orders.{lists_by_slots, with_orders, AreOrders}
use Rattle.daggy_base.proofs.Lists.{Contains-nil}
use Rattle.daggy_base.proofs.Slots.{count_cons}
use Rattle.daggy_base.proofs.SlotLists.{row}

module _ {A : Type 0} where
  pub length-lists_by_slots : (slots : List (Option A)) (lists : List (List ℕ))
      → length (lists_by_slots slots lists) ≡ length slots
  length-lists_by_slots [] lists = refl
  length-lists_by_slots (None ∷ slots) lists = ap suc (length-lists_by_slots slots lists)
  length-lists_by_slots (Some x ∷ slots) [] = ap suc (length-lists_by_slots slots [])
  length-lists_by_slots (Some x ∷ slots) (l ∷ lists) = ap suc (length-lists_by_slots slots lists)

  -- a vacant slot has an empty list
  pub row_vacant : (slots : List (Option A)) (lists : List (List ℕ)) (n : ℕ)
      → slot slots n ≡ None → row (lists_by_slots slots lists) n ≡ []
  row_vacant [] lists n none = refl
  row_vacant (None ∷ slots) lists zero none = refl
  row_vacant (None ∷ slots) lists (suc n) none = row_vacant slots lists n none
  row_vacant (Some x ∷ slots) lists zero none = absurd (none-some x (sym none))
  row_vacant (Some x ∷ slots) [] (suc n) none = row_vacant slots [] n none
  row_vacant (Some x ∷ slots) (l ∷ lists) (suc n) none = row_vacant slots lists n none

  -- another has the list whose place is the number of such slots before it
  pub row_taken : (slots : List (Option A)) (lists : List (List ℕ)) (n : ℕ) (x : A)
      → slot slots n ≡ Some x → row (lists_by_slots slots lists) n ≡ row lists (count_by is_some (take n slots))
  row_taken [] lists n x is = absurd (none-some x is)
  row_taken (None ∷ slots) lists zero x is = absurd (none-some x is)
  row_taken (None ∷ slots) lists (suc n) x is =
      let same : count_by is_some (take n slots) ≡ count_by is_some (None ∷ take n slots) =
      omega (arith, count_cons {A = A} None (take n slots)) in
      row_taken slots lists n x is ∙ ap (row lists) same
  row_taken (Some y ∷ slots) [] zero x is = refl
  row_taken (Some y ∷ slots) [] (suc n) x is = row_taken slots [] n x is
  row_taken (Some y ∷ slots) (l ∷ lists) zero x is = refl
  row_taken (Some y ∷ slots) (l ∷ lists) (suc n) x is =
      let k = count_by is_some (take n slots) in
      let next : suc k ≡ count_by is_some (Some y ∷ take n slots) = omega (arith, count_cons (Some y) (take n slots)) in
      row_taken slots lists n x is ∙ ap (row (l ∷ lists)) next

  -- how many slots before one are not vacant
  pub count_before : (slots : List (Option A)) (n : ℕ) (x : A)
      → slot slots n ≡ Some x → count_by is_some (take n slots) < count_by is_some slots
  count_before [] n x is = absurd (none-some x is)
  count_before (None ∷ slots) zero x is = absurd (none-some x is)
  count_before (Some y ∷ slots) zero x is = omega (arith, count_cons (Some y) slots)
  count_before (z ∷ slots) (suc n) x is = let more = count_before slots n x is in
      omega (arith, more, count_cons z slots, count_cons z (take n slots))

  pub count_next : (slots : List (Option A)) (n : ℕ) → n < length slots
      → count_by is_some (take (suc n) slots) ≡ count_by is_some (take n slots) + cond (is_some (slot slots n)) 1 0
  count_next [] n within = absurd (omega (arith, within))
  count_next (z ∷ slots) zero within = omega (arith, count_cons z [])
  count_next (z ∷ slots) (suc n) within =
      let more = count_next slots n (omega (arith, within)) in
      omega (arith, more, count_cons z (take (suc n) slots), count_cons z (take n slots))

-- where no slot is vacant, the lists are the lists
pub rows_by_full : {A B : Type 0} (f : B → A) (xs : List B) (lists : List (List ℕ))
    → length lists ≡ length xs → lists_by_slots (map (λ x. Some (f x)) xs) lists ≡ lists
rows_by_full f [] [] long = refl
rows_by_full f [] (l ∷ lists) long = absurd (omega (arith, long))
rows_by_full f (x ∷ xs) [] long = absurd (omega (arith, long))
rows_by_full f (x ∷ xs) (l ∷ lists) long = ap (λ ls. l ∷ ls) (rows_by_full f xs lists (omega (arith, long)))

module _ {N E : Type 0} (g : Graph N E) (orders : List (List ℕ × List ℕ)) where
  none_listed : (dir : Direction) (n : ℕ) → slot g.nodes n ≡ None → list_at dir (with_orders g orders) n ≡ []
  none_listed Outgoing n none = row_vacant g.nodes (map (λ p. p.0) orders) n none
  none_listed Incoming n none = row_vacant g.nodes (map (λ p. p.1) orders) n none

  module _ (are : AreOrders g orders) (dir : Direction) (old : ListsEdges g (near_end dir) (list_at dir g))
      (ends : (e : ℕ) (x : Edge E) → edge_at g e ≡ Some x → HasNode g (near_end dir x)) where
    -- the list of n holds the edges with the end n, each once
    abbrev IsOf : ℕ → Type 0
    IsOf n =
        let l = list_at dir (with_orders g orders) n in
        ((e : ℕ) → Contains l e ↔ ((x : Edge E) × (edge_at g e ≡ Some x) × (near_end dir x ≡ n))) × AreDistinct l

    of_node : (n : ℕ) (o : Option N) → slot g.nodes n ≡ o → IsOf n
    of_node n None none =
        let empty = none_listed dir n none in (
          λ e. (
            λ p. absurd (Contains-nil e (subst (λ l. Contains l e) empty p)),
            λ q. let there : HasNode g n = subst (HasNode g) q.2 (ends e q.0 q.1) in
                absurd (false≢true (sym (ap is_some none) ∙ there)),
          ),
          subst AreDistinct (sym empty) tt,
        )
    of_node n (Some w) some =
        let order = are.each dir n (ap is_some some) in (
          λ e. (λ p. (old.exact n e).0 ((order.exact e).0 p), λ q. (order.exact e).1 ((old.exact n e).1 q)),
          order.once,
        )

    pub lists_ordered : ListsEdges (with_orders g orders) (near_end dir) (list_at dir (with_orders g orders))
    lists_ordered = record {
      exact = λ n e. (of_node n (slot g.nodes n) refl).0 e;
      once = λ n. (of_node n (slot g.nodes n) refl).1;
    }

-- the graph stays well formed
pub well_formed_with_orders : {N E : Type 0} (limit : ℕ) (g : Graph N E) (orders : List (List ℕ × List ℕ))
    → IsWellFormed limit g → AreOrders g orders → IsWellFormed limit (with_orders g orders)
well_formed_with_orders limit g orders f are =
    record {
      out_list_count = length-lists_by_slots g.nodes (map (λ p. p.0) orders);
      in_list_count = length-lists_by_slots g.nodes (map (λ p. p.1) orders);
      parents = f.parents;
      children = f.children;
      out_of = lists_ordered g orders are Outgoing f.out_of f.parents;
      in_of = lists_ordered g orders are Incoming f.in_of f.children;
      node_slots = f.node_slots;
      edge_slots = f.edge_slots;
      few_nodes = f.few_nodes;
      few_edges = f.few_edges;
    }
