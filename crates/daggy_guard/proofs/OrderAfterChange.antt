-- An order of the nodes, before and after a change that a guard makes.
use Rattle.std.proofs.Common.{◌≡◌, ℕ, ◌-◌, ◌<◌, true, false, not, List, [], ◌∷◌, ◌++◌, zero, suc, eqb, slice_get}
use Rattle.std.proofs.Common.{length, set, map, Result, Ok, Err, OnOk, OnErr, Option, Some, None, OnSome}
use Rattle.std.proofs.Common.{IfNone, IsSome, get_or, refl, sym, ap, subst, ◌∙◌, arith}
use Rattle.std.specs.List.{Contains}
use Rattle.std.proofs.lemmas.Bool.{eqb-true, eq-eqb, ne_eqb}
use Rattle.std.proofs.lemmas.List.{length-take, length-set}
use Rattle.daggy_base.specs.Graph.{Graph, HasNode, slot}
use Rattle.daggy_base.specs.Path.{IsAcyclic}
use Rattle.daggy_base.specs.Adding.{with_node, with_edge, with_neighbor, next_node}
use Rattle.daggy_base.specs.Removal.{without, renamed, without_edge, without_node}
use Rattle.daggy_base.specs.declared.kind.Kind.{Kind}
use Rattle.daggy_base.specs.declared.kind.Kind.TheVariants.{Compact, Stable}
use Rattle.daggy_base.specs.Removal.{with_node_isolated}
use Rattle.daggy_base.specs.WellFormed.{IsWellFormed, IsIsolated}
use Rattle.daggy_base.specs.Graph.{IsCompact}
use Rattle.daggy_base.specs.declared.index.Direction.{Direction}
use Rattle.daggy_base.specs.declared.index.Direction.TheVariants.{Outgoing, Incoming}
use Rattle.daggy_base.proofs.Lists.{contains_mem, mem_contains}
use Rattle.daggy_base.proofs.PathsWithNewNode.{not_before}
use Rattle.daggy_base.proofs.PathsWithNode.{bound_low}
use Rattle.daggy_base.proofs.OutEdgesRead.{below_bound}
use Rattle.daggy_base.proofs.FullSlots.{full_from}
use Rattle.daggy_base.specs.Ordered.{IsOrderOf, place}
use Rattle.daggy_base.proofs.Sorted.{mem_filter, filter_mem}
use Rattle.daggy_base.proofs.ListParts.{is_held, held_is}
use Rattle.daggy_order.proofs.OrderLaws.{acyclic_from_order, order_with_edge, order_with_node_last}
use Rattle.daggy_order.proofs.OrderLaws.{order_with_node_first, order_before_node, order_with_child, order_with_parent}
use Rattle.daggy_order.proofs.OrderLaws.{order_without_edge, order_without_node, nodes_isolated, none_renamed}
use Rattle.daggy_guard.specs.NewNode.{with_end}

pub order_kept : {N E : Type 0} {old new : Graph N E} {order : List ℕ}
    → IsOrderOf old order → new ≡ old → IsOrderOf new order
order_kept {N} {E} {old} {new} {order} ord same = let P : Graph N E → Type 0 = λ z. IsOrderOf z order in
    subst P (sym same) ord

pub acyclic_by : {N E : Type 0} {old new : Graph N E} {order : List ℕ} → IsOrderOf old order → new ≡ old → IsAcyclic new
acyclic_by {order = order} ord same = acyclic_from_order order (order_kept ord same)

-- an edge is added, or none
pub order_of_edge : {R F N E : Type 0} (r : Result R F) {old at new : Graph N E} {order : List ℕ} (a b : ℕ) (w : E)
    → IsOrderOf old order → place order a < place order b → at ≡ old
    → OnOk r (new ≡ with_edge at a b w) → OnErr r (new ≡ at) → IsOrderOf new order
order_of_edge (Ok e) {order = order} a b w ord before same added kept =
    order_kept (order_with_edge order (order_kept ord same) a b w before) added
order_of_edge (Err e) a b w ord before same added kept = order_kept ord (kept ∙ same)

-- an edge is removed, or was missing
pub order_edge_gone : {A N E : Type 0} (kind : Kind) {old new : Graph N E} (e : ℕ) (r : Option A)
    → OnSome r (new ≡ without_edge kind old e) → IfNone r (new ≡ old) → (order : List ℕ) → IsOrderOf old order
    → IsOrderOf new order
order_edge_gone kind e None removed missing order ord = order_kept ord missing
order_edge_gone kind {old} e (Some a) removed missing order ord =
    order_kept (order_without_edge kind old order e ord) removed

-- a new node is not listed yet
pub not_listed_yet : {N E : Type 0} {end : ℕ} {g : Graph N E} {order : List ℕ}
    → IsWellFormed end g → (w : N) → IsOrderOf g order → (n : ℕ) → n ≡ next_node g → Contains order n → ⊥
not_listed_yet {end = end} {g = g} f w ord n is c =
    let P : ℕ → Type 0 = λ z. HasNode g z in
    not_before end g w f (subst P is ((ord.exact n).0 c))

-- a node is added, put last or first
module _ {N E : Type 0} {end : ℕ} {g : Graph N E} (f : IsWellFormed end g) (w : N) {order : List ℕ}
    (ord : IsOrderOf g order) where
  pub order_of_node : {new : Graph N E} (after : List ℕ)
      → new ≡ with_node g w → (dir : Direction) → after ≡ with_end dir order (next_node g) → IsOrderOf new after
  order_of_node {new} after added Outgoing put = let P : List ℕ → Type 0 = λ z. IsOrderOf new z in
      subst P (sym put) (order_kept (order_with_node_last f w order ord) added)
  order_of_node {new} after added Incoming put = let P : List ℕ → Type 0 = λ z. IsOrderOf new z in
      subst P (sym put) (order_kept (order_with_node_first f w order ord) added)

  pub order_of_added : {R F : Type 0} (r : Result R F) {new : Graph N E} (after : List ℕ)
      → OnOk r (new ≡ with_node g w) → OnErr r (new ≡ g)
      → OnOk r (after ≡ order ++ next_node g ∷ []) → OnErr r (after ≡ order) → IsOrderOf new after
  order_of_added (Ok n) after added kept put stayed = order_of_node after added Outgoing put
  order_of_added (Err e) {new} after added kept put stayed = let P : List ℕ → Type 0 = λ z. IsOrderOf new z in
      subst P (sym stayed) (order_kept ord kept)

  -- with an edge from an old node, or to one
  pub order_of_neighbor : {new : Graph N E} {after : List ℕ} (n : ℕ) (e : E) → HasNode g n → (dir : Direction)
      → new ≡ with_neighbor dir g n e w → after ≡ with_end dir order (next_node g) → IsOrderOf new after
  order_of_neighbor {new} n e exists Outgoing added put = let P : List ℕ → Type 0 = λ z. IsOrderOf new z in
      subst P (sym put) (order_kept (order_with_child f w order ord n e exists) added)
  order_of_neighbor {new} n e exists Incoming added put = let P : List ℕ → Type 0 = λ z. IsOrderOf new z in
      subst P (sym put) (order_kept (order_with_parent f w order ord n e exists) added)

-- and taken back
pub order_of_taken : {N E : Type 0} {end : ℕ} {g : Graph N E}
    → IsWellFormed end g → (w : N) → {at new : Graph N E} {order : List ℕ} → IsOrderOf at order → at ≡ with_node g w
    → (n : ℕ) → n ≡ next_node g → (after : List ℕ) → after ≡ without n order → new ≡ g → IsOrderOf new after
order_of_taken {N} {E} {end} {g} f w {at} {new} {order} ord added n is after taken back =
    let P : List ℕ → Type 0 = λ z. IsOrderOf new z in
    let same : after ≡ without (next_node g) order = taken ∙ ap (λ z. without z order) is in
    subst P (sym same) (order_kept (order_before_node f w order (order_kept ord (sym added))) back)

-- a node that was taken out stands there no more, and each other one does
pub not_there : (n : ℕ) (order after : List ℕ) → after ≡ without n order → Contains after n → ⊥
not_there n order after taken c =
    let P : List ℕ → Type 0 = λ z. Contains z n in
    held_is n n (filter_mem (λ z. not (eqb z n)) order n (contains_mem (without n order) n (subst P taken c))).1 refl

pub still_there : (n m : ℕ) (order after : List ℕ)
    → after ≡ without n order → Contains order m → (m ≡ n → ⊥) → Contains after m
still_there n m order after taken c differs =
    let P : List ℕ → Type 0 = λ z. Contains z m in
    subst P (sym taken) (mem_contains (without n order) m
    (mem_filter (λ z. not (eqb z n)) order m (contains_mem order m c) (is_held n m differs)))

-- where the last node is removed no other is renamed
pub nothing_renamed : (last n : ℕ) (xs : List ℕ) → n ≡ last → map (renamed last n) xs ≡ xs
nothing_renamed last n xs is = let P : ℕ → Type 0 = λ z. map (renamed z n) xs ≡ xs in subst P is (none_renamed n xs)

pub node_low : {N E : Type 0} (g : Graph N E) (n : ℕ) → HasNode g n → n < length g.nodes
node_low g n exists = omega (arith, below_bound g.nodes n exists, bound_low g.nodes)

some_within : {A : Type 0} (xs : List (Option A)) (k : ℕ)
    → k < length xs → (slice_get xs k ≡ Some None → ⊥) → IsSome (slot xs k)
some_within [] k h full = absurd (omega arith)
some_within (None ∷ xs) zero h full = absurd (full refl)
some_within (Some x ∷ xs) zero h full = refl
some_within (x ∷ xs) (suc k) h full = some_within xs k (omega arith) full

-- a node is removed, after which there are `left` slots, where there were `slots`
module _ {N E : Type 0} {end : ℕ} {g : Graph N E} (f : IsWellFormed end g) {order : List ℕ} (ord : IsOrderOf g order)
    (n : ℕ) (exists : HasNode g n) {slots : ℕ} (left : ℕ) (were : slots ≡ length g.nodes) where
  few_slots : length (without_node Compact g n).nodes ≡ length g.nodes - 1
  few_slots =
      let xs = (with_node_isolated Compact g n).nodes in
      omega (
        arith,
        ap length (nodes_isolated Compact g n),
        length-take (length xs - 1) (set xs n (get_or xs (length xs - 1) None)),
        length-set xs n (get_or xs (length xs - 1) None),
      )

  as_many_slots : length (without_node Stable g n).nodes ≡ length g.nodes
  as_many_slots = length-set (with_node_isolated Stable g n).nodes n None ∙ ap length (nodes_isolated Stable g n)

  left_compact : {new : Graph N E} → new ≡ without_node Compact g n → left ≡ length new.nodes → left ≡ slots - 1
  left_compact {new} gone are =
      let many : length new.nodes ≡ length g.nodes - 1 = ap (λ (z : Graph N E). length z.nodes) gone ∙ few_slots in
      omega (arith, many, were, are)

  left_stable : {new : Graph N E} → new ≡ without_node Stable g n → left ≡ length new.nodes → left ≡ slots - 1 → ⊥
  left_stable {new} gone are fewer =
      let many : length new.nodes ≡ length g.nodes = ap (λ (z : Graph N E). length z.nodes) gone ∙ as_many_slots in
      absurd (omega (arith, many, were, are, fewer, node_low g n exists))

  -- there are fewer slots in the compact kind alone, where a node stands in the last one
  pub last_there : (kind : Kind) {new : Graph N E} → new ≡ without_node kind g n → left ≡ length new.nodes
      → (kind ≡ Compact → IsCompact g) → eqb left (slots - 1) ≡ true → Contains order (slots - 1)
  last_there Compact gone are compact fewer =
      (ord.exact (slots - 1)).1 (some_within g.nodes (slots - 1) (omega (arith, were, node_low g n exists))
      (full_from g.nodes g.vacant_nodes f.node_slots (compact refl).nodes (slots - 1)))
  last_there Stable gone are compact fewer = absurd (left_stable gone are (eqb-true left (slots - 1) fewer))

  pub order_of_removed : (kind : Kind) {new : Graph N E} → IsIsolated end (with_node_isolated kind g n) n
      → new ≡ without_node kind g n → left ≡ length new.nodes → {after : List ℕ}
      → (eqb left (slots - 1) ≡ true → after ≡ map (renamed (slots - 1) n) (without n order))
      → (eqb left (slots - 1) ≡ false → after ≡ without n order) → IsOrderOf new after
  order_of_removed Compact {new} alone gone are {after} renames stays =
      let P : List ℕ → Type 0 = λ z. IsOrderOf new z in
      let is : after ≡ map (renamed (length g.nodes - 1) n) (without n order) =
      renames (eq-eqb left (slots - 1) (left_compact gone are))
      ∙ ap (λ z. map (renamed (z - 1) n) (without n order)) were in
      subst P (sym is) (order_kept (order_without_node Compact g order n ord exists alone) gone)
  order_of_removed Stable {new} alone gone are renames stays =
      let P : List ℕ → Type 0 = λ z. IsOrderOf new z in
      subst P (sym (stays (ne_eqb left (slots - 1) (left_stable gone are))))
      (order_kept (order_without_node Stable g order n ord exists alone) gone)
