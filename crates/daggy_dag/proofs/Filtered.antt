-- Keeping some of the nodes and edges of a dag keeps the order of its nodes, under their new names.
use Rattle.std.proofs.Common.{◌≡◌, ℕ, zero, suc, ◌+◌, ◌<◌, ◌≤◌, ◌⊎◌, ◌↔◌, inl, inr, List, [], ◌∷◌, length, Contains}
use Rattle.std.proofs.Common.{Option, Some, None, IsSome, is_some, refl, sym, ap, subst, ◌∙◌, arith}
use Rattle.std.specs.List.{filter_map}
use Rattle.std.specs.Borrow.{Bor}
use Rattle.std.proofs.lemmas.Option.{same_Some, none-some}
use Rattle.std.proofs.lemmas.List.{length_push}
use Rattle.daggy_base.specs.Graph.{Graph, Edge, HasNode, empty, edge_at, slot}
use Rattle.daggy_base.specs.Path.{AreJoined}
use Rattle.daggy_base.specs.Adding.{with_slot_filled, next_slot, remaining_vacant, with_node, next_node}
use Rattle.daggy_base.proofs.PathsWithNode.{bound_low}
use Rattle.daggy_base.proofs.Slots.{IsFree, slot_taken, slot_taken_kept, slot_taken_new}
use Rattle.daggy_base.specs.Filtering.{with_kept_node, named, with_kept_edge, both, new_ends, FiltersNodes, FiltersEdge}
use Rattle.daggy_base.specs.Filtering.{FiltersEdges, IsFiltered}
use Rattle.daggy_base.specs.Ordered.{IsOrderOf}
use Rattle.daggy_order.proofs.OrderLaws.{HasEnds, order_named, some_is}
use Rattle.daggy_dag.proofs.OrderKept.{IsKept, order_below}

module _ {V W : Type 0} where
  -- where no slot is vacant, a node goes behind the others
  more_nodes : (h : Graph V W) (r : Option V)
      → h.vacant_nodes ≡ [] → length (with_kept_node h r).nodes ≤ length h.nodes + 1
  more_nodes h None none = omega arith
  more_nodes h (Some v) none =
      omega (arith, ap (λ z. length (with_slot_filled h.nodes z (Some v))) none, length_push h.nodes (Some v))

  as_many_nodes : (h : Graph V W) (v : V) → h.vacant_nodes ≡ [] → length (with_node h v).nodes ≡ length h.nodes + 1
  as_many_nodes h v none = ap (λ z. length (with_slot_filled h.nodes z (Some v))) none ∙ length_push h.nodes (Some v)

  none_vacant : (h : Graph V W) (r : Option V) → h.vacant_nodes ≡ [] → (with_kept_node h r).vacant_nodes ≡ []
  none_vacant h None none = none
  none_vacant h (Some v) none = ap remaining_vacant none

  edges_stay : (h : Graph V W) (r : Option V) → (with_kept_node h r).edges ≡ h.edges
  edges_stay h None = refl
  edges_stay h (Some v) = refl

  named_next : (h : Graph V W) (r : Option V) (k : ℕ)
      → h.vacant_nodes ≡ [] → named h r ≡ Some k → (k ≡ length h.nodes) × (length (with_kept_node h r).nodes ≡ k + 1)
  named_next h None k none is = absurd (none-some k is)
  named_next h (Some v) k none is =
      let next : k ≡ length h.nodes = same_Some k (next_node h) (sym is) ∙ ap (next_slot h.nodes) none in
      (next, as_many_nodes h v none ∙ ap (λ z. z + 1) (sym next))

  not_fewer : (h : Graph V W) (r : Option V) → h.vacant_nodes ≡ [] → length h.nodes ≤ length (with_kept_node h r).nodes
  not_fewer h None none = omega arith
  not_fewer h (Some v) none = omega (arith, as_many_nodes h v none)

  none_taken : (h : Graph V W) → h.vacant_nodes ≡ [] → IsFree h.nodes h.vacant_nodes
  none_taken h none = let P : List ℕ → Type 0 = λ z. IsFree h.nodes z in subst P (sym none) tt

  node_remains : (h : Graph V W) (r : Option V)
      → h.vacant_nodes ≡ [] → (k : ℕ) (y : V) → slot h.nodes k ≡ Some y → slot (with_kept_node h r).nodes k ≡ Some y
  node_remains h None none k y at = at
  node_remains h (Some v) none k y at = slot_taken_kept h.nodes h.vacant_nodes v k y (none_taken h none) at

  node_came : (h : Graph V W) (r : Option V) (k : ℕ) (y : V)
      → slot (with_kept_node h r).nodes k ≡ Some y → (named h r ≡ Some k) ⊎ (slot h.nodes k ≡ Some y)
  node_came h None k y at = inr at
  node_came h (Some v) k y at =
      elim (slot_taken h.nodes h.vacant_nodes v k y at) [
        | inl new ↦ inl (ap Some (sym new.0))
        | inr old ↦ inr old
      ]

-- a filter of nodes on its way: what is called at the next node, that node's index, the graph so far, where no slot is
-- vacant, the new indices of the nodes from there on, and the graph in the end
record Filtering (F V W : Type 0) : Type 0 where
  f : F
  index : ℕ
  now : Graph V W
  compact : now.vacant_nodes ≡ []
  names : List (Option ℕ)
  new : Graph V W

module _ {F V W : Type 0} where
  -- behind a vacant slot
  abbrev past_none : Filtering F V W → (rest : List (Option ℕ)) → Filtering F V W
  past_none s rest = record s { index = s.index + 1; names = rest }

  -- behind a node
  abbrev past_node : Filtering F V W → (r : Option V) (next : F) (rest : List (Option ℕ)) → Filtering F V W
  past_node s r next rest = record {
    f = next;
    index = s.index + 1;
    now = with_kept_node s.now r;
    compact = none_vacant s.now r s.compact;
    names = rest;
    new = s.new;
  }

module _ {N V W F I : Type 0} (step : F → I → Bor N → Option V → F → Type 0) (of : ℕ → I) where
  -- the nodes in these slots are filtered, from the next one on
  abbrev Filters : List (Option N) → Filtering F V W → Type 0
  Filters xs s = FiltersNodes step of s.f s.index xs s.now s.names s.new

  -- each name is the index of a node that was added
  names_from : (xs : List (Option N)) (s : Filtering F V W)
      → Filters xs s → (a : ℕ) {k : ℕ} → slot s.names a ≡ Some k → length s.now.nodes ≤ k
  names_from [] s (nil, same) a {k} at = absurd (none-some k (ap (λ z. slot z a) (sym nil) ∙ at))
  names_from (None ∷ xs) s (rest, is, more) zero {k} at = absurd (none-some k (ap (λ z. slot z zero) (sym is) ∙ at))
  names_from (None ∷ xs) s (rest, is, more) (suc a) {k} at =
      names_from xs (past_none s rest) more a (ap (λ z. slot z (suc a)) (sym is) ∙ at)
  names_from (Some x ∷ xs) s (r, next, called, rest, is, more) zero {k} at =
      omega (arith, (named_next s.now r k s.compact (ap (λ z. slot z zero) (sym is) ∙ at)).0)
  names_from (Some x ∷ xs) s (r, next, called, rest, is, more) (suc a) {k} at =
      omega (
        arith,
        not_fewer s.now r s.compact,
        names_from xs (past_node s r next rest) more a (ap (λ z. slot z (suc a)) (sym is) ∙ at),
      )

  -- no two nodes got one name
  one_name : (xs : List (Option N)) (s : Filtering F V W)
      → Filters xs s → {k : ℕ} (a b : ℕ) → slot s.names a ≡ Some k → slot s.names b ≡ Some k → a ≡ b
  one_name [] s (nil, same) {k} a b p q = absurd (none-some k (ap (λ z. slot z a) (sym nil) ∙ p))
  one_name (None ∷ xs) s (rest, is, more) {k} zero b p q =
      absurd (none-some k (ap (λ z. slot z zero) (sym is) ∙ p))
  one_name (None ∷ xs) s (rest, is, more) {k} (suc a) zero p q =
      absurd (none-some k (ap (λ z. slot z zero) (sym is) ∙ q))
  one_name (None ∷ xs) s (rest, is, more) {k} (suc a) (suc b) p q =
      ap suc (one_name xs (past_none s rest) more a b (ap (λ z. slot z (suc a)) (sym is) ∙ p)
      (ap (λ z. slot z (suc b)) (sym is) ∙ q))
  one_name (Some x ∷ xs) s (r, next, called, rest, is, more) zero zero p q = refl
  one_name (Some x ∷ xs) s (r, next, called, rest, is, more) {k} zero (suc b) p q =
      absurd (omega (
        arith,
        (named_next s.now r k s.compact (ap (λ z. slot z zero) (sym is) ∙ p)).1,
        names_from xs (past_node s r next rest) more b (ap (λ z. slot z (suc b)) (sym is) ∙ q),
      ))
  one_name (Some x ∷ xs) s (r, next, called, rest, is, more) {k} (suc a) zero p q =
      absurd (omega (
        arith,
        (named_next s.now r k s.compact (ap (λ z. slot z zero) (sym is) ∙ q)).1,
        names_from xs (past_node s r next rest) more a (ap (λ z. slot z (suc a)) (sym is) ∙ p),
      ))
  one_name (Some x ∷ xs) s (r, next, called, rest, is, more) {k} (suc a) (suc b) p q =
      ap suc (one_name xs (past_node s r next rest) more a b (ap (λ z. slot z (suc a)) (sym is) ∙ p)
      (ap (λ z. slot z (suc b)) (sym is) ∙ q))

  -- there is a name for each slot, vacant or not
  names_long : (xs : List (Option N)) (s : Filtering F V W) → Filters xs s → length s.names ≡ length xs
  names_long [] s (nil, same) = ap length nil
  names_long (None ∷ xs) s (rest, is, more) = ap length is ∙ ap suc (names_long xs (past_none s rest) more)
  names_long (Some x ∷ xs) s (r, next, called, rest, is, more) =
      ap length is ∙ ap suc (names_long xs (past_node s r next rest) more)

  -- what was added stays
  nodes_remain : (xs : List (Option N)) (s : Filtering F V W)
      → Filters xs s → (k : ℕ) {y : V} → slot s.now.nodes k ≡ Some y → slot s.new.nodes k ≡ Some y
  nodes_remain [] s (nil, same) k at = ap (λ (z : Graph V W). slot z.nodes k) same ∙ at
  nodes_remain (None ∷ xs) s (rest, is, more) k {y} at = nodes_remain xs (past_none s rest) more k at
  nodes_remain (Some x ∷ xs) s (r, next, called, rest, is, more) k {y} at =
      nodes_remain xs (past_node s r next rest) more k (node_remains s.now r s.compact k y at)

  -- a node that got a name existed, and the name is the index of one that exists
  named_at : (xs : List (Option N)) (s : Filtering F V W)
      → Filters xs s → (a : ℕ) {k : ℕ} → slot s.names a ≡ Some k
      → IsSome (slot xs a) × IsSome (slot s.new.nodes k) × (k ≤ length s.now.nodes + a)
  named_at [] s (nil, same) a {k} at = absurd (none-some k (ap (λ z. slot z a) (sym nil) ∙ at))
  named_at (None ∷ xs) s (rest, is, more) zero {k} at = absurd (none-some k (ap (λ z. slot z zero) (sym is) ∙ at))
  named_at (None ∷ xs) s (rest, is, more) (suc a) {k} at =
      let later = named_at xs (past_none s rest) more a (ap (λ z. slot z (suc a)) (sym is) ∙ at) in
      (later.0, later.1, omega (arith, later.2))
  named_at (Some x ∷ xs) s (None, next, called, rest, is, more) zero {k} at =
      absurd (none-some k (ap (λ z. slot z zero) (sym is) ∙ at))
  named_at (Some x ∷ xs) s (Some v, next, called, rest, is, more) zero {k} at =
      let here : named s.now (Some v) ≡ Some k = ap (λ z. slot z zero) (sym is) ∙ at in
      let index : k ≡ length s.now.nodes = (named_next s.now (Some v) k s.compact here).0 in
      let P : ℕ → Type 0 = λ z. slot (with_node s.now v).nodes z ≡ Some v in
      let added : slot (with_node s.now v).nodes k ≡ Some v =
      subst P (same_Some (next_node s.now) k here)
      (slot_taken_new s.now.nodes s.now.vacant_nodes v (none_taken s.now s.compact)) in (
        refl,
        ap is_some (nodes_remain xs (past_node s (Some v) next rest) more k added),
        omega (arith, index),
      )
  named_at (Some x ∷ xs) s (r, next, called, rest, is, more) (suc a) {k} at =
      let later = named_at xs (past_node s r next rest) more a (ap (λ z. slot z (suc a)) (sym is) ∙ at) in
      (later.0, later.1, omega (arith, later.2, more_nodes s.now r s.compact))

  -- each node got its index as a name, or was there before
  came_from : (xs : List (Option N)) (s : Filtering F V W) → Filters xs s
      → {k : ℕ} {y : V} → slot s.new.nodes k ≡ Some y
      → ((a : ℕ) × (slot s.names a ≡ Some k)) ⊎ (slot s.now.nodes k ≡ Some y)
  came_from [] s (nil, same) {k} at = inr (ap (λ (z : Graph V W). slot z.nodes k) (sym same) ∙ at)
  came_from (None ∷ xs) s (rest, is, more) {k} {y} at =
      elim (came_from xs (past_none s rest) more at) [
        | inl c ↦ inl (suc c.0, ap (λ z. slot z (suc c.0)) is ∙ c.1)
        | inr q ↦ inr q
      ]
  came_from (Some x ∷ xs) s (r, next, called, rest, is, more) {k} {y} at =
      elim (came_from xs (past_node s r next rest) more at) [
        | inl c ↦ inl (suc c.0, ap (λ z. slot z (suc c.0)) is ∙ c.1)
        | inr q ↦ elim (node_came s.now r k y q) [
          | inl named_so ↦ inl (zero, ap (λ z. slot z zero) is ∙ named_so)
          | inr old ↦ inr old
        ]
      ]

  -- no edge was added, and no more nodes than there were
  no_edges : (xs : List (Option N)) (s : Filtering F V W) → Filters xs s → s.new.edges ≡ s.now.edges
  no_edges [] s (nil, same) = ap (λ (z : Graph V W). z.edges) same
  no_edges (None ∷ xs) s (rest, is, more) = no_edges xs (past_none s rest) more
  no_edges (Some x ∷ xs) s (r, next, called, rest, is, more) =
      no_edges xs (past_node s r next rest) more ∙ edges_stay s.now r

  few_nodes : (xs : List (Option N)) (s : Filtering F V W)
      → Filters xs s → length s.new.nodes ≤ length s.now.nodes + length xs
  few_nodes [] s (nil, same) = omega (arith, ap (λ (z : Graph V W). length z.nodes) same)
  few_nodes (None ∷ xs) s (rest, is, more) = omega (arith, few_nodes xs (past_none s rest) more)
  few_nodes (Some x ∷ xs) s (r, next, called, rest, is, more) =
      omega (arith, more_nodes s.now r s.compact, few_nodes xs (past_node s r next rest) more)

-- an old edge whose ends got these names
pub record CameFrom {E : Type 0} (names : List (Option ℕ)) (xs : List (Option (Edge E)))
    (parent child : ℕ) : Type 0 where
  pub index : ℕ
  pub edge : Edge E
  pub at : slot xs index ≡ Some edge
  pub ends : new_ends names edge ≡ Some (parent, child)

later_edge : {E : Type 0} (names : List (Option ℕ)) (x : Option (Edge E)) (xs : List (Option (Edge E))) (a b : ℕ)
    → CameFrom names xs a b → CameFrom names (x ∷ xs) a b
later_edge names x xs a b c = record { index = suc c.index; edge = c.edge; at = c.at; ends = c.ends }

module _ {E V W G I : Type 0} (step : G → I → Bor E → Option W → G → Type 0) (of : ℕ → I)
    (names : List (Option ℕ)) where
  kept_from : (h : Graph V W) (ends : ℕ × ℕ) (r : Option W) (k : ℕ) (y : Edge W)
      → edge_at (with_kept_edge h ends r) k ≡ Some y
      → ((y.parent ≡ ends.0) × (y.child ≡ ends.1)) ⊎ (edge_at h k ≡ Some y)
  kept_from h ends None k y at = inr at
  kept_from h ends (Some w) k y at =
      elim (slot_taken h.edges h.vacant_edges (record { parent = ends.0; child = ends.1; weight = w }) k y at) [
        | inl p ↦ inl (ap (λ (z : Edge W). z.parent) p.1, ap (λ (z : Edge W). z.child) p.1)
        | inr q ↦ inr q
      ]

  nodes_stay : (h : Graph V W) (ends : ℕ × ℕ) (r : Option W) → (with_kept_edge h ends r).nodes ≡ h.nodes
  nodes_stay h ends None = refl
  nodes_stay h ends (Some w) = refl

  -- each edge is one of the old graph, or was there before
  abbrev ComesFrom : List (Option (Edge E)) → Graph V W → Graph V W → Type 0
  ComesFrom xs h new =
      (k : ℕ) (y : Edge W) → edge_at new k ≡ Some y → CameFrom names xs y.parent y.child ⊎ (edge_at h k ≡ Some y)

  edge_from : (g : G) (e : ℕ) (x : Edge E) (xs : List (Option (Edge E))) {ends : Option (ℕ × ℕ)} (h new : Graph V W)
      → new_ends names x ≡ ends
      → ((next : G) (mid : Graph V W) → FiltersEdges step of names next (e + 1) xs mid new → ComesFrom xs mid new)
      → FiltersEdge step of names g e x.weight ends h (λ next mid. FiltersEdges step of names next (e + 1) xs mid new)
      → ComesFrom (Some x ∷ xs) h new
  edge_from g e x xs {ends = None} h new is later more k y at =
      elim (later g h more k y at) [
        | inl c ↦ inl (later_edge names (Some x) xs y.parent y.child c)
        | inr q ↦ inr q
      ]
  edge_from g e x xs {ends = Some ends} h new is later (r, next, called, more) k y at =
      elim (later next (with_kept_edge h ends r) more k y at) [
        | inl c ↦ inl (later_edge names (Some x) xs y.parent y.child c)
        | inr q ↦ elim (kept_from h ends r k y q) [
          | inl s ↦ inl (record {
            index = 0;
            edge = x;
            at = refl;
            ends = is ∙ ap (λ z. Some (z, ends.1)) (sym s.0) ∙ ap (λ z. Some (y.parent, z)) (sym s.1);
          })
          | inr t ↦ inr t
        ]
      ]

  edges_from : (g : G) (e : ℕ) (xs : List (Option (Edge E))) (h new : Graph V W)
      → FiltersEdges step of names g e xs h new → ComesFrom xs h new
  edges_from g e [] h new is k y at = inr (ap (λ (z : Graph V W). edge_at z k) (sym is) ∙ at)
  edges_from g e (None ∷ xs) h new more k y at =
      elim (edges_from g (e + 1) xs h new more k y at) [
        | inl c ↦ inl (later_edge names None xs y.parent y.child c)
        | inr q ↦ inr q
      ]
  edges_from g e (Some x ∷ xs) h new more k y at =
      edge_from g e x xs h new refl (λ next mid m. edges_from next (e + 1) xs mid new m) more k y at

  nodes_after : (g : G) (e : ℕ) (w : E) (xs : List (Option (Edge E))) (ends : Option (ℕ × ℕ)) (h new : Graph V W)
      → ((next : G) (mid : Graph V W) → FiltersEdges step of names next (e + 1) xs mid new → new.nodes ≡ mid.nodes)
      → FiltersEdge step of names g e w ends h (λ next mid. FiltersEdges step of names next (e + 1) xs mid new)
      → new.nodes ≡ h.nodes
  nodes_after g e w xs None h new later more = later g h more
  nodes_after g e w xs (Some ends) h new later (r, next, called, more) =
      later next (with_kept_edge h ends r) more ∙ nodes_stay h ends r

  same_nodes : (g : G) (e : ℕ) (xs : List (Option (Edge E))) (h new : Graph V W)
      → FiltersEdges step of names g e xs h new → new.nodes ≡ h.nodes
  same_nodes g e [] h new is = ap (λ (z : Graph V W). z.nodes) is
  same_nodes g e (None ∷ xs) h new more = same_nodes g (e + 1) xs h new more
  same_nodes g e (Some x ∷ xs) h new more =
      nodes_after g e x.weight xs (new_ends names x) h new (λ next mid m. same_nodes next (e + 1) xs mid new m) more

both_named : (p q : Option ℕ) (a b : ℕ) → both p q ≡ Some (a, b) → (p ≡ Some a) × (q ≡ Some b)
both_named None q a b is = absurd (none-some (a, b) is)
both_named (Some x) None a b is = absurd (none-some (a, b) is)
both_named (Some x) (Some y) a b is = let s = same_Some (x, y) (a, b) is in (ap (λ z. Some z.0) s, ap (λ z. Some z.1) s)

module _ {N E V W F G I : Type 0} {of : ℕ → I} {step_f : F → I → Bor N → Option V → F → Type 0}
    {step_g : G → I → Bor E → Option W → G → Type 0} {f : F} {g : G} {old : Graph N E} {new : Graph V W}
    (filtered : IsFiltered of step_f step_g f g old new) where
  -- the filter of its nodes, at its start
  abbrev start : Filtering F V W
  start = record {
    f = f;
    index = 0;
    now = empty;
    compact = refl;
    names = filtered.names;
    new = filtered.middle;
  }

  was_joined : (k l : ℕ) → AreJoined new k l
      → (u v : ℕ) × (slot filtered.names u ≡ Some k) × (slot filtered.names v ≡ Some l) × AreJoined old u v
  was_joined k l j =
      elim (edges_from step_g of filtered.names g 0 old.edges filtered.middle new filtered.edges j.0 _ j.2) [
        | inl c ↦ (
            let b = both_named (slot filtered.names c.edge.parent) (slot filtered.names c.edge.child) k l c.ends in
            (c.edge.parent, c.edge.child, b.0, b.1, (c.index, c.edge.weight, c.at))
            )
        | inr q ↦
            absurd (none-some _ (ap (λ z. slot z j.0)
            (sym (no_edges step_f of old.nodes start filtered.nodes)) ∙ q))
      ]

  nodes_are : new.nodes ≡ filtered.middle.nodes
  nodes_are = same_nodes step_g of filtered.names g 0 old.edges filtered.middle new filtered.edges

  has_name : (a k : ℕ) → slot filtered.names a ≡ Some k → HasNode old a × HasNode new k × (k ≤ a)
  has_name a k at =
      let n = named_at step_f of old.nodes start filtered.nodes a at in
      let P : List (Option V) → Type 0 = λ z. IsSome (slot z k) in
      (n.0, subst P (sym nodes_are) n.1, omega (arith, n.2))

  has_node : (k : ℕ) → HasNode new k ↔ ((a : ℕ) × HasNode old a × (slot filtered.names a ≡ Some k))
  has_node k = (
    λ h.
        let w = some_is (slot new.nodes k) h in
        elim (came_from step_f of old.nodes start filtered.nodes (ap (λ z. slot z k) (sym nodes_are) ∙ w.1)) [
          | inl c ↦ (c.0, (has_name c.0 k c.1).0, c.1)
          | inr none ↦ absurd (none-some w.0 none)
        ],
    λ h. (has_name h.0 k h.2).1,
  )

  ends_named : HasEnds new
  ends_named k l j =
      let was = was_joined k l j in
      ((has_name was.0 k was.2).1, (has_name was.1 l was.3).1)

  -- what is asked of new names
  module _ {names : List (Option ℕ)} (same : filtered.names ≡ names) where
    pub names_lower : (a k : ℕ) → slot names a ≡ Some k → k ≤ a
    names_lower a k at = (has_name a k (ap (λ z. slot z a) same ∙ at)).2

    pub names_differ : (a b k : ℕ) → slot names a ≡ Some k → slot names b ≡ Some k → a ≡ b
    names_differ a b k p q =
        one_name step_f of old.nodes start filtered.nodes a b (ap (λ z. slot z a) same ∙ p)
        (ap (λ z. slot z b) same ∙ q)

    pub names_many : length names ≡ length old.nodes
    names_many = ap length (sym same) ∙ names_long step_f of old.nodes start filtered.nodes

    pub names_cover : (order : List ℕ) → IsOrderOf old order → (n : ℕ) → Contains order n → n < length names
    names_cover order ord = order_below old order (length names) names_many ord

    order_renamed : (order left : List ℕ)
        → left ≡ filter_map (slot names) order → IsOrderOf old order → IsOrderOf new left
    order_renamed order left named_so ord =
        let P : List ℕ → Type 0 = λ z. IsOrderOf new z in
        let whole : left ≡ filter_map (slot filtered.names) order =
        named_so ∙ ap (λ z. filter_map (slot z) order) (sym same) in
        subst P (sym whole) (order_named order ord ends_named (slot filtered.names) (λ u v k p q.
        one_name step_f of old.nodes start filtered.nodes u v p q) has_node was_joined)

    -- an order whose nodes got their new names is one of the new graph, and room for the old slots
    -- is enough
    pub kept_renamed : (order left : List ℕ) (capacity : ℕ) → left ≡ filter_map (slot names) order
        → IsOrderOf old order → length old.nodes ≤ capacity → IsKept new left capacity
    kept_renamed order left capacity named_so ord fits = (
      order_renamed order left named_so ord,
      omega (
        arith,
        bound_low new.nodes,
        ap length (same_nodes step_g of filtered.names g 0 old.edges filtered.middle new filtered.edges),
        few_nodes step_f of old.nodes start filtered.nodes,
        fits,
      ),
    )
