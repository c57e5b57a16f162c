-- Keeping some of the nodes and edges of a dag in their slots keeps the order of its nodes.
use Rattle.std.proofs.Common.{◌≡◌, ℕ, zero, suc, ◌+◌, ◌≤◌, Bool, true, false, cond, List, [], ◌∷◌, map, length, take}
use Rattle.std.proofs.Common.{Option, Some, None, IsSome, is_some, refl, sym, ap, subst, ◌∙◌, arith}
use Rattle.std.specs.List.{filter}
use Rattle.std.specs.Borrow.{Bor}
use Rattle.std.specs.Option.{option_map}
use Rattle.std.proofs.lemmas.List.{length-take-le}
use Rattle.std.proofs.lemmas.Option.{same_Some, none-some}
use Rattle.daggy_base.specs.Graph.{Graph, Edge, HasNode, node_weight, slot, edge_at, node_bound}
use Rattle.daggy_base.specs.Path.{AreJoined}
use Rattle.daggy_base.specs.WellFormed.{IsWellFormed}
use Rattle.daggy_base.proofs.PathsWithNode.{bound_low}
use Rattle.daggy_base.specs.FilteringInPlace.{KeepsSlots, if_ends_exist, IsFilteredInPlace}
use Rattle.daggy_base.specs.Mapping.{weight_in, with_weight}
use Rattle.daggy_base.specs.Ordered.{IsOrderOf}
use Rattle.daggy_order.proofs.OrderLaws.{ends_exist, order_filtered, some_is}
use Rattle.daggy_dag.proofs.OrderKept.{IsKept}

given : {V B : Type 0} (h : V → B) (r : Option V) (y : B) → option_map h r ≡ Some y → (v : V) × (h v ≡ y)
given h None y at = absurd (none-some y at)
given h (Some v) y at = (v, same_Some (h v) y at)

module _ {F I W V A B : Type 0} (step : F → I → Bor W → Option V → F → Type 0) (of : ℕ → I) (weight : A → W)
    (with : A → V → B) where
  kept_slot : (f : F) (i : ℕ) (xs : List (Option A)) (new : List (Option B)) → KeepsSlots step of weight with f i xs new
      → (k : ℕ) (y : B) → slot new k ≡ Some y → (x : A) × (v : V) × (slot xs k ≡ Some x) × (with x v ≡ y)
  kept_slot f i [] new is k y at = absurd (none-some y (ap (λ z. slot z k) (sym is) ∙ at))
  kept_slot f i (None ∷ xs) new (later, is, more) zero y at = absurd (none-some y (ap (λ z. slot z zero) (sym is) ∙ at))
  kept_slot f i (None ∷ xs) new (later, is, more) (suc k) y at =
      kept_slot f (i + 1) xs later more k y (ap (λ z. slot z (suc k)) (sym is) ∙ at)
  kept_slot f i (Some x ∷ xs) new (r, next, called, later, is, more) zero y at =
      let g = given (with x) r y (ap (λ z. slot z zero) (sym is) ∙ at) in
      (x, g.0, refl, g.1)
  kept_slot f i (Some x ∷ xs) new (r, next, called, later, is, more) (suc k) y at =
      kept_slot next (i + 1) xs later more k y (ap (λ z. slot z (suc k)) (sym is) ∙ at)

  kept_length : (f : F) (i : ℕ) (xs : List (Option A)) (new : List (Option B))
      → KeepsSlots step of weight with f i xs new → length new ≡ length xs
  kept_length f i [] new is = ap length is
  kept_length f i (None ∷ xs) new (later, is, more) = ap length is ∙ ap suc (kept_length f (i + 1) xs later more)
  kept_length f i (Some x ∷ xs) new (r, next, called, later, is, more) =
      ap length is ∙ ap suc (kept_length next (i + 1) xs later more)

taken_slot : {A : Type 0} (n : ℕ) (xs : List (Option A)) (k : ℕ) (x : A)
    → slot (take n xs) k ≡ Some x → slot xs k ≡ Some x
taken_slot zero xs k x at = absurd (none-some x at)
taken_slot (suc n) [] k x at = absurd (none-some x at)
taken_slot (suc n) (y ∷ ys) zero x at = at
taken_slot (suc n) (y ∷ ys) (suc k) x at = taken_slot n ys k x at

there_if : {A : Type 0} (a b : Bool) (x y : A) → cond a (cond b (Some x) None) None ≡ Some y → Some x ≡ Some y
there_if true true x y at = at
there_if true false x y at = absurd (none-some y at)
there_if false b x y at = absurd (none-some y at)

joined_there : {N E : Type 0} (nodes : List (Option N)) (o : Option (Edge E)) (x : Edge E)
    → if_ends_exist nodes o ≡ Some x → o ≡ Some x
joined_there nodes None x at = absurd (none-some x at)
joined_there nodes (Some y) x at = there_if (is_some (slot nodes y.parent)) (is_some (slot nodes y.child)) y x at

joined_slot : {N E : Type 0} (nodes : List (Option N)) (xs : List (Option (Edge E))) (k : ℕ) (x : Edge E)
    → slot (map (if_ends_exist nodes) xs) k ≡ Some x → slot xs k ≡ Some x
joined_slot nodes [] k x at = absurd (none-some x at)
joined_slot nodes (y ∷ ys) zero x at = joined_there nodes y x at
joined_slot nodes (y ∷ ys) (suc k) x at = joined_slot nodes ys k x at

module _ {N E V W F G I : Type 0} {of : ℕ → I} {step_f : F → I → Bor N → Option V → F → Type 0}
    {step_g : G → I → Bor E → Option W → G → Type 0} {f : F} {g : G} {old : Graph N E} {new : Graph V W}
    (filtered : IsFilteredInPlace of step_f step_g f g old new) where
  joined_before : (u v : ℕ) → AreJoined new u v → AreJoined old u v
  joined_before u v j =
      let m =
      kept_slot step_g of weight_in with_weight g 0 _ filtered.edges filtered.keeps_edges j.0 _
      (ap (λ (z : Graph V W). edge_at z j.0) (sym filtered.is) ∙ j.2) in
      let x = m.0 in
      let there : edge_at old j.0 ≡ Some x = taken_slot _ old.edges j.0 x (joined_slot filtered.nodes _ j.0 x m.2) in
      let P : ℕ → Type 0 = λ z. AreJoined old z v in
      let Q : ℕ → Type 0 = λ z. AreJoined old x.parent z in
      subst P (ap (λ (y : Edge W). y.parent) m.3) (subst Q (ap (λ (y : Edge W). y.child) m.3) (j.0, x.weight, there))

  was_there : (n : ℕ) → HasNode new n → HasNode old n
  was_there n h =
      let w = some_is (node_weight new n) h in
      let m =
      kept_slot step_f of (λ w. w) (λ w v. v) f 0 _ filtered.nodes filtered.keeps_nodes n w.0
      (ap (λ (z : Graph V W). node_weight z n) (sym filtered.is) ∙ w.1) in
      let P : Option N → Type 0 = λ z. IsSome z in
      subst P (sym (taken_slot _ old.nodes n m.0 m.2)) refl

  order_kept : {end : ℕ} (order left : List ℕ) → IsWellFormed end new
      → left ≡ filter (λ n. is_some (node_weight new n)) order → IsOrderOf old order → IsOrderOf new left
  order_kept {end} order left w is ord =
      let P : List ℕ → Type 0 = λ z. IsOrderOf new z in
      let test : ℕ → Bool = λ n. is_some (node_weight new n) in
      subst P (sym is)
      (order_filtered order ord (ends_exist w) test (λ n. (λ h. (was_there n h, h), λ h. h.1)) joined_before)

  -- the nodes of an order that exist in the new graph are in order there, and room for the old slots
  -- is enough
  pub kept_in_place : {end : ℕ} (order left : List ℕ) (capacity : ℕ) → IsWellFormed end new
      → left ≡ filter (λ n. is_some (node_weight new n)) order → IsOrderOf old order
      → length old.nodes ≤ capacity → IsKept new left capacity
  kept_in_place order left capacity w is ord fits = (
    order_kept order left w is ord,
    omega (
      arith,
      ap (λ (z : Graph V W). node_bound z) filtered.is,
      bound_low filtered.nodes,
      kept_length step_f of (λ w. w) (λ w v. v) f 0 (take (node_bound old) old.nodes) filtered.nodes
          filtered.keeps_nodes,
      length-take-le (node_bound old) old.nodes (bound_low old.nodes),
      bound_low old.nodes,
      fits,
    ),
  )
