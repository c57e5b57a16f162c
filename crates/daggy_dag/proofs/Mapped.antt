-- Mapping the weights of a dag keeps its order.
use Rattle.std.proofs.Common.{◌≡◌, ℕ, zero, suc, ◌+◌, ◌≤◌, ◌↔◌, List, [], ◌∷◌, length, Option, Some, None, IsSome}
use Rattle.std.proofs.Common.{is_some, refl, sym, ap, subst, ◌∙◌, arith, Result, Ok, Err, MatchResult, IfOk}
use Rattle.std.specs.Borrow.{Bor}
use Rattle.std.proofs.lemmas.Option.{same_Some, none-some}
use Rattle.daggy_base.specs.Graph.{Graph, Edge, slot, bound_of, bound_step}
use Rattle.daggy_base.specs.Path.{AreJoined, IsAcyclic}
use Rattle.daggy_base.specs.State.{State}
use Rattle.daggy_base.specs.Copying.{clone_step, IsCopy}
use Rattle.daggy_base.proofs.PathsWithEdge.{no_round}
use Rattle.daggy_base.proofs.PathsWithNode.{bound_low}
use Rattle.daggy_base.specs.Mapping.{MapsSlots, IsMapped, weight_in, with_weight}
use Rattle.daggy_cells.proofs.MappingLemmas.{mapped_length}
use Rattle.daggy_redundant.specs.Comparison.{HaveSameNodes, HaveSameReachability}
use Rattle.daggy_reduction.proofs.Canonical.{reach_same}
use Rattle.daggy_base.specs.Ordered.{IsOrderOf}
use Rattle.daggy_order.proofs.OrderLaws.{order_fewer}
use Rattle.daggy_dag.proofs.OrderKept.{IsKept}

module _ {F I W V A B : Type 0} (step : F → I → Bor W → V → F → Type 0) (of : ℕ → I) (weight : A → W)
    (with : A → V → B) where
  mapped_slot : (f : F) (i : ℕ) (xs : List (Option A)) (new : List (Option B))
      → MapsSlots step of weight with f i xs new
      → (k : ℕ) (y : B) → slot new k ≡ Some y → (x : A) × (v : V) × (slot xs k ≡ Some x) × (with x v ≡ y)
  mapped_slot f i [] new is k y at = absurd (none-some y (ap (λ z. slot z k) (sym is) ∙ at))
  mapped_slot f i (None ∷ xs) new (later, is, more) zero y at =
      absurd (none-some y (ap (λ z. slot z zero) (sym is) ∙ at))
  mapped_slot f i (None ∷ xs) new (later, is, more) (suc k) y at =
      mapped_slot f (i + 1) xs later more k y (ap (λ z. slot z (suc k)) (sym is) ∙ at)
  mapped_slot f i (Some x ∷ xs) new (v, next, called, later, is, more) zero y at = (
    x,
    v,
    refl,
    same_Some (with x v) y (ap (λ z. slot z zero) (sym is) ∙ at),
  )
  mapped_slot f i (Some x ∷ xs) new (v, next, called, later, is, more) (suc k) y at =
      mapped_slot next (i + 1) xs later more k y (ap (λ z. slot z (suc k)) (sym is) ∙ at)

  mapped_after : (f : F) (i : ℕ) (xs : List (Option A)) (new : List (Option B))
      → MapsSlots step of weight with f i xs new
      → (k : ℕ) (x : A) → slot xs k ≡ Some x → (v : V) × (slot new k ≡ Some (with x v))
  mapped_after f i [] new is k x at = absurd (none-some x at)
  mapped_after f i (None ∷ xs) new (later, is, more) zero x at = absurd (none-some x at)
  mapped_after f i (None ∷ xs) new (later, is, more) (suc k) x at =
      let m = mapped_after f (i + 1) xs later more k x at in (m.0, ap (λ z. slot z (suc k)) is ∙ m.1)
  mapped_after f i (Some y ∷ xs) new (v, next, called, later, is, more) zero x at =
      (v, ap (λ z. slot z zero) is ∙ ap (λ z. Some (with z v)) (same_Some y x at))
  mapped_after f i (Some y ∷ xs) new (v, next, called, later, is, more) (suc k) x at =
      let m = mapped_after next (i + 1) xs later more k x at in (m.0, ap (λ z. slot z (suc k)) is ∙ m.1)

  -- no slot is vacated, and none is filled
  pub mapped_there : (f : F) (i : ℕ) (xs : List (Option A)) (new : List (Option B))
      → MapsSlots step of weight with f i xs new → (k : ℕ) → is_some (slot new k) ≡ is_some (slot xs k)
  mapped_there f i [] new is k = ap (λ z. is_some (slot z k)) is
  mapped_there f i (None ∷ xs) new (later, is, more) zero = ap (λ z. is_some (slot z zero)) is
  mapped_there f i (None ∷ xs) new (later, is, more) (suc k) =
      ap (λ z. is_some (slot z (suc k))) is ∙ mapped_there f (i + 1) xs later more k
  mapped_there f i (Some x ∷ xs) new (v, next, called, later, is, more) zero = ap (λ z. is_some (slot z zero)) is
  mapped_there f i (Some x ∷ xs) new (v, next, called, later, is, more) (suc k) =
      ap (λ z. is_some (slot z (suc k))) is ∙ mapped_there next (i + 1) xs later more k

  none_mapped : (n : ℕ) → bound_step {A = B} None n ≡ bound_step {A = A} None n
  none_mapped zero = refl
  none_mapped (suc n) = refl

  step_mapped : (x : A) (y : B) (n : ℕ) → bound_step (Some y) n ≡ bound_step (Some x) n
  step_mapped x y zero = refl
  step_mapped x y (suc n) = refl

  pub mapped_bound : (f : F) (i : ℕ) (xs : List (Option A)) (new : List (Option B))
      → MapsSlots step of weight with f i xs new → bound_of new ≡ bound_of xs
  mapped_bound f i [] new is = ap bound_of is
  mapped_bound f i (None ∷ xs) new (later, is, more) =
      ap bound_of is ∙ ap (bound_step {A = B} None) (mapped_bound f (i + 1) xs later more) ∙ none_mapped (bound_of xs)
  mapped_bound f i (Some x ∷ xs) new (v, next, called, later, is, more) =
      ap bound_of is ∙ ap (bound_step (Some (with x v))) (mapped_bound next (i + 1) xs later more)
      ∙ step_mapped x (with x v) (bound_of xs)

-- the edges of a graph that has other weights there are between the same nodes
module _ {N E V W G I : Type 0} (of : ℕ → I) (step : G → I → Bor E → W → G → Type 0) (g : G) (old : Graph N E)
    (new : Graph V W)
    (mapped : MapsSlots step of weight_in with_weight g 0 old.edges new.edges) where
  pub joined_reweighed : (u v : ℕ) → AreJoined new u v → AreJoined old u v
  joined_reweighed u v j =
      let m = mapped_slot step of weight_in with_weight g 0 old.edges new.edges mapped j.0 _ j.2 in
      let P : ℕ → Type 0 = λ z. AreJoined old z v in
      let Q : ℕ → Type 0 = λ z. AreJoined old m.0.parent z in
      subst P (ap (λ (y : Edge W). y.parent) m.3) (subst Q (ap (λ (y : Edge W). y.child) m.3) (j.0, m.0.weight, m.2))

  pub joined_still : (u v : ℕ) → AreJoined old u v → AreJoined new u v
  joined_still u v j =
      let m = mapped_after step of weight_in with_weight g 0 old.edges new.edges mapped j.0 _ j.2 in
      (j.0, m.0, m.1)

-- a graph whose slots hold other weights has the same nodes
pub same_nodes : {F I W V A B : Type 0} (step : F → I → Bor W → V → F → Type 0) (of : ℕ → I) (weight : A → W)
    (with : A → V → B) (f : F) (xs : List (Option A)) (new : List (Option B))
    → MapsSlots step of weight with f 0 xs new → (n : ℕ) → IsSome (slot new n) ↔ IsSome (slot xs n)
same_nodes step of weight with f xs new mapped n =
    let same = mapped_there step of weight with f 0 xs new mapped n in
    (λ h. sym same ∙ h, λ h. same ∙ h)

module _ {N E V W F G I : Type 0} (of : ℕ → I) (step_f : F → I → Bor N → V → F → Type 0)
    (step_g : G → I → Bor E → W → G → Type 0) (f : F) (g : G) (old : Graph N E) (new : Graph V W)
    (mapped : IsMapped of step_f step_g f g old new) where
  -- an order of the old graph is one of the new graph, and room for the old slots is enough
  pub kept_mapped : (order : List ℕ) (capacity : ℕ)
      → IsOrderOf old order → length old.nodes ≤ capacity → IsKept new order capacity
  kept_mapped order capacity ord fits = (
    order_fewer order ord (same_nodes step_f of (λ w. w) (λ w v. v) f old.nodes new.nodes mapped.nodes)
        (joined_reweighed of step_g g old new mapped.edges),
    omega (
      arith,
      bound_low new.nodes,
      mapped_length step_f of (λ w. w) (λ w v. v) f 0 old.nodes new.nodes mapped.nodes,
      fits,
    ),
  )

  pub nodes_mapped : HaveSameNodes old new
  nodes_mapped n = let same = same_nodes step_f of (λ w. w) (λ w v. v) f old.nodes new.nodes mapped.nodes n in
      (same.1, same.0)

  pub reach_mapped : HaveSameReachability old new
  reach_mapped =
      reach_same old new nodes_mapped (λ u v. (
        joined_still of step_g g old new mapped.edges u v,
        joined_reweighed of step_g g old new mapped.edges u v,
      ))

  -- a map closes no cycle
  pub acyclic_mapped : IsAcyclic old → IsAcyclic new
  acyclic_mapped acyclic u v rest path same =
      no_round old acyclic u v
      ((same_nodes step_f of (λ w. w) (λ w v. v) f old.nodes new.nodes mapped.nodes u).0 path.0)
      (joined_reweighed of step_g g old new mapped.edges u v path.1)
      ((reach_mapped v u).1 (rest, path.2, same))

-- and neither does a copy
pub copies_acyclic : {N E X : Type 0} (node_clone : N → N → Type 0) (edge_clone : E → E → Type 0) (s : State N E)
    (r : Result (State N E) X) (Q : X → Type 0)
    → MatchResult r (λ copy. IsCopy node_clone edge_clone s.graph copy.graph × (copy.looks ≡ 0)) Q
    → IsAcyclic s.graph → IfOk r (λ copy. IsAcyclic copy.graph)
copies_acyclic node_clone edge_clone s (Ok copy) Q c acyclic =
    acyclic_mapped (λ i. i) (clone_step node_clone) (clone_step edge_clone) tt tt s.graph copy.graph c.0 acyclic
copies_acyclic node_clone edge_clone s (Err x) Q c acyclic = tt
