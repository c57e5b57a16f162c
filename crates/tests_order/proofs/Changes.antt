-- What a graph's changes make of an order of its nodes.
use Rattle.std.proofs.Common.{◌≡◌, ℕ, ◌<◌, ◌≤◌, List, [], ◌∷◌, ◌++◌, Result, Ok, OnOk, IfOk, sym, ap, subst}
use Rattle.daggy_base.specs.Graph.{Graph, node_bound}
use Rattle.daggy_base.specs.Adding.{with_node, with_edge, next_node}
use Rattle.daggy_base.specs.State.{State, with_graph}
use Rattle.daggy_base.specs.WellFormed.{IsWellFormed}
use Rattle.daggy_base.specs.Ordered.{IsOrderOf, place}
use Rattle.daggy_order.proofs.OrderLaws.{order_with_edge, order_with_node_last, order_with_node_first}

-- what an answer says, once it is known to be a success
pub on_ok : {A E X : Type 0} (r : Result A E) (x : A) → r ≡ Ok x → OnOk r X → X
on_ok {A} {E} {X} r x is said = let P : Result A E → Type 0 = λ z. OnOk z X in subst P is said

pub if_ok : {A E : Type 0} (P : A → Type 0) (r : Result A E) (x : A) → r ≡ Ok x → IfOk r P → P x
if_ok {A} {E} P r x is said = let Q : Result A E → Type 0 = λ z. IfOk z P in subst Q is said

pub edge_added : {old : Graph ℕ ℕ} (mid : State ℕ ℕ) {new : State ℕ ℕ} {order : List ℕ} (a b capacity : ℕ)
    → IsOrderOf old order → place order a < place order b → node_bound old ≤ capacity
    → mid.graph ≡ old → new ≡ with_graph mid (with_edge mid.graph a b 0)
    → IsOrderOf new.graph order × (node_bound new.graph ≤ capacity)
edge_added mid {new} {order} a b capacity ord before fits same added =
    let P : Graph ℕ ℕ → Type 0 = λ z.
    IsOrderOf (with_edge z a b 0) order × (node_bound (with_edge z a b 0) ≤ capacity) in
    let Q : Graph ℕ ℕ → Type 0 = λ z. IsOrderOf z order × (node_bound z ≤ capacity) in
    subst Q (sym (ap (λ (z : State ℕ ℕ). z.graph) added))
    (subst P (sym same) (order_with_edge order ord a b 0 before, fits))

module _ (old new : State ℕ ℕ) (order later : List ℕ) (n : ℕ) (f : IsWellFormed 255 old.graph)
    (ord : IsOrderOf old.graph order) (is : n ≡ next_node old.graph)
    (added : new ≡ with_graph old (with_node old.graph 0)) where
  module _ (put : List ℕ → ℕ → List ℕ) (there : later ≡ put order n)
      (fine : IsOrderOf (with_node old.graph 0) (put order (next_node old.graph))) where
    node_put : IsOrderOf new.graph later
    node_put =
        let P : Graph ℕ ℕ → Type 0 = λ z. IsOrderOf z later in
        let Q : List ℕ → Type 0 = λ z. IsOrderOf (with_node old.graph 0) z in
        let R : ℕ → Type 0 = λ z. IsOrderOf (with_node old.graph 0) (put order z) in
        subst P (sym (ap (λ (z : State ℕ ℕ). z.graph) added)) (subst Q (sym there) (subst R (sym is) fine))

  pub node_last : later ≡ order ++ n ∷ [] → IsOrderOf new.graph later
  node_last there = node_put (λ xs x. xs ++ x ∷ []) there (order_with_node_last f 0 order ord)

  pub node_first : later ≡ n ∷ order → IsOrderOf new.graph later
  node_first there = node_put (λ xs x. x ∷ xs) there (order_with_node_first f 0 order ord)
