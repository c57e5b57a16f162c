-- Whatever is written to a weight, a dag's order stays one, and its searches have room.
use Rattle.std.proofs.Common.{◌≡◌, ℕ, zero, suc, Option, Some, None, IsSome, List, [], ◌∷◌, set, refl, sym, ap, subst}
use Rattle.std.proofs.Common.{arith}
use Rattle.std.proofs.lemmas.Bool.{false≢true}
use Rattle.daggy_base.specs.Graph.{Graph, HasNode, slot, bound_of, bound_step}
use Rattle.daggy_base.specs.State.{State, with_graph}
use Rattle.daggy_base.specs.Weights.{with_node_weight, with_edge_weight}
use Rattle.daggy_order.proofs.OrderLaws.{nodes_with_weight, order_with_node_weight, order_with_edge_weight}
use Rattle.daggy_dag.proofs.OrderKept.{IsKept}

step_written : {A : Type 0} (x y : A) (n : ℕ) → bound_step (Some x) n ≡ bound_step (Some y) n
step_written x y zero = refl
step_written x y (suc n) = refl

-- a weight in a slot that is not vacant leaves the bound alone
bound_written : {A : Type 0} (xs : List (Option A)) (n : ℕ) (w : A)
    → IsSome (slot xs n) → bound_of (set xs n (Some w)) ≡ bound_of xs
bound_written [] n w there = absurd (false≢true there)
bound_written (None ∷ xs) zero w there = absurd (false≢true there)
bound_written (Some x ∷ xs) zero w there = step_written w x (bound_of xs)
bound_written (x ∷ xs) (suc n) w there = ap (bound_step x) (bound_written xs n w there)

module _ {N E : Type 0} (capacity : ℕ) (g : Graph N E) (order : List ℕ) (kept : IsKept g order capacity) where
  pub node_written : (n : ℕ) (w : N) → HasNode g n → IsKept (with_node_weight g n w) order capacity
  node_written n w there = (
    order_with_node_weight order kept.0 n w there,
    omega (arith, bound_written g.nodes n w there, kept.1),
  )

  pub edge_written : (e : ℕ) (w : E) → IsKept (with_edge_weight g e w) order capacity
  edge_written e w = (order_with_edge_weight order kept.0 e w, kept.1)

  pub nodes_written : (a b : ℕ) (v w : N)
      → HasNode g a → HasNode g b → IsKept (with_node_weight (with_node_weight g a v) b w) order capacity
  nodes_written a b v w first second =
      let still : HasNode (with_node_weight g a v) b = (nodes_with_weight g a v first b).1 second in (
        order_with_node_weight order (order_with_node_weight order kept.0 a v first) b w still,
        omega (arith, bound_written (set g.nodes a (Some v)) b w still, bound_written g.nodes a v first, kept.1),
      )

  pub edges_written : (a b : ℕ) (v w : E) → IsKept (with_edge_weight (with_edge_weight g a v) b w) order capacity
  edges_written a b v w = (order_with_edge_weight order (order_with_edge_weight order kept.0 a v) b w, kept.1)

  pub node_and_edge_written : (n e : ℕ) (v : N) (w : E)
      → HasNode g n → IsKept (with_edge_weight (with_node_weight g n v) e w) order capacity
  node_and_edge_written n e v w there = let first = node_written n v there in
      (order_with_edge_weight order first.0 e w, first.1)

-- the same of a state with that graph
pub stays_dag : {N E : Type 0} (order : List ℕ) (capacity : ℕ) (s new : State N E) (h : Graph N E)
    → new ≡ with_graph s h → IsKept h order capacity → IsKept new.graph order capacity
stays_dag {N} {E} order capacity s new h is kept =
    let P : State N E → Type 0 = λ z. IsKept z.graph order capacity in
    subst P (sym is) kept
