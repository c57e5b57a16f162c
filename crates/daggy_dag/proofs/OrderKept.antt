-- What a dag keeps of its graph: an order of its nodes, and room for its searches.
use Rattle.std.proofs.Common.{◌≡◌, ℕ, ◌<◌, ◌≤◌, List, [], length, Contains, sym, ap, subst, arith}
use Rattle.daggy_base.specs.Graph.{Graph, empty, node_bound}
use Rattle.daggy_base.specs.Removal.{without_all_edges}
use Rattle.daggy_base.specs.State.{State}
use Rattle.daggy_base.proofs.PathsWithNode.{bound_low}
use Rattle.daggy_base.proofs.OutEdgesRead.{below_bound}
use Rattle.daggy_base.specs.Ordered.{IsOrderOf}
use Rattle.daggy_order.proofs.OrderLaws.{order_empty, order_without_all_edges}

-- an order of a graph's nodes, with room for its searches
abbrev pub IsKept : {N E : Type 0} → Graph N E → List ℕ → ℕ → Type 0
IsKept g order capacity = IsOrderOf g order × (node_bound g ≤ capacity)

-- the same of an equal graph
pub stays_so : {N E : Type 0} (order : List ℕ) (capacity : ℕ) (new h : Graph N E)
    → new ≡ h → IsKept h order capacity → IsKept new order capacity
stays_so {N} {E} order capacity new h is kept =
    let P : Graph N E → Type 0 = λ z. IsKept z order capacity in
    subst P (sym is) kept

-- no nodes
pub kept_empty : {N E : Type 0} (order : List ℕ) (capacity : ℕ) (new : Graph N E)
    → new ≡ empty → order ≡ [] → IsKept new order capacity
kept_empty {N} {E} order capacity new is none =
    let P : List ℕ → Type 0 = λ z. IsOrderOf (empty {N = N} {E = E}) z in
    stays_so order capacity new empty is (subst P (sym none) order_empty, omega arith)

-- no edges
pub kept_without_edges : {N E : Type 0} (order : List ℕ) (capacity : ℕ) (old new : Graph N E)
    → new ≡ without_all_edges old → IsKept old order capacity → IsKept new order capacity
kept_without_edges order capacity old new is kept =
    stays_so order capacity new (without_all_edges old) is (order_without_all_edges old order kept.0, kept.1)

-- a copy
pub kept_copied : {N E : Type 0} {order copy : List ℕ} {slots : ℕ} (capacity : ℕ) {old : Graph N E}
    {new : State N E} (looks : ℕ)
    → new ≡ record { graph = old; looks = looks } → copy ≡ order → slots ≡ length old.nodes → slots ≤ capacity
    → IsOrderOf old order → IsKept new.graph copy capacity
kept_copied {N} {E} {order} {copy} capacity {old} {new} looks is same many fits ord =
    stays_so copy capacity new.graph old (ap (λ (z : State N E). z.graph) is)
    (subst (IsOrderOf old) (sym same) ord, omega (arith, bound_low old.nodes, many, fits))

-- each node of the order is below the number of slots
pub order_below : {N E : Type 0} (g : Graph N E) (order : List ℕ) (slots : ℕ)
    → slots ≡ length g.nodes → IsOrderOf g order → (n : ℕ) → Contains order n → n < slots
order_below g order slots many ord n h =
    omega (arith, many, below_bound g.nodes n ((ord.exact n).0 h), bound_low g.nodes)
