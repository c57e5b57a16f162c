-- How far the search for longer paths to the children of a node goes in an order.
use Rattle.std.specs.Prelude.{ℕ, ◌+◌, ◌≤◌, max, Option, Some, None, List, [], ◌∷◌}
use Rattle.daggy_base.specs.Graph.{Graph, Edge, edge_at, out_list}
use Rattle.daggy_base.specs.Ordered.{place, stretch, edges_from}
use Rattle.daggy_base.specs.Path.{AreJoined}

-- the position of an edge's child
abbrev pub child_place : {E : Type 0} → (order : List ℕ) → Option (Edge E) → ℕ
child_place order None = 0
child_place order (Some x) = place order x.child

-- k, or the position of the last child of these edges if that is greater
abbrev pub latest : {N E : Type 0} → Graph N E → (order : List ℕ) → ℕ → List ℕ → ℕ
latest g order k [] = k
latest g order k (e ∷ es) = latest g order (max k (child_place order (edge_at g e))) es

-- the position of the last child of a node, or the node's own position if it has no children
abbrev pub last_place : {N E : Type 0} → Graph N E → (order : List ℕ) → ℕ → ℕ
last_place g order u = latest g order (place order u) (out_list g u)

-- how many edges leave the nodes from u up to its last child
abbrev pub edges_spanned : {N E : Type 0} → Graph N E → (order : List ℕ) → ℕ → ℕ
edges_spanned g order u = edges_from g (stretch order (place order u) (last_place g order u))

-- the sum of `edges_spanned` over some nodes
abbrev pub all_spanned : {N E : Type 0} → Graph N E → (order us : List ℕ) → ℕ
all_spanned g order [] = 0
all_spanned g order (u ∷ us) = edges_spanned g order u + all_spanned g order us

-- each edge leads at most d positions on in an order
abbrev pub SpansAtMost : {N E : Type 0} → Graph N E → (order : List ℕ) (d : ℕ) → Type 0
SpansAtMost g order d = (u v : ℕ) → AreJoined g u v → place order v ≤ place order u + d
