-- Weights that are handed out to be written leave a dag's order one, with room for its searches.
use Rattle.std.proofs.Common.{ℕ, List, arith}
use Rattle.std.specs.Borrow.{MutBor}
use Rattle.daggy_base.specs.Graph.{Graph}
use Rattle.daggy_base.specs.Rewriting.{Leaves, RewritesNodes, RewritesEdges}
use Rattle.daggy_order.proofs.OrderLaws.{order_fewer}
use Rattle.daggy_dag.proofs.Mapped.{mapped_bound, same_nodes, joined_reweighed}
use Rattle.daggy_dag.proofs.OrderKept.{IsKept, stays_so}

module _ {N E F I : Type 0} (capacity : ℕ) (of : ℕ → I) (f : F) (old new : Graph N E) (order : List ℕ)
    (kept : IsKept old order capacity) where
  pub nodes_rewritten : (step : F → I → MutBor N → Unit {0} → MutBor N → F → Type 0)
      → RewritesNodes of step f old new → IsKept new order capacity
  nodes_rewritten step (nodes, mapped, is) =
      let there : Graph N E = record old { nodes = nodes } in
      stays_so order capacity new there is (
        order_fewer order kept.0 (same_nodes (Leaves step) of (λ v. v) (λ v x. x) f old.nodes nodes mapped)
            (λ u v j. j),
        omega (arith, mapped_bound (Leaves step) of (λ v. v) (λ v x. x) f 0 old.nodes nodes mapped, kept.1),
      )

  pub edges_rewritten : (step : F → I → MutBor E → Unit {0} → MutBor E → F → Type 0)
      → RewritesEdges of step f old new → IsKept new order capacity
  edges_rewritten step (edges, mapped, is) =
      let there : Graph N E = record old { edges = edges } in
      stays_so order capacity new there is
      (order_fewer order kept.0 (λ n. (λ h. h, λ h. h)) (joined_reweighed of (Leaves step) f old there mapped), kept.1)
