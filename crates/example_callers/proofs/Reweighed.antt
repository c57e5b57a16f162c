-- Graphs of which some weights were written.
use Rattle.std.proofs.Common.{Some, set, refl, ap, ℕ}
use Rattle.daggy_base.specs.Graph.{Graph, HasNode}
use Rattle.daggy_base.specs.Weights.{with_node_weight}
use Rattle.daggy_order.proofs.OrderLaws.{nodes_with_weight}
use Rattle.example_callers.specs.Along.{IsReweighed}

pub reweighed_same : {N E : Type 0} (g : Graph N E) → IsReweighed g g
reweighed_same g = (g.nodes, refl, λ n. (λ a. a, λ a. a))

-- one more weight is written
pub reweighed_more : {N E : Type 0} (g h : Graph N E) (n : ℕ) (w : N)
    → HasNode h n → IsReweighed g h → IsReweighed g (with_node_weight h n w)
reweighed_more g h n w has r = (
  set r.0 n (Some w),
  ap (λ z. with_node_weight z n w) r.1,
  λ m. (
    λ a. (r.2 m).0 ((nodes_with_weight h n w has m).0 a),
    λ a. (nodes_with_weight h n w has m).1 ((r.2 m).1 a),
  ),
)
