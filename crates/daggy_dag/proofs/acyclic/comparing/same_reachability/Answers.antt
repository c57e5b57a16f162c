use Rattle.std.proofs.Common.{◌≡◌, refl, sym, ◌∙◌}
use Rattle.daggy_base.specs.Graph.{node_count}
use Rattle.daggy_reduction.proofs.Shapes.{same_count, shapes_alike}
use Rattle.daggy_dag.proofs.acyclic.comparing.same_reachability.Goals as goal

pub returns : goal.returns
returns g c =
    let count : node_count c.args.a.now.graph ≡ node_count c.args.b.now.graph =
    sym c.node_count.ensures.value ∙ c.if-node_count.false ∙ c.node_count-2.ensures.value in
    let same =
    same_count c.node_count.ensures.dag (c.node_count.ensures.compact refl) c.node_count-2.ensures.dag
    (c.node_count-2.ensures.compact refl) count in
    let alike = shapes_alike c.in_ok-a.ensures c.in_ok-b.ensures same in
    let decided = c.join_same_pairs.ensures.decided in
    (λ t. (count, alike.0 (decided.0 t)), λ both. decided.1 (alike.1 both.1))
