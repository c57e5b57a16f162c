use Rattle.std.proofs.Common.{◌≡◌, ◌==◌, ◌&&◌, length, true, is_some, sym, ap, ◌∙◌}
use Rattle.std.proofs.Math.Dec.{eqb}
use Rattle.daggy_base.specs.Graph.{HasNode, node_weight, list_at}
use Rattle.daggy_base.specs.Cursor.{first_of}
use Rattle.daggy_dag.proofs.Externals.{empty_if_ended, is_some_of}
use Rattle.daggy_dag.proofs.acyclic.externals.is_external.Goals as goal

pub returns-then-contains_node : goal.returns-then-contains_node
returns-then-contains_node g c =
    let graph = g.S.EdgeSource.graph c.args.store.now in
    let n = g.Ix.IndexType.number c.args.n in
    let end = g.Ix.IndexType.greatest in
    let list = list_at c.args.dir graph n in
    let exists : HasNode graph n = c.if-contains_node.ensures.exists.0 cc in
    let found : is_some (node_weight graph n) ≡ true = is_some_of (node_weight graph n) exists in
    ap (λ z. eqb z c.index-then-contains_node.result) (c.index.ensures.value ∙ c.first_edge-first.ensures)
    ∙ ap (λ z. eqb (first_of end list) z) (c.index-then-contains_node.ensures.value ∙ c.end.ensures.number)
    ∙ empty_if_ended end graph c.contains_node.ensures.well_formed c.args.dir n
    ∙ ap (λ b. b && (length list == 0)) (sym found)
