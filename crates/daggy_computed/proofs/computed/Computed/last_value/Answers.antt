use Rattle.std.proofs.Common.{sym, ap, ◌∙◌}
use Rattle.daggy_base.specs.Graph.{HasNode}
use Rattle.daggy_computed.specs.Cells.{value_of}
use Rattle.daggy_computed.specs.Inputs.{value_at}
use Rattle.daggy_computed.proofs.Celled.{value_cell}
use Rattle.daggy_computed.proofs.Changes.{value_missing}
use Rattle.daggy_computed.proofs.computed.Computed.last_value.Goals as goal

pub returns-then-not-contains_node : goal.returns-then-not-contains_node
returns-then-not-contains_node g c =
    let n = g.Ix.IndexType.number c.args.n in
    let graph = c.self.inside.dag.graph in
    let es = c.self.inside.entries.items in
    sym (ap (λ z. value_at z.graph n) (sym c.self.view_is)
    ∙ value_missing graph es n (λ h. (let t = c.contains_node.ensures.1 h in cc)))

pub returns : goal.returns
returns g c =
    let n = g.Ix.IndexType.number c.args.n in
    let graph = c.self.inside.dag.graph in
    let es = c.self.inside.entries.items in
    let there : HasNode graph n = c.contains_node.ensures.0 cc in
    c.value_at.ensures
    ∙ (ap (λ z. value_of z c.index.result) c.as_slice.ensures.value
    ∙ (ap (value_of es) c.index.ensures.value
    ∙ (sym (value_cell graph es n there) ∙ ap (λ z. value_at z.graph n) c.self.view_is)))
