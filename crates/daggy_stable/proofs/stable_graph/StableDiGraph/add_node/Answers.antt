use Rattle.std.proofs.Common.{sym, ap, ◌∙◌, arith}
use Rattle.daggy_stable.proofs.Changes.{node_none, node_some}
use Rattle.daggy_stable.proofs.stable_graph.StableDiGraph.add_node.Goals as goal

pub fill_node-requires : goal.fill_node-requires
fill_node-requires g c = λ q.
    node_some c.self.invariant (omega (arith, c.if-index-len.true, c.index.ensures.value, c.len.ensures))
    (ap (λ s. s.graph.vacant_nodes) c.self.view_is ∙ q)

pub make_node-requires-clause-none : goal.make_node-requires-clause-none
make_node-requires-clause-none g c =
    ap (λ s. s.graph.vacant_nodes) (sym c.self.view_is)
    ∙ node_none c.self.invariant (omega (arith, c.if-index-len.false, c.index.ensures.value, c.len.ensures))
