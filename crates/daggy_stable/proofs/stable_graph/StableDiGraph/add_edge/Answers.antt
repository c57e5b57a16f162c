use Rattle.std.proofs.Common.{sym, ap, ◌∙◌, arith}
use Rattle.daggy_stable.proofs.Changes.{edge_none, edge_some}
use Rattle.daggy_stable.proofs.stable_graph.StableDiGraph.add_edge.Goals as goal

pub fill_edge-requires-clause-some : goal.fill_edge-requires-clause-some
fill_edge-requires-clause-some g c = λ q.
    edge_some c.self.invariant (omega (arith, c.if-index-len.true, c.index.ensures.value, c.len.ensures))
    (ap (λ s. s.graph.vacant_edges) c.self.view_is ∙ q)

pub make_edge-requires-clause-none : goal.make_edge-requires-clause-none
make_edge-requires-clause-none g c =
    ap (λ s. s.graph.vacant_edges) (sym c.self.view_is)
    ∙ edge_none c.self.invariant (omega (arith, c.if-index-len.false, c.index.ensures.value, c.len.ensures))
