use Rattle.daggy_graph.proofs.RewritingLemmas.{Stores-edges_rewritten, RewritesEdges-stored}
use Rattle.daggy_graph.proofs.graph.DiGraph.update_edge_weights.Goals as goal

pub write_edges-requires-clause-callable : goal.write_edges-requires-clause-callable
write_edges-requires-clause-callable g c = rw (← c.self.view_is) at c.requires

pub invariant_of-self : goal.invariant_of-self
invariant_of-self g c =
    Stores-edges_rewritten (goal.F-step g) g.Ix.IndexType.of c.args.f _ _ _ c.write_edges.ensures.written
    c.write_edges.ensures.links c.write_edges.ensures.ends _ c.self.invariant

pub returns-clause-written : goal.returns-clause-written
returns-clause-written g c =
    rw (← c.self.view_is)
    (RewritesEdges-stored (goal.F-step g) g.Ix.IndexType.of c.args.f _ _ _ c.write_edges.ensures.written
    c.write_edges.ensures.links c.write_edges.ensures.ends)
