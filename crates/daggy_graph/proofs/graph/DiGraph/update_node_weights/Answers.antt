use Rattle.daggy_graph.proofs.RewritingLemmas.{Stores-nodes_rewritten, RewritesNodes-stored}
use Rattle.daggy_graph.proofs.graph.DiGraph.update_node_weights.Goals as goal

pub write_nodes-requires-clause-callable : goal.write_nodes-requires-clause-callable
write_nodes-requires-clause-callable g c = rw (← c.self.view_is) at c.requires

pub invariant_of-self : goal.invariant_of-self
invariant_of-self g c =
    Stores-nodes_rewritten (goal.F-step g) g.Ix.IndexType.of c.args.f _ _ _ c.write_nodes.ensures.written
    c.write_nodes.ensures.links _ c.self.invariant

pub returns-clause-written : goal.returns-clause-written
returns-clause-written g c =
    rw (← c.self.view_is)
    (RewritesNodes-stored (goal.F-step g) g.Ix.IndexType.of c.args.f _ _ _ c.write_nodes.ensures.written
    c.write_nodes.ensures.links)
