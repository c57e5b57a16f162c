use Rattle.std.proofs.Common.{arith}
use Rattle.daggy_graph.proofs.StoredLemmas.{Stores-edge_code}
use Rattle.daggy_graph.proofs.graph.changes.put_edge.Goals as goal

pub returns-clause-stored : goal.returns-clause-stored
returns-clause-stored g c =
    Stores-edge_code _ _ _ _ c.requires.stored (omega (arith, c.new-e.ensures, c.len.ensures)) c.requires.parent
    c.requires.child c.requires.index_left c.put_first-x.ensures.led c.put_first-x.ensures.edge
    c.push_reserved.ensures.items
