use Rattle.daggy_graph.proofs.StoredLemmas.{Stores-node_code}
use Rattle.daggy_graph.proofs.graph.changes.put_node.Goals as goal

pub returns-clause-stored : goal.returns-clause-stored
returns-clause-stored g c =
    Stores-node_code _ _ _ _ c.requires.stored c.args.weight c.requires.index_left c.new_node.ensures
    c.push_reserved.ensures.items
