use Rattle.daggy_json.proofs.WrittenValues.{has_values}
use Rattle.daggy_json.proofs.documents.write.Goals as goal

pub returns-clause-values : goal.returns-clause-values
returns-clause-values g c =
    has_values _ _ _ _ _ c.node_count-dag.ensures.dag c.node_count-dag.ensures.compact _
    (rw c.graph.ensures.graph at c.in_ok-write_document.ensures)
