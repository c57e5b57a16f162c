use Rattle.daggy_guard.proofs.edge_batch.add_item.Goals as goal

pub returns-in-Ok-clause-counted : goal.returns-in-Ok-clause-counted
returns-in-Ok-clause-counted g c budget start w =
    rw c.add_edge.ensures.counted (c.order_item.ensures.counted budget start w)

pub returns-in-Err-clause-counted : goal.returns-in-Err-clause-counted
returns-in-Err-clause-counted g c budget start w =
    rw c.add_edge.ensures.counted (c.order_item.ensures.counted budget start w)
