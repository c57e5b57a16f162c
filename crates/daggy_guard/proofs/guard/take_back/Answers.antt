use Rattle.std.proofs.Common.{leb, ap, ◌∙◌}
use Rattle.daggy_base.specs.TakingBack.{with_node_taken_back}
use Rattle.daggy_guard.proofs.NewNode.{new_exists, weight_is, no_lists, made_where_compact, made_is_last}
use Rattle.daggy_guard.proofs.NewNode.{taken_back_is_old}
use Rattle.daggy_guard.proofs.guard.take_back.Goals as goal

pub take_back_node-requires-clause-exists : goal.take_back_node-requires-clause-exists
take_back_node-requires-clause-exists g c = new_exists c.requires.added.2

pub take_back_node-requires-clause-no_edges : goal.take_back_node-requires-clause-no_edges
take_back_node-requires-clause-no_edges g c = no_lists c.requires.added.2

pub take_back_node-requires-clause-compact : goal.take_back_node-requires-clause-compact
take_back_node-requires-clause-compact g c = rw c.index.ensures.value (made_where_compact c.requires.added.2)

pub take_back_node-requires-clause-last : goal.take_back_node-requires-clause-last
take_back_node-requires-clause-last g c = rw c.index.ensures.value (made_is_last c.requires.added.2)

pub returns-clause-undone : goal.returns-clause-undone
returns-clause-undone g c old w s =
    let at = g.Ix.IndexType.number c.args.n in
    c.take_back_node.ensures.removed
    ∙ ap (λ k. with_node_taken_back (leb c.args.slot_count k) (g.S.EdgeSource.graph c.args.store.now) at)
    c.index.ensures.value
    ∙ taken_back_is_old s

pub returns-clause-returned : goal.returns-clause-returned
returns-clause-returned g c old w s = weight_is s _ c.take_back_node.ensures.gives
