use Rattle.std.proofs.Common.{arith}
use Rattle.daggy_stable.specs.Stored.{with_lists_emptied}
use Rattle.daggy_stable.proofs.StoredRemoval.{changing_step}
use Rattle.daggy_stable.proofs.stable_graph.removal.empty_lists.Goals as goal

pub loop-i-preserved : goal.loop-i-preserved
loop-i-preserved g c =
    changing_step (with_lists_emptied g.Ix.IndexType.greatest) c.args.nodes.now.items
    (omega arith) c.loop-i.invariant (omega arith) c.index_mut.ensures.value
    c.empty_both.ensures
