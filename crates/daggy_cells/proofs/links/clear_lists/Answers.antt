use Rattle.std.proofs.Common.{arith}
use Rattle.daggy_cells.proofs.EmptyLists.{unlinking_step}
use Rattle.daggy_cells.proofs.links.clear_lists.Goals as goal

pub loop-i-preserved : goal.loop-i-preserved
loop-i-preserved g c =
    unlinking_step _ c.loop-i.i c.index_mut-x.result.now (omega arith) c.loop-i.invariant (omega arith)
    c.index_mut-x.ensures.value c.end-end.ensures.value
