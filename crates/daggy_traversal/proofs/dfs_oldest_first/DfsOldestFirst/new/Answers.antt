use Rattle.std.proofs.Common.{arith}
use Rattle.daggy_traversal.proofs.OldestFirst.{oldest_begins}
use Rattle.daggy_traversal.proofs.dfs_oldest_first.DfsOldestFirst.new.Goals as goal

pub returns-clause-under_way : goal.returns-clause-under_way
returns-clause-under_way g c =
    oldest_begins c.node_bound.ensures.well_formed c.new-2.ensures c.in_ok-stack.ensures.start
    (omega (arith, c.in_ok-met.ensures.bound, c.node_bound.ensures.value)) c.in_ok-stack.ensures.room
