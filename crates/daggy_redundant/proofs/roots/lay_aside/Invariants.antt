use Rattle.std.proofs.Common.{◌≡◌, ◌≤◌, ◌-◌, take}
use Rattle.daggy_search.specs.Work.{IsSized}
use Rattle.daggy_redundant.proofs.roots.lay_aside.Given as goal

abbrev pub invariant-nodes : goal.invariant-nodes
invariant-nodes g l =
    (take l.k l.work.cursors ≡ take l.k l.fn.work.nodes) × (l.work.nodes ≡ l.fn.work.nodes) × (l.k ≤ l.count)
    × IsSized l.fn.work.size l.work

abbrev pub decreases-nodes : goal.decreases-nodes
decreases-nodes g l = l.count - l.k
