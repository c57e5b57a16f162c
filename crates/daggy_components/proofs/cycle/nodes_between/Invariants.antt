use Rattle.std.proofs.Common.{◌≡◌, ◌-◌, ◌≤◌, ◌++◌, map}
use Rattle.daggy_components.proofs.Parts.{part}
use Rattle.daggy_components.proofs.cycle.nodes_between.Given as goal

abbrev pub invariant-nodes : goal.invariant-nodes
invariant-nodes g l =
    (l.k ≤ l.to)
    × (map g.Ix.IndexType.number l.nodes.items ++ part l.k (l.to - l.k) l.work.nodes
    ≡ part l.from (l.to - l.from) l.work.nodes)
