use Rattle.std.proofs.Common.{◌≡◌, ◌+◌, ◌-◌}
use Rattle.daggy_base.specs.Graph.{node_count}
use Rattle.daggy_guard.proofs.FillLoop.{Filling}
use Rattle.daggy_guard.proofs.guard.Guarded.fill.Given as goal

abbrev pub invariant-nodes : goal.invariant-nodes
invariant-nodes g l = record {
  filling : Filling g.S.NodeWeight.Default.is_default l.last l.fn.self.graph l.self.graph;
  counted : l.self.looks ≡ l.fn.self.looks;
}

abbrev pub decreases-nodes : goal.decreases-nodes
decreases-nodes g l = (l.last + 1) - node_count l.self.graph
