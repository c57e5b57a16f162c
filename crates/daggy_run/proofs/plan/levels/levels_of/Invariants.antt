use Rattle.std.proofs.Common.{◌≡◌, length, vec_len}
use Rattle.daggy_base.specs.Graph.{node_bound}
use Rattle.daggy_run.proofs.RaisedNodes.{Leveling, AreInside}
use Rattle.daggy_run.proofs.plan.levels.levels_of.Given as goal

abbrev pub invariant-nodes : goal.invariant-nodes
invariant-nodes g l = record {
  leveling : Leveling (g.D.GuardedDag.graph l.dag) l.levels.items l.parents.items l.nodes;
  levels_fit : vec_len l.levels ≡ node_bound (g.D.GuardedDag.graph l.dag);
  parents_fit : vec_len l.parents ≡ node_bound (g.D.GuardedDag.graph l.dag);
  inside : AreInside l.parents.items;
}

abbrev pub decreases-nodes : goal.decreases-nodes
decreases-nodes g l = length l.nodes
