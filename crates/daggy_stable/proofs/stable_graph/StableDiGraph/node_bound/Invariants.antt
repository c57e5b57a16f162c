use Rattle.std.proofs.Common.{◌≡◌, ◌≤◌, length, map, take}
use Rattle.daggy_base.specs.Graph.{bound_of}
use Rattle.daggy_stable.specs.Stored.{weight_of}
use Rattle.daggy_stable.proofs.stable_graph.StableDiGraph.node_bound.Given as goal

abbrev pub invariant-back : goal.invariant-back
invariant-back g l =
    record {
      within : l.n ≤ length l.self-inside.nodes.items;
      same : bound_of (take l.n (map weight_of l.self-inside.nodes.items))
          ≡ bound_of (map weight_of l.self-inside.nodes.items);
    }

abbrev pub decreases-back : goal.decreases-back
decreases-back g l = l.n
