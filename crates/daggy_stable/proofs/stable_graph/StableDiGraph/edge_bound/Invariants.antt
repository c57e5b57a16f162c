use Rattle.std.proofs.Common.{◌≡◌, ◌≤◌, length, map, take}
use Rattle.daggy_base.specs.Graph.{bound_of}
use Rattle.daggy_stable.specs.Stored.{plain_edge}
use Rattle.daggy_stable.proofs.stable_graph.StableDiGraph.edge_bound.Given as goal

abbrev pub invariant-back : goal.invariant-back
invariant-back g l =
    record {
      within : l.n ≤ length l.self-inside.edges.items;
      same : bound_of (take l.n (map plain_edge l.self-inside.edges.items))
          ≡ bound_of (map plain_edge l.self-inside.edges.items);
    }

abbrev pub decreases-back : goal.decreases-back
decreases-back g l = l.n
