use Rattle.std.proofs.Common.{◌≡◌, ◌≤◌, ◌+◌, length, vec_capacity}
use Rattle.daggy_traversal.specs.Traversal.{without_old, AreMarked}
use Rattle.daggy_traversal.specs.Depth.{ahead}
use Rattle.daggy_traversal.proofs.dfs.advance.Given as goal

abbrev pub invariant-steps : goal.invariant-steps
invariant-steps g l =
    let graph = g.S.EdgeSource.graph l.graph in
    record {
      left : without_old l.fn.given.nodes (ahead l.dir graph l.cursors.items)
          ≡ without_old l.fn.given.nodes (ahead l.dir graph l.fn.cursors.items);
      few : length l.cursors.items ≤ length l.fn.given.nodes;
      marked : AreMarked l.met l.fn.given.nodes;
      sized : length l.met ≡ length l.fn.met;
      room : length l.fn.met ≤ vec_capacity l.cursors;
      same : l.given.nodes ≡ l.fn.given.nodes;
    }

abbrev pub decreases-steps : goal.decreases-steps
decreases-steps g l =
    length (ahead l.dir (g.S.EdgeSource.graph l.graph) l.cursors.items) + length l.cursors.items
