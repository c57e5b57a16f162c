use Rattle.std.proofs.Common.{◌≡◌, ◌≤◌, ◌-◌, length, vec_capacity}
use Rattle.daggy_traversal.proofs.GoingDown.{Down}
use Rattle.daggy_traversal.proofs.post_order.descend.Given as goal

abbrev pub invariant-nodes : goal.invariant-nodes
invariant-nodes g l =
    record {
      down : Down l.dir (g.S.EdgeSource.graph l.graph) l.fn.given.nodes l.fn.path.items (length l.fn.met) l.met
          l.path.items l.cursors.items;
      path_room : length l.fn.met ≤ vec_capacity l.path;
      room : length l.fn.met ≤ vec_capacity l.cursors;
      same : l.given.nodes ≡ l.fn.given.nodes;
    }

abbrev pub decreases-nodes : goal.decreases-nodes
decreases-nodes g l = length l.fn.met - length l.path.items
