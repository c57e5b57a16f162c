use Rattle.std.proofs.Common.{◌≡◌, length, vec_capacity}
use Rattle.daggy_traversal.proofs.OldestFirst.{Popping}
use Rattle.daggy_traversal.proofs.dfs_oldest_first.pop_new.Given as goal

abbrev pub invariant-nodes : goal.invariant-nodes
invariant-nodes g l = record {
  popping : Popping l.fn.given.nodes l.fn.stack.items (length l.fn.met) l.met l.stack.items;
  room : vec_capacity l.stack ≡ vec_capacity l.fn.stack;
  same : l.given.nodes ≡ l.fn.given.nodes;
}

abbrev pub decreases-nodes : goal.decreases-nodes
decreases-nodes g l = length l.stack.items
