use Rattle.std.proofs.Common.{◌≡◌, ◌<◌, ◌↔◌, ℕ, true, false, map, Contains}
use Rattle.daggy_redundant.specs.Comparison.{IsAscending}
use Rattle.daggy_operators.specs.Parts.{mark_of}
use Rattle.daggy_operators.proofs.common.marked_nodes.Given as goal

abbrev pub invariant-nodes : goal.invariant-nodes
invariant-nodes g l =
    record {
      exact : (n : ℕ) → Contains (map g.Ix.IndexType.number l.nodes.items) n
          ↔ (((mark_of l.first.items n ≡ true) × (mark_of l.second.items n ≡ true) × (mark_of l.third.items n ≡ false))
          × (n < l.i));
      ascending : IsAscending (map g.Ix.IndexType.number l.nodes.items);
    }
