use Rattle.std.proofs.Common.{◌≡◌, vec_len}
use Rattle.daggy_base.specs.Graph.{node_weight}
use Rattle.daggy_operators.specs.Merging.{either}
use Rattle.daggy_operators.proofs.PartSlots.{ShowsBelow}
use Rattle.daggy_operators.proofs.merging.merged_nodes.Given as goal

abbrev pub invariant-nodes : goal.invariant-nodes
invariant-nodes g l =
    record {
      sized : vec_len l.slots ≡ l.i;
      shown : ShowsBelow (λ b. b.now)
          (λ n. either (node_weight (g.S.EdgeSource.graph l.first) n) (node_weight (g.T.EdgeSource.graph l.second) n)) l.i
          l.slots.items;
    }
