use Rattle.std.proofs.Common.{◌≡◌, vec_len}
use Rattle.daggy_base.specs.Graph.{node_weight}
use Rattle.daggy_operators.specs.Parts.{kept, mark_of}
use Rattle.daggy_operators.proofs.PartSlots.{ShowsBelow}
use Rattle.daggy_operators.proofs.parts.node_slots.Given as goal

abbrev pub invariant-nodes : goal.invariant-nodes
invariant-nodes g l =
    record {
      sized : vec_len l.slots ≡ l.i;
      shown : ShowsBelow (λ b. b.now)
          (λ n. kept (mark_of l.marks.items n) (node_weight (g.S.EdgeSource.graph l.store) n)) l.i l.slots.items;
    }
