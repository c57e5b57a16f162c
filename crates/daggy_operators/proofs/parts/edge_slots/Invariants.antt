use Rattle.std.proofs.Common.{◌≡◌, vec_len}
use Rattle.std.specs.Option.{option_map}
use Rattle.daggy_base.specs.Graph.{edge_at, ends_of}
use Rattle.daggy_operators.specs.Parts.{ends_by, kept_ends}
use Rattle.daggy_operators.proofs.PartSlots.{ShowsBelow}
use Rattle.daggy_operators.proofs.parts.edge_slots.Given as goal

abbrev pub invariant-edges : goal.invariant-edges
invariant-edges g l =
    record {
      sized : vec_len l.slots ≡ l.i;
      shown : ShowsBelow (ends_by g.Jx.IndexType.number)
          (λ e. kept_ends l.dir l.marks.items (option_map ends_of (edge_at (g.S.EdgeSource.graph l.store) e))) l.i
          l.slots.items;
    }
