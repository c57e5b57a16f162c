use Rattle.std.proofs.Common.{◌≡◌, ◌+◌, length, vec_len}
use Rattle.std.specs.Option.{option_map}
use Rattle.daggy_base.specs.Graph.{edge_at, ends_of}
use Rattle.daggy_operators.specs.Parts.{ends_by}
use Rattle.daggy_operators.proofs.Merged.{ShowsFrom}
use Rattle.daggy_operators.proofs.PartSlots.{ShowsBelow}
use Rattle.daggy_operators.proofs.merging.merged_edges.Given as goal

abbrev pub invariant-first : goal.invariant-first
invariant-first g l =
    record {
      sized : vec_len l.slots ≡ l.i;
      shown : ShowsBelow (ends_by g.Ix.IndexType.number)
          (λ e. option_map ends_of (edge_at (g.S.EdgeSource.graph l.first) e)) l.i l.slots.items;
    }

abbrev pub invariant-second : goal.invariant-second
invariant-second g l =
    record {
      sized : vec_len l.slots ≡ length (g.S.EdgeSource.graph l.first).edges + l.i;
      first : ShowsBelow (ends_by g.Ix.IndexType.number)
          (λ e. option_map ends_of (edge_at (g.S.EdgeSource.graph l.first) e))
          (length (g.S.EdgeSource.graph l.first).edges) l.slots.items;
      second : ShowsFrom (ends_by g.Ix.IndexType.number)
          (λ e. option_map ends_of (edge_at (g.T.EdgeSource.graph l.second) e))
          (length (g.S.EdgeSource.graph l.first).edges) l.i l.slots.items;
    }
