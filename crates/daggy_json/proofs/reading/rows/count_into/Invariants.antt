use Rattle.std.proofs.Common.{length}
use Rattle.daggy_base.specs.FromSlots.{has_end, edges_by}
use Rattle.daggy_json.specs.FoundFault.{AreCounts}
use Rattle.daggy_json.proofs.reading.rows.count_into.Given as goal

abbrev pub invariant-loop-e : goal.invariant-loop-e
invariant-loop-e g l =
    AreCounts (has_end l.dir (edges_by g.Ix.IndexType.number l.edges.items)) (length l.initial.counts) l.e l.counts
