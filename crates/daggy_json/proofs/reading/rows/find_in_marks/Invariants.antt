use Rattle.std.proofs.Common.{◌≡◌, map, length}
use Rattle.serde_json.specs.View.{view}
use Rattle.daggy_base.specs.declared.index.Direction.TheVariants.{Outgoing, Incoming}
use Rattle.daggy_base.specs.FromSlots.{graph_of_slots, has_end, edges_by}
use Rattle.daggy_json.proofs.WrongRows.{RowsSoFar, MarkedBelow}
use Rattle.daggy_json.proofs.reading.rows.find_in_marks.Given as goal

abbrev pub invariant-loop-n : goal.invariant-loop-n
invariant-loop-n g l =
    let edges = edges_by g.Ix.IndexType.number l.edges.items in
    record {
      rows : RowsSoFar (graph_of_slots l.nodes.items edges) (map view l.list.items) l.n l.passed;
      out : MarkedBelow (has_end Outgoing edges) l.n l.out_marks;
      into : MarkedBelow (has_end Incoming edges) l.n l.in_marks;
      out_long : length l.out_marks ≡ length l.initial.out_marks;
      in_long : length l.in_marks ≡ length l.initial.in_marks;
    }
