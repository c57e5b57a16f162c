use Rattle.std.proofs.Common.{◌≡◌, ◌≤◌, [], length, map}
use Rattle.daggy_base.specs.FromSlots.{vacant_down, edges_by}
use Rattle.daggy_tables.proofs.RowsSaid.{Going}
use Rattle.daggy_tables.specs.Reading.{occupied, with_text, EndsBelow}
use Rattle.daggy_tables.specs.Rows.{edge_of_row}
use Rattle.daggy_tables.specs.Tables.{rows_of, edges_said}
use Rattle.daggy_tables.proofs.edges.read_edges.Given as goal

abbrev pub invariant-rows : goal.invariant-rows
invariant-rows g l =
    let limit = g.Ix.IndexType.greatest in
    let slots = edges_by g.Ix.IndexType.number l.edges.items in
    record {
      going :
          Going (edge_of_row limit l.fn.bound l.fn.beyond) l.item-iterator.records (map with_text (occupied slots)) (length l.edges.items)
          (edges_said limit l.fn.bound l.fn.beyond (rows_of l.fn.text));
      few : length l.edges.items ≤ limit;
      full : vacant_down slots ≡ [];
      ends : EndsBelow l.fn.bound slots;
    }
