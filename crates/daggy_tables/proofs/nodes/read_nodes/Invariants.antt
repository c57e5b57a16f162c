use Rattle.std.proofs.Common.{◌≡◌, ◌≤◌, [], length, map, string_bytes}
use Rattle.daggy_base.specs.FromSlots.{vacant_down}
use Rattle.daggy_tables.proofs.RowsSaid.{Going}
use Rattle.daggy_tables.specs.Reading.{occupied}
use Rattle.daggy_tables.specs.Rows.{node_of_row}
use Rattle.daggy_tables.specs.Tables.{rows_of, nodes_said}
use Rattle.daggy_tables.proofs.nodes.read_nodes.Given as goal

abbrev pub invariant-rows : goal.invariant-rows
invariant-rows g l =
    let limit = g.Ix.IndexType.greatest in
    record {
      going : Going (node_of_row limit) l.item-iterator.records (map string_bytes (occupied l.nodes.items)) (length l.nodes.items)
          (nodes_said limit (rows_of l.fn.text));
      few : length l.nodes.items ≤ limit;
      full : vacant_down l.nodes.items ≡ [];
    }
