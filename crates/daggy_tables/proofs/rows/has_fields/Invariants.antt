use Rattle.std.proofs.Common.{◌≡◌, drop, length}
use Rattle.csv.specs.Records.{fields_of}
use Rattle.daggy_tables.proofs.HeaderRead.{texts}
use Rattle.daggy_tables.specs.Rows.{same_fields}
use Rattle.daggy_tables.proofs.rows.has_fields.Given as goal

abbrev pub invariant-names : goal.invariant-names
invariant-names l = record {
  lengths : length (fields_of l.row) ≡ length l.names;
  rest : same_fields (fields_of l.row) (texts l.names) ≡ same_fields (drop l.i (fields_of l.row)) (drop l.i (texts l.names));
}
