use Rattle.daggy_tables.proofs.HeaderRead.{texts, is_headed, other_header, header_not_text, no_header, stops_header}
use Rattle.daggy_tables.specs.Left.{RowsLeft}
use Rattle.daggy_tables.specs.Tables.{rows_of}
use Rattle.daggy_tables.proofs.rows.rows_below.Goals as goal

pub returns-then-has_fields : goal.returns-then-has_fields
returns-then-has_fields c =
    is_headed (texts c.args.names.now) (rows_of c.args.text.now) (RowsLeft c.next.new.self.records) _ _ c.in-Some-Ok.row
    (c.next.ensures.steps (rows_of c.args.text.now) c.new-rows.ensures) c.in-Some-Ok.is c.in-Some-Ok.field-0-is c.if-has_fields.ensures

pub returns-in-Some-Ok : goal.returns-in-Some-Ok
returns-in-Some-Ok c =
    stops_header c.fault_at.result _ c.fault_at.ensures
    (other_header (texts c.args.names.now) (rows_of c.args.text.now) (RowsLeft c.next.new.self.records) _ _ c.in-Some-Ok.row
    (c.next.ensures.steps (rows_of c.args.text.now) c.new-rows.ensures) c.in-Some-Ok.is c.in-Some-Ok.field-0-is c.if-has_fields.ensures)

pub returns-in-Some-Err-NotText : goal.returns-in-Some-Err-NotText
returns-in-Some-Err-NotText c =
    stops_header c.fault_in.result _ c.fault_in.ensures
    (header_not_text (texts c.args.names.now) (rows_of c.args.text.now) (RowsLeft c.next.new.self.records) _ _ _ c.in-Some-Err-NotText.line
    (c.next.ensures.steps (rows_of c.args.text.now) c.new-rows.ensures)
    c.in-Some-Err-NotText.is c.in-Some-Err-NotText.field-0-is c.in-Some-Err-NotText.field-0-0-is c.requires)

pub returns : goal.returns
returns c =
    stops_header c.fault_in-in-None.result _ c.fault_in-in-None.ensures
    (no_header (texts c.args.names.now) (rows_of c.args.text.now) (RowsLeft c.next.new.self.records) _
    (c.next.ensures.steps (rows_of c.args.text.now) c.new-rows.ensures) c.in-None.is)
