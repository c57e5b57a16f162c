use Rattle.std.proofs.Common.{sym, ◌∙◌}
use Rattle.daggy_tables.proofs.FieldsRead.{parent_at_fault, child_at_fault, edge_found}
use Rattle.daggy_tables.proofs.fields.read_edge.Goals as goal

pub returns-in-Err : goal.returns-in-Err
returns-in-Err c =
    parent_at_fault c.args.limit c.args.e c.args.bound c.args.beyond _ _ _ _ c.if-e-limit.false (sym c.len.ensures ∙ c.if-len-ne3.false) c.field.ensures c.index_in.ensures c.in-Err.is

pub returns-in-Err-index_in : goal.returns-in-Err-index_in
returns-in-Err-index_in c =
    child_at_fault c.args.limit c.args.e c.args.bound c.args.beyond _ _ _ _ _ _ _ c.if-e-limit.false (sym c.len.ensures ∙ c.if-len-ne3.false) c.field.ensures c.field-2.ensures
    c.index_in.ensures c.index_in-2.ensures c.in-Ok.is c.in-Err-index_in.is

pub returns : goal.returns
returns c =
    edge_found c.args.limit c.args.e c.args.bound c.args.beyond _ _ _ _ _ _ _ _ c.if-e-limit.false (sym c.len.ensures ∙ c.if-len-ne3.false) c.field.ensures c.field-2.ensures
    c.in_ok-weight.ensures.ok c.index_in.ensures c.index_in-2.ensures c.in-Ok.is c.in-Ok-index_in.is
