use Rattle.std.proofs.Common.{◌≡◌, [], Result, Ok, Err, MatchResult, IfOk, IfErr, String, string_bytes, unwrap_or, sym, ◌∙◌}
use Rattle.std.specs.declared.alloc.Global.{Global}
use Rattle.csv.specs.Records.{fields_of, field_at}
use Rattle.daggy_tables.specs.Rows.{within, node_of_fields}
use Rattle.daggy_tables.specs.Stops.{StopsRow}
use Rattle.daggy_tables.specs.declared.fields.RowStop.{RowStop}
use Rattle.daggy_tables.specs.declared.fields.RowStop.TheVariants.{Memory, Fault}
use Rattle.daggy_tables.proofs.FieldsRead.{index_at_fault, not_in_order, node_found}
use Rattle.daggy_tables.proofs.fields.read_node.Goals as goal

pub returns-then-index-n : goal.returns-then-index-n
returns-then-index-n c =
    not_in_order c.args.limit c.args.n _ _ _ _ c.if-n-limit.false (sym c.len.ensures ∙ c.if-len-ne2.false) c.field.ensures c.index_in.ensures c.in-Ok.is c.if-index-n.true

pub returns-in-Err : goal.returns-in-Err
returns-in-Err c =
    index_at_fault c.args.limit c.args.n _ _ _ _ c.if-n-limit.false (sym c.len.ensures ∙ c.if-len-ne2.false) c.field.ensures c.index_in.ensures c.in-Err.is

pub returns : goal.returns
returns c = by c.weight_of.result c.weight_of.ensures.ok c.weight_of.ensures.err
  where
    by : (r : Result (String Global) RowStop) → IfOk r (λ w. string_bytes w ≡ unwrap_or (field_at (fields_of c.args.row.now) 1) [])
        → IfErr r (λ e. e ≡ Memory)
        → MatchResult r (λ w. within c.args.limit c.args.n (node_of_fields c.args.n (fields_of c.args.row.now)) ≡ Ok (string_bytes w))
        (λ e. StopsRow (within c.args.limit c.args.n (node_of_fields c.args.n (fields_of c.args.row.now))) e)
    by (Ok w) ok err =
        node_found c.args.limit c.args.n _ _ _ _ _ c.if-n-limit.false (sym c.len.ensures ∙ c.if-len-ne2.false) c.field.ensures ok
        c.index_in.ensures c.in-Ok.is c.if-index-n.false
    by (Err Memory) ok err = tt
    by (Err (Fault f)) ok err = cc err
