use Rattle.std.proofs.Common.{◌∙◌, refl, sym, arith, ◌<◌, length}
use Rattle.std.proofs.lemmas.List.{length-map}
use Rattle.csv.specs.Records.{fields_of}
use Rattle.daggy_tables.proofs.HeaderRead.{other_lengths, other_field, same_field, all_compared}
use Rattle.daggy_tables.proofs.rows.has_fields.Goals as goal

pub returns-then-len-names : goal.returns-then-len-names
returns-then-len-names c =
    other_lengths (fields_of c.args.row.now) _ (λ e. c.if-len-names.true (c.len.ensures ∙ e ∙ length-map c.args.names.now (λ s. s.now)))

pub names-init : goal.names-init
names-init c = record { lengths = sym c.len.ensures ∙ c.if-len-names.false; rest = refl }

pub returns-then-ne : goal.returns-then-ne
returns-then-ne c =
    let inv = c.names.invariant in
    let within : c.names.i < length (fields_of c.args.row.now) = omega (arith, inv.lengths, c.names-test.true) in
    sym (inv.rest ∙ other_field (fields_of c.args.row.now) c.args.names.now c.names.i within c.names-test.true _ _ c.field.ensures c.if-ne.ensures)

pub names-preserved : goal.names-preserved
names-preserved c =
    let inv = c.names.invariant in
    let within : c.names.i < length (fields_of c.args.row.now) = omega (arith, inv.lengths, c.names-test.true) in
    record {
      lengths = inv.lengths;
      rest = inv.rest ∙ same_field (fields_of c.args.row.now) c.args.names.now c.names.i within c.names-test.true _ _ c.field.ensures c.if-ne.ensures;
    }

pub returns : goal.returns
returns c = sym (c.names.invariant.rest ∙ all_compared (fields_of c.args.row.now) c.args.names.now c.names.i c.names.invariant.lengths c.names-test.false)
