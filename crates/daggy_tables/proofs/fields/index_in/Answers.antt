use Rattle.std.proofs.Common.{refl, lt-ltb}
use Rattle.std.proofs.lemmas.Bool.{le-ltb}
use Rattle.daggy_tables.proofs.Numbers.{number_parsed, nothing_parsed}
use Rattle.daggy_tables.proofs.fields.index_in.Goals as goal

pub returns-then-index-bound : goal.returns-then-index-bound
returns-then-index-bound c =
    let is = number_parsed c.args.text.now c.in-Ok.index _ c.parse.ensures.value.0 c.in-Ok.is in
    rw is (rw (lt-ltb c.in-Ok.index c.args.bound c.if-index-bound.true) refl)

pub returns-else-index-bound : goal.returns-else-index-bound
returns-else-index-bound c =
    let is = number_parsed c.args.text.now c.in-Ok.index _ c.parse.ensures.value.0 c.in-Ok.is in
    rw is (rw (le-ltb c.in-Ok.index c.args.bound c.if-index-bound.false) refl)

pub returns-in-Err : goal.returns-in-Err
returns-in-Err c =
    rw (nothing_parsed c.args.text.now c.in-Err.field-0 _ c.parse.ensures.value.0 c.in-Err.is) refl
