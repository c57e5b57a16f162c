use Rattle.std.proofs.Common.{refl, sym, inr, arith, rules}
use Rattle.daggy_json.specs.Reading.{whole_in}
use Rattle.daggy_json.proofs.Stages.{each_more, each_stops, each_all}
use Rattle.daggy_json.proofs.MissingParts.{each_given}
use Rattle.daggy_json.proofs.reading.parts.read_numbers.Goals as goal

pub loop-value-preserved : goal.loop-value-preserved
loop-value-preserved c =
    each_more _ c.loop-value.invariant c.value-item.result _ _ (omega (arith, c.deref-value-items.ensures.len))
    (rw c.deref-value-items.ensures.value at c.value-item.is) (sym c.in-Some.ensures) c.in_ok-push.ensures.items

pub returns-in_default-clause-err : goal.returns-in_default-clause-err
returns-in_default-clause-err c =
    inr (each_stops _ c.loop-value.invariant c.value-item.result _ c.at.result _
    (omega (arith, c.deref-value-items.ensures.len)) (rw c.deref-value-items.ensures.value at c.value-item.is)
    (sym c.in_default.ensures, refl) c.at.ensures.error c.at.ensures.member _ c.at.ensures.entry (search rules))

pub returns-clause-ok : goal.returns-clause-ok
returns-clause-ok c =
    each_given whole_in _ _
    (each_all _ c.loop-value.invariant (omega (arith, c.deref-value-items.ensures.len, c.loop-value-test.false)))
