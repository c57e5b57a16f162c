use Rattle.std.proofs.Common.{arith, rules, inl, inr, ◌∙◌}
use Rattle.daggy_json.proofs.Stages.{each_more, each_stops}
use Rattle.daggy_json.proofs.reading.weights.read_weights.Goals as goal

pub loop-value-preserved : goal.loop-value-preserved
loop-value-preserved g c =
    each_more _ c.loop-value.invariant c.value-item.result _ _ (omega (arith, c.deref-value-items.ensures.len))
    (rw c.deref-value-items.ensures.value at c.value-item.is) c.in-Ok.ensures.ok c.in_ok-push-in-Ok.ensures.items

pub returns-in-Err-clause-err : goal.returns-in-Err-clause-err
returns-in-Err-clause-err g c =
    elim c.in-Err.ensures.err [
      | inl memory ↦ inl (c.at.ensures.error ∙ memory)
      | inr h ↦
          inr (each_stops _ c.loop-value.invariant c.value-item.result _ c.at.result _
          (omega (arith, c.deref-value-items.ensures.len)) (rw c.deref-value-items.ensures.value at c.value-item.is) h
          c.at.ensures.error c.at.ensures.member _ c.at.ensures.entry (search rules))
    ]
