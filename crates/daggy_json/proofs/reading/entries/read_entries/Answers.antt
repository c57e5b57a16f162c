use Rattle.std.proofs.Common.{arith, rules, inl, inr, sym, ap, map, ◌∙◌}
use Rattle.std.specs.Option.{option_map}
use Rattle.std.proofs.lemmas.List.{map-append, length-map}
use Rattle.daggy_json.specs.Found.{edge_of}
use Rattle.daggy_json.proofs.Stages.{each_more, each_stops}
use Rattle.daggy_json.proofs.reading.entries.read_entries.Goals as goal

pub loop-value-preserved : goal.loop-value-preserved
loop-value-preserved g c =
    each_more _ c.loop-value.invariant c.value-item.result _ _ (omega (arith, c.deref-value-items.ensures.len))
    (rw c.deref-value-items.ensures.value at c.value-item.is) c.in-Ok.ensures.ok
    (ap (map _) c.in_ok-push-in-Ok.ensures.items ∙ map-append _ _ _)

pub returns-in-Err-clause-err : goal.returns-in-Err-clause-err
returns-in-Err-clause-err g c =
    elim c.in-Err.ensures.err [
      | inl memory ↦ inl (c.at.ensures.error ∙ memory)
      | inr h ↦
          inr (each_stops _ c.loop-value.invariant c.value-item.result _ c.at.result _
          (omega (arith, c.deref-value-items.ensures.len)) (rw c.deref-value-items.ensures.value at c.value-item.is) h
          c.at.ensures.error c.at.ensures.member _ c.at.ensures.entry
          (search rules ∙ sym (length-map c.loop-value.edges.items (option_map (edge_of g.Ix.IndexType.number)))))
    ]
