use Rattle.std.proofs.Common.{sym, ◌∙◌}
use Rattle.std.proofs.lemmas.Bool.{false≢true}
use Rattle.daggy_base.specs.declared.index.Direction.TheVariants.{Outgoing, Incoming}
use Rattle.daggy_json.proofs.RearrangedLists.{are_orders_from, rearranged_from}
use Rattle.daggy_json.proofs.reading.rearranged.are_orders.Goals as goal
use Rattle.daggy_json.proofs.reading.rearranged.are_orders.Goals.{then-is_rearranged, else-is_rearranged}

pub returns : goal.returns
returns g c =
    elim c.if-is_rearranged.branch [
      | then-is_rearranged w ↦ (
        λ t.
            are_orders_from _ _ _ (c.is_rearranged.ensures.decided.0 w.if-is_rearranged.true)
            (w.is_rearranged-then-is_rearranged.ensures.decided.0 (sym w.result-is ∙ t)),
        λ h.
            w.result-is
            ∙ w.is_rearranged-then-is_rearranged.ensures.decided.1 (rearranged_from Incoming _ _ _ c.requires h),
      )
      | else-is_rearranged w ↦ (
        λ t. absurd (false≢true (sym w.if-is_rearranged.false ∙ (sym w.result-is ∙ t))),
        λ h.
            absurd (false≢true (sym w.if-is_rearranged.false
            ∙ c.is_rearranged.ensures.decided.1 (rearranged_from Outgoing _ _ _ c.requires h))),
      )
    ]
