use Rattle.std.proofs.Common.{◌∙◌, ◌∷◌, ◌++◌, [], map, ap}
use Rattle.std.specs.List.{filter, range_with_len}
use Rattle.std.proofs.lemmas.List.{map-append}
use Rattle.daggy_schedule.specs.Work.{is_set}
use Rattle.daggy_schedule.proofs.Skipping.{indices_taken, indices_left}
use Rattle.daggy_schedule.proofs.fallible_ready.set_indices.Goals.{then-flags-i+in_ok-push, else-flags-i}
use Rattle.daggy_schedule.proofs.fallible_ready.set_indices.Goals as goal

pub flags-preserved : goal.flags-preserved
flags-preserved g c =
    let number = g.Ix.IndexType.number in
    let flags = c.args.flags.now in
    let before = filter (is_set flags) (range_with_len 0 c.flags.i) in
    elim c.if-flags-i.branch [
      | then-flags-i+in_ok-push w ↦
          ap (λ z. map number z.items) w.nodes-is
          ∙ (ap (map number) w.in_ok-push.ensures.items
          ∙ (map-append number c.flags.nodes.items (w.new.result ∷ [])
          ∙ (ap (λ z. z ++ number w.new.result ∷ []) c.flags.invariant
          ∙ (ap (λ z. before ++ z ∷ []) w.new.ensures.number ∙ indices_taken flags c.flags.i w.if-flags-i.true))))
      | else-flags-i w ↦
          ap (λ z. map number z.items) w.nodes-is ∙ (c.flags.invariant ∙ indices_left flags c.flags.i w.if-flags-i.false)
    ]
