use Rattle.std.proofs.Common.{◌∙◌, inl, sym, subst, ℕ}
use Rattle.std.specs.List.{Contains}
use Rattle.std.proofs.lemmas.Bool.{false≢true}
use Rattle.daggy_guard.proofs.OrderAfterChange.{not_there, still_there, nothing_renamed}
use Rattle.daggy_guard.proofs.guard.take_out.Goals.{else-moved-via-then-moved+else-index-last}
use Rattle.daggy_guard.proofs.guard.take_out.Goals.{else-moved-via-else-moved}
use Rattle.daggy_guard.proofs.guard.take_out.Goals as goal

pub rename-requires-clause-held : goal.rename-requires-clause-held
rename-requires-clause-held g c =
    let P : ℕ → Type 0 = λ z. Contains c.remove.new.self z in
    subst P (sym c.new.ensures.number) (still_there _ c.args.last _ _ c.remove.ensures (c.requires.last c.if-moved.true)
    (λ e. c.if-index-last.true (c.index.ensures.value ∙ sym e)))

pub rename-requires-clause-free : goal.rename-requires-clause-free
rename-requires-clause-free g c = inl (not_there _ _ _ c.remove.ensures)

pub returns-else-moved-clause-moved : goal.returns-else-moved-clause-moved
returns-else-moved-clause-moved g c moved =
    elim c.else-moved.branch [
      | else-moved-via-then-moved+else-index-last w ↦
          c.remove.ensures
          ∙ sym (nothing_renamed c.args.last (g.Ix.IndexType.number c.args.n) _
          (sym w.index.ensures.value ∙ w.if-index-last.false))
      | else-moved-via-else-moved w ↦ absurd (false≢true (sym w.if-moved.false ∙ moved))
    ]
