use Rattle.std.proofs.Common.{◌≡◌, ℕ, refl, sym, subst, ◌∙◌, inl, inr, get_or, Contains}
use Rattle.daggy_reduction.proofs.spans.note_edge.Goals as goal

pub stands_before-requires-clause-first : goal.stands_before-requires-clause-first
stands_before-requires-clause-first g c =
    let end = g.Ix.IndexType.greatest in
    let last = get_or c.args.work.now.nodes (g.Ix.IndexType.number c.args.a) end in
    let read : c.node-last.result ≡ last =
    c.node-last.ensures end ∙ rw (c.put_cursor.ensures, c.index-i.ensures.value) refl in
    let P : ℕ → Type 0 = λ z. Contains c.args.order.now z in
    elim c.requires.last_held [
      | inl none ↦ absurd (c.if-index.false (c.index.ensures.value ∙ read ∙ none
          ∙ sym (c.index-2.ensures.value ∙ c.end.ensures.value)))
      | inr held ↦ subst P (sym (c.node.ensures.value ∙ read)) held
    ]
