use Rattle.std.proofs.Common.{◌-◌, length, sym, ap, ◌∙◌}
use Rattle.std.proofs.lemmas.List.FromFn.{length-range_with_len}
use Rattle.daggy_graph.proofs.graph.iterators.EdgeIdentifiersExactSizeIterator.len.Goals as goal

pub returns-clause-value : goal.returns-clause-value
returns-clause-value g c =
    let next = c.self.inside.next in
    let end = c.self.inside.end in
    c.saturating_sub.ensures
    ∙ ap (λ z. z - c.index-2.result) c.index.ensures.value
    ∙ ap (λ z. end - z) c.index-2.ensures.value
    ∙ sym (length-range_with_len next (end - next))
    ∙ ap length c.self.view_is
