use Rattle.std.proofs.Common.{◌∷◌, ◌+◌, ◌-◌, ◌<◌, sym, ap, ◌∙◌, arith, rules}
use Rattle.std.specs.List.{range_with_len}
use Rattle.daggy_cells.proofs.RestLemmas.{range_step}
use Rattle.daggy_graph.proofs.graph.iterators.EdgeIdentifiersIterator.next.Goals as goal

pub returns-clause-steps : goal.returns-clause-steps
returns-clause-steps g c =
    let end = c.self.inside.end in
    let within : c.index-e.result < end = omega (arith, c.if-e-index.false, c.index.ensures.value) in
    sym c.self.view_is
    ∙ ap (λ a. range_with_len a (end - a)) (sym c.index-e.ensures.value)
    ∙ range_step c.index-e.result end within
    ∙ ap (λ a. a ∷ range_with_len (c.index-e.result + 1) (end - (c.index-e.result + 1))) (sym c.new.ensures.number)
    ∙ ap (λ a. g.Ix.IndexType.number c.new.result ∷ range_with_len a (end - a)) (sym c.new-self-inside.ensures)

pub returns-clause-goes : goal.returns-clause-goes
returns-clause-goes g c = let steps = returns-clause-steps g c in search (rules, steps)
