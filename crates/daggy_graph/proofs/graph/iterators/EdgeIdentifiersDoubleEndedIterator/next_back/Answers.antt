use Rattle.std.proofs.Common.{◌≡◌, ◌++◌, ◌∷◌, ℕ, List, [], length, sym, ap, ◌∙◌, arith, rules}
use Rattle.std.proofs.lemmas.List.{length-append}
use Rattle.std.specs.List.{range_with_len}
use Rattle.daggy_graph.proofs.RestLemmas.{range_back}
use Rattle.daggy_graph.proofs.graph.iterators.EdgeIdentifiersDoubleEndedIterator.next_back.Goals as goal

pub returns-clause-steps : goal.returns-clause-steps
returns-clause-steps g c =
    sym c.self.view_is
    ∙ range_back c.self.inside.next c.self.inside.end _ _
    (omega (arith, c.if-end-index.false, c.index.ensures.value, c.index-end.ensures.value))
    (omega (arith, c.new-self-inside.ensures, c.index-end.ensures.value))
    (omega (arith, c.new.ensures.number, c.index-end.ensures.value))

pub returns-clause-goes : goal.returns-clause-goes
returns-clause-goes g c =
    let steps = returns-clause-steps g c in
    search (rules, ap (λ (z : List ℕ). length z) steps, length-append {A = ℕ})
