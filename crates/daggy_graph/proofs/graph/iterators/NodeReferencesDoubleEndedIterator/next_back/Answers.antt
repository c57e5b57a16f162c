use Rattle.std.proofs.Common.{◌≡◌, ◌++◌, ◌∷◌, ℕ, List, [], map, length, sym, ap, ◌∙◌, arith, rules}
use Rattle.std.proofs.lemmas.List.{length-append}
use Rattle.daggy_base.specs.Iterating.{numbered}
use Rattle.daggy_cells.specs.Fields.{weight_of}
use Rattle.daggy_graph.proofs.RestLemmas.{numbered_back}
use Rattle.daggy_graph.proofs.graph.iterators.NodeReferencesDoubleEndedIterator.next_back.Goals as goal

pub returns-clause-steps : goal.returns-clause-steps
returns-clause-steps g c =
    sym c.self.view_is
    ∙ ap (λ z. numbered c.self.inside.index (map weight_of z)) c.in_ok-x.ensures.cases.0
    ∙ numbered_back (λ y. y.weight) c.self.inside.index c.in_ok-x.rest.now c.in_ok-x.x.now _
    (omega (arith, c.new-n.ensures.number))

pub returns-clause-goes : goal.returns-clause-goes
returns-clause-goes g c =
    let steps = returns-clause-steps g c in
    search (rules, ap (λ z. length z) steps, length-append {A = ℕ × g.row.N.Denot})
