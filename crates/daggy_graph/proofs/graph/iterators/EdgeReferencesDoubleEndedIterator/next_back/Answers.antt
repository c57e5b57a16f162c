use Rattle.std.proofs.Common.{◌≡◌, ◌++◌, ◌∷◌, ℕ, List, [], map, length, sym, ap, ◌∙◌, arith, rules}
use Rattle.std.proofs.lemmas.List.{length-append}
use Rattle.daggy_base.specs.Graph.{Edge as PlainEdge}
use Rattle.daggy_base.specs.Iterating.{numbered}
use Rattle.daggy_cells.specs.Fields.{plain, plain_edge}
use Rattle.daggy_graph.proofs.RestLemmas.{numbered_back}
use Rattle.daggy_graph.proofs.graph.iterators.EdgeReferencesDoubleEndedIterator.next_back.Goals as goal

pub returns-clause-steps : goal.returns-clause-steps
returns-clause-steps g c =
    sym c.self.view_is
    ∙ ap (λ z. numbered c.self.inside.index (map plain_edge z)) c.in_ok-x.ensures.cases.0
    ∙ numbered_back plain c.self.inside.index c.in_ok-x.rest.now c.in_ok-x.x.now _ (omega (arith, c.new-e.ensures))
    ∙ ap (λ z. numbered c.self.inside.index (map plain_edge c.in_ok-x.rest.now) ++ z ∷ []) (sym c.reference.ensures)

pub returns-clause-goes : goal.returns-clause-goes
returns-clause-goes g c =
    let steps = returns-clause-steps g c in
    search (rules, ap (λ z. length z) steps, length-append {A = ℕ × PlainEdge g.row.E.Denot})
