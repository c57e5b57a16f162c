use Rattle.std.proofs.Common.{rules, ◌≡◌, ◌∷◌, ◌++◌, ◌+◌, ℕ, [], length, is_some, is_none, map, sym, ap, ◌∙◌, arith}
use Rattle.std.proofs.lemmas.List.{length-append}
use Rattle.std.proofs.lemmas.Option.{same_Some}
use Rattle.daggy_base.specs.Graph.{Edge as PlainEdge}
use Rattle.daggy_base.specs.Iterating.{numbered}
use Rattle.daggy_cells.specs.Referring.{referred}
use Rattle.daggy_stable.specs.Rest.{numbered_edge}
use Rattle.daggy_stable.specs.Stored.{plain_edge}
use Rattle.daggy_stable.proofs.VacantPassed.{last_found, all_vacant, plain_vacant}
use Rattle.daggy_stable.proofs.ListSearches.{plain_some}
use Rattle.daggy_stable.proofs.stable_graph.iterators.EdgeReferencesDoubleEndedIterator.next_back.Goals as goal

pub returns-in_err-at-clause-steps : goal.returns-in_err-at-clause-steps
returns-in_err-at-clause-steps g c =
    let none =
    sym c.self.view_is
    ∙ all_vacant plain_edge (λ x. is_none x.weight) plain_vacant c.self.inside.slots.index c.self.inside.slots.cells.now
    c.in_err-at.ensures.none in
    rw c.from_residual.ensures
    (none, ap (λ l. numbered c.last_full.new.self.index (map plain_edge l)) c.in_err-at.ensures.ended)

pub reference-requires : goal.reference-requires
reference-requires g c =
    let f =
    last_found plain_edge (λ x. is_none x.weight) plain_vacant c.self.inside.slots.index c.self.inside.slots.cells.now _ _
    c.in_ok-at.ensures.found in
    sym (plain_some c.in_ok-at.x.now) ∙ ap is_some f.holds

pub returns-clause-steps : goal.returns-clause-steps
returns-clause-steps g c =
    let f =
    last_found plain_edge (λ x. is_none x.weight) plain_vacant c.self.inside.slots.index c.self.inside.slots.cells.now _ _
    c.in_ok-at.ensures.found in
    let same : (c.in_ok-at.at, f.held) ≡ referred g.Ix.IndexType.number c.reference.result =
    same_Some _ _ (ap (numbered_edge c.in_ok-at.at) (sym f.holds)
    ∙ ap (λ i. numbered_edge i (plain_edge c.in_ok-at.x.now)) (sym c.new.ensures.number) ∙ c.reference.ensures) in
    let rest = map plain_edge c.last_full.new.self.cells.now in
    let index = c.self.inside.slots.index in
    sym c.self.view_is ∙ f.left
    ∙ ap (λ i. numbered index rest ++ (i, f.held) ∷ []) (sym c.in_ok-at.ensures.at)
    ∙ ap (λ p. numbered index rest ++ p ∷ []) same
    ∙ ap (λ i. numbered i rest ++ referred g.Ix.IndexType.number c.reference.result ∷ []) (sym c.in_ok-at.ensures.index)

pub returns-clause-goes : goal.returns-clause-goes
returns-clause-goes g c =
    let steps = returns-clause-steps g c in
    search (rules, ap (λ z. length z) steps, length-append {A = ℕ × PlainEdge g.row.E.Denot})
