use Rattle.std.proofs.Common.{rules, ◌≡◌, ◌∷◌, ◌+◌, is_some, is_none, map, sym, ap, ◌∙◌, arith}
use Rattle.std.proofs.lemmas.Option.{same_Some}
use Rattle.daggy_base.specs.Iterating.{numbered}
use Rattle.daggy_cells.specs.Referring.{referred}
use Rattle.daggy_stable.specs.Rest.{numbered_edge}
use Rattle.daggy_stable.specs.Stored.{plain_edge}
use Rattle.daggy_stable.proofs.VacantPassed.{found, none_left, plain_vacant}
use Rattle.daggy_stable.proofs.ListSearches.{plain_some}
use Rattle.daggy_stable.proofs.stable_graph.iterators.EdgeReferencesIterator.next.Goals as goal

pub returns-in_err-i-clause-steps : goal.returns-in_err-i-clause-steps
returns-in_err-i-clause-steps g c =
    let none =
    sym c.self.view_is
    ∙ none_left plain_edge (λ x. is_none x.weight) plain_vacant c.self.inside.slots.index c.self.inside.slots.cells.now
    c.in_err-i.ensures.none in
    rw c.from_residual.ensures
    (none, ap (λ l. numbered c.next_full.new.self.index (map plain_edge l)) c.in_err-i.ensures.ended)

pub new-requires : goal.new-requires
new-requires g c =
    let f =
    found plain_edge (λ x. is_none x.weight) plain_vacant c.self.inside.slots.index c.self.inside.slots.cells.now _ _ _
    c.in_ok-i.ensures.found in
    omega (arith, f.within, c.self.invariant.0)

pub reference-requires : goal.reference-requires
reference-requires g c =
    let f =
    found plain_edge (λ x. is_none x.weight) plain_vacant c.self.inside.slots.index c.self.inside.slots.cells.now _ _ _
    c.in_ok-i.ensures.found in
    sym (plain_some c.in_ok-i.x.now) ∙ ap is_some f.holds

pub returns-clause-steps : goal.returns-clause-steps
returns-clause-steps g c =
    let f =
    found plain_edge (λ x. is_none x.weight) plain_vacant c.self.inside.slots.index c.self.inside.slots.cells.now _ _ _
    c.in_ok-i.ensures.found in
    let same : (c.in_ok-i.i, f.held) ≡ referred g.Ix.IndexType.number c.reference.result =
    same_Some _ _ (ap (numbered_edge c.in_ok-i.i) (sym f.holds)
    ∙ ap (λ i. numbered_edge i (plain_edge c.in_ok-i.x.now)) (sym c.new.ensures.number) ∙ c.reference.ensures) in
    let rest = map plain_edge c.next_full.new.self.cells.now in
    sym c.self.view_is ∙ f.left ∙ ap (λ p. p ∷ numbered (c.in_ok-i.i + 1) rest) same
    ∙ ap (λ i. referred g.Ix.IndexType.number c.reference.result ∷ numbered i rest) (sym c.in_ok-i.ensures.index)

pub returns-clause-goes : goal.returns-clause-goes
returns-clause-goes g c = let steps = returns-clause-steps g c in search (rules, steps)
