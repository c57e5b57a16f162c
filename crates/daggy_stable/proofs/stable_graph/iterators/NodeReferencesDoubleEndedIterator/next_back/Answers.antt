use Rattle.std.proofs.Common.{rules, ◌≡◌, ◌∷◌, ◌++◌, ◌+◌, ℕ, [], length, is_some, is_none, map, refl, sym, ap, ◌∙◌, arith}
use Rattle.std.specs.Option.{option_copied}
use Rattle.std.proofs.lemmas.List.{length-append}
use Rattle.std.proofs.lemmas.Option.{same_Some}
use Rattle.daggy_base.specs.Iterating.{numbered}
use Rattle.daggy_stable.specs.Stored.{weight_of}
use Rattle.daggy_stable.proofs.VacantPassed.{last_found, all_vacant}
use Rattle.daggy_stable.proofs.stable_graph.iterators.NodeReferencesDoubleEndedIterator.next_back.Goals as goal

pub returns-in_err-at-clause-steps : goal.returns-in_err-at-clause-steps
returns-in_err-at-clause-steps g c =
    let none =
    sym c.self.view_is
    ∙ all_vacant weight_of (λ x. is_none x.weight) (λ x. refl) c.self.inside.slots.index c.self.inside.slots.cells.now
    c.in_err-at.ensures.none in
    rw c.from_residual.ensures
    (none, ap (λ l. numbered c.last_full.new.self.index (map weight_of l)) c.in_err-at.ensures.ended)

pub unwrap-requires : goal.unwrap-requires
unwrap-requires g c =
    let f =
    last_found weight_of (λ x. is_none x.weight) (λ x. refl) c.self.inside.slots.index c.self.inside.slots.cells.now _ _
    c.in_ok-at.ensures.found in
    c.as_ref.ensures.variant ∙ ap is_some f.holds

pub returns-clause-steps : goal.returns-clause-steps
returns-clause-steps g c =
    let f =
    last_found weight_of (λ x. is_none x.weight) (λ x. refl) c.self.inside.slots.index c.self.inside.slots.cells.now _ _
    c.in_ok-at.ensures.found in
    let same : f.held ≡ c.unwrap.result.now =
    same_Some _ _ (sym f.holds ∙ sym c.as_ref.ensures.value ∙ ap option_copied c.unwrap.ensures) in
    let rest = map weight_of c.last_full.new.self.cells.now in
    let index = c.self.inside.slots.index in
    sym c.self.view_is ∙ f.left
    ∙ ap (λ w. numbered index rest ++ (index + length c.last_full.new.self.cells.now, w) ∷ []) same
    ∙ ap (λ i. numbered index rest ++ (i, c.unwrap.result.now) ∷ []) (sym c.in_ok-at.ensures.at ∙ sym c.new-n.ensures.number)
    ∙ ap (λ i. numbered i rest ++ (g.Ix.IndexType.number c.new-n.result, c.unwrap.result.now) ∷ [])
    (sym c.in_ok-at.ensures.index)

pub returns-clause-goes : goal.returns-clause-goes
returns-clause-goes g c =
    let steps = returns-clause-steps g c in
    search (rules, ap (λ z. length z) steps, length-append {A = ℕ × g.row.N.Denot})
