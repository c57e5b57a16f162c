use Rattle.std.proofs.Common.{rules, ◌≡◌, ◌∷◌, ◌+◌, is_some, is_none, map, refl, sym, ap, ◌∙◌, arith}
use Rattle.std.specs.Option.{option_copied}
use Rattle.std.proofs.lemmas.Option.{same_Some}
use Rattle.daggy_base.specs.Iterating.{numbered}
use Rattle.daggy_stable.specs.Stored.{weight_of}
use Rattle.daggy_stable.proofs.VacantPassed.{found, none_left}
use Rattle.daggy_stable.proofs.stable_graph.iterators.NodeReferencesIterator.next.Goals as goal

pub returns-in_err-i-clause-steps : goal.returns-in_err-i-clause-steps
returns-in_err-i-clause-steps g c =
    let none =
    sym c.self.view_is
    ∙ none_left weight_of (λ x. is_none x.weight) (λ x. refl) c.self.inside.slots.index c.self.inside.slots.cells.now
    c.in_err-i.ensures.none in
    rw c.from_residual.ensures
    (none, ap (λ l. numbered c.next_full.new.self.index (map weight_of l)) c.in_err-i.ensures.ended)

pub new-n-requires : goal.new-n-requires
new-n-requires g c =
    let f =
    found weight_of (λ x. is_none x.weight) (λ x. refl) c.self.inside.slots.index c.self.inside.slots.cells.now _ _ _
    c.in_ok-i.ensures.found in
    omega (arith, f.within, c.self.invariant.0)

pub unwrap-requires : goal.unwrap-requires
unwrap-requires g c =
    let f =
    found weight_of (λ x. is_none x.weight) (λ x. refl) c.self.inside.slots.index c.self.inside.slots.cells.now _ _ _
    c.in_ok-i.ensures.found in
    c.as_ref.ensures.variant ∙ ap is_some f.holds

pub returns-clause-steps : goal.returns-clause-steps
returns-clause-steps g c =
    let f =
    found weight_of (λ x. is_none x.weight) (λ x. refl) c.self.inside.slots.index c.self.inside.slots.cells.now _ _ _
    c.in_ok-i.ensures.found in
    let same : f.held ≡ c.unwrap.result.now =
    same_Some _ _ (sym f.holds ∙ sym c.as_ref.ensures.value ∙ ap option_copied c.unwrap.ensures) in
    let rest = map weight_of c.next_full.new.self.cells.now in
    sym c.self.view_is ∙ f.left ∙ ap (λ w. (c.in_ok-i.i, w) ∷ numbered (c.in_ok-i.i + 1) rest) same
    ∙ ap (λ i. (i, c.unwrap.result.now) ∷ numbered (c.in_ok-i.i + 1) rest) (sym c.new-n.ensures.number)
    ∙ ap (λ i. (g.Ix.IndexType.number c.new-n.result, c.unwrap.result.now) ∷ numbered i rest)
    (sym c.in_ok-i.ensures.index)

pub returns-clause-goes : goal.returns-clause-goes
returns-clause-goes g c = let steps = returns-clause-steps g c in search (rules, steps)
