use Rattle.std.proofs.Common.{◌≡◌, ℕ, zero, suc, ◌+◌, ◌<◌, List, [], ◌∷◌, length, drop, map, sym, ap, ◌∙◌, refl, arith}
use Rattle.daggy_components.specs.Components.{component}
use Rattle.daggy_components.proofs.components.IterIterator.next.Goals as goal

-- the first of the rest
first_rest : (cs : List (List ℕ)) (k : ℕ) → k < length cs → drop k cs ≡ component cs k ∷ drop (suc k) cs
first_rest [] k low = absurd (omega arith)
first_rest (c ∷ cs) zero low = refl
first_rest (c ∷ cs) (suc k) low = first_rest cs k (omega arith)

pub returns-clause-steps : goal.returns-clause-steps
returns-clause-steps g c =
    let cs = c.self.inside.components.now in
    let k = c.self.inside.next in
    let low : k < length cs = omega (arith, c.self.invariant.0, c.self.invariant.1, c.if-self.false) in
    let one : k + 1 ≡ suc k = omega arith in
    sym c.self.view_is
    ∙ (first_rest cs k low
    ∙ (ap (λ (z : List ℕ). z ∷ drop (suc k) cs) (sym c.members-members.ensures)
    ∙ ap (λ (z : ℕ). map g.Ix.IndexType.number c.members-members.result.now ∷ drop z cs) (sym one)))
