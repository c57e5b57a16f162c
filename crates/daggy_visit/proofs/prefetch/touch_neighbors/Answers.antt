use Rattle.std.proofs.Common.{◌∙◌, ℕ, ap, sym}
use Rattle.std.proofs.lemmas.Option.{same_Some}
use Rattle.daggy_visit.proofs.WalkedEdges.{far_list_begins}
use Rattle.daggy_visit.proofs.prefetch.touch_neighbors.Goals as goal

pub returns-in_default-step : goal.returns-in_default-step
returns-in_default-step g c =
    let found =
    far_list_begins c.invariant.ensures.well_formed c.in-Some.ensures c.opposite.ensures
    c.first_edge-first.ensures c.in_default-step.ensures in
    absurd cc

pub returns-then-index : goal.returns-then-index
returns-then-index g c =
    let found =
    far_list_begins c.invariant.ensures.well_formed c.in-Some.ensures c.opposite.ensures
    c.first_edge-first.ensures c.in-Some-step.ensures in
    absurd (c.if-index.true
    (c.index.ensures.value ∙ ap (λ (p : ℕ × ℕ). p.1) (same_Some _ _ found) ∙ sym c.index-in-edges.ensures.value))
