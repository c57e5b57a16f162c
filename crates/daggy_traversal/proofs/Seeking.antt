-- The first neighbor that was not met.
use Rattle.std.proofs.Common.{◌≡◌, ℕ, ◌<◌, Bool, true, false, ◌↔◌, List, ◌∷◌, length, sym, ap, ◌∙◌, arith}
use Rattle.std.proofs.lemmas.Bool.{false≢true}
use Rattle.daggy_base.specs.declared.index.Direction.{Direction}
use Rattle.daggy_base.specs.Graph.{Graph}
use Rattle.daggy_base.specs.WellFormed.{IsWellFormed}
use Rattle.daggy_visit.specs.Visit.{IsVisited}
use Rattle.daggy_traversal.specs.Traversal.{IsNeighbor, AreMarked, neighbors_left, without_old}
use Rattle.daggy_traversal.proofs.Edges.{left_next}
use Rattle.daggy_traversal.proofs.Marks.{listed, unlisted}
use Rattle.daggy_traversal.proofs.Others.{others_old, others_new}

module _ {N E : Type 0} {end : ℕ} {g : Graph N E} (w : IsWellFormed end g) {dir : Direction} {met : List Bool}
    {e v next : ℕ} (found : IsNeighbor dir end g e v next) {answer : Bool} (says : (answer ≡ true) ↔ IsVisited met v)
    (nodes : List ℕ) (marked : AreMarked met nodes) where
  pub passes_met : answer ≡ true
      → without_old nodes (neighbors_left dir g e) ≡ without_old nodes (neighbors_left dir g next)
  passes_met old =
      ap (λ z. without_old nodes z) (left_next w dir found)
      ∙ others_old nodes (neighbors_left dir g next) v (listed marked v (says.0 old))

  pub finds_new : answer ≡ false
      → without_old nodes (neighbors_left dir g e) ≡ v ∷ without_old nodes (neighbors_left dir g next)
  finds_new new =
      ap (λ z. without_old nodes z) (left_next w dir found)
      ∙ others_new nodes (neighbors_left dir g next) v (unlisted marked v (λ old. false≢true (sym new ∙ says.1 old)))

pub seeks_less : {N E : Type 0} {end : ℕ} {g : Graph N E} → IsWellFormed end g → {dir : Direction} {e v next : ℕ}
    → IsNeighbor dir end g e v next → length (neighbors_left dir g next) < length (neighbors_left dir g e)
seeks_less w {dir} found = omega (arith, ap (λ z. length z) (left_next w dir found))
