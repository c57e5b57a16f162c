use Rattle.std.proofs.Common.{◌↔◌, ℕ, IfOk, subst}
use Rattle.daggy_base.specs.Graph.{Graph}
use Rattle.daggy_visit.specs.Visit.{HasPair}
use Rattle.daggy_reduction.specs.Descendants.{IsDescendantOf}
use Rattle.daggy_paths.proofs.SameStates.{same_graph}
use Rattle.daggy_paths.proofs.paths.Paths.transitive_closure.Goals as goal

pub returns-clause-closure : goal.returns-clause-closure
returns-clause-closure g c =
    let P : Graph g.row.S-NodeWeight.Denot g.row.S-EdgeWeight.Denot → Type 0 = λ z.
    IfOk c.transitive_closure.result (λ matrix. (a b : ℕ) → HasPair matrix a b ↔ IsDescendantOf z a b) in
    subst P (same_graph c.self.view_is) c.transitive_closure.ensures.closure
