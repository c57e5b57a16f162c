use Rattle.std.proofs.Common.{◌↔◌, ℕ, ap, subst}
use Rattle.std.specs.Result.{IfOk}
use Rattle.daggy_base.specs.Graph.{Graph}
use Rattle.daggy_visit.specs.Visit.{HasPair}
use Rattle.daggy_reduction.specs.Descendants.{IsDescendantOf}
use Rattle.daggy_operators.proofs.closure.reached_pairs.Goals as goal

pub returns : goal.returns
returns g c =
    let P : Graph _ _ → Type 0 = λ z. IfOk c.transitive_closure.result (λ matrix. (u v : ℕ)
    → HasPair matrix u v ↔ IsDescendantOf z u v) in
    subst P (ap (λ z. z.graph) c.in_ok-paths.ensures) c.transitive_closure.ensures.closure
