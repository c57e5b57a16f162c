use Rattle.std.proofs.Common.{ℕ, subst}
use Rattle.daggy_base.specs.State.{State}
use Rattle.daggy_base.specs.WellFormed.{IsWellFormed}
use Rattle.example_model.proofs.Rounds.{round_is_well_formed}
use Rattle.example_model.proofs.round.RoundEdgeSourceU8.contains_node.Goals as goal

pub returns-clause-well_formed : goal.returns-clause-well_formed
returns-clause-well_formed c =
    let P : State ℕ ℕ → Type 0 = λ z. IsWellFormed 255 z.graph in
    subst P c.self.view_is round_is_well_formed
