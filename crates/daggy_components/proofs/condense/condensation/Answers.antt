use Rattle.std.proofs.Common.{sym, subst}
use Rattle.daggy_base.specs.Graph.{Graph}
use Rattle.daggy_components.specs.Condensation.{KeepsReachability}
use Rattle.daggy_components.proofs.Condensed.{on_ok}
use Rattle.daggy_components.proofs.condense.condensation.Goals as goal

pub returns-clause-reachability : goal.returns-clause-reachability
returns-clause-reachability g c =
    on_ok c.from_slots.result c.from_slots.ensures.graph (λ t is.
    let P : Graph _ _ → Type 0 = λ z. KeepsReachability (g.S.EdgeSource.graph c.args.source.now) c.args.components.now z in
    subst P (sym is) c.in_ok-nodes.ensures.reachability)
