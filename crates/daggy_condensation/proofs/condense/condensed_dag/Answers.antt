use Rattle.std.proofs.Common.{map, sym, subst}
use Rattle.daggy_base.specs.Graph.{Graph}
use Rattle.daggy_components.specs.Condensation.{IsCondensation, KeepsReachability}
use Rattle.daggy_condensation.proofs.condense.condensed_dag.Goals as goal

pub returns-in-Ok-clause-condensation : goal.returns-in-Ok-clause-condensation
returns-in-Ok-clause-condensation g c =
    let P : Graph _ _ → Type 0 = λ z.
    IsCondensation (λ list. map g.Ix.IndexType.number list.items) g.Ix.IndexType.number
    (g.S.EdgeSource.graph c.args.source.now) c.args.components.now z in
    subst P (sym c.in-Ok.ensures.made) c.in_ok-nodes.ensures.condensation

pub returns-in-Ok-clause-reachability : goal.returns-in-Ok-clause-reachability
returns-in-Ok-clause-reachability g c =
    let P : Graph _ _ → Type 0 = λ z. KeepsReachability (g.S.EdgeSource.graph c.args.source.now) c.args.components.now z in
    subst P (sym c.in-Ok.ensures.made) c.in_ok-nodes.ensures.reachability
