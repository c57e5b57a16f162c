use Rattle.std.proofs.Common.{◌↔◌, ◌⊎◌, sym, subst}
use Rattle.daggy_base.specs.Graph.{Graph}
use Rattle.daggy_base.specs.Path.{AreJoined}
use Rattle.daggy_operators.specs.Merging.{IsMerged}
use Rattle.daggy_operators.proofs.Merged.{both_joined}
use Rattle.daggy_operators.proofs.merging.merge.Goals as goal

pub returns-in-Ok-try_from_graph-clause-joined : goal.returns-in-Ok-try_from_graph-clause-joined
returns-in-Ok-try_from_graph-clause-joined g c u v =
    let a = c.args.first.now.graph in
    let b = c.args.second.now.graph in
    let h = c.in-Ok.graph.graph in
    let P : Graph _ _ → Type 0 = λ z. AreJoined z u v ↔ (AreJoined a u v ⊎ AreJoined b u v) in
    let Q : Graph _ _ → Type 0 = λ z. IsMerged z b h in
    let R : Graph _ _ → Type 0 = λ z. IsMerged (g.S.EdgeSource.graph c.graph-3.result.now) z h in
    let m = subst Q c.graph-3.ensures.graph (subst R c.graph-4.ensures.graph c.in-Ok.ensures) in
    subst P (sym c.in-Ok-try_from_graph.ensures.made)
    (both_joined h c.node_count-first.ensures.dag.well_formed c.node_count-second.ensures.dag.well_formed m.first m.second u v)
