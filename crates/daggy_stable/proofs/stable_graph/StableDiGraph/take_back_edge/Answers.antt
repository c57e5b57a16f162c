use Rattle.std.proofs.Common.{◌∙◌, ap, sym}
use Rattle.daggy_base.specs.TakingBack.{with_edge_taken_back}
use Rattle.daggy_base.proofs.EdgeTakenBack.{undoes_edge}
use Rattle.daggy_stable.proofs.stable_graph.StableDiGraph.take_back_edge.Goals as goal

pub returns-then-made-clause-undone : goal.returns-then-made-clause-undone
returns-then-made-clause-undone g c =
    let old = c.args.self.now.graph in
    undoes_edge _ c.args.made old _ _ (ap (λ s. s.graph) c.cut_edge.ensures.removed
    ∙ ap (λ b. with_edge_taken_back b old (g.Ix.IndexType.number c.args.e)) (sym c.if-made.true))

pub returns-clause-undone : goal.returns-clause-undone
returns-clause-undone g c =
    let old = c.args.self.now.graph in
    undoes_edge _ c.args.made old _ _ (ap (λ s. s.graph) c.vacate_edge.ensures.removed
    ∙ ap (λ b. with_edge_taken_back b old (g.Ix.IndexType.number c.args.e)) (sym c.if-made.false))
