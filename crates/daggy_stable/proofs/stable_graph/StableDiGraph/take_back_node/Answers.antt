use Rattle.std.proofs.Common.{◌∙◌, ap, sym}
use Rattle.daggy_base.specs.TakingBack.{with_node_taken_back}
use Rattle.daggy_base.proofs.NodeTakenBack.{undoes_node}
use Rattle.daggy_stable.proofs.stable_graph.StableDiGraph.take_back_node.Goals as goal

pub returns-then-made-clause-undone : goal.returns-then-made-clause-undone
returns-then-made-clause-undone g c =
    let old = c.args.self.now.graph in
    undoes_node _ c.args.made old _ _ (ap (λ s. s.graph) c.cut_node.ensures.removed
    ∙ ap (λ b. with_node_taken_back b old (g.Ix.IndexType.number c.args.n)) (sym c.if-made.true))

pub returns-clause-undone : goal.returns-clause-undone
returns-clause-undone g c =
    let old = c.args.self.now.graph in
    undoes_node _ c.args.made old _ _ (ap (λ s. s.graph) c.vacate_node.ensures.dropped
    ∙ ap (λ b. with_node_taken_back b old (g.Ix.IndexType.number c.args.n)) (sym c.if-made.false))
