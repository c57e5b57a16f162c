use Rattle.daggy_stable.proofs.Bounds.{bound_left}
use Rattle.daggy_stable.proofs.stable_graph.store.StableDiGraphStore.remove_node.Goals as goal

pub returns-clause-bound : goal.returns-clause-bound
returns-clause-bound g c =
    bound_left (g.Ix.IndexType.number c.args.n) c.args.self.now c.remove_node.new.self c.remove_node.result
    c.remove_node.ensures.removed c.remove_node.ensures.missing
