use Rattle.std.proofs.Common.{◌∙◌}
use Rattle.daggy_stable.proofs.StoredLists.{node_got, no_node_got}
use Rattle.daggy_stable.proofs.stable_graph.StableDiGraph.node_weight.Goals as goal

pub returns-in-Some : goal.returns-in-Some
returns-in-Some g c =
    let lookup = c.in-Some.ensures.lookup in
    c.as_ref.ensures.value
    ∙ node_got c.self.invariant _ c.args.self.now c.self.view_is c.index.ensures.value c.deref.ensures.value
    lookup.3.0 lookup.1

pub returns-in-None : goal.returns-in-None
returns-in-None g c =
    no_node_got c.self.invariant _ c.args.self.now c.self.view_is c.index.ensures.value c.deref.ensures.value
    c.in-None.ensures.lookup.3
