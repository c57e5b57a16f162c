use Rattle.std.proofs.Common.{◌∙◌}
use Rattle.daggy_graph.proofs.StoredLists.{got, first_got, no_first_got}
use Rattle.daggy_graph.proofs.graph.DiGraph.first_edge.Goals as goal

pub returns-in-Some : goal.returns-in-Some
returns-in-Some g c =
    let lookup = c.in-Some.ensures.lookup in
    c.edge.ensures.value ∙ c.first.ensures
    ∙ first_got _ _ _ c.args.self.now c.self.view_is c.index.ensures.value c.self.invariant c.args.dir
    c.deref.ensures.value (got _ _ _ lookup.3.0 lookup.1)

pub returns-in-None : goal.returns-in-None
returns-in-None g c =
    let lookup = c.in-None.ensures.lookup in
    c.end.ensures.number
    ∙ no_first_got _ _ _ c.args.self.now c.self.view_is c.index.ensures.value c.self.invariant c.args.dir
    c.deref.ensures.value lookup.3
