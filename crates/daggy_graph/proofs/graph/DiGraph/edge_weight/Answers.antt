use Rattle.std.proofs.Common.{ap}
use Rattle.std.specs.Option.{option_map}
use Rattle.daggy_graph.proofs.StoredLists.{got, got_none, edge_got}
use Rattle.daggy_graph.proofs.graph.DiGraph.edge_weight.Goals as goal

pub returns-in-Some : goal.returns-in-Some
returns-in-Some g c =
    let lookup = c.in-Some.ensures.lookup in
    ap (option_map (λ x. x.weight)) (edge_got _ _ _ c.args.self.now c.self.view_is c.index.ensures.value
    c.deref.ensures.value (got _ _ _ lookup.3.0 lookup.1))

pub returns-in-None : goal.returns-in-None
returns-in-None g c =
    let lookup = c.in-None.ensures.lookup in
    ap (option_map (λ x. x.weight)) (edge_got _ _ _ c.args.self.now c.self.view_is c.index.ensures.value
    c.deref.ensures.value (got_none _ _ lookup.3))
