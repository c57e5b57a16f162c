use Rattle.std.proofs.Common.{Some, not, sym, ap, ◌∙◌}
use Rattle.std.specs.Option.{option_map}
use Rattle.daggy_base.specs.Graph.{ends_of}
use Rattle.daggy_stable.proofs.StoredLists.{plain_none, plain_ends, edge_got, no_edge_got}
use Rattle.daggy_stable.proofs.stable_graph.StableDiGraph.edge_endpoints.Goals as goal

pub returns-then-is_none : goal.returns-then-is_none
returns-then-is_none g c =
    let lookup = c.in-Some.ensures.lookup in
    sym (ap (option_map ends_of) (plain_none c.in-Some.x.now (c.is_none.ensures ∙ ap not c.if-is_none.true)))
    ∙ ap (option_map ends_of) (edge_got c.self.invariant _ c.args.self.now c.self.view_is c.index.ensures.value
    c.deref.ensures.value lookup.3.0 lookup.1)

pub returns-else-is_none : goal.returns-else-is_none
returns-else-is_none g c =
    let lookup = c.in-Some.ensures.lookup in
    let parent = c.node.ensures.value ∙ c.endpoint-parent.ensures in
    let child = c.node-in-Some.ensures.value ∙ c.endpoint-child.ensures in
    (λ i. Some (parent i, child i))
    ∙ sym (plain_ends c.in-Some.x.now (c.is_none.ensures ∙ ap not c.if-is_none.false))
    ∙ ap (option_map ends_of) (edge_got c.self.invariant _ c.args.self.now c.self.view_is c.index.ensures.value
    c.deref.ensures.value lookup.3.0 lookup.1)

pub returns-in-None : goal.returns-in-None
returns-in-None g c =
    ap (option_map ends_of) (no_edge_got c.self.invariant _ c.args.self.now c.self.view_is c.index.ensures.value
    c.deref.ensures.value c.in-None.ensures.lookup.3)
