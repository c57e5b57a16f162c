use Rattle.std.proofs.Common.{sym, ap, ◌∙◌}
use Rattle.std.specs.Option.{option_map}
use Rattle.daggy_stable.proofs.StoredLists.{edge_got, no_edge_got}
use Rattle.daggy_stable.proofs.StoredRemoval.{weight_plain}
use Rattle.daggy_stable.proofs.stable_graph.StableDiGraph.edge_weight.Goals as goal

pub returns-in-Some : goal.returns-in-Some
returns-in-Some g c =
    let lookup = c.in-Some.ensures.lookup in
    c.as_ref.ensures.value ∙ sym (weight_plain c.in-Some.x.now)
    ∙ ap (option_map (λ x. x.weight)) (edge_got c.self.invariant _ c.args.self.now c.self.view_is
    c.index.ensures.value c.deref.ensures.value lookup.3.0 lookup.1)

pub returns-in-None : goal.returns-in-None
returns-in-None g c =
    ap (option_map (λ x. x.weight)) (no_edge_got c.self.invariant _ c.args.self.now c.self.view_is
    c.index.ensures.value c.deref.ensures.value c.in-None.ensures.lookup.3)
