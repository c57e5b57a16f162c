use Rattle.std.proofs.Common.{ap, ◌∙◌}
use Rattle.daggy_base.specs.State.{State}
use Rattle.daggy_stable.proofs.Stores.{Stores-itself, stored_is}
use Rattle.daggy_stable.proofs.HeldGraph.{Stores-held}
use Rattle.daggy_stable.proofs.stable_graph.StableDiGraph.from_cells.Goals as goal

pub invariant_of-result : goal.invariant_of-result
invariant_of-result g c =
    Stores-itself
    (Stores-held g.Ix.IndexType.greatest _ c.requires.1 c.end.ensures.value c.end-2.ensures.value
    (c.len-node_count.ensures ∙ c.args.nodes.ok.0)
    (c.len-edge_count.ensures ∙ c.args.edges.ok.0))

pub returns : goal.returns
returns g c graph held =
    let stored =
    Stores-held g.Ix.IndexType.greatest graph held c.end.ensures.value c.end-2.ensures.value
    (c.len-node_count.ensures ∙ c.args.nodes.ok.0)
    (c.len-edge_count.ensures ∙ c.args.edges.ok.0) in
    let mk : _ → State g.row.N.Denot g.row.E.Denot = λ h. record { graph = h; looks = c.new.result.count } in
    ap mk (stored_is stored) ∙ ap (λ k. record { graph = graph; looks = k }) c.new.ensures
