use Rattle.std.proofs.Common.{map, ap, ◌∙◌}
use Rattle.std.specs.Option.{option_map}
use Rattle.daggy_base.specs.FromSlots.{graph_of_slots, edge_of}
use Rattle.daggy_base.specs.State.{State}
use Rattle.daggy_cells.specs.Fields.{plain_edge}
use Rattle.daggy_graph.proofs.StoredLemmas.{stored_is, Stores-itself}
use Rattle.daggy_graph.proofs.BuiltFromSlots.{built_none}
use Rattle.daggy_graph.proofs.graph.DiGraph.from_slots.Goals as goal

pub make_nodes-requires-clause-stored : goal.make_nodes-requires-clause-stored
make_nodes-requires-clause-stored g c = built_none _ _ _ c.in_ok-new_nodes.ensures.items c.in_ok-new_edges.ensures.items

pub invariant_of-result : goal.invariant_of-result
invariant_of-result g c = Stores-itself _ _ _ _ c.make_edges.ensures.stored

pub returns : goal.returns
returns g c =
    let mk : _ → State g.row.N.Denot g.row.E.Denot = λ h. record { graph = h; looks = c.new.result.count } in
    let read = option_map (edge_of {E = g.row.E.Denot} g.Ix.IndexType.number) in
    let shown = stored_is _ _ _ _ c.make_edges.ensures.stored
    ∙ ap (λ l. graph_of_slots l (map plain_edge c.make_edges.new.edges.items))
    (c.make_edges.ensures.nodes ∙ c.make_nodes.ensures.made)
    ∙ ap (graph_of_slots c.args.nodes.items) c.make_edges.ensures.made in
    ap mk shown
    ∙ ap (λ k. record { graph = graph_of_slots c.args.nodes.items (map read c.args.edges.items); looks = k })
    c.new.ensures
