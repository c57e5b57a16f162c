use Rattle.std.proofs.Common.{map, sym, ap, ◌∙◌, arith}
use Rattle.daggy_base.specs.Graph.{node_bound, edge_bound}
use Rattle.daggy_base.specs.Mapping.{weight_in}
use Rattle.daggy_stable.specs.Stored.{weight_of, plain_edge}
use Rattle.daggy_stable.proofs.Stores.{nodes_long, edges_long, Stores-empty}
use Rattle.daggy_base.proofs.SlotLists.{of_slots_descend}
use Rattle.daggy_stable.proofs.KeptSlots.{slice_long, slice_few, slice_read, slice_joined}
use Rattle.daggy_base.proofs.CallsInTurn.{call_up_to, call_some_up_to}
use Rattle.daggy_stable.proofs.stable_graph.StableDiGraph.filter_map.Goals as goal

pub slice_bounds-filter_nodes-end : goal.slice_bounds-filter_nodes-end
slice_bounds-filter_nodes-end g c =
    slice_long weight_of c.self.inside.nodes.items c.deref.result.now _
    (c.node_bound-node_bound.ensures ∙ sym (ap (λ s. node_bound s.graph) c.self.view_is)) c.deref.ensures.value

pub filter_nodes-requires-clause-few : goal.filter_nodes-requires-clause-few
filter_nodes-requires-clause-few g c =
    slice_few weight_of c.self.inside.nodes.items c.deref.result.now _
    (c.node_bound-node_bound.ensures ∙ sym (ap (λ s. node_bound s.graph) c.self.view_is)) c.deref.ensures.value _
    (omega (arith, nodes_long c.self.invariant, c.self.invariant.node_slots.few))

pub filter_nodes-requires-clause-stored : goal.filter_nodes-requires-clause-stored
filter_nodes-requires-clause-stored g c =
    rw (
      c.in_ok-nodes.ensures.empty,
      c.in_ok-edges.ensures.empty,
      c.in_ok-nodes.ensures.none,
      c.in_ok-edges.ensures.none,
    ) (Stores-empty _ _ _ c.in_ok-nodes.ensures.end c.in_ok-edges.ensures.end)

pub slice_bounds-filter_edges-end : goal.slice_bounds-filter_edges-end
slice_bounds-filter_edges-end g c =
    slice_long plain_edge c.self.inside.edges.items c.deref-2.result.now _
    (c.edge_bound-edge_bound.ensures ∙ sym (ap (λ s. edge_bound s.graph) c.self.view_is)) c.deref-2.ensures.value

pub filter_edges-requires-clause-few : goal.filter_edges-requires-clause-few
filter_edges-requires-clause-few g c =
    slice_few plain_edge c.self.inside.edges.items c.deref-2.result.now _
    (c.edge_bound-edge_bound.ensures ∙ sym (ap (λ s. edge_bound s.graph) c.self.view_is)) c.deref-2.ensures.value _
    (omega (arith, edges_long c.self.invariant, c.self.invariant.edge_slots.few))

pub filter_nodes-requires-clause-callable : goal.filter_nodes-requires-clause-callable
filter_nodes-requires-clause-callable g c =
    rw (slice_read weight_of c.self.inside.nodes.items c.deref.result.now _
    (c.node_bound-node_bound.ensures ∙ sym (ap (λ s. node_bound s.graph) c.self.view_is)) c.deref.ensures.value)
    (call_up_to g.Ix.IndexType.of (goal.F-pre g) (goal.F-step g) (λ w. w) c.args.f _
    (map weight_of c.self.inside.nodes.items)
    (rw (← c.self.view_is) at c.requires.nodes))

pub filter_edges-requires-clause-callable : goal.filter_edges-requires-clause-callable
filter_edges-requires-clause-callable g c =
    rw (slice_read plain_edge c.self.inside.edges.items c.deref-2.result.now _
    (c.edge_bound-edge_bound.ensures ∙ sym (ap (λ s. edge_bound s.graph) c.self.view_is)) c.deref-2.ensures.value)
    (call_some_up_to g.Ix.IndexType.of (goal.G-pre g) (goal.G-step g) weight_in c.args.g _
    (map plain_edge c.self.inside.edges.items)
    (rw (← c.self.view_is) at c.requires.edges))

pub returns-clause-filtered : goal.returns-clause-filtered
returns-clause-filtered g c =
    let before = map weight_of c.filter_nodes.new.new.cells.items in
    let nodes = map weight_of c.filter_edges.new.nodes.cells.items in
    let edges = map plain_edge c.filter_edges.new.new.cells.items in
    let nodes_read =
    slice_read weight_of c.self.inside.nodes.items c.deref.result.now _
    (c.node_bound-node_bound.ensures ∙ sym (ap (λ s. node_bound s.graph) c.self.view_is)) c.deref.ensures.value in
    let edges_read =
    slice_joined before nodes c.self.inside.edges.items c.deref-2.result.now _ c.filter_edges.ensures.nodes
    (c.edge_bound-edge_bound.ensures ∙ sym (ap (λ s. edge_bound s.graph) c.self.view_is)) c.deref-2.ensures.value in
    let kept_nodes = rw (nodes_read, ← c.filter_edges.ensures.nodes) at c.filter_nodes.ensures.kept in
    let kept_edges = rw edges_read at c.filter_edges.ensures.kept in
    rw (← c.self.view_is) (record {
      nodes = nodes;
      edges = edges;
      keeps_nodes = kept_nodes;
      keeps_edges = kept_edges;
      is = ap (λ s. s.graph) c.built.ensures;
    })

pub returns-clause-descending : goal.returns-clause-descending
returns-clause-descending g c = rw c.built.ensures (of_slots_descend _ _)
