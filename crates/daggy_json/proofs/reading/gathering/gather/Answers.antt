use Rattle.std.proofs.Common.{◌≡◌, vec_len, length, inl, inr, refl, ◌∙◌, arith, rules}
use Rattle.std.specs.Option.{option_map}
use Rattle.std.proofs.lemmas.Slice.Zip.{AllZip-long}
use Rattle.std.proofs.lemmas.List.{length-map}
use Rattle.std.proofs.lemmas.Result.{err_from_is_err_and}
use Rattle.serde_json.specs.View.{view}
use Rattle.daggy_json.specs.Found.{edge_of}
use Rattle.daggy_json.specs.Reading.{IsItself, IsTested}
use Rattle.daggy_json.specs.Weight.{ReadsAs}
use Rattle.daggy_json.proofs.ComposedStages.{is_read, placed_long}
use Rattle.daggy_json.proofs.FaultPlaces.{shape_placed, nodes_placed, entry_placed, orders_placed}
use Rattle.daggy_json.proofs.ComposedStages.{ends_exist}
use Rattle.daggy_json.proofs.ComposedStages.{full_entries}
use Rattle.daggy_json.proofs.reading.gathering.gather.Goals as goal

pub read_entries-requires-clause-few : goal.read_entries-requires-clause-few
read_entries-requires-clause-few g c =
    let n = c.in_ok-nodes.ensures.ok in
    let size : vec_len c.in_ok-nodes.nodes ≡ length c.in_ok-nodes.nodes.items = search rules in
    omega (arith, size, placed_long _ _ _ n.1.2, AllZip-long _ _ _ n.1.1, n.0.2.nodes)

pub read_orders-requires-clause-ends : goal.read_orders-requires-clause-ends
read_orders-requires-clause-ends g c =
    ends_exist c.args.kind c.in_ok-nodes.nodes.items (ReadsAs g.G.Fn c.args.fn_edge.now) _ _ c.in_ok-edges.ensures.ok

pub read_orders-requires-clause-few : goal.read_orders-requires-clause-few
read_orders-requires-clause-few g c =
    let n = c.in_ok-nodes.ensures.ok in
    let size : vec_len c.in_ok-edges.edges ≡ length c.in_ok-edges.edges.items = search rules in
    omega (
      arith,
      size,
      AllZip-long _ _ _ c.in_ok-edges.ensures.ok,
      length-map c.in_ok-edges.edges.items (option_map (edge_of g.Ix.IndexType.number)),
      n.0.2.edges,
    )

pub returns-clause-ok : goal.returns-clause-ok
returns-clause-ok g c =
    let n = c.in_ok-nodes.ensures.ok in
    λ r t.
    is_read g.Ix.IndexType.greatest c.args.kind (ReadsAs g.F.Fn c.args.fn_node.now)
    (ReadsAs g.G.Fn c.args.fn_edge.now) IsTested (view c.args.value.now) _ c.in_ok-parts.ensures.ok n.0 n.1.0 n.1.1 n.1.2 _
    c.in_ok-edges.ensures.ok _ c.in_ok-orders.ensures.ok r t

pub returns-clause-graph : goal.returns-clause-graph
returns-clause-graph g c =
    let n = c.in_ok-nodes.ensures.ok in
    is_read g.Ix.IndexType.greatest c.args.kind (ReadsAs g.F.Fn c.args.fn_node.now)
    (ReadsAs g.G.Fn c.args.fn_edge.now) IsItself (view c.args.value.now) _ c.in_ok-parts.ensures.ok n.0 n.1.0 n.1.1
    n.1.2 _ c.in_ok-edges.ensures.ok _ c.in_ok-orders.ensures.ok _ refl

pub returns-clause-few_nodes : goal.returns-clause-few_nodes
returns-clause-few_nodes g c =
    let n = c.in_ok-nodes.ensures.ok in
    omega (arith, placed_long _ _ _ n.1.2, AllZip-long _ _ _ n.1.1, n.0.2.nodes)

pub returns-clause-few_edges : goal.returns-clause-few_edges
returns-clause-few_edges g c =
    let n = c.in_ok-nodes.ensures.ok in
    omega (
      arith,
      AllZip-long _ _ _ c.in_ok-edges.ensures.ok,
      length-map c.in_ok-edges.edges.items (option_map (edge_of g.Ix.IndexType.number)),
      n.0.2.edges,
    )

pub returns-clause-ends : goal.returns-clause-ends
returns-clause-ends g c =
    ends_exist c.args.kind c.in_ok-nodes.nodes.items (ReadsAs g.G.Fn c.args.fn_edge.now) _ _ c.in_ok-edges.ensures.ok

pub returns-clause-full_nodes : goal.returns-clause-full_nodes
returns-clause-full_nodes g c =
    let n = c.in_ok-nodes.ensures.ok in
    λ compact. n.1.2.vacant ∙ n.0.1.none compact

pub returns-clause-full_edges : goal.returns-clause-full_edges
returns-clause-full_edges g c =
    λ compact.
    full_entries c.args.kind c.in_ok-nodes.nodes.items (ReadsAs g.G.Fn c.args.fn_edge.now)
    (edge_of g.Ix.IndexType.number) compact 0 _ c.in_ok-edges.edges.items c.in_ok-edges.ensures.ok

pub returns-in_err-parts-clause-fault : goal.returns-in_err-parts-clause-fault
returns-in_err-parts-clause-fault g c =
    let p = err_from_is_err_and c.from_residual.result c.from_residual.ensures.1 in
    rw (p.1, p.2)
    elim c.in_err-parts.ensures.err [
      | inl h ↦ inl h
      | inr h ↦
          inr (shape_placed g.Ix.IndexType.greatest c.args.kind (ReadsAs g.F.Fn c.args.fn_node.now)
          (ReadsAs g.G.Fn c.args.fn_edge.now) (view c.args.value.now) _ h.0 h.1)
    ]

pub returns-in_err-nodes-clause-fault : goal.returns-in_err-nodes-clause-fault
returns-in_err-nodes-clause-fault g c =
    let p = err_from_is_err_and c.from_residual-in_err-nodes.result c.from_residual-in_err-nodes.ensures.1 in
    rw (p.1, p.2)
    elim c.in_err-nodes.ensures.err [
      | inl h ↦ inl h
      | inr h ↦
          inr (nodes_placed g.Ix.IndexType.greatest c.args.kind (ReadsAs g.F.Fn c.args.fn_node.now)
          (ReadsAs g.G.Fn c.args.fn_edge.now) (view c.args.value.now) _ c.in_ok-parts.ensures.ok _ h)
    ]

pub returns-in_err-edges-clause-fault : goal.returns-in_err-edges-clause-fault
returns-in_err-edges-clause-fault g c =
    let n = c.in_ok-nodes.ensures.ok in
    let p = err_from_is_err_and c.from_residual-in_err-edges.result c.from_residual-in_err-edges.ensures.1 in
    rw (p.1, p.2)
    elim c.in_err-edges.ensures.err [
      | inl h ↦ inl h
      | inr h ↦
          inr (entry_placed g.Ix.IndexType.greatest c.args.kind (ReadsAs g.F.Fn c.args.fn_node.now)
          (ReadsAs g.G.Fn c.args.fn_edge.now) (view c.args.value.now) _ c.in_ok-parts.ensures.ok _ n _ h)
    ]

pub returns-in_err-orders-clause-fault : goal.returns-in_err-orders-clause-fault
returns-in_err-orders-clause-fault g c =
    let n = c.in_ok-nodes.ensures.ok in
    let p = err_from_is_err_and c.from_residual-in_err-orders.result c.from_residual-in_err-orders.ensures.1 in
    rw (p.1, p.2)
    elim c.in_err-orders.ensures.err [
      | inl h ↦ inl h
      | inr h ↦
          inr (orders_placed g.Ix.IndexType.greatest c.args.kind (ReadsAs g.F.Fn c.args.fn_node.now)
          (ReadsAs g.G.Fn c.args.fn_edge.now) (view c.args.value.now) _ c.in_ok-parts.ensures.ok _ n _
          c.in_ok-edges.ensures.ok _ h)
    ]
