use Rattle.std.proofs.Common.{◌∙◌, ap}
use Rattle.std.specs.Option.{option_map}
use Rattle.daggy_base.specs.FromSlots.{edge_of}
use Rattle.daggy_tables.proofs.EdgeBounds.{bound_more, item_ends}
use Rattle.daggy_tables.specs.Tables.{bound_after}
use Rattle.daggy_tables.proofs.graphs.node_bound.Goals as goal

pub bound_with-bound-requires : goal.bound_with-bound-requires
bound_with-bound-requires g c =
    item_ends g.Ix.IndexType.number g.Ix.IndexType.greatest c.args.edges.now c.edges.edge-index c.edge-item.result c.requires c.edges-test.true
    c.edge-item.is

pub edges-preserved : goal.edges-preserved
edges-preserved g c =
    let number = g.Ix.IndexType.number in
    bound_more number c.args.edges.now c.edges.edge-index c.edge-item.result c.edges.bound _ c.edges-test.true c.edges.invariant
    (c.bound_with-bound.ensures ∙ ap (λ o. bound_after c.edges.bound (option_map (edge_of number) o)) c.edge-item.is)
