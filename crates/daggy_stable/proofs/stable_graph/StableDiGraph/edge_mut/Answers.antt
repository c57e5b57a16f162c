use Rattle.std.proofs.Common.{is_some, arith, refl, sym, ap, ◌∙◌}
use Rattle.std.specs.Option.{option_map, option_copied_mut}
use Rattle.daggy_base.specs.Graph.{edge_at}
use Rattle.daggy_base.specs.Weights.{with_edge_weight}
use Rattle.daggy_cells.proofs.States.{state_changed}
use Rattle.daggy_stable.specs.Stored.{stored_graph}
use Rattle.daggy_stable.proofs.Stores.{stored_is, Stores-itself, some_is, edge_within, edge_read, cell_of}
use Rattle.daggy_stable.proofs.StoredRemoval.{weight_plain}
use Rattle.daggy_stable.proofs.StoredWeights.{edge_weighed}
use Rattle.daggy_stable.proofs.stable_graph.StableDiGraph.edge_mut.Goals as goal

pub unwrap-requires : goal.unwrap-requires
unwrap-requires g c =
    let has = rw (← c.self.view_is, ← c.index.ensures.value) at c.requires in
    let found = some_is _ has in
    let within = edge_within c.self.invariant c.index.result found.0 found.1 in
    let stored =
    cell_of c.self.invariant c.index.result found.0 c.index_mut-x.result.now found.1 within
    c.index_mut-x.ensures.value in
    c.as_mut.ensures.variant ∙ ap is_some stored.1

pub invariant_of-self-lent : goal.invariant_of-self-lent
invariant_of-self-lent g c w =
    let has = rw (← c.self.view_is, ← c.index.ensures.value) at c.requires in
    Stores-itself
    (edge_weighed c.self.invariant c.index.result w c.index_mut-x.result.now has c.index_mut-x.ensures.value)

pub returns : goal.returns
returns g c =
    let e = g.Ix.IndexType.number c.args.e in
    let has = rw (← c.self.view_is, ← c.index.ensures.value) at c.requires in
    let was =
    stored_graph g.Ix.IndexType.greatest c.self.inside.nodes.items c.self.inside.edges.items
    c.self.inside.first_vacant_node c.self.inside.first_vacant_edge in
    let found = some_is _ has in
    let x = c.index_mut-x.result.now in
    let within = edge_within c.self.invariant c.index.result found.0 found.1 in
    let holds = sym c.as_mut.ensures.value ∙ ap option_copied_mut c.unwrap.ensures in
    let value =
    ap (option_map (λ z. z.weight)) (edge_read c.self.invariant c.index.result x within c.index_mut-x.ensures.value)
    ∙ weight_plain x ∙ holds in (
      (
        refl,
        λ w.
            state_changed _ was _ _ (λ h. with_edge_weight h e w) c.self.view_is
            (stored_is (edge_weighed c.self.invariant c.index.result w x has c.index_mut-x.ensures.value)
            ∙ ap (λ i. with_edge_weight was i w) c.index.ensures.value),
      ),
      record {
        writes_back = tt;
        value =
            ap (λ z. option_map (λ y. y.weight) (edge_at c.args.self.now.graph z)) (sym c.index.ensures.value)
            ∙ ap (λ s. option_map (λ y. y.weight) (edge_at s.graph c.index.result)) (sym c.self.view_is) ∙ value;
      },
    )

pub index_mut-x-requires : goal.index_mut-x-requires
index_mut-x-requires g c =
    let found = some_is _ (rw (← c.self.view_is, ← c.index.ensures.value) at c.requires) in
    let within = edge_within c.self.invariant c.index.result found.0 found.1 in
    omega (arith, within)
