use Rattle.std.proofs.Common.{IsSome, subst, arith, refl, sym, ap, ◌∙◌}
use Rattle.std.specs.Option.{option_copied_mut}
use Rattle.daggy_base.specs.Graph.{node_weight}
use Rattle.daggy_base.specs.Weights.{with_node_weight}
use Rattle.daggy_cells.proofs.States.{state_changed}
use Rattle.daggy_stable.specs.Stored.{stored_graph}
use Rattle.daggy_stable.proofs.Stores.{stored_is, Stores-itself}
use Rattle.daggy_stable.proofs.Changes.{node_inside}
use Rattle.daggy_stable.proofs.StoredRemoval.{node_weight_read}
use Rattle.daggy_stable.proofs.StoredWeights.{node_weighed}
use Rattle.daggy_stable.proofs.stable_graph.StableDiGraph.node_mut.Goals as goal

pub invariant_of-self-lent : goal.invariant_of-self-lent
invariant_of-self-lent g c w =
    let has = rw (← c.self.view_is, ← c.index.ensures.value) at c.requires in
    Stores-itself
    (node_weighed c.self.invariant c.index.result w c.index_mut-x.result.now has c.index_mut-x.ensures.value)

pub returns : goal.returns
returns g c =
    let n = g.Ix.IndexType.number c.args.n in
    let has = rw (← c.self.view_is, ← c.index.ensures.value) at c.requires in
    let was =
    stored_graph g.Ix.IndexType.greatest c.self.inside.nodes.items c.self.inside.edges.items
    c.self.inside.first_vacant_node c.self.inside.first_vacant_edge in
    let holds = sym c.as_mut.ensures.value ∙ ap option_copied_mut c.unwrap.ensures in
    let value =
    sym (node_weight_read c.self.invariant c.index.result c.index.result c.index_mut-x.result.now has refl
    c.index_mut-x.ensures.value)
    ∙ holds in (
      (
        refl,
        λ w.
            state_changed _ was _ _ (λ h. with_node_weight h n w) c.self.view_is (stored_is
            (node_weighed c.self.invariant c.index.result w c.index_mut-x.result.now has c.index_mut-x.ensures.value)
            ∙ ap (λ i. with_node_weight was i w) c.index.ensures.value),
      ),
      record {
        writes_back = tt;
        value =
            ap (node_weight c.args.self.now.graph) (sym c.index.ensures.value)
            ∙ ap (λ s. node_weight s.graph c.index.result) (sym c.self.view_is) ∙ value;
      },
    )

pub index_mut-x-requires : goal.index_mut-x-requires
index_mut-x-requires g c =
    let has = rw (← c.self.view_is, ← c.index.ensures.value) at c.requires in
    omega (arith, node_inside c.self.invariant c.index.result has)

pub unwrap-requires : goal.unwrap-requires
unwrap-requires g c =
    let has = rw (← c.self.view_is, ← c.index.ensures.value) at c.requires in
    c.as_mut.ensures.variant
    ∙ subst (λ o. IsSome o) (sym (node_weight_read c.self.invariant c.index.result c.index.result
    c.index_mut-x.result.now has refl c.index_mut-x.ensures.value)) has
