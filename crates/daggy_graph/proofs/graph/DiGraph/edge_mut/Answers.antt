use Rattle.std.proofs.Common.{◌<◌, length, refl, sym, ap, ◌∙◌, arith}
use Rattle.std.specs.Option.{option_map}
use Rattle.daggy_base.specs.Graph.{edge_at}
use Rattle.daggy_base.specs.Weights.{with_edge_weight}
use Rattle.daggy_cells.specs.Fields.{plain}
use Rattle.daggy_graph.specs.Stored.{stored_graph}
use Rattle.daggy_cells.proofs.States.{state_changed}
use Rattle.daggy_graph.proofs.StoredLemmas.{stored_is, Stores-itself, Stores-edge_weight}
use Rattle.daggy_base.proofs.MappedSlots.{slot_within, slot_is}
use Rattle.daggy_graph.proofs.graph.DiGraph.edge_mut.Goals as goal

pub index_mut-x-requires : goal.index_mut-x-requires
index_mut-x-requires g c =
    let within = slot_within (plain) c.self.inside.edges.items _ (rw (← c.self.view_is) at c.requires) in
    omega (arith, within, c.index.ensures.value)

pub invariant_of-self-lent : goal.invariant_of-self-lent
invariant_of-self-lent g c w =
    let within = slot_within (plain) c.self.inside.edges.items _ (rw (← c.self.view_is) at c.requires) in
    let inside : c.index.result < length c.self.inside.edges.items = omega (arith, within, c.index.ensures.value) in
    Stores-itself _ _ _ _ (Stores-edge_weight c.self.invariant _ w inside c.index_mut-x.ensures.value)

pub returns : goal.returns
returns g c =
    let n = g.Ix.IndexType.number c.args.e in
    let within = slot_within (plain) c.self.inside.edges.items n (rw (← c.self.view_is) at c.requires) in
    let inside : c.index.result < length c.self.inside.edges.items = omega (arith, within, c.index.ensures.value) in
    let value =
    ap (λ i. edge_at (stored_graph c.self.inside.nodes.items c.self.inside.edges.items) i) (sym c.index.ensures.value)
    ∙ slot_is (plain) c.self.inside.edges.items _ _ inside c.index_mut-x.ensures.value in (
      (
        refl,
        λ w.
            state_changed _ (stored_graph c.self.inside.nodes.items c.self.inside.edges.items) _ _
            (λ h. with_edge_weight h n w) c.self.view_is
            (stored_is _ _ _ _ (Stores-edge_weight c.self.invariant _ w inside c.index_mut-x.ensures.value)
            ∙ ap (λ i. with_edge_weight (stored_graph c.self.inside.nodes.items c.self.inside.edges.items) i w)
            c.index.ensures.value),
      ),
      record {
        writes_back = tt;
        value = ap (option_map (λ x. x.weight)) (ap (λ s. edge_at s.graph n) (sym c.self.view_is) ∙ value);
      },
    )
