use Rattle.std.proofs.Common.{◌≡◌, ◌∙◌, ℕ, List, Some, map, slice_get, sym, ap, subst, Contains}
use Rattle.daggy_base.specs.Graph.{Graph, out_list}
use Rattle.daggy_base.specs.Orders.{IsOrder}
use Rattle.daggy_operators.specs.SortedChildren.{Keyed, HasKey, keyed_by}
use Rattle.daggy_operators.proofs.SortedChildren.{keyed_order, still_of_each}
use Rattle.daggy_operators.proofs.sorted_children.sort_children_by_key.Given.{Over}
use Rattle.daggy_operators.proofs.sorted_children.sort_children_by_key.Goals.{After-as_slice-3}
use Rattle.daggy_operators.proofs.sorted_children.sort_children_by_key.Goals as goal

-- the list that was read
listed : (g : Over) (c : After-as_slice-3 g) → map g.Ix.IndexType.number c.as_slice.result.now
    ≡ out_list c.args.dag.now.graph (g.Ix.IndexType.number c.args.n)
listed g c =
    let number = g.Ix.IndexType.number in
    ap (map number) c.as_slice.ensures.value
    ∙ (c.in_ok-list.ensures
    ∙ ap (λ (z : Graph g.row.N.Denot g.row.E.Denot). out_list z (number c.args.n)) c.graph.ensures.graph)

-- the list that is written
sorted : (g : Over) (c : After-as_slice-3 g) → map g.Ix.IndexType.number c.as_slice-3.result.now
    ≡ map (λ p. p.edge) (keyed_by g.Ix.IndexType.number c.sort_keyed.new.keyed.items)
sorted g c =
    let number = g.Ix.IndexType.number in
    ap (map number) c.as_slice-3.ensures.value
    ∙ (c.in_ok-order.ensures ∙ ap (λ z. map (λ p. p.edge) (keyed_by number z)) c.as_slice-2.ensures.value)

permuted : (g : Over) (c : After-as_slice-3 g) → IsOrder (out_list c.args.dag.now.graph (g.Ix.IndexType.number c.args.n))
    (map g.Ix.IndexType.number c.as_slice-3.result.now)
permuted g c =
    let number = g.Ix.IndexType.number in
    let old = out_list c.args.dag.now.graph (number c.args.n) in
    subst (λ (z : List ℕ). IsOrder old z) (sym (sorted g c))
    (keyed_order (keyed_by number c.in_ok-keyed.keyed.items) (keyed_by number c.sort_keyed.new.keyed.items) old
    c.sort_keyed.ensures.permuted (c.in_ok-keyed.ensures.edges ∙ listed g c)
    (c.node_count-count.ensures.dag.well_formed.out_of.once (number c.args.n)))

pub set_out_list-requires-clause-order : goal.set_out_list-requires-clause-order
set_out_list-requires-clause-order g c = permuted g c

pub returns-clause-sorted : goal.returns-clause-sorted
returns-clause-sorted g c =
    let number = g.Ix.IndexType.number in
    let graph = c.args.dag.now.graph in
    let old = out_list graph (number c.args.n) in
    let before = keyed_by number c.in_ok-keyed.keyed.items in
    let after = keyed_by number c.sort_keyed.new.keyed.items in
    let at = (goal.at.returns-clause-sorted g c).After-as_slice-3 in
    let keys = subst (λ (z : Graph g.row.N.Denot g.row.E.Denot). (p : Keyed g.row.K.Denot) → Contains before p
    → HasKey g.Ix.IndexType.of (goal.F-post g) c.args.key z p) c.graph-2.ensures.graph c.in_ok-keyed.ensures.keys in
    let places = subst (λ (z : List ℕ). (p : Keyed g.row.K.Denot) → Contains before p
    → slice_get z p.place ≡ Some p.edge) (listed g at) c.in_ok-keyed.ensures.places in
    λ exists. (
      map number c.as_slice-3.result.now,
      record {
        permuted = permuted g at;
        keyed = after;
        edges = sym (sorted g at);
        keys = still_of_each (λ p. HasKey g.Ix.IndexType.of (goal.F-post g) c.args.key graph p) before after
            c.sort_keyed.ensures.permuted keys;
        places = still_of_each (λ p. slice_get old p.place ≡ Some p.edge) before after c.sort_keyed.ensures.permuted places;
        sorted = c.sort_keyed.ensures.sorted;
      },
      c.in_ok-set_out_list.ensures.ordered,
    )
