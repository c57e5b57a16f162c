use Rattle.std.proofs.Common.{◌≡◌, ◌∙◌, ℕ, List, map, sym, ap, subst}
use Rattle.std.proofs.lemmas.Bool.{false≢true}
use Rattle.daggy_base.specs.Graph.{Graph, out_list}
use Rattle.daggy_base.specs.Orders.{IsOrder}
use Rattle.daggy_operators.specs.Children.{AreSiblings, put_before, with_out_list}
use Rattle.daggy_operators.proofs.ChildOrder.{siblings_parent, siblings_order, siblings_same}
use Rattle.daggy_operators.proofs.children.move_child_before.Given.{Over}
use Rattle.daggy_operators.proofs.children.move_child_before.Goals.{After-as_slice-2}
use Rattle.daggy_operators.proofs.children.move_child_before.Goals as goal

pub returns-in_default-clause-answer : goal.returns-in_default-clause-answer
returns-in_default-clause-answer g c =
    let P : Graph g.row.N.Denot g.row.E.Denot → Type 0 = λ z. (n : ℕ)
    → AreSiblings z n (g.Ix.IndexType.number c.args.edge) (g.Ix.IndexType.number c.args.before) → ⊥ in
    (λ h. absurd (false≢true h), λ p. absurd (subst P c.graph.ensures.graph c.in_default.ensures.none p.0 p.1))

-- both edges leave the node
siblings : (g : Over) (c : After-as_slice-2 g) → AreSiblings c.args.dag.now.graph (g.Ix.IndexType.number c.in-Some.n)
    (g.Ix.IndexType.number c.args.edge) (g.Ix.IndexType.number c.args.before)
siblings g c =
    let number = g.Ix.IndexType.number in
    let P : Graph g.row.N.Denot g.row.E.Denot → Type 0 = λ z.
    AreSiblings z (number c.in-Some.n) (number c.args.edge) (number c.args.before) in
    subst P c.graph.ensures.graph c.in-Some.ensures.some

-- the order that the node gets
order : (g : Over) (c : After-as_slice-2 g) → map g.Ix.IndexType.number c.as_slice-2.result.now
    ≡ put_before (g.Ix.IndexType.number c.args.edge) (g.Ix.IndexType.number c.args.before)
    (out_list c.args.dag.now.graph (g.Ix.IndexType.number c.in-Some.n))
order g c =
    let number = g.Ix.IndexType.number in
    let put = put_before (number c.args.edge) (number c.args.before) in
    ap (map number) c.as_slice-2.ensures.value
    ∙ (c.in_ok-order.ensures
    ∙ (ap (λ z. put (map number z)) c.as_slice.ensures.value
    ∙ (ap put c.in_ok-list.ensures
    ∙ ap (λ (z : Graph g.row.N.Denot g.row.E.Denot). put (out_list z (number c.in-Some.n))) c.graph-2.ensures.graph)))

pub set_out_list-requires-clause-node : goal.set_out_list-requires-clause-node
set_out_list-requires-clause-node g c = siblings_parent c.node_count-count.ensures.dag.well_formed (siblings g c)

pub set_out_list-requires-clause-order : goal.set_out_list-requires-clause-order
set_out_list-requires-clause-order g c =
    let list = out_list c.args.dag.now.graph (g.Ix.IndexType.number c.in-Some.n) in
    subst (λ (z : List ℕ). IsOrder list z) (sym (order g c))
    (siblings_order c.node_count-count.ensures.dag.well_formed (siblings g c))

pub returns-clause-moved : goal.returns-clause-moved
returns-clause-moved g c =
    let number = g.Ix.IndexType.number in
    let put = put_before (number c.args.edge) (number c.args.before) in
    let graph = c.args.dag.now.graph in
    let at = (goal.at.returns-clause-moved g c).After-as_slice-2 in
    λ done n both.
    c.in_ok-set_out_list.ensures.ordered
    ∙ (ap (with_out_list graph (number c.in-Some.n)) (order g at)
    ∙ ap (λ k. with_out_list graph k (put (out_list graph k)))
    (siblings_same c.node_count-count.ensures.dag.well_formed (siblings g at) both))
