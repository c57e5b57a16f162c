use Rattle.std.proofs.Common.{◌≡◌, ◌++◌, map, sym, ap, subst, ◌∙◌, arith, List, ℕ}
use Rattle.std.proofs.lemmas.Bool.{false≢true}
use Rattle.std.proofs.lemmas.List.{append-nil}
use Rattle.daggy_base.specs.Graph.{HasNode, out_list, in_list}
use Rattle.daggy_base.specs.Orders.{numbers_of, AreOrders, with_orders}
use Rattle.daggy_operators.specs.Children.{with_out_list}
use Rattle.daggy_operators.proofs.ChildOrder.{rows_at, rows_pushed, rows_pass, rows_next, rows_over, orders_make, are_orders}
use Rattle.daggy_operators.proofs.children.rows_with.Given.{Over}
use Rattle.daggy_operators.proofs.children.rows_with.Goals.{After-nodes}
use Rattle.daggy_operators.proofs.children.rows_with.Goals as goal

pub nodes-init : goal.nodes-init
nodes-init g c =
    let number = g.Ix.IndexType.number in
    let graph = g.S.EdgeSource.graph c.args.store.now in
    let other = with_out_list graph (number c.args.n) (map number c.args.order.now) in
    ap (λ z. map (numbers_of number) z ++ rows_at other 0 graph.nodes) c.in_ok-rows.ensures.items

pub nodes-preserved-then-not-contains_node : goal.nodes-preserved-then-not-contains_node
nodes-preserved-then-not-contains_node g c =
    let number = g.Ix.IndexType.number in
    let graph = g.S.EdgeSource.graph c.args.store.now in
    let other = with_out_list graph (number c.args.n) (map number c.args.order.now) in
    let P : ℕ → Type 0 = λ z. HasNode graph z in
    let pass = rows_pass other graph.nodes c.nodes.i (omega (arith, c.nodes-test.true, c.node_slots-i-end.ensures))
    (λ some. false≢true (sym c.if-not-contains_node.true
    ∙ c.contains_node.ensures.exists.1 (subst P (sym c.new-at.ensures.number) some))) in
    ap (λ z. map (numbers_of number) c.nodes.rows.items ++ z) (sym pass) ∙ c.nodes.invariant

pub nodes-preserved : goal.nodes-preserved
nodes-preserved g c =
    let number = g.Ix.IndexType.number in
    let graph = g.S.EdgeSource.graph c.args.store.now in
    let other = with_out_list graph (number c.args.n) (map number c.args.order.now) in
    let P : ℕ → Type 0 = λ z. HasNode graph z in
    let out = c.in_ok-out.ensures ∙ ap (out_list other) c.new-at.ensures.number in
    let into = c.in_ok-into.ensures ∙ ap (in_list other) c.new-at.ensures.number in
    rows_pushed (numbers_of number) c.nodes.rows.items (c.in_ok-out.out, c.in_ok-into.into) c.in_ok-push.ensures.items
    (ap (λ z. (z, map number c.in_ok-into.into.items)) out ∙ ap (λ z. (out_list other c.nodes.i, z)) into)
    (rows_next other graph.nodes c.nodes.i (omega (arith, c.nodes-test.true, c.node_slots-i-end.ensures))
    (subst P c.new-at.ensures.number (c.contains_node.ensures.exists.0 c.if-not-contains_node.false))) c.nodes.invariant

-- the rows of all nodes
all : (g : Over) (c : After-nodes g) → map (numbers_of g.Ix.IndexType.number) c.nodes.rows.items
    ≡ rows_at (with_out_list (g.S.EdgeSource.graph c.args.store.now) (g.Ix.IndexType.number c.args.n)
    (map g.Ix.IndexType.number c.args.order.now)) 0 (g.S.EdgeSource.graph c.args.store.now).nodes
all g c =
    let number = g.Ix.IndexType.number in
    let graph = g.S.EdgeSource.graph c.args.store.now in
    let other = with_out_list graph (number c.args.n) (map number c.args.order.now) in
    let rows = map (numbers_of number) c.nodes.rows.items in
    let over = rows_over other graph.nodes c.nodes.i (omega (arith, c.nodes-test.false, c.node_slots-i-end.ensures)) in
    sym (append-nil rows) ∙ (ap (λ z. rows ++ z) (sym over) ∙ c.nodes.invariant)

pub returns-clause-orders : goal.returns-clause-orders
returns-clause-orders g c =
    let number = g.Ix.IndexType.number in
    let graph = g.S.EdgeSource.graph c.args.store.now in
    subst (λ (z : List (List ℕ × List ℕ)). AreOrders graph z) (sym (all g c))
    (are_orders c.invariant.ensures.well_formed (number c.args.n) c.requires.node (map number c.args.order.now)
    c.requires.order)

pub returns-clause-graph : goal.returns-clause-graph
returns-clause-graph g c =
    let number = g.Ix.IndexType.number in
    let graph = g.S.EdgeSource.graph c.args.store.now in
    ap (with_orders graph) (all g c)
    ∙ orders_make c.invariant.ensures.well_formed (number c.args.n) c.requires.node (map number c.args.order.now)
