use Rattle.std.proofs.Common.{◌≡◌, map, length, inr, sym, ap, ◌∙◌, rules}
use Rattle.std.specs.Option.{option_map}
use Rattle.std.proofs.lemmas.Bool.{false≢true}
use Rattle.std.proofs.lemmas.List.{length-map}
use Rattle.serde_json.specs.View.{view}
use Rattle.daggy_base.specs.Orders.{numbers_of}
use Rattle.daggy_json.specs.Found.{edge_of}
use Rattle.daggy_json.proofs.OrderBounds.{orders_some, orders_none}
use Rattle.daggy_json.proofs.ComposedStages.{ordered_with, not_these}
use Rattle.daggy_json.proofs.FaultPlaces.{orders_wrong}
use Rattle.daggy_json.proofs.reading.gathering.read_orders.Goals as goal

pub wrong_orders-requires-clause-wrong : goal.wrong_orders-requires-clause-wrong
wrong_orders-requires-clause-wrong g c =
    let edges = c.args.edges.now.items in
    let long : c.len.result ≡ length (map (option_map (edge_of g.Ix.IndexType.number)) edges) =
    search rules ∙ sym (length-map edges (option_map (edge_of g.Ix.IndexType.number))) in
    orders_none c.args.nodes.now.items (map (option_map (edge_of g.Ix.IndexType.number)) edges) c.len.result long
    (view c.in-Some.value.now) (sym c.in_ok-rows.ensures
    ∙ ap (option_map (λ v. map (numbers_of g.Ix.IndexType.number) v.items)) c.in_default-2.is)

pub wrong_orders-requires-then-not-branch-clause-wrong : goal.wrong_orders-requires-then-not-branch-clause-wrong
wrong_orders-requires-then-not-branch-clause-wrong g c =
    let some =
    orders_some c.len.result (view c.in-Some.value.now) _
    (sym c.in_ok-rows.ensures ∙ ap (option_map (λ v. map (numbers_of g.Ix.IndexType.number) v.items)) c.in-Some-2.is) in
    not_these _ (view c.in-Some.value.now) _ some
    (λ are. false≢true (sym c.if-not-branch.true ∙ c.in_ok-are_orders.ensures.1 are))

pub returns-clause-ok : goal.returns-clause-ok
returns-clause-ok g c =
    let some =
    orders_some c.len.result (view c.in-Some.value.now) _
    (sym c.in_ok-rows.ensures ∙ ap (option_map (λ v. map (numbers_of g.Ix.IndexType.number) v.items)) c.in-Some-2.is) in
    ordered_with _ c.args.orders c.in-Some.value c.in-Some.is _ some
    (c.in_ok-are_orders.ensures.0 c.if-not-branch.false)

pub returns-in_default-2-clause-err : goal.returns-in_default-2-clause-err
returns-in_default-2-clause-err g c =
    let edges = c.args.edges.now.items in
    let long : c.len.result ≡ length (map (option_map (edge_of g.Ix.IndexType.number)) edges) =
    search rules ∙ sym (length-map edges (option_map (edge_of g.Ix.IndexType.number))) in
    inr (orders_wrong _ c.args.orders c.in-Some.value c.in-Some.is
    (orders_none c.args.nodes.now.items (map (option_map (edge_of g.Ix.IndexType.number)) edges) c.len.result long
    (view c.in-Some.value.now) (sym c.in_ok-rows.ensures
    ∙ ap (option_map (λ v. map (numbers_of g.Ix.IndexType.number) v.items)) c.in_default-2.is))
    c.in_ok-wrong_orders.field-0 c.in_ok-wrong_orders.ensures.error c.in_ok-wrong_orders.ensures.member
    c.in_ok-wrong_orders.ensures.place)

pub returns-then-not-branch-clause-err : goal.returns-then-not-branch-clause-err
returns-then-not-branch-clause-err g c =
    let some =
    orders_some c.len.result (view c.in-Some.value.now) _
    (sym c.in_ok-rows.ensures ∙ ap (option_map (λ v. map (numbers_of g.Ix.IndexType.number) v.items)) c.in-Some-2.is) in
    inr (orders_wrong _ c.args.orders c.in-Some.value c.in-Some.is (not_these _ (view c.in-Some.value.now) _ some
    (λ are. false≢true (sym c.if-not-branch.true ∙ c.in_ok-are_orders.ensures.1 are)))
    c.in_ok-wrong_orders-2.field-0 c.in_ok-wrong_orders-2.ensures.error c.in_ok-wrong_orders-2.ensures.member
    c.in_ok-wrong_orders-2.ensures.place)
