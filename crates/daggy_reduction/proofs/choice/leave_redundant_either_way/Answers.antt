use Rattle.std.proofs.Common.{inl, inr, arith}
use Rattle.daggy_base.specs.Graph.{node_count, edge_count}
use Rattle.daggy_reduction.proofs.BlockLooks.{blocks_few, blocks_spanned, searches_few}
use Rattle.daggy_reduction.proofs.PlacedNodes.{order_few}
use Rattle.daggy_reduction.proofs.SpannedLooks.{spanned_short}
use Rattle.daggy_reduction.proofs.choice.leave_redundant_either_way.Goals as goal

pub returns-then-is_ok-clause-exact : goal.returns-then-is_ok-clause-exact
returns-then-is_ok-clause-exact g c = rw c.blocks_pay.ensures.same at c.leave_redundant_by_blocks.ensures.exact

pub returns-then-is_ok-clause-counted : goal.returns-then-is_ok-clause-counted
returns-then-is_ok-clause-counted g c =
    let graph = g.S.EdgeSource.graph c.args.source.now in
    blocks_few (edge_count graph) _ _ _ (node_count graph) (c.blocks_pay.ensures.many c.if-blocks_pay.true)
    c.blocks_pay.ensures.counted (rw c.blocks_pay.ensures.same at c.leave_redundant_by_blocks.ensures.counted)

pub returns-then-is_ok-clause-spanned : goal.returns-then-is_ok-clause-spanned
returns-then-is_ok-clause-spanned g c =
    let edges = edge_count (g.S.EdgeSource.graph c.args.source.now) in
    let made = c.leave_redundant_by_blocks.ensures in
    let same = c.blocks_pay.ensures.same in
    elim (c.blocks_pay.ensures.fewer c.if-blocks_pay.true) [
      | inl few ↦ blocks_spanned edges _ _ _ _ _ c.blocks_pay.ensures.counted (rw same at made.counted) few
      | inr (near, few) ↦ omega (arith, c.blocks_pay.ensures.counted, rw same at made.near near, few)
    ]

pub returns-clause-exact : goal.returns-clause-exact
returns-clause-exact g c = rw c.blocks_pay.ensures.same at c.leave_redundant_in.ensures.exact

pub returns-clause-counted : goal.returns-clause-counted
returns-clause-counted g c =
    let graph = g.S.EdgeSource.graph c.args.source.now in
    let same = c.blocks_pay.ensures.same in
    searches_few (edge_count graph) _ _ _ (node_count graph) _ c.blocks_pay.ensures.unlooked
    c.blocks_pay.ensures.counted (rw same at c.leave_redundant_in.ensures.counted)
    (rw same at c.leave_redundant_in.ensures.spanned)
    (λ some. spanned_short c.node_bound-bound.ensures.well_formed c.requires.ordered (node_count graph) some
    (order_few c.args.order.now c.requires.ordered))
