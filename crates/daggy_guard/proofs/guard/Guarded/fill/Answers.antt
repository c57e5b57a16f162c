use Rattle.std.proofs.Common.{◌∙◌, ap, refl, subst, arith}
use Rattle.daggy_base.specs.Graph.{node_count, edge_count}
use Rattle.daggy_base.specs.WellFormed.{IsWellFormed}
use Rattle.daggy_guard.proofs.GuardedChange.{same_graph}
use Rattle.daggy_guard.proofs.FillLoop.{filling_starts, filling_on, fewer_missing, is_part_filled, edges_kept}
use Rattle.daggy_guard.proofs.guard.Guarded.fill.Goals as goal

pub nodes-init : goal.nodes-init
nodes-init g c = record { filling = filling_starts _ _ _; counted = refl }

pub returns-in-Err-clause-part : goal.returns-in-Err-clause-part
returns-in-Err-clause-part g c =
    is_part_filled c.nodes.invariant.filling (omega (arith, c.nodes-test.true, c.node_count.ensures, ap node_count (same_graph c.self.view_is))) _
    c.in-Err.ensures.unchanged

pub nodes-smaller : goal.nodes-smaller
nodes-smaller g c =
    let more = fewer_missing c.nodes.invariant.filling _ (subst (IsWellFormed g.Ix.IndexType.greatest) (same_graph c.self.view_is) c.invariant.ensures.well_formed) _ _ c.in-Ok.ensures.added.1 in
    omega (arith, more, c.nodes-test.true, c.node_count.ensures, ap node_count (same_graph c.self.view_is))

pub nodes-preserved : goal.nodes-preserved
nodes-preserved g c = record {
  filling =
      filling_on c.nodes.invariant.filling
      (subst (IsWellFormed g.Ix.IndexType.greatest) (same_graph c.self.view_is) c.invariant.ensures.well_formed)
      (omega (arith, c.nodes-test.true, c.node_count.ensures, ap node_count (same_graph c.self.view_is))) _ c.default.ensures c.in-Ok.ensures.added.1;
  counted = c.add_node.ensures.counted ∙ c.nodes.invariant.counted;
}

pub returns-in-Err-clause-edges : goal.returns-in-Err-clause-edges
returns-in-Err-clause-edges g c =
    ap edge_count (c.in-Err.ensures.unchanged ∙ c.nodes.invariant.filling.added)
    ∙ edges_kept _ c.nodes.invariant.filling.weights

pub returns-clause-edges : goal.returns-clause-edges
returns-clause-edges g c =
    ap edge_count c.nodes.invariant.filling.added ∙ edges_kept _ c.nodes.invariant.filling.weights
