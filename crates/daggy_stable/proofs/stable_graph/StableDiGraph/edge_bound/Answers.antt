use Rattle.std.proofs.Common.{length, sym, ap, ◌∙◌, arith}
use Rattle.daggy_base.specs.Graph.{edge_bound}
use Rattle.daggy_stable.specs.Stored.{plain_edge}
use Rattle.daggy_stable.proofs.Stores.{edges_long}
use Rattle.daggy_stable.proofs.ListSearches.{plain_some, back_start, back_step, back_found, back_all}
use Rattle.daggy_stable.proofs.stable_graph.StableDiGraph.edge_bound.Goals as goal

pub back-init : goal.back-init
back-init g c = record {
  within =
      omega (arith, c.edge_slots-n.ensures, ap (λ s. length s.graph.edges) c.self.view_is, edges_long c.self.invariant);
  same = back_start plain_edge c.self.inside.edges.items c.edge_slots-n.result (omega (
    arith,
    c.edge_slots-n.ensures,
    ap (λ s. length s.graph.edges) c.self.view_is,
    edges_long c.self.invariant,
  ));
}

pub back-preserved : goal.back-preserved
back-preserved g c =
    record {
      within = omega (arith, c.back.invariant.within);
      same =
          back_step plain_edge _ _ _ _ c.back.invariant.within c.index-x.ensures (c.is_some.ensures
          ∙ sym (plain_some c.index-x.result.now)) c.back-test.true c.if-is_some.false c.back.invariant.same;
    }

pub returns-then-is_some : goal.returns-then-is_some
returns-then-is_some g c =
    back_found plain_edge _ _ _ _ c.back.invariant.within c.index-x.ensures
    (c.is_some.ensures ∙ sym (plain_some c.index-x.result.now)) c.back-test.true c.if-is_some.true c.back.invariant.same
    ∙ ap (λ s. edge_bound s.graph) c.self.view_is

pub returns : goal.returns
returns g c = back_all _ _ c.back-test.false c.back.invariant.same ∙ ap (λ s. edge_bound s.graph) c.self.view_is
