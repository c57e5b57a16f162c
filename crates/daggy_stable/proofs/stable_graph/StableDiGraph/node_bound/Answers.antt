use Rattle.std.proofs.Common.{length, ap, ◌∙◌, arith}
use Rattle.daggy_base.specs.Graph.{node_bound}
use Rattle.daggy_stable.specs.Stored.{weight_of}
use Rattle.daggy_stable.proofs.Stores.{nodes_long}
use Rattle.daggy_stable.proofs.ListSearches.{back_start, back_step, back_found, back_all}
use Rattle.daggy_stable.proofs.stable_graph.StableDiGraph.node_bound.Goals as goal

pub back-init : goal.back-init
back-init g c = record {
  within =
      omega (arith, c.node_slots-n.ensures, ap (λ s. length s.graph.nodes) c.self.view_is, nodes_long c.self.invariant);
  same = back_start weight_of c.self.inside.nodes.items c.node_slots-n.result (omega (
    arith,
    c.node_slots-n.ensures,
    ap (λ s. length s.graph.nodes) c.self.view_is,
    nodes_long c.self.invariant,
  ));
}

pub back-preserved : goal.back-preserved
back-preserved g c =
    record {
      within = omega (arith, c.back.invariant.within);
      same =
          back_step weight_of _ _ _ _ c.back.invariant.within c.index-x.ensures c.is_some.ensures c.back-test.true
          c.if-is_some.false c.back.invariant.same;
    }

pub returns-then-is_some : goal.returns-then-is_some
returns-then-is_some g c =
    back_found weight_of _ _ _ _ c.back.invariant.within c.index-x.ensures c.is_some.ensures c.back-test.true
    c.if-is_some.true c.back.invariant.same
    ∙ ap (λ s. node_bound s.graph) c.self.view_is

pub returns : goal.returns
returns g c = back_all _ _ c.back-test.false c.back.invariant.same ∙ ap (λ s. node_bound s.graph) c.self.view_is
