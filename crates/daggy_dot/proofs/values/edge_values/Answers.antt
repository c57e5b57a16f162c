use Rattle.std.proofs.Common.{rules, arith}
use Rattle.daggy_base.specs.Graph.{edge_at}
use Rattle.daggy_dot.specs.Values.{IsEdgeValue}
use Rattle.daggy_dot.proofs.Gathered.{in_use, mapped_in_use, one_more}
use Rattle.daggy_dot.proofs.values.edge_values.Goals as goal

pub edges-preserved : goal.edges-preserved
edges-preserved g c =
    let graph = g.S.EdgeSource.graph c.args.graph.now in
    let s = c.edges.invariant in
    record {
      sized = search rules;
      values =
          one_more (λ n z. IsEdgeValue g.Ix.IndexType.of (goal.F-post g) c.args.f graph n z) c.edges.values.items c.edge_value.result
          c.edges.x (omega (arith, s.sized, c.edges.values.ok.0)) s.values c.edge_value.ensures _ c.in_ok-push.ensures.items;
    }

pub returns : goal.returns
returns g c n w has =
    let graph = g.S.EdgeSource.graph c.args.graph.now in
    c.edges.invariant.values n (omega (arith, c.edges-test.false, c.edge_slots-x-end.ensures, (let found = mapped_in_use (λ x. x.weight) (edge_at graph n) w has in in_use graph.edges n found.0 found.1))) w has
