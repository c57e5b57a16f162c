use Rattle.std.proofs.Common.{rules, arith}
use Rattle.daggy_dot.specs.Values.{IsNodeValue}
use Rattle.daggy_dot.proofs.Gathered.{in_use, one_more}
use Rattle.daggy_dot.proofs.values.node_values.Goals as goal

pub nodes-preserved : goal.nodes-preserved
nodes-preserved g c =
    let graph = g.S.EdgeSource.graph c.args.graph.now in
    let s = c.nodes.invariant in
    record {
      sized = search rules;
      values =
          one_more (λ n z. IsNodeValue g.Ix.IndexType.of (goal.F-post g) c.args.f graph n z) c.nodes.values.items c.node_value.result
          c.nodes.x (omega (arith, s.sized, c.nodes.values.ok.0)) s.values c.node_value.ensures _ c.in_ok-push.ensures.items;
    }

pub returns : goal.returns
returns g c n w has =
    let graph = g.S.EdgeSource.graph c.args.graph.now in
    c.nodes.invariant.values n (omega (arith, c.nodes-test.false, c.node_slots-x-end.ensures, in_use graph.nodes n w has)) w has
