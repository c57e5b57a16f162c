use Rattle.std.proofs.Common.{arith}
use Rattle.daggy_dag.proofs.NodesBelow.{nodes_more}
use Rattle.daggy_dag.proofs.acyclic.reduction.nodes_below.Goals as goal

pub nodes-preserved : goal.nodes-preserved
nodes-preserved g c =
    record {
      within = omega (arith, c.nodes-test.true);
      there =
          nodes_more g.Ix.IndexType.number c.nodes.nodes.items c.new.result
          c.in_ok-push.ensures.items c.new.ensures.number c.nodes.invariant.there;
    }
