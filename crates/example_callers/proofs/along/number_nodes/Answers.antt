use Rattle.daggy_schedule.proofs.Reweighed.{still_under_way, parents_with_node_weight}
use Rattle.example_callers.proofs.Reweighed.{reweighed_more}
use Rattle.example_callers.proofs.along.number_nodes.Goals as goal

pub index_mut-requires : goal.index_mut-requires
index_mut-requires g c = (c.next.ensures.under_way.out (g.Ix.IndexType.number c.in-Some.n) c.in-Some.ensures.is_out.0).0

-- the weight of a node that was handed out is written, so the work goes on
pub done-requires-clause-under_way : goal.done-requires-clause-under_way
done-requires-clause-under_way g c =
    let n = g.Ix.IndexType.number c.in-Some.n in
    let exists = (c.next.ensures.under_way.out n c.in-Some.ensures.is_out.0).0 in
    still_under_way c.nodes.dag.graph _ (parents_with_node_weight c.nodes.dag.graph n c.nodes.number exists) c.next.new.self
    c.next.ensures.under_way

pub nodes-preserved : goal.nodes-preserved
nodes-preserved g c =
    let n = g.Ix.IndexType.number c.in-Some.n in
    let exists = (c.next.ensures.under_way.out n c.in-Some.ensures.is_out.0).0 in (
      c.done.ensures.under_way,
      reweighed_more c.args.dag.now.graph c.nodes.dag.graph n c.nodes.number exists c.nodes.invariant.1,
    )
