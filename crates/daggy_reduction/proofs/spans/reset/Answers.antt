use Rattle.std.proofs.Common.{arith, ◌<◌}
use Rattle.daggy_search.proofs.Sized.{sized_put_node, sized_put_cursor}
use Rattle.daggy_reduction.proofs.NotedEdges.{reset_on, reset_all}
use Rattle.daggy_reduction.proofs.spans.reset.Goals as goal

pub entries-preserved : goal.entries-preserved
entries-preserved g c =
    let s = c.entries.invariant in
    let i = c.entries.i in
    let low : i < c.entries.work.size = omega (arith, c.entries-test.true) in
    rw (c.put_cursor.ensures, c.put_node.ensures, c.new.ensures, c.end-end.ensures.value) record {
      sized = sized_put_cursor (sized_put_node s.sized i g.Ix.IndexType.greatest) i 0;
      nodes = reset_on c.entries.work.nodes i g.Ix.IndexType.greatest (omega (arith, low, s.sized.size_is, s.sized.nodes_are)) s.nodes;
      cursors = reset_on c.entries.work.cursors i 0 (omega (arith, low, s.sized.size_is, s.sized.cursors_are)) s.cursors;
    }

pub returns-clause-nodes : goal.returns-clause-nodes
returns-clause-nodes g c =
    let s = c.entries.invariant in
    reset_all c.entries.work.nodes c.entries.i g.Ix.IndexType.greatest
    (omega (arith, c.entries-test.false, s.sized.size_is, s.sized.nodes_are)) s.nodes

pub returns-clause-cursors : goal.returns-clause-cursors
returns-clause-cursors g c =
    let s = c.entries.invariant in
    reset_all c.entries.work.cursors c.entries.i 0
    (omega (arith, c.entries-test.false, s.sized.size_is, s.sized.cursors_are)) s.cursors
