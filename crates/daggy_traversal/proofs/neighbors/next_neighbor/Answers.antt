use Rattle.std.proofs.Common.{ap, refl, ◌∙◌}
use Rattle.daggy_base.specs.Cursor.{cursor_after}
use Rattle.daggy_base.proofs.EdgeEnds.{edge_here}
use Rattle.daggy_traversal.proofs.Edges.{far_same}
use Rattle.daggy_traversal.proofs.neighbors.next_neighbor.Goals as goal

pub returns-clause-some : goal.returns-clause-some
returns-clause-some g c =
    let graph = g.S.EdgeSource.graph c.args.graph.now in
    let number = g.Ix.IndexType.number in
    let parent = number c.in_ok-parent.parent in
    let child = number c.in_ok-parent.child in
    let ends = edge_here graph (number c.args.e) (number c.args.e) (parent, child) refl c.in_ok-parent.ensures in
    record {
      edge = ends.0;
      at = ends.1;
      far = c.far_end.ensures ∙ far_same c.args.dir ends.0 parent child ends.2 ends.3;
      next_is =
          c.next_edge.ensures
          ∙ ap (λ o. cursor_after c.args.dir g.Ix.IndexType.greatest graph (number c.args.e) o) ends.1;
    }
