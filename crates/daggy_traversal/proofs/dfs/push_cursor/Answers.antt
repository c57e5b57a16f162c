use Rattle.std.proofs.Common.{◌≡◌, ◌∙◌, ◌++◌, sym, ap}
use Rattle.daggy_base.specs.Graph.{edge_at}
use Rattle.daggy_traversal.specs.Depth.{ahead}
use Rattle.daggy_traversal.specs.Traversal.{neighbors_left}
use Rattle.daggy_traversal.proofs.Edges.{none_at_end}
use Rattle.daggy_traversal.proofs.Descending.{ahead_push, none_left_there}
use Rattle.daggy_traversal.proofs.dfs.push_cursor.Goals as goal

pub returns-then-index-clause-ahead : goal.returns-then-index-clause-ahead
returns-then-index-clause-ahead g c =
    let dir = c.args._dir in
    let graph = g.S.EdgeSource.graph c.args.graph.now in
    let old = c.args.cursors.now.items in
    ap (λ z. ahead dir graph z) c.push_reserved.ensures.items
    ∙ (ahead_push dir graph old c.of_edge.result
    ∙ ap (λ k. neighbors_left dir graph k ++ ahead dir graph old) c.of_edge.ensures)

pub returns-else-index-clause-ahead : goal.returns-else-index-clause-ahead
returns-else-index-clause-ahead g c =
    let dir = c.args._dir in
    let graph = g.S.EdgeSource.graph c.args.graph.now in
    let at_end : g.Ix.IndexType.number c.args.e ≡ g.Ix.IndexType.greatest = cc in
    let none = none_left_there dir graph (g.Ix.IndexType.number c.args.e)
    (ap (λ k. edge_at graph k) at_end ∙ none_at_end c.invariant.ensures.well_formed dir) in
    ap (λ z. z ++ ahead dir graph c.args.cursors.now.items) (sym none)
