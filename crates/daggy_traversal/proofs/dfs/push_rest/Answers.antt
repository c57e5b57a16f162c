use Rattle.std.proofs.Common.{rules, arith, length, vec_len, take, ◌≡◌, ◌∙◌, ◌++◌, ◌-◌, ◌∷◌, [], sym, ap}
use Rattle.std.proofs.Math.Seq.{take-append_seam}
use Rattle.daggy_base.specs.Graph.{edge_at}
use Rattle.daggy_traversal.specs.Depth.{ahead}
use Rattle.daggy_traversal.specs.Traversal.{neighbors_left}
use Rattle.daggy_traversal.proofs.Edges.{none_at_end}
use Rattle.daggy_traversal.proofs.Descending.{ahead_push, none_left_there}
use Rattle.daggy_traversal.proofs.dfs.push_rest.Goals as goal

-- the cursor that was pushed is taken back
pub returns-then-index-clause-ahead : goal.returns-then-index-clause-ahead
returns-then-index-clause-ahead g c =
    let dir = c.args._dir in
    let graph = g.S.EdgeSource.graph c.args.graph.now in
    let old = c.args.cursors.now.items in
    let at_end : g.Ix.IndexType.number c.args.e ≡ g.Ix.IndexType.greatest = cc in
    let none = none_left_there dir graph (g.Ix.IndexType.number c.args.e)
    (ap (λ k. edge_at graph k) at_end ∙ none_at_end c.invariant.ensures.well_formed dir) in
    let size : vec_len c.args.cursors.now ≡ length old = search rules in
    let one : vec_len c.push_reserved.new.self - 1 ≡ length old = omega (arith, c.push_reserved.ensures.len, size) in
    let back : c.pop.new.self.items ≡ old = c.pop.ensures.rest
    ∙ (ap (λ n. take n c.push_reserved.new.self.items) one
    ∙ (ap (λ z. take (length old) z) c.push_reserved.ensures.items
    ∙ take-append_seam old (c.of_edge.result ∷ []))) in
    ap (λ z. ahead dir graph z) back
    ∙ ap (λ z. z ++ ahead dir graph old) (sym none)

pub returns-else-index-clause-ahead : goal.returns-else-index-clause-ahead
returns-else-index-clause-ahead g c =
    let dir = c.args._dir in
    let graph = g.S.EdgeSource.graph c.args.graph.now in
    let old = c.args.cursors.now.items in
    ap (λ z. ahead dir graph z) c.push_reserved.ensures.items
    ∙ (ahead_push dir graph old c.of_edge.result
    ∙ ap (λ k. neighbors_left dir graph k ++ ahead dir graph old) c.of_edge.ensures)
