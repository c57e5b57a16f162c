use Rattle.std.proofs.Common.{◌≡◌, ◌+◌, ◌<◌, ◌∙◌, max, ap, subst, rules, arith}
use Rattle.daggy_base.specs.Graph.{edge_count}
use Rattle.daggy_base.specs.WellFormed.{IsWellFormed}
use Rattle.daggy_guard.specs.EdgeBatch.{HasEnds}
use Rattle.daggy_guard.specs.Extension.{IsFilled, HasIndices}
use Rattle.daggy_guard.proofs.GuardedChange.{same_graph}
use Rattle.daggy_guard.proofs.FillLoop.{edges_kept}
use Rattle.daggy_guard.proofs.AcceptedEdges.{count_with_edge}
use Rattle.daggy_guard.proofs.RefusedEdge.{ok_not_err, stopped_after}
use Rattle.daggy_guard.proofs.guard.Guarded.extend_by.Given.{Over}
use Rattle.daggy_guard.proofs.guard.Guarded.extend_by.Goals.{After-add_edge, In-Ok}
use Rattle.daggy_guard.proofs.guard.Guarded.extend_by.Goals as goal

pub add_edge-requires-clause-index_left : goal.add_edge-requires-clause-index_left
add_edge-requires-clause-index_left g c =
    let filled : IsFilled g.S.NodeWeight.Default.is_default c.max.result c.args.self.now.graph
    c.fill.new.self.graph =
    search rules in
    let left : edge_count c.args.self.now.graph < g.Ix.IndexType.greatest = search rules in
    omega (arith, ap edge_count filled.added, edges_kept c.args.self.now.graph filled.weights, left)

-- the edge has indices, and its nodes were added
ready : (g : Over) (c : After-add_edge g)
    → HasIndices g.S.NodeWeight.Default.is_default g.Ix.IndexType.greatest c.args.self.now.graph
    (g.Ix.IndexType.number c.args.a, g.Ix.IndexType.number c.args.b, c.args.weight)
    × IsFilled g.S.NodeWeight.Default.is_default (max (g.Ix.IndexType.number c.args.a) (g.Ix.IndexType.number c.args.b))
    c.args.self.now.graph c.fill.new.self.graph
    × HasEnds c.fill.new.self.graph (g.Ix.IndexType.number c.args.a, g.Ix.IndexType.number c.args.b, c.args.weight)
ready g c = (search rules, search rules, (search rules, search rules))

pub returns-in-Ok-clause-extended : goal.returns-in-Ok-clause-extended
returns-in-Ok-clause-extended g c =
    let r = ready g (goal.at.returns-in-Ok-clause-extended g c).After-add_edge in
    record {
      filled = c.fill.new.self.graph;
      indices = r.0;
      nodes = r.1;
      ends = r.2;
      apart = λ back. ok_not_err c.in-Ok.is (c.add_edge.ensures.cycle.1 back);
      added = c.in-Ok.ensures.added.1;
    }

pub returns-in-Err-clause-stopped : goal.returns-in-Err-clause-stopped
returns-in-Err-clause-stopped g c =
    let r = ready g (goal.at.returns-in-Err-clause-stopped g c).After-add_edge in
    stopped_after g.S.NodeWeight.Default.is_default c.args.self.now.graph
    (g.Ix.IndexType.number c.args.a, g.Ix.IndexType.number c.args.b, c.args.weight) c.in-Err.ensures.unchanged
    r.0 r.1 r.2
    record { is = c.in-Err.is; cycle = c.add_edge.ensures.cycle; cause = c.in-Err.ensures.refusal }

pub returns-then-is_err-clause-as_many : goal.returns-then-is_err-clause-as_many
returns-then-is_err-clause-as_many g c = c.fill.ensures.edges

pub returns-then-not-contains_node-clause-as_many : goal.returns-then-not-contains_node-clause-as_many
returns-then-not-contains_node-clause-as_many g c = c.fill.ensures.edges

pub returns-in-Err-clause-as_many : goal.returns-in-Err-clause-as_many
returns-in-Err-clause-as_many g c = ap edge_count c.in-Err.ensures.unchanged ∙ c.fill.ensures.edges

-- there is one edge more then
one_more : (g : Over) (c : In-Ok g)
    → edge_count c.add_edge.new.self.graph ≡ edge_count c.fill.new.self.graph + 1
one_more g c =
    ap edge_count c.in-Ok.ensures.added.1
    ∙ count_with_edge _ _ _ _ _ (subst (IsWellFormed g.Ix.IndexType.greatest) (same_graph c.self-2.view_is)
    c.contains_node.ensures.well_formed)

pub returns-in-Ok-clause-more : goal.returns-in-Ok-clause-more
returns-in-Ok-clause-more g c =
    one_more g (goal.at.returns-in-Ok-clause-more g c).In-Ok ∙ ap (λ n. n + 1) c.fill.ensures.edges

pub returns-in-Ok-clause-counted : goal.returns-in-Ok-clause-counted
returns-in-Ok-clause-counted g c =
    let more = one_more g (goal.at.returns-in-Ok-clause-counted g c).In-Ok in
    omega (arith, more, c.add_edge.ensures.counted, c.fill.ensures.counted)
