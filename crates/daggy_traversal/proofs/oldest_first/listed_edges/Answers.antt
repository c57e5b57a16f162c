use Rattle.std.proofs.Common.{◌++◌, map, refl, ap, ◌∙◌}
use Rattle.daggy_base.specs.Graph.{pair_of}
use Rattle.daggy_traversal.proofs.Listed.{read_more, read_all, steps_left, steps_first, steps_next, no_steps_left}
use Rattle.daggy_traversal.proofs.Seeking.{seeks_less}
use Rattle.daggy_traversal.proofs.oldest_first.listed_edges.Goals as goal

pub edges-init : goal.edges-init
edges-init g c =
    let number = g.Ix.IndexType.number in
    let graph = g.S.EdgeSource.graph c.args.graph.now in
    ap (λ z. map (pair_of number) z ++ steps_left c.args.dir graph (number c.first_edge-e.result)) c.new-edges.ensures.items
    ∙ steps_first c.invariant.ensures.well_formed c.args.dir (number c.args.n) (number c.first_edge-e.result)
    c.first_edge-e.ensures

pub edges-smaller : goal.edges-smaller
edges-smaller g c = seeks_less c.invariant.ensures.well_formed c.in-Some.ensures.some

pub edges-preserved : goal.edges-preserved
edges-preserved g c =
    read_more (pair_of g.Ix.IndexType.number) c.edges.edges.items _ c.in_ok-push.ensures.items refl
    (steps_next c.invariant.ensures.well_formed c.args.dir c.in-Some.ensures.some) c.edges.invariant

pub returns : goal.returns
returns g c =
    read_all (pair_of g.Ix.IndexType.number) c.edges.edges.items
    (no_steps_left c.args.dir (g.S.EdgeSource.graph c.args.graph.now) (g.Ix.IndexType.number c.edges.e)
    c.in_default.ensures.none) c.edges.invariant
