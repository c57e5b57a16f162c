use Rattle.std.proofs.Common.{◌++◌, map, refl, ap, ◌∙◌}
use Rattle.daggy_traversal.specs.Traversal.{neighbors_left}
use Rattle.daggy_traversal.proofs.Descending.{none_left_there}
use Rattle.daggy_traversal.proofs.Edges.{left_first, left_next}
use Rattle.daggy_traversal.proofs.Listed.{read_more, read_all}
use Rattle.daggy_traversal.proofs.Seeking.{seeks_less}
use Rattle.daggy_traversal.proofs.oldest_first.listed_neighbors.Goals as goal

pub edges-init : goal.edges-init
edges-init g c =
    let number = g.Ix.IndexType.number in
    let graph = g.S.EdgeSource.graph c.args.graph.now in
    ap (λ z. map number z ++ neighbors_left c.args.dir graph (number c.first_edge-e.result)) c.new-nodes.ensures.items
    ∙ left_first c.invariant.ensures.well_formed c.args.dir (number c.args.n) (number c.first_edge-e.result)
    c.first_edge-e.ensures

pub edges-smaller : goal.edges-smaller
edges-smaller g c = seeks_less c.invariant.ensures.well_formed c.in-Some.ensures.some

pub edges-preserved : goal.edges-preserved
edges-preserved g c =
    read_more g.Ix.IndexType.number c.edges.nodes.items _ c.in_ok-push.ensures.items refl
    (left_next c.invariant.ensures.well_formed c.args.dir c.in-Some.ensures.some) c.edges.invariant

pub returns : goal.returns
returns g c =
    read_all g.Ix.IndexType.number c.edges.nodes.items
    (none_left_there c.args.dir (g.S.EdgeSource.graph c.args.graph.now) (g.Ix.IndexType.number c.edges.e)
    c.in_default.ensures.none) c.edges.invariant
