use Rattle.daggy_run.proofs.ListedNeighbors.{all_left, grows, fewer_left}
use Rattle.daggy_run.proofs.guarded.acyclic.walk_along.Goals as goal

pub edges-init : goal.edges-init
edges-init g c =
    rw c.new-items.ensures.items (all_left c.args.dir g.Ix.IndexType.greatest (g.S.EdgeSource.graph c.args.store.now)
    c.invariant.ensures.well_formed _ _ c.first_edge-cursor.ensures)

pub edges-smaller : goal.edges-smaller
edges-smaller g c =
    fewer_left c.args.dir g.Ix.IndexType.greatest (g.S.EdgeSource.graph c.args.store.now)
    c.invariant.ensures.well_formed g.Ix.IndexType.number _ _ c.in-Some.item c.in-Some.ensures

pub edges-preserved : goal.edges-preserved
edges-preserved g c =
    grows c.args.dir g.Ix.IndexType.greatest (g.S.EdgeSource.graph c.args.store.now)
    c.invariant.ensures.well_formed g.Ix.IndexType.number c.in-Some.item _ c.in-Some.ensures
    c.in_ok-push.ensures.items c.edges.invariant
