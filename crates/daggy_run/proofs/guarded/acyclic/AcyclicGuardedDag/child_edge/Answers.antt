use Rattle.std.proofs.Common.{ap}
use Rattle.std.specs.Option.{option_map}
use Rattle.daggy_base.specs.Graph.{pair_of}
use Rattle.daggy_run.proofs.ListedNeighbors.{looked}
use Rattle.daggy_run.proofs.guarded.acyclic.AcyclicGuardedDag.child_edge.Goals as goal

pub returns : goal.returns
returns g c =
    let number = g.Ix.IndexType.number in
    looked g.Ix.IndexType.greatest c.args.self.now.graph (g.S.EdgeSource.graph c.graph-store.result.now)
    (number c.args.e) (pair_of number c.unwrap-child.result)
    c.graph-store.ensures.graph (ap (option_map (pair_of number)) c.unwrap-child.ensures) c.edge_endpoints.ensures
    c.next_edge-next.ensures
