use Rattle.std.proofs.Common.{ap}
use Rattle.std.specs.Option.{option_map}
use Rattle.daggy_base.specs.Graph.{pair_of}
use Rattle.daggy_search.proofs.ReadAhead.{looked_ahead}
use Rattle.daggy_search.proofs.reading.ReadingEdgeSource.look.Goals as goal

pub returns-clause-gives : goal.returns-clause-gives
returns-clause-gives g c =
    let number = g.Ix.IndexType.number in
    rw (← c.self.view_is) (looked_ahead g.Ix.IndexType.greatest _ (number c.args.e)
    (pair_of number c.unwrap-child.result) (ap (option_map (pair_of number)) c.unwrap-child.ensures)
    c.edge_endpoints.ensures c.next_edge-next.ensures)
