use Rattle.std.proofs.Common.{map, arith}
use Rattle.std.proofs.lemmas.List.{length-map}
use Rattle.daggy_stable.specs.Stored.{plain_edge}
use Rattle.daggy_stable.proofs.VacantPassed.{numbered_few}
use Rattle.daggy_stable.proofs.stable_graph.StableDiGraph.edge_references.Goals as goal

pub returns-clause-fits : goal.returns-clause-fits
returns-clause-fits g c =
    omega (
      arith,
      numbered_few 0 (map plain_edge c.as_slice.result.now),
      length-map c.as_slice.result.now plain_edge,
      c.as_slice.ensures.len,
    )
