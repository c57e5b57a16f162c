use Rattle.std.proofs.Common.{arith}
use Rattle.daggy_cells.specs.Fields.{plain}
use Rattle.daggy_cells.proofs.RestLemmas.{length-numbered}
use Rattle.daggy_graph.proofs.graph.DiGraph.edge_references.Goals as goal

pub returns-clause-fits : goal.returns-clause-fits
returns-clause-fits g c = omega (arith, length-numbered plain 0 c.as_slice.result.now, c.as_slice.ensures.len)
