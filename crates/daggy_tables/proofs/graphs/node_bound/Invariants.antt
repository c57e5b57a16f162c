use Rattle.std.proofs.Common.{◌≡◌, take}
use Rattle.daggy_tables.proofs.EdgeBounds.{texts_of}
use Rattle.daggy_tables.specs.Tables.{ends_bound}
use Rattle.daggy_tables.proofs.graphs.node_bound.Given as goal

abbrev pub invariant-edges : goal.invariant-edges
invariant-edges g l = l.bound ≡ ends_bound (texts_of g.Ix.IndexType.number (take l.edge-index l.edges))
