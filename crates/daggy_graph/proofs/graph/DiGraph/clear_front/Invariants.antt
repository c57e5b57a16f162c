use Rattle.std.proofs.Common.{length}
use Rattle.daggy_base.specs.Graph.{list_at}
use Rattle.daggy_base.specs.declared.kind.Kind.TheVariants.{Compact}
use Rattle.daggy_cells.proofs.IsolatedNode.{IsClearing}
use Rattle.daggy_graph.proofs.graph.DiGraph.clear_front.Given as goal

abbrev pub invariant-front : goal.invariant-front
invariant-front g l = IsClearing Compact l.dir (g.Ix.IndexType.number l.n) l.fn.self l.self

abbrev pub decreases-front : goal.decreases-front
decreases-front g l = length (list_at l.dir l.self.graph (g.Ix.IndexType.number l.n))
