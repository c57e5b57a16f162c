use Rattle.std.proofs.Common.{ℕ, ◌<◌, slice_index_or}
use Rattle.daggy_base.specs.Graph.{HasNode}
use Rattle.daggy_dag.proofs.acyclic.Acyclic.contains_parents.Given as goal

abbrev pub invariant-items : goal.invariant-items
invariant-items g l =
    (k : ℕ) (d : g.row.Ix.Denot × g.row.E.Denot) → k < l.i
    → HasNode l.self.graph (g.Ix.IndexType.number (slice_index_or l.items k d).0)
