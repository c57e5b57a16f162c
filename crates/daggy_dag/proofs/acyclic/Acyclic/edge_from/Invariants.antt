use Rattle.std.proofs.Common.{◌≡◌, ◌-◌}
use Rattle.daggy_base.specs.declared.kind.Kind.TheVariants.{Stable}
use Rattle.daggy_dag.specs.Slots.{next_slot}
use Rattle.daggy_dag.proofs.acyclic.Acyclic.edge_from.Given as goal

abbrev pub invariant-along : goal.invariant-along
invariant-along g l =
    next_slot Stable l.fn.self.graph.edges l.from ≡ next_slot Stable l.fn.self.graph.edges l.i

abbrev pub decreases-along : goal.decreases-along
decreases-along g l = l.slots - l.i
