use Rattle.std.proofs.Common.{◌≡◌, length, ◌-◌}
use Rattle.example_callers.proofs.ClearedWeights.{IsClearedBelow}
use Rattle.example_callers.proofs.cursors.clear_weights.Given as goal

abbrev pub invariant-each : goal.invariant-each
invariant-each g l =
    (l.weights.dag.ghost_name ≡ l.initial.weights.dag.ghost_name)
    × IsClearedBelow l.fn.dag l.weights.dag.now l.weights.index

abbrev pub decreases-each : goal.decreases-each
decreases-each g l = length l.fn.dag.graph.nodes - l.weights.index
