use Rattle.std.proofs.Common.{◌≤◌, ◌-◌, vec_len, vec_capacity}
use Rattle.daggy_reduction.proofs.blocks.grow_arcs.Given as goal

abbrev pub invariant-arcs : goal.invariant-arcs
invariant-arcs g l = vec_capacity l.fn.arcs ≤ vec_capacity l.arcs

abbrev pub decreases-arcs : goal.decreases-arcs
decreases-arcs g l = l.len - vec_len l.arcs
