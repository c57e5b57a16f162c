-- Why no dag was made of a graph.
use Rattle.std.specs.Prelude.{ℕ, map}
use Rattle.daggy_base.specs.Graph.{Graph}
use Rattle.daggy_components.specs.Cycles.{IsCycle}
use Rattle.daggy_dag.specs.declared.acyclic.from_graph.FromGraphError.{FromGraphError}
use Rattle.daggy_dag.specs.declared.acyclic.from_graph.FromGraphError.TheVariants.{Cycle, Memory}

-- the graph that an error returns
abbrev pub returned_graph : {I S : Type 0} → FromGraphError S I → S
returned_graph (Cycle graph cycle) = graph
returned_graph (Memory graph) = graph

-- the cycle of an error is a cycle of g
abbrev pub HasCycleOf : {I N E S : Type 0} → (I → ℕ) → Graph N E → FromGraphError S I → Type 0
HasCycleOf number g (Cycle graph cycle) = IsCycle g (map number cycle.items)
HasCycleOf number g (Memory graph) = Unit {0}
