use Rattle.daggy_schedule.specs.Work.{IsUnderWay}
use Rattle.example_callers.specs.Along.{IsReweighed}
use Rattle.example_callers.proofs.along.number_nodes.Given as goal

abbrev pub invariant-nodes : goal.invariant-nodes
invariant-nodes g l = IsUnderWay l.dag.graph l.ready × IsReweighed l.fn.dag.graph l.dag.graph
