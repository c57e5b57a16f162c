use Rattle.answers.proofs.Nodes.{HasFirst}
use Rattle.answers.proofs.questions.dag_of.Given as goal

abbrev pub invariant-loop-weight : goal.invariant-loop-weight
invariant-loop-weight g l = HasFirst l.fn.weights l.weight-index l.dag.graph
