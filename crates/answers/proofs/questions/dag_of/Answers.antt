use Rattle.std.proofs.Common.{ap, ◌∙◌, map, Some}
use Rattle.std.proofs.lemmas.List.{take_all}
use Rattle.answers.proofs.Nodes.{one_node}
use Rattle.answers.proofs.questions.dag_of.Goals as goal

pub loop-weight-init : goal.loop-weight-init
loop-weight-init g c = record {
  nodes = ap (λ z. z.graph.nodes) c.new-dag.ensures;
  edges = ap (λ z. z.graph.edges) c.new-dag.ensures;
  vacant = ap (λ z. z.graph.vacant_nodes) c.new-dag.ensures;
}

pub loop-weight-preserved : goal.loop-weight-preserved
loop-weight-preserved g c =
    one_node c.args.weights.now c.loop-weight.weight-index c.loop-weight.dag.graph c.add_node.new.self.graph
    c.loop-weight.invariant c.loop-weight-test.true c.in_ok-add_node.ensures.added.1

pub returns : goal.returns
returns g c = record {
  nodes = c.loop-weight.invariant.nodes
      ∙ ap (map Some) (take_all c.loop-weight.weight-index c.args.weights.now c.loop-weight-test.false);
  edges = c.loop-weight.invariant.edges;
}
