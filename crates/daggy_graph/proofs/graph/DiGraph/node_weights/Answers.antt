use Rattle.std.proofs.Common.{map, sym, ap, ◌∙◌}
use Rattle.daggy_base.specs.Iterating.{node_weights}
use Rattle.daggy_cells.proofs.RestLemmas.{values_are}
use Rattle.daggy_graph.proofs.graph.DiGraph.node_weights.Goals as goal

pub returns-clause-rest : goal.returns-clause-rest
returns-clause-rest g c =
    ap (map (λ x. x.weight)) c.as_slice.ensures.value
    ∙ sym (values_are (λ x. x.weight) (λ w. w) 0 c.self.inside.nodes.items)
    ∙ ap (λ s. node_weights s.graph) c.self.view_is
