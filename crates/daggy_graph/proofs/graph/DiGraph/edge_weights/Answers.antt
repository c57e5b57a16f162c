use Rattle.std.proofs.Common.{map, sym, ap, ◌∙◌}
use Rattle.daggy_base.specs.Iterating.{edge_weights}
use Rattle.daggy_cells.specs.Fields.{plain}
use Rattle.daggy_cells.proofs.RestLemmas.{values_are}
use Rattle.daggy_graph.proofs.graph.DiGraph.edge_weights.Goals as goal

pub returns-clause-rest : goal.returns-clause-rest
returns-clause-rest g c =
    ap (map (λ x. x.weight)) c.as_slice.ensures.value
    ∙ sym (values_are plain (λ x. x.weight) 0 c.self.inside.edges.items) ∙ ap (λ s. edge_weights s.graph) c.self.view_is
