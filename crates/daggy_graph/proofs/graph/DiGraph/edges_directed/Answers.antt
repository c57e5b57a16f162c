use Rattle.std.proofs.Common.{ap, ◌∙◌, arith}
use Rattle.daggy_cells.specs.Rest.{edges_left}
use Rattle.daggy_cells.proofs.RestLemmas.{edges_few}
use Rattle.daggy_graph.proofs.RestLemmas.{IsOnList-begins, edges_begin}
use Rattle.daggy_graph.proofs.graph.DiGraph.edges_directed.Goals as goal

pub invariant_of-result : goal.invariant_of-result
invariant_of-result g c =
    rw c.as_slice.ensures.value (IsOnList-begins _ _ _ c.self.invariant c.args.dir _ _
    (c.of_edge.ensures ∙ (rw (← c.self.view_is) at c.first_edge-first.ensures)))

pub returns-clause-rest : goal.returns-clause-rest
returns-clause-rest g c =
    rw (← c.self.view_is)
    (ap (λ l. edges_left c.args.dir l c.of_edge.result) c.as_slice.ensures.value
    ∙ edges_begin _ _ _ c.self.invariant c.args.dir _ _
    (c.of_edge.ensures ∙ (rw (← c.self.view_is) at c.first_edge-first.ensures)))

pub returns-clause-fits : goal.returns-clause-fits
returns-clause-fits g c =
    omega (arith, edges_few c.args.dir c.as_slice.result.now c.of_edge.result, c.as_slice.ensures.len)
