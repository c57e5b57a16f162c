use Rattle.std.proofs.Common.{Some, ap, ◌∙◌}
use Rattle.std.specs.Option.{option_map}
use Rattle.daggy_base.specs.declared.index.Direction.TheVariants.{Outgoing}
use Rattle.daggy_graph.proofs.RestLemmas.{IsOnList-begins, found_to}
use Rattle.daggy_graph.proofs.graph.DiGraph.find_edge.Goals as goal

pub find_to-requires : goal.find_to-requires
find_to-requires g c =
    IsOnList-begins _ _ _ c.self.invariant Outgoing _ _
    (c.of_edge.ensures ∙ (rw (← c.self.view_is) at c.first_edge-first.ensures))

pub returns-in_err-e : goal.returns-in_err-e
returns-in_err-e g c =
    rw (← c.self.view_is, ← c.index.ensures.value) (ap (option_map g.Ix.IndexType.number) c.from_residual.ensures
    ∙ c.in_err-e.ensures ∙ found_to _ _ _ c.self.invariant _ c.index.result _
    (c.of_edge.ensures ∙ (rw (← c.self.view_is) at c.first_edge-first.ensures)))

pub returns : goal.returns
returns g c =
    rw (← c.self.view_is, ← c.index.ensures.value) (ap Some c.edge.ensures.value
    ∙ c.in_ok-e.ensures ∙ found_to _ _ _ c.self.invariant _ c.index.result _
    (c.of_edge.ensures ∙ (rw (← c.self.view_is) at c.first_edge-first.ensures)))
