use Rattle.std.proofs.Common.{length, sym, ap, ◌∙◌}
use Rattle.daggy_cells.proofs.RestLemmas.{length-numbered}
use Rattle.daggy_graph.proofs.graph.iterators.NodeReferencesExactSizeIterator.len.Goals as goal

pub returns-clause-value : goal.returns-clause-value
returns-clause-value g c =
    sym (length-numbered (λ x. x.weight) c.self.inside.index c.self.inside.nodes.now) ∙ ap length c.self.view_is
