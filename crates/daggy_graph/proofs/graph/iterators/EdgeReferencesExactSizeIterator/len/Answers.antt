use Rattle.std.proofs.Common.{length, sym, ap, ◌∙◌}
use Rattle.daggy_cells.specs.Fields.{plain}
use Rattle.daggy_cells.proofs.RestLemmas.{length-numbered}
use Rattle.daggy_graph.proofs.graph.iterators.EdgeReferencesExactSizeIterator.len.Goals as goal

pub returns-clause-value : goal.returns-clause-value
returns-clause-value g c =
    sym (length-numbered plain c.self.inside.index c.self.inside.edges.now) ∙ ap length c.self.view_is
