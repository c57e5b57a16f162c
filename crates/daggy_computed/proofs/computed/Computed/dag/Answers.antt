use Rattle.std.proofs.Common.{sym, ap, ◌∙◌}
use Rattle.daggy_computed.specs.Computation.{formulas}
use Rattle.daggy_computed.proofs.CellGraphs.{formulas_cells}
use Rattle.daggy_computed.proofs.computed.Computed.dag.Goals as goal

pub returns : goal.returns
returns g c =
    sym (formulas_cells c.self.inside.dag.graph c.self.inside.entries.items) ∙ ap (λ z. formulas z.graph) c.self.view_is
