use Rattle.std.proofs.Common.{sym, ap, ◌∙◌}
use Rattle.std.specs.Option.{option_map}
use Rattle.daggy_base.specs.Graph.{node_weight}
use Rattle.daggy_computed.proofs.Celled.{formula_cell}
use Rattle.daggy_computed.proofs.computed.Computed.formula.Goals as goal

pub returns : goal.returns
returns g c =
    let n = g.Ix.IndexType.number c.args.n in
    c.node_weight.ensures ∙ sym (ap (λ z. option_map (λ d. d.formula) (node_weight z.graph n)) (sym c.self.view_is)
    ∙ formula_cell c.self.inside.dag.graph c.self.inside.entries.items n)
