use Rattle.std.proofs.Common.{◌≡◌, ap, sym, ◌∙◌, arith}
use Rattle.daggy_base.specs.Graph.{node_count}
use Rattle.daggy_computed.proofs.CellGraphs.{count_entries}
use Rattle.daggy_computed.proofs.computed.Computed.can_add.Goals as goal

pub returns : goal.returns
returns g c =
    let graph = c.self.inside.dag.graph in
    let same : node_count c.args.self.now.graph ≡ node_count graph =
    ap (λ z. node_count z.graph) (sym c.self.view_is) ∙ count_entries graph.nodes c.self.inside.entries.items in (
      λ t. omega (arith, c.can_add_node.ensures.0 t, same),
      λ h. c.can_add_node.ensures.1 (omega (arith, h, same)),
    )
