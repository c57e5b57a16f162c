use Rattle.std.proofs.Common.{◌≡◌, length, ap, ◌∙◌, arith}
use Rattle.daggy_base.specs.declared.index.Direction.TheVariants.{Outgoing}
use Rattle.daggy_cells.specs.Fields.{with_first}
use Rattle.daggy_stable.proofs.BuiltSlots.{built_node_taken, built_node_left}
use Rattle.daggy_stable.proofs.stable_graph.building.keep_node.Goals as goal

pub returns-in-Some-clause-stored : goal.returns-in-Some-clause-stored
returns-in-Some-clause-stored g c =
    rw c.push_reserved.ensures.items (built_node_taken _ c.requires.stored c.requires.no_edges
    c.new_node.result c.in-Some.weight c.new_node.ensures c.requires.index_left)

pub returns-in-None-clause-stored : goal.returns-in-None-clause-stored
returns-in-None-clause-stored g c =
    let x = c.set_first.new.x in
    let last : c.new-n.result ≡ length c.args.nodes.now.cells.items = omega (arith, c.new-n.ensures, c.len.ensures) in
    rw c.push_reserved-in-None.ensures.items
    (built_node_left _ c.requires.stored c.requires.no_edges x c.new-n.result (c.set_first.ensures
    ∙ ap (λ z. with_first Outgoing z c.args.nodes.now.first_vacant) c.new_node-x.ensures) last c.requires.index_left)
