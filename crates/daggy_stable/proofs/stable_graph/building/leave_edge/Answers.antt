use Rattle.std.proofs.Common.{◌≡◌, length, Option, ap, arith}
use Rattle.daggy_cells.specs.declared.cell.Edge.{Edge}
use Rattle.daggy_stable.proofs.BuiltSlots.{built_edge_left}
use Rattle.daggy_stable.proofs.stable_graph.building.leave_edge.Goals as goal

pub returns-clause-stored : goal.returns-clause-stored
returns-clause-stored g c =
    let last : c.new-e.result ≡ length c.args.edges.now.cells.items = omega (arith, c.new-e.ensures, c.len.ensures) in
    rw c.push_reserved.ensures.items (built_edge_left _ c.requires.stored c.new_edge.result c.new-e.result
    (ap (λ (y : Edge (Option g.row.E.Denot) g.row.Ix.Denot). y.weight) c.new_edge.ensures)
    (ap (λ (y : Edge (Option g.row.E.Denot) g.row.Ix.Denot). y.next_out) c.new_edge.ensures) last c.requires.index_left)
