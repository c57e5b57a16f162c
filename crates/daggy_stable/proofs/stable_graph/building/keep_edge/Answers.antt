use Rattle.std.proofs.Common.{◌≡◌, length, arith}
use Rattle.daggy_stable.proofs.BuiltSlots.{built_edge_taken}
use Rattle.daggy_stable.proofs.Stores.{weights_seen}
use Rattle.daggy_stable.proofs.stable_graph.building.keep_edge.Goals as goal

pub returns-clause-stored : goal.returns-clause-stored
returns-clause-stored g c =
    let last : c.new-e.result ≡ length c.args.edges.now.cells.items = omega (arith, c.new-e.ensures, c.len.ensures) in
    rw c.push_reserved.ensures.items (built_edge_taken _ c.requires.stored
    (record { parent = c.requires.parent; child = c.requires.child }) c.requires.index_left last
    (record { led = c.put_first-x.ensures.led; stored = c.put_first-x.ensures.edge }))

pub returns-clause-nodes : goal.returns-clause-nodes
returns-clause-nodes g c = weights_seen _ _ c.put_first-x.ensures.led.weights
