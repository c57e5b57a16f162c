use Rattle.daggy_stable.proofs.Stores.{Stores-empty}
use Rattle.daggy_stable.proofs.stable_graph.StableDiGraph.from_slots.Goals as goal

pub make_nodes-requires-clause-stored : goal.make_nodes-requires-clause-stored
make_nodes-requires-clause-stored g c =
    rw (
      c.in_ok-node_slots.ensures.empty,
      c.in_ok-edge_slots.ensures.empty,
      c.in_ok-node_slots.ensures.none,
      c.in_ok-edge_slots.ensures.none,
    ) (Stores-empty _ _ _ c.in_ok-node_slots.ensures.end c.in_ok-edge_slots.ensures.end)
