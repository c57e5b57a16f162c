-- A cursor over mutable references to weights, after the borrow of one weight ends.
use Rattle.std.specs.Prelude.{◌+◌, [], Option}
use Rattle.std.specs.Borrow.{LendsIf, Fml, RattleType, MutBor}
use mir.Syntax.{named}
use Rattle.daggy_base.specs.State.{with_graph}
use Rattle.daggy_base.specs.Weights.{with_node_weight, with_edge_weight}
use Rattle.daggy_base.specs.declared.index.IndexType as index_type
use Rattle.daggy_graph.specs.declared.graph.cursors.NodeWeightsMut.{NodeWeightsMut}
use Rattle.daggy_graph.specs.declared.graph.cursors.EdgeWeightsMut.{EdgeWeightsMut}
use Rattle.daggy_graph.specs.contracts.graph.cursors.NodeWeightsMut.{the_row as node_weights_type}
use Rattle.daggy_graph.specs.contracts.graph.cursors.EdgeWeightsMut.{the_row as edge_weights_type}

-- the type of a cursor over the weights of nodes, with the second lifetime of the signature
abbrev pub node_cursor_type : (N E Ix : RattleType) → index_type.Ghosts Ix.Denot → RattleType
node_cursor_type N E Ix m =
    node_weights_type (record { mir = named 1; lft = [] }) N E Ix m

-- the type of a cursor over the weights of edges
abbrev pub edge_cursor_type : (N E Ix : RattleType) → index_type.Ghosts Ix.Denot → RattleType
edge_cursor_type N E Ix m =
    edge_weights_type (record { mir = named 1; lft = [] }) N E Ix m

-- the cursor one step further, with this weight written at the index that it was at
abbrev pub nodes_moved : {N E Ix : Type 0} → NodeWeightsMut N E Ix → N → NodeWeightsMut N E Ix
nodes_moved c w = record {
  graph = record {
    ref_ptr = c.graph.ref_ptr;
    ghost_name = c.graph.ghost_name;
    now = with_graph c.graph.now (with_node_weight c.graph.now.graph c.index w);
  };
  index = c.index + 1;
}

-- the same for a cursor over the weights of edges
abbrev pub edges_moved : {N E Ix : Type 0} → EdgeWeightsMut N E Ix → E → EdgeWeightsMut N E Ix
edges_moved c w = record {
  graph = record {
    ref_ptr = c.graph.ref_ptr;
    ghost_name = c.graph.ghost_name;
    now = with_graph c.graph.now (with_edge_weight c.graph.now.graph c.index w);
  };
  index = c.index + 1;
}

module _ (N E Ix : RattleType) (m : index_type.Ghosts Ix.Denot) where
  -- once the borrow r of the next node's weight ends, the cursor is one step further, and the node has the last weight
  -- written through r; at `None` nothing changes
  abbrev pub nodes_lend_next : MutBor (NodeWeightsMut N.Denot E.Denot Ix.Denot) → Option (MutBor N.Denot) → Fml
  nodes_lend_next c r = LendsIf (node_cursor_type N E Ix m) N c r (nodes_moved c.now) c.now

  -- the same for an edge
  abbrev pub edges_lend_next : MutBor (EdgeWeightsMut N.Denot E.Denot Ix.Denot) → Option (MutBor E.Denot) → Fml
  edges_lend_next c r = LendsIf (edge_cursor_type N E Ix m) E c r (edges_moved c.now) c.now
