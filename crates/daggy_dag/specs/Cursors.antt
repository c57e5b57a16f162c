-- A cursor over mutable weights after the borrow of one weight ends.
use Rattle.std.specs.Prelude.{ℕ, ◌+◌, [], Option}
use Rattle.std.specs.Borrow.{LendsIf, Fml, RattleType, MutBor}
use mir.Syntax.{named}
use Rattle.daggy_base.specs.State.{with_graph}
use Rattle.daggy_base.specs.declared.kind.Kind.{Kind}
use Rattle.daggy_base.specs.Weights.{with_node_weight, with_edge_weight}
use Rattle.daggy_base.specs.declared.index.IndexType as index_type
use Rattle.daggy_base.specs.declared.source.EdgeSource as source
use Rattle.daggy_dag.specs.Slots.{next_slot}
use Rattle.daggy_dag.specs.declared.acyclic.cursors.NodeWeightsMut.{NodeWeightsMut}
use Rattle.daggy_dag.specs.declared.acyclic.cursors.EdgeWeightsMut.{EdgeWeightsMut}
use Rattle.daggy_dag.specs.contracts.acyclic.cursors.NodeWeightsMut.{the_row as node_weights_type}
use Rattle.daggy_dag.specs.contracts.acyclic.cursors.EdgeWeightsMut.{the_row as edge_weights_type}

-- the type of a cursor, whose lifetime is the second of the signature
abbrev pub node_cursor_type : (N E Ix S : RattleType)
    → index_type.Ghosts Ix.Denot → source.Ghosts S.Denot Ix.Denot N.Denot E.Denot → RattleType
node_cursor_type N E Ix S m t =
    node_weights_type (record { mir = named 1; lft = [] }) N E Ix S m t

-- the type of a cursor over the weights of edges
abbrev pub edge_cursor_type : (N E Ix S : RattleType)
    → index_type.Ghosts Ix.Denot → source.Ghosts S.Denot Ix.Denot N.Denot E.Denot → RattleType
edge_cursor_type N E Ix S m t =
    edge_weights_type (record { mir = named 1; lft = [] }) N E Ix S m t

-- the cursor after the node n, with this weight at n
abbrev pub behind_node : {N E Ix S : Type 0} → NodeWeightsMut N E Ix S → ℕ → N → NodeWeightsMut N E Ix S
behind_node c n w = record {
  dag = record {
    ref_ptr = c.dag.ref_ptr;
    ghost_name = c.dag.ghost_name;
    now = with_graph c.dag.now (with_node_weight c.dag.now.graph n w);
  };
  index = n + 1;
}

-- the same for a cursor over the weights of edges
abbrev pub behind_edge : {N E Ix S : Type 0} → EdgeWeightsMut N E Ix S → ℕ → E → EdgeWeightsMut N E Ix S
behind_edge c e w = record {
  dag = record {
    ref_ptr = c.dag.ref_ptr;
    ghost_name = c.dag.ghost_name;
    now = with_graph c.dag.now (with_edge_weight c.dag.now.graph e w);
  };
  index = e + 1;
}

module _ (N E Ix S : RattleType) (m : index_type.Ghosts Ix.Denot) (t : source.Ghosts S.Denot Ix.Denot N.Denot E.Denot)
    (kind : Kind) where
  -- when the borrow of the next node ends, the cursor is after it and the node has the weight that was written; at `None`
  -- nothing changes
  abbrev pub nodes_lend_next :
      MutBor (NodeWeightsMut N.Denot E.Denot Ix.Denot S.Denot) → Option (MutBor N.Denot) → Fml
  nodes_lend_next c r = LendsIf (node_cursor_type N E Ix S m t) N c r (behind_node c.now (next_slot kind c.now.dag.now.graph.nodes c.now.index)) c.now

  -- the same for an edge
  abbrev pub edges_lend_next :
      MutBor (EdgeWeightsMut N.Denot E.Denot Ix.Denot S.Denot) → Option (MutBor E.Denot) → Fml
  edges_lend_next c r = LendsIf (edge_cursor_type N E Ix S m t) E c r (behind_edge c.now (next_slot kind c.now.dag.now.graph.edges c.now.index)) c.now
