-- A graph after the borrow of one of its weights ends.
use Rattle.std.specs.Prelude.{Option}
use Rattle.std.specs.Borrow.{Lends, LendsIf, Fml, RattleType, MutBor}
use Rattle.daggy_base.specs.State.{State, with_graph}
use Rattle.daggy_base.specs.Weights.{with_node_weight, with_edge_weight}
use Rattle.daggy_graph.specs.contracts.graph.DiGraph.{the_row}
use Rattle.daggy_base.specs.declared.index.IndexType as index_type

-- the type of a graph
abbrev pub graph_type : (N E Ix : RattleType) → index_type.Ghosts Ix.Denot → RattleType
graph_type N E Ix m =
    the_row N E Ix m

module _ (N E Ix : RattleType) (m : index_type.Ghosts Ix.Denot) (s : MutBor (State N.Denot E.Denot)) (n : Ix.Denot) where
  -- once the borrow r ends, the node has the last weight written through r
  abbrev pub lends_node : MutBor N.Denot → Fml
  lends_node r = Lends (graph_type N E Ix m) N s r (λ w. with_graph s.now (with_node_weight s.now.graph (m.number n) w))

  -- the same if r is `Some`; at `None` nothing changes
  abbrev pub lends_node_if : Option (MutBor N.Denot) → Fml
  lends_node_if r =
      LendsIf (graph_type N E Ix m) N s r (λ w. with_graph s.now (with_node_weight s.now.graph (m.number n) w)) s.now

module _ (N E Ix : RattleType) (m : index_type.Ghosts Ix.Denot) (s : MutBor (State N.Denot E.Denot)) (e : Ix.Denot) where
  -- the same for an edge
  abbrev pub lends_edge : MutBor E.Denot → Fml
  lends_edge r = Lends (graph_type N E Ix m) E s r (λ w. with_graph s.now (with_edge_weight s.now.graph (m.number e) w))

  -- the same if r is `Some`; at `None` nothing changes
  abbrev pub lends_edge_if : Option (MutBor E.Denot) → Fml
  lends_edge_if r =
      LendsIf (graph_type N E Ix m) E s r (λ w. with_graph s.now (with_edge_weight s.now.graph (m.number e) w)) s.now
