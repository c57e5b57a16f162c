-- A dag after the `&mut` to one of its weights ends.
use Rattle.std.specs.Prelude.{Option}
use Rattle.std.specs.Borrow.{Lends, LendsIf, Fml, RattleType, MutBor}
use Rattle.daggy_base.specs.State.{State, with_graph}
use Rattle.daggy_base.specs.Weights.{with_node_weight, with_edge_weight}
use Rattle.daggy_base.specs.declared.index.IndexType as index_type
use Rattle.daggy_base.specs.declared.source.EdgeSource as source
use Rattle.daggy_dag.specs.contracts.acyclic.Acyclic.{the_row}

-- the type of a dag
abbrev pub dag_type : (N E Ix S : RattleType)
    → index_type.Ghosts Ix.Denot → source.Ghosts S.Denot Ix.Denot N.Denot E.Denot → RattleType
dag_type N E Ix S m t =
    the_row N E Ix S m t

module _ (N E Ix S : RattleType) (m : index_type.Ghosts Ix.Denot) (t : source.Ghosts S.Denot Ix.Denot N.Denot E.Denot)
    (s : MutBor (State N.Denot E.Denot)) (n : Ix.Denot) where
  -- when the borrow r ends, the node has the last weight written through r
  abbrev pub lends_node : MutBor N.Denot → Fml
  lends_node r =
      Lends (dag_type N E Ix S m t) N s r (λ w. with_graph s.now (with_node_weight s.now.graph (m.number n) w))

  -- the same if r is `Some`; at `None` the graph is unchanged
  abbrev pub lends_node_if : Option (MutBor N.Denot) → Fml
  lends_node_if r =
      LendsIf (dag_type N E Ix S m t) N s r (λ w. with_graph s.now (with_node_weight s.now.graph (m.number n) w)) s.now

module _ (N E Ix S : RattleType) (m : index_type.Ghosts Ix.Denot) (t : source.Ghosts S.Denot Ix.Denot N.Denot E.Denot)
    (s : MutBor (State N.Denot E.Denot)) (e : Ix.Denot) where
  -- the same for an edge
  abbrev pub lends_edge : MutBor E.Denot → Fml
  lends_edge r =
      Lends (dag_type N E Ix S m t) E s r (λ w. with_graph s.now (with_edge_weight s.now.graph (m.number e) w))

  -- the same if r is `Some`; at `None` the dag is unchanged
  abbrev pub lends_edge_if : Option (MutBor E.Denot) → Fml
  lends_edge_if r =
      LendsIf (dag_type N E Ix S m t) E s r (λ w. with_graph s.now (with_edge_weight s.now.graph (m.number e) w)) s.now
