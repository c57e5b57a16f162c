use Rattle.std.proofs.Common.{ℕ, List, map, sym, subst, ◌∙◌, Contains}
use Rattle.daggy_base.specs.Graph.{HasNode}
use Rattle.daggy_base.specs.Path.{AreJoined, Reaches}
use Rattle.daggy_reduction.specs.Descendants.{IsOrderOfPart}
use Rattle.daggy_computed.specs.Cells.{cells}
use Rattle.daggy_computed.specs.Recomputing.{IsUpToDate, IsComputed, AreComputedOrStale}
use Rattle.daggy_computed.specs.Refreshing.{IsAscending}
use Rattle.daggy_computed.specs.Settling.{Gives, Refreshes, AreValues}
use Rattle.daggy_computed.proofs.CellGraphs.{two_way_cells}
use Rattle.daggy_computed.proofs.Joined.{two_way}
use Rattle.daggy_computed.proofs.Listed.{on_ok_then}
use Rattle.daggy_computed.proofs.Recomputed.{computed_again, computed_fresh}
use Rattle.daggy_computed.proofs.Turns.{values_at_end}
use Rattle.daggy_computed.proofs.UpToDate.{no_loops, needed_turns, up_to_date}
use Rattle.daggy_computed.proofs.ValuesKept.{IsTwoWay}
use Rattle.daggy_computed.proofs.computed.Computed.refresh_node.Given.{Over}
use Rattle.daggy_computed.proofs.computed.Computed.refresh_node.Goals.{After-refresh_listed}
use Rattle.daggy_computed.proofs.computed.Computed.refresh_node.Goals as goal

module _ (g : Over) (c : After-refresh_listed g) where
  -- the nodes that had their turns, over the graph of the beginning
  turns : (ts : List ℕ) × IsAscending (map g.Ix.IndexType.number c.in-Ok.needed.items) ts
      × ((m : ℕ) → Contains ts m
      → Contains (map g.Ix.IndexType.number c.in-Ok.needed.items) m × HasNode c.self.inside.dag.graph m)
      × Refreshes g.V.PartialEq.eq (Gives (goal.F-post g) c.args.f) ts
      (cells c.self.inside.dag.graph c.self.inside.entries.items)
      (cells c.self.inside.dag.graph c.refresh_listed.new.entries.items)
      (map g.Ix.IndexType.number c.refresh_listed.new.changed.items)
  turns =
      let number = g.Ix.IndexType.number in
      let eq = g.V.PartialEq.eq in
      let gives = Gives (goal.F-post g) c.args.f in
      let es = c.self.inside.entries.items in
      let fs = c.refresh_listed.new.entries.items in
      let changed = map number c.refresh_listed.new.changed.items in
      subst
      (λ z. (ts : List ℕ) × IsAscending (map number c.in-Ok.needed.items) ts
      × ((m : ℕ) → Contains ts m → Contains (map number c.in-Ok.needed.items) m × HasNode z m)
      × Refreshes eq gives ts (cells z es) (cells z fs) changed)
      (c.graph.ensures.graph ∙ c.needed_nodes.ensures.same)
      (subst
      (λ ns. (ts : List ℕ) × IsAscending (map number ns) ts
      × ((m : ℕ) → Contains ts m → Contains (map number ns) m × HasNode (g.S.EdgeSource.graph c.graph.result.now) m)
      × Refreshes eq gives ts (cells (g.S.EdgeSource.graph c.graph.result.now) es) (cells (g.S.EdgeSource.graph c.graph.result.now) fs) changed)
      c.as_slice.ensures.value c.refresh_listed.ensures.turns)

  two : IsTwoWay (cells c.self.inside.dag.graph c.self.inside.entries.items)
  two =
      two_way_cells c.self.inside.dag.graph c.self.inside.entries.items
      (subst IsTwoWay c.needed_nodes.ensures.same
      (two_way c.node_count-count.ensures.dag.well_formed c.order-order.result.now c.order-order.ensures))

pub returns-in-Err-clause-values : goal.returns-in-Err-clause-values
returns-in-Err-clause-values g c = λ allowed are hold.
    subst (λ z. AreValues g.V.PartialEq.eq allowed (cells z c.self.inside.entries.items)) (sym c.needed_nodes.ensures.same)
    (subst (λ z. AreValues g.V.PartialEq.eq allowed z.graph) (sym c.self.view_is) hold)

pub refresh_listed-requires-clause-loops : goal.refresh_listed-requires-clause-loops
refresh_listed-requires-clause-loops g c = λ m j.
    no_loops c.needed_nodes.new.dag.graph c.order-order.result.now c.order-order.ensures m
    (subst (λ z. AreJoined z m m) c.graph.ensures.graph j)

pub returns-clause-refreshed : goal.returns-clause-refreshed
returns-clause-refreshed g c =
    let at = (goal.at.returns-clause-refreshed g c).After-refresh_listed in
    let number = g.Ix.IndexType.number in
    let eq = g.V.PartialEq.eq in
    let gives = Gives (goal.F-post g) c.args.f in
    let graph = c.self.inside.dag.graph in
    let es = c.self.inside.entries.items in
    let fs = c.refresh_listed.new.entries.items in
    let changed = map number c.refresh_listed.new.changed.items in
    let n = number c.args.n in
    let t = turns g at in
    let parts = needed_turns graph es eq gives n (map number c.in-Ok.needed.items) fs changed c.in-Ok.ensures.found t in (
      t.0,
      subst (λ z. IsOrderOfPart z.graph (Contains t.0) t.0) c.self.view_is parts.0,
      subst (λ z. (m : ℕ) → Contains t.0 m → Reaches z.graph m n) c.self.view_is parts.1,
      subst (λ z. Refreshes eq gives t.0 z.graph (cells c.needed_nodes.new.dag.graph fs) changed) c.self.view_is
          (subst (λ z. Refreshes eq gives t.0 (cells graph es) (cells z fs) changed) (sym c.needed_nodes.ensures.same) t.3),
    )

pub returns-clause-fresh : goal.returns-clause-fresh
returns-clause-fresh g c =
    let number = g.Ix.IndexType.number in
    let graph = c.self.inside.dag.graph in
    let fs = c.refresh_listed.new.entries.items in
    let n = number c.args.n in
    let ns = map number c.in-Ok.needed.items in
    on_ok_then c.refresh_listed.result _ _
    (λ fresh. subst (λ z. IsUpToDate (cells z fs) n) (sym c.needed_nodes.ensures.same)
    (up_to_date graph fs n ns c.in-Ok.ensures.found (λ m k. fresh m (subst (λ z. Contains (map number z) m) (sym c.as_slice.ensures.value) k))))
    c.refresh_listed.ensures.fresh

pub returns-clause-values : goal.returns-clause-values
returns-clause-values g c = λ allowed are hold.
    let at = (goal.at.returns-clause-values g c).After-refresh_listed in
    let number = g.Ix.IndexType.number in
    let eq = g.V.PartialEq.eq in
    let gives = Gives (goal.F-post g) c.args.f in
    let graph = c.self.inside.dag.graph in
    let es = c.self.inside.entries.items in
    let fs = c.refresh_listed.new.entries.items in
    let t = turns g at in
    subst (λ z. AreValues eq allowed (cells z fs)) (sym c.needed_nodes.ensures.same)
    (values_at_end eq gives allowed are t.0 (cells graph es) (cells graph fs) (map number c.refresh_listed.new.changed.items)
    (two g at) t.3 (subst (λ z. AreValues eq allowed z.graph) (sym c.self.view_is) hold))

pub returns-clause-computed : goal.returns-clause-computed
returns-clause-computed g c = λ compute is hold.
    let at = (goal.at.returns-clause-computed g c).After-refresh_listed in
    let number = g.Ix.IndexType.number in
    let eq = g.V.PartialEq.eq in
    let gives = Gives (goal.F-post g) c.args.f in
    let graph = c.self.inside.dag.graph in
    let es = c.self.inside.entries.items in
    let fs = c.refresh_listed.new.entries.items in
    let n = number c.args.n in
    let ns = map number c.in-Ok.needed.items in
    let t = turns g at in
    let kept : AreComputedOrStale compute (cells graph fs) =
    computed_again eq gives compute is (cells graph es) (cells graph fs)
    (λ allowed are. values_at_end eq gives allowed are t.0 (cells graph es) (cells graph fs) (map number c.refresh_listed.new.changed.items) (two g at) t.3)
    (subst (λ z. AreComputedOrStale compute z.graph) (sym c.self.view_is) hold) in (
      subst (λ z. AreComputedOrStale compute (cells z fs)) (sym c.needed_nodes.ensures.same) kept,
      on_ok_then c.refresh_listed.result _ _
          (λ fresh. subst (λ z. (m : ℕ) → Reaches (cells z fs) m n → IsComputed compute (cells z fs) m) (sym c.needed_nodes.ensures.same)
          (λ m r. computed_fresh compute (cells graph fs) kept m
          (up_to_date graph fs n ns c.in-Ok.ensures.found (λ k q. fresh k (subst (λ z. Contains (map number z) k) (sym c.as_slice.ensures.value) q)) m r)))
          c.refresh_listed.ensures.fresh,
    )
