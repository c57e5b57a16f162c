use Rattle.std.proofs.Common.{map, sym, subst, arith, Contains}
use Rattle.std.specs.Prelude.{IfErr}
use Rattle.daggy_base.specs.Ordered.{IsOrderOf}
use Rattle.daggy_reduction.specs.Descendants.{IsOrderOfPart}
use Rattle.daggy_computed.specs.Cells.{cells}
use Rattle.daggy_computed.specs.Recomputing.{AreComputedOrStale}
use Rattle.daggy_computed.specs.Refreshing.{IsReady, IsCause}
use Rattle.daggy_computed.specs.Settling.{Gives, Refuses, Refreshes, AreValues}
use Rattle.daggy_computed.proofs.CellGraphs.{order_cells, two_way_cells}
use Rattle.daggy_computed.proofs.Celled.{stale_cell}
use Rattle.daggy_computed.proofs.Joined.{two_way}
use Rattle.daggy_computed.proofs.Listed.{on_ok_then}
use Rattle.daggy_computed.proofs.Recomputed.{computed_again, computed_fresh}
use Rattle.daggy_computed.proofs.Turns.{values_at_end}
use Rattle.daggy_computed.proofs.WholeRefresh.{ascending_part}
use Rattle.daggy_computed.proofs.computed.Computed.refresh.Goals as goal

pub refresh_nodes-requires-clause-ordered : goal.refresh_nodes-requires-clause-ordered
refresh_nodes-requires-clause-ordered g c =
    subst (λ z. IsOrderOf z c.order.result.now) (sym c.graph.ensures.graph) c.order.ensures

pub refresh_nodes-requires-clause-ready : goal.refresh_nodes-requires-clause-ready
refresh_nodes-requires-clause-ready g c =
    let number = g.Ix.IndexType.number in
    subst (λ z. IsReady z c.self.inside.entries.items c.self.inside.queue.slots (map number c.self.inside.queue.nodes))
    (sym c.graph.ensures.graph) c.self.invariant.0

pub invariant_of-self : goal.invariant_of-self
invariant_of-self g c =
    let number = g.Ix.IndexType.number in
    let new = c.refresh_nodes.new in (
      subst (λ z. IsReady z new.entries.items new.queue.slots (map number new.queue.nodes)) c.graph.ensures.graph
          c.refresh_nodes.ensures.ready,
      omega (arith, c.self.invariant.1, c.refresh_nodes.ensures.len, new.entries.ok.0, c.self.inside.entries.ok.0),
    )

pub returns-clause-refreshed : goal.returns-clause-refreshed
returns-clause-refreshed g c =
    let number = g.Ix.IndexType.number in
    let eq = g.V.PartialEq.eq in
    let gives = Gives (goal.F-post g) c.args.f in
    let graph = c.self.inside.dag.graph in
    let es = c.self.inside.entries.items in
    let new = c.refresh_nodes.new in
    let t = c.refresh_nodes.ensures.turns in (
      t.0,
      subst (λ z. IsOrderOfPart z.graph (Contains t.0) t.0) c.self.view_is (ascending_part (cells graph es) c.order.result.now (order_cells graph es c.order.result.now c.order.ensures) t.0 t.1),
      subst (λ z. Refreshes eq gives t.0 z.graph (cells graph new.entries.items) (map number new.changed.items)) c.self.view_is (subst (λ z. Refreshes eq gives t.0 (cells z es) (cells z new.entries.items) (map number new.changed.items)) c.graph.ensures.graph t.2),
    )

pub returns-clause-fresh : goal.returns-clause-fresh
returns-clause-fresh g c =
    on_ok_then c.refresh_nodes.result _ _
    (λ none n s. none n (stale_cell c.self.inside.dag.graph c.refresh_nodes.new.entries.items n s).1)
    c.refresh_nodes.ensures.fresh

pub returns-clause-failed : goal.returns-clause-failed
returns-clause-failed g c =
    subst
    (λ z. IfErr c.refresh_nodes.result
    (λ e. IsCause g.Ix.IndexType.number (Refuses (goal.F-post g) c.args.f) (cells z c.refresh_nodes.new.entries.items) e))
    c.graph.ensures.graph c.refresh_nodes.ensures.failed

pub returns-clause-values : goal.returns-clause-values
returns-clause-values g c = λ allowed are hold.
    let number = g.Ix.IndexType.number in
    let eq = g.V.PartialEq.eq in
    let gives = Gives (goal.F-post g) c.args.f in
    let graph = c.self.inside.dag.graph in
    let es = c.self.inside.entries.items in
    let new = c.refresh_nodes.new in
    let t = c.refresh_nodes.ensures.turns in
    let r = subst (λ z. Refreshes eq gives t.0 (cells z es) (cells z new.entries.items) (map number new.changed.items)) c.graph.ensures.graph t.2 in
    values_at_end eq gives allowed are t.0 (cells graph es) (cells graph new.entries.items) (map number new.changed.items)
    (two_way_cells graph es (two_way c.node_count-count.ensures.dag.well_formed c.order.result.now c.order.ensures)) r
    (subst (λ z. AreValues eq allowed z.graph) (sym c.self.view_is) hold)

pub returns-clause-computed : goal.returns-clause-computed
returns-clause-computed g c = λ compute is hold.
    let number = g.Ix.IndexType.number in
    let eq = g.V.PartialEq.eq in
    let gives = Gives (goal.F-post g) c.args.f in
    let graph = c.self.inside.dag.graph in
    let es = c.self.inside.entries.items in
    let new = c.refresh_nodes.new in
    let t = c.refresh_nodes.ensures.turns in
    let r = subst (λ z. Refreshes eq gives t.0 (cells z es) (cells z new.entries.items) (map number new.changed.items)) c.graph.ensures.graph t.2 in
    let two = two_way_cells graph es (two_way c.node_count-count.ensures.dag.well_formed c.order.result.now c.order.ensures) in
    let kept =
    computed_again eq gives compute is (cells graph es) (cells graph new.entries.items)
    (λ allowed are. values_at_end eq gives allowed are t.0 (cells graph es) (cells graph new.entries.items) (map number new.changed.items) two r)
    (subst (λ z. AreComputedOrStale compute z.graph) (sym c.self.view_is) hold) in (
      kept,
      on_ok_then c.refresh_nodes.result _ _
          (λ none n. computed_fresh compute (cells graph new.entries.items) kept n (λ s. none n (stale_cell graph new.entries.items n s).1))
          c.refresh_nodes.ensures.fresh,
    )
