use Rattle.std.proofs.Common.{◌≡◌, ◌∙◌, ◌↔◌, ◌⊎◌, ℕ, false, length, vec_len, sym, subst, arith, rules}
use Rattle.std.proofs.lemmas.Bool.{false≢true}
use Rattle.daggy_base.specs.Graph.{Graph, HasNode}
use Rattle.daggy_base.specs.Ordered.{IsOrderOf}
use Rattle.daggy_base.proofs.OutEdgesRead.{below_bound}
use Rattle.daggy_base.proofs.PathsWithNode.{bound_low}
use Rattle.daggy_schedule.specs.Work.{IsSet}
use Rattle.daggy_schedule.specs.Queue.{IsBelowFailed}
use Rattle.daggy_schedule.proofs.Starting.{resized, unset_by}
use Rattle.daggy_schedule.proofs.Skipping.{blocking_none, blocking_one, blocking_skip, next_there, all_blocked}
use Rattle.daggy_schedule.proofs.fallible_ready.below_failed.Given.{Over}
use Rattle.daggy_schedule.proofs.fallible_ready.below_failed.Goals.{After-index}
use Rattle.daggy_schedule.proofs.fallible_ready.below_failed.Goals as goal

-- the node exists
there : (g : Over) (c : After-index g) → HasNode (g.S.EdgeSource.graph c.graph-store.result.now) (g.Ix.IndexType.number c.in-Some.n)
there g c =
    let s = c.nodes.invariant.blocking in
    next_there c.node_bound-bound.ensures.well_formed s.ordered c.in-Some.ensures.steps s.blocking

-- either of the two flags of the node is set if and only if one of those at its index is
flags : (g : Over) (c : After-index g) → IsSet c.args.failed.now c.index.result ⊎ IsSet c.nodes.marks.items c.index.result
    ↔ (IsSet c.args.failed.now (g.Ix.IndexType.number c.in-Some.n) ⊎ IsSet c.nodes.marks.items (g.Ix.IndexType.number c.in-Some.n))
flags g c =
    subst (λ (z : ℕ). IsSet c.args.failed.now c.index.result ⊎ IsSet c.nodes.marks.items c.index.result
    ↔ (IsSet c.args.failed.now z ⊎ IsSet c.nodes.marks.items z)) c.index.ensures.value (λ h. h, λ h. h)

pub nodes-init : goal.nodes-init
nodes-init g c =
    let graph = g.S.EdgeSource.graph c.graph-store.result.now in
    let order = c.topological_order-nodes.result in
    let flags = resized _ _ c.node_bound-bound.result _ false c.new-marks.ensures.items c.new-marks.ensures.len c.in_ok-resize.ensures.items in
    record {
      sized = omega (arith, c.in_ok-resize.ensures.len, c.node_bound-bound.ensures.value);
      blocking = record {
        order = order;
        ordered = subst (λ (z : Graph _ _). IsOrderOf z order) (sym c.graph-store.ensures.graph) c.topological_order-nodes.ensures.ordered;
        blocking =
            blocking_none graph order c.args.failed.now c.resize.new.self.items
            (λ n m. false≢true (sym (unset_by c.resize.new.self.items c.node_bound-bound.result flags n) ∙ m));
      };
    }

pub is_in_either-requires-clause-failed : goal.is_in_either-requires-clause-failed
is_in_either-requires-clause-failed g c =
    let at = (goal.at.is_in_either-requires-clause-failed g c).After-index in
    let n = g.Ix.IndexType.number c.in-Some.n in
    let low = c.requires n (subst (λ (z : Graph _ _). HasNode z n) c.graph-store.ensures.graph (there g at)) in
    omega (arith, low, c.index.ensures.value)

pub is_in_either-requires-clause-marks : goal.is_in_either-requires-clause-marks
is_in_either-requires-clause-marks g c =
    let at = (goal.at.is_in_either-requires-clause-marks g c).After-index in
    let graph = g.S.EdgeSource.graph c.graph-store.result.now in
    omega (
      arith,
      below_bound graph.nodes (g.Ix.IndexType.number c.in-Some.n) (there g at),
      c.index.ensures.value,
      c.nodes.invariant.sized,
    )

pub nodes-preserved-then-is_in_either : goal.nodes-preserved-then-is_in_either
nodes-preserved-then-is_in_either g c =
    let at = (goal.at.nodes-preserved-then-is_in_either g c).After-index in
    let s = c.nodes.invariant.blocking in
    record {
      sized = c.mark_children.ensures.sized ∙ c.nodes.invariant.sized;
      blocking = record {
        order = s.order;
        ordered = s.ordered;
        blocking =
            blocking_one c.node_bound-bound.ensures.well_formed s.ordered c.in-Some.ensures.steps s.blocking
            ((flags g at).0 (c.is_in_either.ensures.0 c.if-is_in_either.true)) c.mark_children.new.marks.items
            c.mark_children.ensures.marked;
      };
    }

pub nodes-preserved : goal.nodes-preserved
nodes-preserved g c =
    let at = (goal.at.nodes-preserved g c).After-index in
    let s = c.nodes.invariant.blocking in
    record {
      sized = c.nodes.invariant.sized;
      blocking = record {
        order = s.order;
        ordered = s.ordered;
        blocking =
            blocking_skip c.node_bound-bound.ensures.well_formed s.ordered c.in-Some.ensures.steps s.blocking
            (λ h. false≢true (sym c.if-is_in_either.false ∙ c.is_in_either.ensures.1 ((flags g at).1 h)));
      };
    }

pub returns-clause-marked : goal.returns-clause-marked
returns-clause-marked g c =
    let s = c.nodes.invariant.blocking in
    subst (λ (z : Graph _ _). (n : ℕ) → IsSet c.nodes.marks.items n ↔ IsBelowFailed z c.args.failed.now n) c.graph-store.ensures.graph
    (all_blocked c.node_bound-bound.ensures.well_formed s.ordered c.in_default.ensures.steps.0 s.blocking)

pub returns-clause-few : goal.returns-clause-few
returns-clause-few g c =
    let graph = g.S.EdgeSource.graph c.graph-store.result.now in
    let size : vec_len c.nodes.marks ≡ length c.nodes.marks.items = search rules in
    omega (arith, size, c.nodes.invariant.sized, bound_low graph.nodes, c.node_bound-bound.ensures.well_formed.few_nodes)
