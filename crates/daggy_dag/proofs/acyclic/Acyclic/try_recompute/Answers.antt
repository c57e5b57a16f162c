use Rattle.std.proofs.Common.{◌≡◌, ℕ, ap, ◌∙◌, Contains}
use Rattle.std.proofs.lemmas.Result.{IfErr-weaker, on_ok_weaker}
use Rattle.daggy_base.specs.Graph.{HasNode}
use Rattle.daggy_base.specs.Ordered.{IsOrderOf}
use Rattle.daggy_order.proofs.OrderLaws.{acyclic_from_order}
use Rattle.daggy_dag.proofs.OrderKept.{IsKept}
use Rattle.daggy_dag.proofs.Recomputed.{tried_kept}
use Rattle.daggy_dag.proofs.acyclic.Acyclic.try_recompute.Given.{Over}
use Rattle.daggy_dag.proofs.acyclic.Acyclic.try_recompute.Goals.{After-nodes, After-try_recompute_nodes}
use Rattle.daggy_dag.proofs.acyclic.Acyclic.try_recompute.Goals as goal

same : (g : Over) (c : After-nodes g) → g.S.EdgeSource.graph c.self-inside.inside.0.0.store ≡ c.args.self.now.graph
same g c = ap (λ s. s.graph) (ap (λ i. i.guarded) c.self-inside.view_is ∙ c.self.view_is)

-- the nodes are gone along in the order that the dag keeps
ordered : (g : Over) (c : After-nodes g) → IsOrderOf c.args.self.now.graph c.nodes.result
ordered g c = rw (c.nodes.ensures.rest, ← same g c) c.self-inside.invariant.0

pub try_recompute_nodes-requires-clause-callable : goal.try_recompute_nodes-requires-clause-callable
try_recompute_nodes-requires-clause-callable g c =
    let at = (goal.at.try_recompute_nodes-requires-clause-callable g c).After-nodes in
    rw (same g at) (c.requires c.nodes.result (ordered g at))

kept : (g : Over) (c : After-try_recompute_nodes g)
    → IsKept (g.S.EdgeSource.graph c.try_recompute_nodes.new.store) c.self-inside.inside.0.0.order
    c.self-inside.inside.0.0.scratch.nodes
kept g c =
    let graph = g.S.EdgeSource.graph in
    let old = graph c.self-inside.inside.0.0.store in
    let order = c.self-inside.inside.0.0.order in
    let exist : (n : ℕ) → Contains c.nodes.result n → HasNode old n =
    λ n has. (c.self-inside.invariant.0.exact n).0 (rw (← c.nodes.ensures.rest) has) in
    tried_kept graph g.Ix.IndexType.of (goal.F-step g) c.try_recompute_nodes.result c.nodes.result order
    c.self-inside.inside.0.0.scratch.nodes c.args.f old (graph c.try_recompute_nodes.new.store) c.self-inside.invariant exist
    c.try_recompute_nodes.ensures.written c.try_recompute_nodes.ensures.stopped

pub invariant_of-self-inside : goal.invariant_of-self-inside
invariant_of-self-inside g c = kept g (goal.at.invariant_of-self-inside g c).After-try_recompute_nodes

pub returns-clause-written : goal.returns-clause-written
returns-clause-written g c =
    let at = (goal.at.returns-clause-written g c).After-nodes in
    rw (← same g at) (on_ok_weaker c.try_recompute_nodes.result (λ r. (c.nodes.result, r.0, rw (same g at) (ordered g at), r.1))
    c.try_recompute_nodes.ensures.written)

pub returns-clause-stopped : goal.returns-clause-stopped
returns-clause-stopped g c =
    let at = (goal.at.returns-clause-stopped g c).After-nodes in
    rw (← same g at) (IfErr-weaker c.try_recompute_nodes.result _ _ (λ e r. (c.nodes.result, rw (same g at) (ordered g at), r))
    c.try_recompute_nodes.ensures.stopped)

pub returns-clause-acyclic : goal.returns-clause-acyclic
returns-clause-acyclic g c =
    acyclic_from_order c.self-inside.inside.0.0.order (kept g (goal.at.returns-clause-acyclic g c).After-try_recompute_nodes).0
