use Rattle.std.proofs.Common.{◌≡◌, ◌≤◌, ℕ, arith}
use Rattle.daggy_base.specs.Graph.{node_bound}
use Rattle.daggy_base.specs.Adding.{next_node}
use Rattle.tests_order.proofs.Changes.{on_ok, if_ok, node_last, node_first}
use Rattle.tests_order.proofs.tests.kept.Kept.add_node.Goals as goal

pub invariant_of-self : goal.invariant_of-self
invariant_of-self g c =
    let is : c.made-n.result ≡ next_node c.self.inside.graph.graph =
    if_ok (λ (n : ℕ). n ≡ next_node c.self.inside.graph.graph) _ _ c.made-n.ensures c.add_node.ensures.index in
    let fits : node_bound c.add_node.new.self.graph ≤ c.reserve.new.self.nodes =
    omega (arith, c.node_bound-bound.ensures.value, (on_ok _ _ c.made.ensures c.reserve.ensures.ok).0) in (
      node_first c.self.inside.graph c.add_node.new.self c.self.inside.order c.push_first.new.self c.made-n.result
          c.node_bound-well_formed.ensures.well_formed c.self.invariant.0 is
          (on_ok _ _ c.made-n.ensures c.add_node.ensures.added)
          (on_ok _ _ c.made-then-first.ensures c.push_first.ensures.ok),
      fits,
    )

pub invariant_of-self-else-first : goal.invariant_of-self-else-first
invariant_of-self-else-first g c =
    let is : c.made-n.result ≡ next_node c.self.inside.graph.graph =
    if_ok (λ (n : ℕ). n ≡ next_node c.self.inside.graph.graph) _ _ c.made-n.ensures c.add_node.ensures.index in
    let fits : node_bound c.add_node.new.self.graph ≤ c.reserve.new.self.nodes =
    omega (arith, c.node_bound-bound.ensures.value, (on_ok _ _ c.made.ensures c.reserve.ensures.ok).0) in (
      node_last c.self.inside.graph c.add_node.new.self c.self.inside.order c.push.new.self c.made-n.result
          c.node_bound-well_formed.ensures.well_formed c.self.invariant.0 is
          (on_ok _ _ c.made-n.ensures c.add_node.ensures.added) (on_ok _ _ c.made-else-first.ensures c.push.ensures.ok),
      fits,
    )
