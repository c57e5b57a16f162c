use Rattle.std.proofs.Common.{◌≡◌, ◌∙◌, ℕ, replicate, ap, arith}
use Rattle.daggy_run.proofs.RaisedNodes.{resized, zeros_inside, leveling_starts, next_exists, leveling_on}
use Rattle.daggy_run.proofs.RaisedNodes.{leveling_ends}
use Rattle.daggy_run.proofs.plan.levels.levels_of.Goals as goal

pub nodes-init : goal.nodes-init
nodes-init g c =
    let graph = g.D.GuardedDag.graph c.args.dag.now in
    let bound = c.node_bound-bound.result in
    let levels : c.resize.new.self.items ≡ replicate bound 0 =
    resized _ _ bound _ 0 c.new-levels.ensures.items c.new-levels.ensures.len c.in_ok-resize.ensures.items in
    let parents : c.resize-2.new.self.items ≡ replicate bound 0 =
    resized _ _ bound _ c.new.result c.new-parents.ensures.items c.new-parents.ensures.len
    c.in_ok-resize-2.ensures.items
    ∙ ap (λ (x : ℕ). replicate bound x) c.new.ensures in
    record {
      leveling =
          rw levels (leveling_starts g.Ix.IndexType.greatest graph c.node_bound-bound.ensures.dag.well_formed
          _ _ bound c.topological_order-nodes.ensures.ordered c.topological_order-nodes.ensures.fits);
      levels_fit = omega (arith, c.in_ok-resize.ensures.len, c.node_bound-bound.ensures.value);
      parents_fit = omega (arith, c.in_ok-resize-2.ensures.len, c.node_bound-bound.ensures.value);
      inside = rw parents (zeros_inside bound);
    }

pub raise_children-requires-clause-exists : goal.raise_children-requires-clause-exists
raise_children-requires-clause-exists g c =
    next_exists g.Ix.IndexType.greatest (g.D.GuardedDag.graph c.args.dag.now) c.node_bound-bound.ensures.dag.well_formed
    c.in-Some.ensures.steps c.nodes.invariant.leveling

pub nodes-preserved : goal.nodes-preserved
nodes-preserved g c = record {
  leveling =
      leveling_on g.Ix.IndexType.greatest (g.D.GuardedDag.graph c.args.dag.now)
      c.node_bound-bound.ensures.dag.well_formed c.in-Some.ensures.steps c.nodes.invariant.leveling
      c.raise_children.ensures.raised;
  levels_fit = omega (arith, c.raise_children.ensures.levels, c.nodes.invariant.levels_fit);
  parents_fit = omega (arith, c.raise_children.ensures.parents, c.nodes.invariant.parents_fit);
  inside = λ k low. let within = c.raise_children.ensures.within k (omega (arith, c.raise_children.new.parents.ok.0)) in
      omega (arith, within, c.raise_children.new.parents.ok.0);
}

pub returns-clause-found : goal.returns-clause-found
returns-clause-found g c =
    leveling_ends (g.D.GuardedDag.graph c.args.dag.now) _ _ _ c.in_default.ensures.steps.0 c.nodes.invariant.leveling
