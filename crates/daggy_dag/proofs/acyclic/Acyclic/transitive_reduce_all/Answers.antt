use Rattle.std.proofs.Common.{ℕ, ◌<◌, List, map, arith}
use Rattle.daggy_redundant.specs.Comparison.{ReachAll}
use Rattle.daggy_dag.proofs.Found.{ok_holds, both_hold}
use Rattle.daggy_dag.proofs.WholeReductions.{numbers_reach_all, covers_only}
use Rattle.daggy_dag.proofs.acyclic.Acyclic.transitive_reduce_all.Given.{Over}
use Rattle.daggy_dag.proofs.acyclic.Acyclic.transitive_reduce_all.Goals.{After-transitive_reduce-reduced}
use Rattle.daggy_dag.proofs.acyclic.Acyclic.transitive_reduce_all.Goals as goal

-- the roots reach all nodes
all : (g : Over) (c : After-transitive_reduce-reduced g)
    → ReachAll c.args.self.now.graph (map g.Ix.IndexType.number c.in_ok-nodes.nodes.items)
all g c =
    numbers_reach_all c.args.self.now.graph (map g.Ix.IndexType.number c.in_ok-nodes.nodes.items) (λ n low.
    c.in_ok-nodes.ensures n (omega (arith, low, c.node_bound.ensures.value)))

pub returns-clause-reduced : goal.returns-clause-reduced
returns-clause-reduced g c =
    let at = (goal.at.returns-clause-reduced g c).After-transitive_reduce-reduced in
    let roots = map g.Ix.IndexType.number c.in_ok-nodes.nodes.items in
    ok_holds c.transitive_reduce-reduced.result (λ r. (roots, all g at, r)) c.transitive_reduce-reduced.ensures.reduced

pub returns-clause-covers : goal.returns-clause-covers
returns-clause-covers g c =
    let at = (goal.at.returns-clause-covers g c).After-transitive_reduce-reduced in
    let roots = map g.Ix.IndexType.number c.in_ok-nodes.nodes.items in
    both_hold c.transitive_reduce-reduced.result
    (covers_only c.args.self.now.graph c.transitive_reduce-reduced.new.self.graph roots
    c.node_count-count-2.ensures.dag.well_formed (all g at))
    c.transitive_reduce-reduced.ensures.reachability c.transitive_reduce-reduced.ensures.covers
