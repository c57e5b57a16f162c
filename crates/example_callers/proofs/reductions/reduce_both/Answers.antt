use Rattle.std.proofs.Common.{ℕ, List, [], map, refl}
use Rattle.daggy_base.specs.Graph.{Graph}
use Rattle.daggy_base.specs.Ordered.{IsOrderOf}
use Rattle.daggy_base.specs.declared.kind.Kind.TheVariants.{Compact, Stable}
use Rattle.daggy_redundant.specs.Comparison.{ReachAll}
use Rattle.example_callers.proofs.reductions.reduce_both.Goals as goal

-- all nodes reach all nodes
all_reached : {N E : Type 0} (g : Graph N E) (order : List ℕ) → IsOrderOf g order → ReachAll g order
all_reached g order o n has = (n, (o.exact n).1 has, has, ([], has, refl))

pub returns : goal.returns
returns g c =
    c.reductions_are_alike.ensures _ _ _ _ record {
      limit = g.Ix.IndexType.greatest;
      dag = c.node_count-dag.ensures.dag;
      kind = Compact;
      roots = map g.Ix.IndexType.number c.in_ok-roots.roots.items;
      all = all_reached _ _ c.in_ok-roots.ensures;
      reduced = c.in_ok-transitive_reduce.ensures.reduced;
    } record {
      limit = g.Jx.IndexType.greatest;
      dag = c.node_count-other_dag.ensures.dag;
      kind = Stable;
      roots = map g.Jx.IndexType.number c.in_ok-other_roots.other_roots.items;
      all = all_reached _ _ c.in_ok-other_roots.ensures;
      reduced = c.in_ok-transitive_reduce-2.ensures.reduced;
    } c.requires
