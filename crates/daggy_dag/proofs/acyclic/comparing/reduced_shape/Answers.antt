use Rattle.std.proofs.Common.{sym, subst}
use Rattle.daggy_base.specs.Graph.{Graph}
use Rattle.daggy_base.specs.declared.kind.Kind.TheVariants.{Compact}
use Rattle.daggy_dag.specs.WholeReduction.{IsWholeReduction}
use Rattle.daggy_dag.proofs.Mapped.{nodes_mapped, reach_mapped}
use Rattle.daggy_dag.proofs.acyclic.comparing.reduced_shape.Goals as goal

pub returns : goal.returns
returns g c =
    let whole = c.in_ok-shape.shape.graph in
    let P : Graph (Unit {0}) (Unit {0}) → Type 0 = λ z. IsWholeReduction Compact whole z in
    let reduced = subst P (sym c.into_graph.ensures.graph) c.in_ok-transitive_reduce_all.ensures.reduced in
    record {
      whole = whole;
      dag = c.node_count-count.ensures.dag;
      nodes = nodes_mapped _ _ _ _ _ c.args.dag.now.graph whole c.in_ok-shape.ensures.mapped;
      reachability = reach_mapped _ _ _ _ _ c.args.dag.now.graph whole c.in_ok-shape.ensures.mapped;
      kind = Compact;
      roots = reduced.0;
      all = reduced.1;
      reduced = reduced.2;
    }
