use Rattle.std.proofs.Common.{◌≡◌, ◌∙◌, true, length, replicate, sym, ap, subst}
use Rattle.daggy_base.specs.Graph.{Graph}
use Rattle.daggy_base.specs.declared.kind.Kind.TheVariants.{Stable}
use Rattle.daggy_dag.specs.WholeReduction.{IsWholeReduction}
use Rattle.daggy_dag.proofs.Mapped.{nodes_mapped, reach_mapped}
use Rattle.daggy_operators.proofs.Wholes.{same_nodes, same_reach, through}
use Rattle.daggy_operators.proofs.comparing.reduced_shape.Given.{Over}
use Rattle.daggy_operators.proofs.comparing.reduced_shape.Goals.{In_ok-marks}
use Rattle.daggy_operators.proofs.comparing.reduced_shape.Goals as goal

module _ (g : Over) (c : In_ok-marks g) where
  slots_are : c.node_slots.result ≡ length c.args.dag.now.graph.nodes
  slots_are = c.node_slots.ensures ∙ ap (λ z. length z.nodes) c.graph.ensures.graph

  all_set : c.in_ok-marks.marks.items ≡ replicate (length c.args.dag.now.graph.nodes) true
  all_set = c.in_ok-marks.ensures ∙ ap (λ z. replicate z true) slots_are

pub returns : goal.returns
returns g c =
    let s = (goal.at.returns g c).In_ok-marks in
    let whole = c.in_ok-shape.shape.graph in
    let P : Graph (Unit {0}) (Unit {0}) → Type 0 = λ z. IsWholeReduction Stable whole z in
    let reduced = subst P (sym c.into_graph.ensures.graph) c.in_ok-transitive_reduce_all.ensures.reduced in
    let w = c.node_count-count.ensures.dag.well_formed in
    let part = c.in_ok-whole.ensures.part in
    let nodes = nodes_mapped _ _ _ _ _ c.in_ok-whole.whole.graph whole c.in_ok-shape.ensures.mapped in
    let reach = reach_mapped _ _ _ _ _ c.in_ok-whole.whole.graph whole c.in_ok-shape.ensures.mapped in
    record {
      whole = whole;
      dag = c.node_count-count-2.ensures.dag;
      nodes = λ n. through (same_nodes w (all_set g s) part n) (nodes n);
      reachability = λ u v. through (same_reach w (all_set g s) part u v) (reach u v);
      kind = Stable;
      roots = reduced.0;
      all = reduced.1;
      reduced = reduced.2;
    }
