use Rattle.std.proofs.Common.{◌≡◌, ◌∙◌, ℕ, map, length, ap, subst}
use Rattle.daggy_operators.proofs.Marks.{AreMarked}
use Rattle.daggy_operators.proofs.Wholes.{is_subgraph, paths_are, on_ok}
use Rattle.daggy_operators.proofs.derived.subgraph.Given.{Over}
use Rattle.daggy_operators.proofs.derived.subgraph.Goals.{In_ok-marks}
use Rattle.daggy_operators.proofs.derived.subgraph.Goals as goal

module _ (g : Over) (c : In_ok-marks g) where
  slots_are : c.node_slots.result ≡ length c.args.dag.now.graph.nodes
  slots_are = c.node_slots.ensures ∙ ap (λ z. length z.nodes) c.graph-store.ensures.graph

  marked : AreMarked (length c.args.dag.now.graph.nodes) (map g.Ix.IndexType.number c.args.nodes.now) c.in_ok-marks.marks.items
  marked =
      let P : ℕ → Type 0 = λ z. AreMarked z (map g.Ix.IndexType.number c.args.nodes.now) c.in_ok-marks.marks.items in
      subst P slots_are c.in_ok-marks.ensures.marked

pub part-requires-clause-sized : goal.part-requires-clause-sized
part-requires-clause-sized g c =
    c.in_ok-marks.ensures.sized ∙ slots_are g (goal.at.part-requires-clause-sized g c).In_ok-marks

pub returns-clause-part : goal.returns-clause-part
returns-clause-part g c =
    let s = (goal.at.returns-clause-part g c).In_ok-marks in
    on_ok c.part.result
    (λ d p. is_subgraph (map g.Ix.IndexType.number c.args.nodes.now) c.node_count-count.ensures.dag.well_formed (marked g s) p)
    c.part.ensures.part

pub returns-clause-paths : goal.returns-clause-paths
returns-clause-paths g c =
    let s = (goal.at.returns-clause-paths g c).In_ok-marks in
    on_ok c.part.result
    (λ d p. paths_are (map g.Ix.IndexType.number c.args.nodes.now) c.node_count-count.ensures.dag.well_formed (marked g s) p)
    c.part.ensures.part
