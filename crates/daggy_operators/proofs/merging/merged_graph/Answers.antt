use Rattle.std.proofs.Common.{◌∙◌, sym, subst, ap, refl, length, arith}
use Rattle.std.proofs.lemmas.List.{length-map}
use Rattle.std.specs.Option.{option_map}
use Rattle.daggy_base.specs.Graph.{Graph}
use Rattle.daggy_base.specs.FromSlots.{graph_of_slots, edges_by, edge_of}
use Rattle.daggy_operators.specs.Merging.{IsMerged}
use Rattle.daggy_operators.proofs.Merged.{make_merged}
use Rattle.daggy_operators.proofs.merging.merged_graph.Given.{Over}
use Rattle.daggy_operators.proofs.merging.merged_graph.Goals.{In_ok-edges}
use Rattle.daggy_operators.proofs.merging.merged_graph.Goals as goal

module _ (g : Over) (c : In_ok-edges g) where
  merged_is : IsMerged (g.S.EdgeSource.graph c.args.first.now) (g.T.EdgeSource.graph c.args.second.now)
      (graph_of_slots c.in_ok-nodes.nodes.items (edges_by g.Ix.IndexType.number c.in_ok-edges.edges.items))
  merged_is =
      record {
        nodes = c.in_ok-nodes.ensures.same;
        first = c.in_ok-edges.ensures.first;
        second = c.in_ok-edges.ensures.second;
        lists = refl;
      }

pub from_slots-requires : goal.from_slots-requires
from_slots-requires g c =
    let nodes = c.in_ok-nodes.nodes in
    let edges = c.in_ok-edges.edges in
    let number = g.Ix.IndexType.number in
    make_merged c.invariant.ensures.well_formed c.invariant-2.ensures.well_formed nodes.items
    (edges_by number edges.items) (merged_is g c) (omega (arith, nodes.ok.0, c.in_ok-nodes.ensures.few))
    (omega (arith, length-map edges.items (option_map (edge_of number)), edges.ok.0, c.in_ok-edges.ensures.sized, c.requires))

pub returns : goal.returns
returns g c =
    let s = (goal.at.returns g c).In_ok-edges in
    let P : Graph _ _ → Type 0 = λ z. IsMerged (g.S.EdgeSource.graph c.args.first.now) (g.T.EdgeSource.graph c.args.second.now) z in
    subst P (sym (ap (λ z. z.graph) c.in_ok-graph.ensures)) (merged_is g s)
