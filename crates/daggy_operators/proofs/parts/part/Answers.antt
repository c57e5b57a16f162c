use Rattle.std.proofs.Common.{◌∙◌, length, Err, refl, sym, ap, subst, arith}
use Rattle.std.proofs.lemmas.List.{length-map}
use Rattle.std.specs.Option.{option_map}
use Rattle.daggy_base.specs.Graph.{Graph}
use Rattle.daggy_base.specs.FromSlots.{graph_of_slots, edges_by, edge_of}
use Rattle.daggy_operators.specs.Parts.{IsPart}
use Rattle.daggy_operators.proofs.PartSlots.{makes_graph}
use Rattle.daggy_operators.proofs.Wholes.{acyclic_part}
use Rattle.daggy_operators.proofs.parts.part.Given.{Over}
use Rattle.daggy_operators.proofs.parts.part.Goals.{In_ok-edges}
use Rattle.daggy_operators.proofs.parts.part.Goals as goal

module _ (g : Over) (c : In_ok-edges g) where
  made : IsPart c.args.dir c.args.marks.now.items c.args.dag.now.graph
      (graph_of_slots c.in_ok-nodes.nodes.items (edges_by g.Jx.IndexType.number c.in_ok-edges.edges.items))
  made =
      let h = graph_of_slots c.in_ok-nodes.nodes.items (edges_by g.Jx.IndexType.number c.in_ok-edges.edges.items) in
      let P : Graph _ _ → Type 0 = λ z. IsPart c.args.dir c.args.marks.now.items z h in
      subst P c.graph-store.ensures.graph
      (record { nodes = c.in_ok-nodes.ensures.kept; edges = c.in_ok-edges.ensures.kept; lists = refl })

pub node_slots-requires : goal.node_slots-requires
node_slots-requires g c = c.requires.sized ∙ ap (λ z. length z.nodes) (sym c.graph-store.ensures.graph)

pub edge_slots-requires-clause-sized : goal.edge_slots-requires-clause-sized
edge_slots-requires-clause-sized g c = c.requires.sized ∙ ap (λ z. length z.nodes) (sym c.graph-store.ensures.graph)

pub edge_slots-requires-clause-few : goal.edge_slots-requires-clause-few
edge_slots-requires-clause-few g c = omega (arith, c.requires.few_nodes, ap (λ z. length z.nodes) c.graph-store.ensures.graph)

pub from_slots-requires-clause-makes_graph : goal.from_slots-requires-clause-makes_graph
from_slots-requires-clause-makes_graph g c =
    let s = (goal.at.from_slots-requires-clause-makes_graph g c).In_ok-edges in
    let long = length-map c.in_ok-edges.edges.items (option_map (edge_of g.Jx.IndexType.number)) in
    let slots = ap (λ z. length z.edges) c.graph-store.ensures.graph in
    makes_graph g.Ix.IndexType.greatest c.in_ok-nodes.nodes.items
    (edges_by g.Jx.IndexType.number c.in_ok-edges.edges.items) c.node_count-count.ensures.dag.well_formed (made g s)
    (omega (arith, c.in_ok-nodes.nodes.ok.0, c.in_ok-nodes.ensures.sized, c.requires.sized, c.requires.few_nodes))
    (omega (arith, long, slots, c.in_ok-edges.edges.ok.0, c.in_ok-edges.ensures.sized, c.requires.few_edges))

pub returns-in-Ok-clause-part : goal.returns-in-Ok-clause-part
returns-in-Ok-clause-part g c =
    let s = (goal.at.returns-in-Ok-clause-part g c).In_ok-edges in
    let P : Graph _ _ → Type 0 = λ z. IsPart c.args.dir c.args.marks.now.items c.args.dag.now.graph z in
    subst P (sym c.in-Ok.ensures.made) (made g s)

pub unreachable-requires : goal.unreachable-requires
unreachable-requires g c =
    let s = (goal.at.unreachable-requires g c).In_ok-edges in
    c.from_slots.ensures.cycle (c.in-Err-Cycle.is ∙ ap Err c.in-Err-Cycle.field-0-is)
    (acyclic_part c.args.dir (made g s) c.node_count-count.ensures.dag.acyclic)
