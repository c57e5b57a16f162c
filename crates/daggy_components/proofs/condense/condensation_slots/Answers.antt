use Rattle.std.proofs.Common.{map, arith}
use Rattle.std.specs.Option.{option_map}
use Rattle.std.proofs.lemmas.List.{length-map}
use Rattle.daggy_base.specs.FromSlots.{graph_of_slots, edges_by, edge_of}
use Rattle.daggy_base.proofs.SlotLists.{none_vacant}
use Rattle.daggy_components.specs.Condensation.{IsCondensation}
use Rattle.daggy_components.proofs.Condensed.{condensed_acyclic, keeps_reachability, makes_graph, full_by}
use Rattle.daggy_components.proofs.condense.condensation_slots.Goals as goal

pub returns-clause-acyclic : goal.returns-clause-acyclic
returns-clause-acyclic g c =
    let s : IsCondensation (λ v. map g.Ix.IndexType.number v.items) g.Ix.IndexType.number
    (g.S.EdgeSource.graph c.args.source.now) c.args.components.now
    (graph_of_slots c.in_ok-nodes.nodes.items (edges_by g.Ix.IndexType.number c.in_ok-edges.edges.items)) =
    record { nodes = c.in_ok-nodes.ensures.slots; edges = c.in_ok-edges.ensures.between } in
    condensed_acyclic c.requires s

pub returns-clause-reachability : goal.returns-clause-reachability
returns-clause-reachability g c =
    let s : IsCondensation (λ v. map g.Ix.IndexType.number v.items) g.Ix.IndexType.number
    (g.S.EdgeSource.graph c.args.source.now) c.args.components.now
    (graph_of_slots c.in_ok-nodes.nodes.items (edges_by g.Ix.IndexType.number c.in_ok-edges.edges.items)) =
    record { nodes = c.in_ok-nodes.ensures.slots; edges = c.in_ok-edges.ensures.between } in
    keeps_reachability c.requires s

pub returns-clause-makes_graph : goal.returns-clause-makes_graph
returns-clause-makes_graph g c =
    let s : IsCondensation (λ v. map g.Ix.IndexType.number v.items) g.Ix.IndexType.number
    (g.S.EdgeSource.graph c.args.source.now) c.args.components.now
    (graph_of_slots c.in_ok-nodes.nodes.items (edges_by g.Ix.IndexType.number c.in_ok-edges.edges.items)) =
    record { nodes = c.in_ok-nodes.ensures.slots; edges = c.in_ok-edges.ensures.between } in
    makes_graph c.requires s
    (omega (
      arith,
      c.in_ok-nodes.ensures.count,
      c.in_ok-nodes.nodes.ok.0,
      c.in_ok-edges.ensures.few_components,
    ))
    (omega (
      arith,
      c.in_ok-edges.ensures.few,
      c.in_ok-edges.edges.ok.0,
      length-map c.in_ok-edges.edges.items (option_map (edge_of g.Ix.IndexType.number)),
    ))

pub returns-clause-compact : goal.returns-clause-compact
returns-clause-compact g c =
    record {
      nodes = none_vacant c.in_ok-nodes.nodes.items (full_by (λ v. map g.Ix.IndexType.number v.items)
          c.in_ok-nodes.nodes.items c.args.components.now
          (omega (arith, c.in_ok-nodes.ensures.count, c.in_ok-nodes.nodes.ok.0)) c.in_ok-nodes.ensures.slots);
      edges = none_vacant (edges_by g.Ix.IndexType.number c.in_ok-edges.edges.items) c.in_ok-edges.ensures.between.full;
    }
