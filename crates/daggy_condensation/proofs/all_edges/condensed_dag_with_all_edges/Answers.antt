use Rattle.std.proofs.Common.{map, refl, sym, subst, arith}
use Rattle.daggy_base.specs.Graph.{Graph, IsCompact}
use Rattle.daggy_base.specs.Path.{IsAcyclic}
use Rattle.daggy_base.specs.FromSlots.{graph_of_slots, edges_by}
use Rattle.daggy_base.proofs.SlotLists.{none_vacant}
use Rattle.daggy_components.specs.Condensation.{KeepsReachability}
use Rattle.daggy_components.proofs.Condensed.{on_ok, full_by}
use Rattle.daggy_components.proofs.Condensing.{count_low}
use Rattle.daggy_condensation.specs.Between.{JoinsComponents, KeepsBetween, HasComponents, IsAsBuilt}
use Rattle.daggy_condensation.proofs.KeptEdges.{kept_few, kept_full, kept_joins}
use Rattle.daggy_condensation.proofs.Joined.{joined_acyclic, joined_reachability, joined_makes}
use Rattle.daggy_condensation.proofs.all_edges.condensed_dag_with_all_edges.Given.{Over}
use Rattle.daggy_condensation.proofs.all_edges.condensed_dag_with_all_edges.Goals.{In_ok-edges}
use Rattle.daggy_condensation.proofs.all_edges.condensed_dag_with_all_edges.Goals as goal

-- an edge leads from a component to another if and only if one of the graph does
joins : (g : Over) (c : In_ok-edges g)
    → JoinsComponents (g.S.EdgeSource.graph c.args.store.now) c.args.components.now
    (edges_by g.Ix.IndexType.number c.in_ok-edges.edges.items)
joins g c =
    kept_joins (goal.F-step g) g.Ix.IndexType.of c.args.components.now c.requires.components c.args.f
    (edges_by g.Ix.IndexType.number c.in_ok-edges.edges.items) c.in_ok-edges.ensures

acyclic : (g : Over) (c : In_ok-edges g)
    → IsAcyclic (graph_of_slots c.in_ok-nodes.nodes.items (edges_by g.Ix.IndexType.number c.in_ok-edges.edges.items))
acyclic g c =
    joined_acyclic (λ v. map g.Ix.IndexType.number v.items)
    (graph_of_slots c.in_ok-nodes.nodes.items (edges_by g.Ix.IndexType.number c.in_ok-edges.edges.items))
    c.requires.components c.in_ok-nodes.ensures.members (joins g c)

compact : (g : Over) (c : In_ok-edges g)
    → IsCompact (graph_of_slots c.in_ok-nodes.nodes.items (edges_by g.Ix.IndexType.number c.in_ok-edges.edges.items))
compact g c =
    record {
      nodes = none_vacant c.in_ok-nodes.nodes.items (full_by (λ v. map g.Ix.IndexType.number v.items)
          c.in_ok-nodes.nodes.items c.args.components.now
          (omega (arith, c.in_ok-nodes.ensures.count, c.in_ok-nodes.nodes.ok.0)) c.in_ok-nodes.ensures.members);
      edges = none_vacant (edges_by g.Ix.IndexType.number c.in_ok-edges.edges.items)
          (kept_full (goal.F-step g) g.Ix.IndexType.of c.args.components.now c.args.f 0
          (g.S.EdgeSource.graph c.args.store.now).edges (edges_by g.Ix.IndexType.number c.in_ok-edges.edges.items)
          c.in_ok-edges.ensures);
    }

pub dag_of-requires-clause-makes_graph : goal.dag_of-requires-clause-makes_graph
dag_of-requires-clause-makes_graph g c =
    let at = (goal.at.dag_of-requires-clause-makes_graph g c).In_ok-edges in
    joined_makes (λ v. map g.Ix.IndexType.number v.items)
    (graph_of_slots c.in_ok-nodes.nodes.items (edges_by g.Ix.IndexType.number c.in_ok-edges.edges.items))
    c.requires.components c.in_ok-nodes.ensures.members (joins g at)
    (omega (
      arith,
      c.in_ok-nodes.ensures.count,
      c.in_ok-nodes.nodes.ok.0,
      count_low c.invariant.ensures.well_formed c.requires.components,
    ))
    (omega (
      arith,
      kept_few (goal.F-step g) g.Ix.IndexType.of c.args.components.now c.args.f 0
          (g.S.EdgeSource.graph c.args.store.now).edges (edges_by g.Ix.IndexType.number c.in_ok-edges.edges.items)
          c.in_ok-edges.ensures,
      c.invariant.ensures.well_formed.few_edges,
    ))

pub dag_of-requires-clause-compact : goal.dag_of-requires-clause-compact
dag_of-requires-clause-compact g c = compact g (goal.at.dag_of-requires-clause-compact g c).In_ok-edges

pub dag_of-requires-clause-acyclic : goal.dag_of-requires-clause-acyclic
dag_of-requires-clause-acyclic g c = acyclic g (goal.at.dag_of-requires-clause-acyclic g c).In_ok-edges

pub returns-clause-nodes : goal.returns-clause-nodes
returns-clause-nodes g c =
    on_ok c.dag_of.result c.dag_of.ensures (λ d is.
    let P : Graph _ _ → Type 0 = λ z.
    HasComponents (λ list. map g.Ix.IndexType.number list.items) c.args.components.now z in
    subst P (sym is) c.in_ok-nodes.ensures.members)

pub returns-clause-edges : goal.returns-clause-edges
returns-clause-edges g c =
    on_ok c.dag_of.result c.dag_of.ensures (λ d is.
    let P : Graph _ _ → Type 0 = λ z.
    KeepsBetween (goal.F-step g) g.Ix.IndexType.of c.args.components.now c.args.f 0
    (g.S.EdgeSource.graph c.args.store.now).edges z.edges in
    subst P (sym is) c.in_ok-edges.ensures)

pub returns-clause-lists : goal.returns-clause-lists
returns-clause-lists g c =
    on_ok c.dag_of.result c.dag_of.ensures (λ d is.
    let P : Graph _ _ → Type 0 = λ z. IsAsBuilt z in subst P (sym is) refl)

pub returns-clause-acyclic : goal.returns-clause-acyclic
returns-clause-acyclic g c =
    let at = (goal.at.returns-clause-acyclic g c).In_ok-edges in
    on_ok c.dag_of.result c.dag_of.ensures (λ d is.
    let P : Graph _ _ → Type 0 = λ z. IsAcyclic z in subst P (sym is) (acyclic g at))

pub returns-clause-reachability : goal.returns-clause-reachability
returns-clause-reachability g c =
    let at = (goal.at.returns-clause-reachability g c).In_ok-edges in
    on_ok c.dag_of.result c.dag_of.ensures (λ d is.
    let P : Graph _ _ → Type 0 = λ z.
    KeepsReachability (g.S.EdgeSource.graph c.args.store.now) c.args.components.now z in
    subst P (sym is)
    (joined_reachability (λ v. map g.Ix.IndexType.number v.items)
    (graph_of_slots c.in_ok-nodes.nodes.items (edges_by g.Ix.IndexType.number c.in_ok-edges.edges.items))
    c.requires.components c.in_ok-nodes.ensures.members (joins g at)))

pub returns-clause-compact : goal.returns-clause-compact
returns-clause-compact g c =
    let at = (goal.at.returns-clause-compact g c).In_ok-edges in
    on_ok c.dag_of.result c.dag_of.ensures (λ d is.
    let P : Graph _ _ → Type 0 = λ z. IsCompact z in subst P (sym is) (compact g at))
