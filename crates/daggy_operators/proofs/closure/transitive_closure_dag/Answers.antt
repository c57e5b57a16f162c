use Rattle.std.proofs.Common.{◌≡◌, ◌∙◌, ℕ, length, Some, Err, refl, sym, ap, subst, arith}
use Rattle.std.proofs.lemmas.List.{length-map}
use Rattle.std.specs.Option.{option_map, option_copied}
use Rattle.daggy_base.specs.Graph.{Graph, node_weight, slot}
use Rattle.daggy_base.specs.FromSlots.{graph_of_slots, edges_by, edge_of}
use Rattle.daggy_reduction.specs.Descendants.{IsDescendantOf}
use Rattle.daggy_operators.specs.Closure.{IsClosure}
use Rattle.daggy_operators.specs.Parts.{ends_by}
use Rattle.daggy_operators.proofs.Closed.{all_ends_shown, closure_makes, closure_acyclic, closure_reaches}
use Rattle.daggy_operators.proofs.Pairs.{same_length}
use Rattle.daggy_operators.proofs.closure.transitive_closure_dag.Given.{Over}
use Rattle.daggy_operators.proofs.closure.transitive_closure_dag.Goals.{In-Ok-all_nodes}
use Rattle.daggy_operators.proofs.closure.transitive_closure_dag.Goals as goal

made : (g : Over) (c : In-Ok-all_nodes g) → IsClosure c.args.dag.now.graph
    (graph_of_slots c.in-Ok-all_nodes.nodes.items (edges_by g.Ix.IndexType.number c.in-Ok.edges.items))
made g c =
    let number = g.Ix.IndexType.number in
    let listed = c.in-Ok.ensures.pairs in
    let P : Graph _ _ → Type 0 = λ z. (n : ℕ) → option_copied (slot c.in-Ok-all_nodes.nodes.items n) ≡ node_weight z n in
    record {
      nodes = subst P c.graph.ensures.graph c.in-Ok-all_nodes.ensures.same;
      edges = (listed.0, listed.1, all_ends_shown number c.in-Ok.edges.items ∙ listed.2);
      lists = refl;
    }

pub from_slots-requires-clause-makes_graph : goal.from_slots-requires-clause-makes_graph
from_slots-requires-clause-makes_graph g c =
    let closure = made g (goal.at.from_slots-requires-clause-makes_graph g c).In-Ok-all_nodes in
    let well = c.node_count-count.ensures.dag.well_formed in
    let long = length-map c.in-Ok.edges.items (option_map (edge_of g.Ix.IndexType.number)) in
    let slots = ap (λ z. length z.nodes) c.graph.ensures.graph in
    closure_makes closure well
    (omega (arith, well.few_nodes, slots, c.in-Ok-all_nodes.ensures.sized, c.in-Ok-all_nodes.nodes.ok.0))
    (omega (arith, long, c.in-Ok.ensures.few, c.in-Ok.edges.ok.0))

pub unreachable-requires : goal.unreachable-requires
unreachable-requires g c =
    let closure = made g (goal.at.unreachable-requires g c).In-Ok-all_nodes in
    c.from_slots.ensures.cycle (c.in-Err-Cycle.is ∙ ap Err c.in-Err-Cycle.field-0-is)
    (closure_acyclic closure c.node_count-count.ensures.dag.acyclic)

pub returns-in-Ok-from_slots-clause-closure : goal.returns-in-Ok-from_slots-clause-closure
returns-in-Ok-from_slots-clause-closure g c =
    let P : Graph _ _ → Type 0 = λ z. IsClosure c.args.dag.now.graph z in
    subst P (sym c.in-Ok-from_slots.ensures.made) (made g (goal.at.returns-in-Ok-from_slots-clause-closure g c).In-Ok-all_nodes)

pub returns-in-Ok-from_slots-clause-reachability : goal.returns-in-Ok-from_slots-clause-reachability
returns-in-Ok-from_slots-clause-reachability g c u v =
    let P : Graph _ _ → Type 0 = λ z. IsClosure c.args.dag.now.graph z in
    closure_reaches
    (subst P (sym c.in-Ok-from_slots.ensures.made) (made g (goal.at.returns-in-Ok-from_slots-clause-reachability g c).In-Ok-all_nodes))
    u v

pub returns-in-Ok-from_slots-clause-full : goal.returns-in-Ok-from_slots-clause-full
returns-in-Ok-from_slots-clause-full g c _ =
    let listed = c.in-Ok.ensures.pairs in
    let edges = c.in-Ok.edges.items in
    let many : length listed.0 ≡ length edges =
    sym (length-map listed.0 Some) ∙ (ap length (sym listed.2) ∙ length-map edges (option_map (ends_by g.Ix.IndexType.number))) in (
      λ full. absurd cc,
      λ more. absurd (let same = same_length (IsDescendantOf c.args.dag.now.graph) more.0 listed.0 more.1 listed.1 in
          omega (arith, more.2, same, many, c.in-Ok.ensures.few, c.in-Ok.edges.ok.0)),
    )
