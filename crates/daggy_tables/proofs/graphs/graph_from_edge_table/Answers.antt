use Rattle.std.proofs.Common.{◌≡◌, ◌≤◌, ◌∙◌, length, map, ap, sym, subst, arith}
use Rattle.std.proofs.lemmas.List.{length-replicate}
use Rattle.daggy_base.specs.FromSlots.{edges_by}
use Rattle.daggy_base.specs.Graph.{Graph, IsCompact}
use Rattle.daggy_tables.proofs.EdgeBounds.{below_bound, bound_at_most}
use Rattle.daggy_tables.proofs.FullSlots.{make_graph, none_is_vacant}
use Rattle.daggy_tables.specs.Reading.{occupied, with_text, EndsBelow}
use Rattle.daggy_tables.specs.Tables.{ends_bound}
use Rattle.daggy_tables.proofs.graphs.graph_from_edge_table.Goals as goal

pub from_slots-requires-clause-makes_graph : goal.from_slots-requires-clause-makes_graph
from_slots-requires-clause-makes_graph g c =
    let number = g.Ix.IndexType.number in
    let limit = g.Ix.IndexType.greatest in
    let slots = c.in-Ok-occupied_slots.slots.items in
    let edges = c.in-Ok.edge_slots.items in
    let are = c.in-Ok-occupied_slots.ensures in
    let bound = ends_bound (map with_text (occupied (edges_by number edges))) in
    let count : length slots ≡ bound =
    ap length are ∙ length-replicate c.node_bound-bound.result _ ∙ c.node_bound-bound.ensures
    ∙ ap (λ l. ends_bound (map with_text (occupied (edges_by number l)))) c.as_slice.ensures.value in
    let ends = subst (λ n. EndsBelow n (edges_by number edges)) (c.index.ensures.value ∙ c.end-end.ensures.number) c.in-Ok.ensures.ends in
    let few : length slots ≤ limit = let most = bound_at_most limit (edges_by number edges) ends in omega (arith, count, most) in
    make_graph limit number slots edges few c.in-Ok.ensures.few (none_is_vacant _ slots are)
    (subst (λ n. EndsBelow n (edges_by number edges)) (sym count) (below_bound (edges_by number edges)))

pub from_slots-requires-clause-compact : goal.from_slots-requires-clause-compact
from_slots-requires-clause-compact g c compact = record {
  nodes = none_is_vacant _ c.in-Ok-occupied_slots.slots.items c.in-Ok-occupied_slots.ensures;
  edges = c.in-Ok.ensures.full;
}

pub returns-in-Ok-from_slots-clause-no_vacant_slot : goal.returns-in-Ok-from_slots-clause-no_vacant_slot
returns-in-Ok-from_slots-clause-no_vacant_slot g c =
    let Compacts : Graph _ _ → Type 0 = λ z. IsCompact z in
    subst Compacts (sym c.in-Ok-from_slots.ensures.graph) (record {
      nodes = none_is_vacant _ c.in-Ok-occupied_slots.slots.items c.in-Ok-occupied_slots.ensures;
      edges = c.in-Ok.ensures.full;
    })
