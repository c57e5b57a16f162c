use Rattle.std.proofs.Common.{◌≡◌, ◌∙◌, length, map, string_bytes, sym, subst}
use Rattle.std.proofs.lemmas.List.{length-map}
use Rattle.daggy_base.specs.FromSlots.{edges_by}
use Rattle.daggy_tables.proofs.Explained.{edges_explained}
use Rattle.daggy_tables.proofs.FullSlots.{all_occupied, make_graph}
use Rattle.daggy_tables.specs.Reading.{occupied, EndsBelow}
use Rattle.daggy_tables.specs.Tables.{rows_of}
use Rattle.daggy_tables.proofs.graphs.graph_from_tables.Goals as goal

pub returns-in-Err-read_edges-clause-fault : goal.returns-in-Err-read_edges-clause-fault
returns-in-Err-read_edges-clause-fault g c =
    let slots = c.in-Ok.slots.items in
    let count : c.len.result ≡ length (map string_bytes (occupied slots)) =
    c.len.ensures ∙ c.in-Ok.slots.ok.0 ∙ sym (length-map (occupied slots) string_bytes ∙ all_occupied slots c.in-Ok.ensures.full) in
    edges_explained g.Ix.IndexType.greatest (rows_of c.args.nodes.now) (rows_of c.args.edges.now) _ c.len.result c.in-Err-read_edges.stop
    c.edges_error.result c.in-Ok.ensures.said count c.in-Err-read_edges.ensures.stops c.edges_error.ensures

pub from_slots-requires-clause-makes_graph : goal.from_slots-requires-clause-makes_graph
from_slots-requires-clause-makes_graph g c =
    let number = g.Ix.IndexType.number in
    let slots = c.in-Ok.slots.items in
    let edges = c.in-Ok-read_edges.edge_slots.items in
    make_graph g.Ix.IndexType.greatest number slots edges c.in-Ok.ensures.few c.in-Ok-read_edges.ensures.few c.in-Ok.ensures.full
    (subst (λ n. EndsBelow n (edges_by number edges)) (c.len.ensures ∙ c.in-Ok.slots.ok.0) c.in-Ok-read_edges.ensures.ends)
