use Rattle.std.proofs.Common.{◌∙◌, subst}
use Rattle.daggy_tables.specs.Reading.{Explains}
use Rattle.daggy_tables.specs.Tables.{rows_of}
use Rattle.example_callers.proofs.TextsKept.{law_holds, no_node_fault, no_edge_fault, same_nodes, same_edges}
use Rattle.example_callers.proofs.tabled.copied_by_tables.Goals as goal

pub returns-in-Ok-clause-nodes : goal.returns-in-Ok-clause-nodes
returns-in-Ok-clause-nodes g c =
    let h = g.S.EdgeSource.graph c.args.graph.now in
    let nodes = c.as_bytes-nodes.result.now in
    let edges = c.as_bytes-edges.result.now in
    let says = law_holds _ h _ _ _ _ nodes edges c.tables_are_read_back.ensures.nodes c.tables_are_read_back.ensures.edges c.requires
    c.node_table.ensures c.edge_table.ensures c.in_ok-node_text.ensures.ok c.in_ok-edge_text.ensures.ok
    (c.as_bytes-nodes.ensures.value ∙ c.as_str.ensures.value) (c.as_bytes-edges.ensures.value ∙ c.as_str-2.ensures.value) in
    same_nodes _ h c.invariant.ensures.well_formed c.requires (rows_of nodes) (rows_of edges) says (g.S.EdgeSource.graph c.in-Ok.copy)
    c.in-Ok.ensures.nodes

pub returns-in-Ok-clause-edges : goal.returns-in-Ok-clause-edges
returns-in-Ok-clause-edges g c =
    let h = g.S.EdgeSource.graph c.args.graph.now in
    let nodes = c.as_bytes-nodes.result.now in
    let edges = c.as_bytes-edges.result.now in
    let says = law_holds _ h _ _ _ _ nodes edges c.tables_are_read_back.ensures.nodes c.tables_are_read_back.ensures.edges c.requires
    c.node_table.ensures c.edge_table.ensures c.in_ok-node_text.ensures.ok c.in_ok-edge_text.ensures.ok
    (c.as_bytes-nodes.ensures.value ∙ c.as_str.ensures.value) (c.as_bytes-edges.ensures.value ∙ c.as_str-2.ensures.value) in
    same_edges _ h c.invariant.ensures.well_formed c.requires (rows_of nodes) (rows_of edges) says (g.S.EdgeSource.graph c.in-Ok.copy)
    c.in-Ok.ensures.nodes c.in-Ok.ensures.no_vacant_slot c.in-Ok.ensures.lists c.in-Ok.ensures.edges

pub unreachable-requires : goal.unreachable-requires
unreachable-requires g c =
    let h = g.S.EdgeSource.graph c.args.graph.now in
    let nodes = c.as_bytes-nodes.result.now in
    let edges = c.as_bytes-edges.result.now in
    let says = law_holds _ h _ _ _ _ nodes edges c.tables_are_read_back.ensures.nodes c.tables_are_read_back.ensures.edges c.requires
    c.node_table.ensures c.edge_table.ensures c.in_ok-node_text.ensures.ok c.in_ok-edge_text.ensures.ok
    (c.as_bytes-nodes.ensures.value ∙ c.as_str.ensures.value) (c.as_bytes-edges.ensures.value ∙ c.as_str-2.ensures.value) in
    no_node_fault _ h c.invariant.ensures.well_formed c.requires (rows_of nodes) (rows_of edges) says c.in-Err-Nodes.field-0-0
    (subst (Explains _ (rows_of nodes) (rows_of edges)) c.in-Err-Nodes.field-0-is c.in-Err-Nodes.ensures.fault)

pub unreachable-requires-in-Err-Edges : goal.unreachable-requires-in-Err-Edges
unreachable-requires-in-Err-Edges g c =
    let h = g.S.EdgeSource.graph c.args.graph.now in
    let nodes = c.as_bytes-nodes.result.now in
    let edges = c.as_bytes-edges.result.now in
    let says = law_holds _ h _ _ _ _ nodes edges c.tables_are_read_back.ensures.nodes c.tables_are_read_back.ensures.edges c.requires
    c.node_table.ensures c.edge_table.ensures c.in_ok-node_text.ensures.ok c.in_ok-edge_text.ensures.ok
    (c.as_bytes-nodes.ensures.value ∙ c.as_str.ensures.value) (c.as_bytes-edges.ensures.value ∙ c.as_str-2.ensures.value) in
    no_edge_fault _ h c.invariant.ensures.well_formed c.requires (rows_of nodes) (rows_of edges) says c.in-Err-Edges.field-0-0
    (subst (Explains _ (rows_of nodes) (rows_of edges)) c.in-Err-Edges.field-0-is c.in-Err-Edges.ensures.fault)
