use Rattle.std.proofs.Common.{◌≡◌, length, subst, sym, ◌∙◌, rules}
use Rattle.serde_json.specs.View.{view}
use Rattle.daggy_base.specs.FromSlots.{graph_of_slots, edges_by}
use Rattle.daggy_json.specs.FoundFault.{AreSearched}
use Rattle.daggy_json.proofs.FoundParts.{array_some}
use Rattle.daggy_json.proofs.WrongRows.{no_array, wrong_count, wrong_there, rows_right}
use Rattle.daggy_json.proofs.reading.rows.wrong_orders.Goals as goal

pub returns-in_default-clause-place : goal.returns-in_default-clause-place
returns-in_default-clause-place g c = no_array
    (graph_of_slots c.args.nodes.now.items (edges_by g.Ix.IndexType.number c.args.edges.now.items)) (view c.args.value.now)
    _ c.in_default.ensures c.of-whole.ensures.entry

pub returns-then-len-count_nodes-clause-place : goal.returns-then-len-count_nodes-clause-place
returns-then-len-count_nodes-clause-place g c =
    let size : c.len.result ≡ length c.in-Some.list.now.items = search rules in
    wrong_count
    (graph_of_slots c.args.nodes.now.items (edges_by g.Ix.IndexType.number c.args.edges.now.items)) (view c.args.value.now)
    _ c.in-Some.list.now.items c.in-Some.ensures
    (λ same. c.if-len-count_nodes.true (size ∙ (same ∙ sym c.count_nodes.ensures))) c.of-whole.ensures.entry

pub returns-in-Some-2-clause-place : goal.returns-in-Some-2-clause-place
returns-in-Some-2-clause-place g c =
    let size : c.len.result ≡ length c.in-Some.list.now.items = search rules in
    wrong_there
    (graph_of_slots c.args.nodes.now.items (edges_by g.Ix.IndexType.number c.args.edges.now.items)) (view c.args.value.now)
    _ c.in-Some.list.now.items c.in-Some.ensures
    (sym size ∙ (c.if-len-count_nodes.false ∙ c.count_nodes.ensures)) c.in_ok-i.field-0 c.in-Some-2.i c.in_ok-i.ensures
    c.in-Some-2.is c.at.ensures.entry

pub returns-in-None-clause-place : goal.returns-in-None-clause-place
returns-in-None-clause-place g c =
    let edges = edges_by g.Ix.IndexType.number c.args.edges.now.items in
    let d = view c.args.value.now in
    absurd (rows_right c.args.nodes.now.items edges d _ (array_some d c.in-Some.list.now.items c.in-Some.ensures)
    (subst (AreSearched (graph_of_slots c.args.nodes.now.items edges) _) c.in-None.is c.in_ok-i.ensures) c.requires.wrong)
