use Rattle.std.proofs.Common.{sym, ◌∙◌, rules}
use Rattle.daggy_json.specs.Weight.{WritesAs}
use Rattle.daggy_json.proofs.StreamedDocuments.{stands_new, has_short, has_short_front, has_short_front_or_null}
use Rattle.daggy_json.proofs.documents.write_short_json.Goals as goal

pub returns-clause-document : goal.returns-clause-document
returns-clause-document g c =
    let n = c.new-out.ensures in
    let name = sym (c.finish.ensures.same_reference ∙ (c.stream_short_document.ensures.2.stays.same_reference ∙ n.same_reference)) in
    has_short (WritesAs g.F.Fn c.args.fn_node) (WritesAs g.G.Fn c.args.fn_edge) c.args.dag.now.graph
    (g.W.Write.contents c.args.writer.now) _ _ (search rules)
    (stands_new c.args.writer.now c.new-out.result n.writer n.nothing n.place n.no_fault)
    (rw c.graph.ensures.graph at c.stream_short_document.ensures) c.finish.result c.finish.ensures.failed c.finish.ensures.sent

pub returns-clause-fault : goal.returns-clause-fault
returns-clause-fault g c =
    let n = c.new-out.ensures in
    let name = sym (c.finish.ensures.same_reference ∙ (c.stream_short_document.ensures.2.stays.same_reference ∙ n.same_reference)) in
    has_short_front (WritesAs g.F.Fn c.args.fn_node) (WritesAs g.G.Fn c.args.fn_edge) c.args.dag.now.graph
    (g.W.Write.contents c.args.writer.now) _ _ (search rules)
    (stands_new c.args.writer.now c.new-out.result n.writer n.nothing n.place n.no_fault)
    (rw c.graph.ensures.graph at c.stream_short_document.ensures) c.finish.result c.finish.ensures.failed c.finish.ensures.sent

pub returns-clause-memory : goal.returns-clause-memory
returns-clause-memory g c =
    let n = c.new-out.ensures in
    let name = sym (c.finish.ensures.same_reference ∙ (c.stream_short_document.ensures.2.stays.same_reference ∙ n.same_reference)) in
    has_short_front_or_null (WritesAs g.F.Fn c.args.fn_node) (WritesAs g.G.Fn c.args.fn_edge) c.args.dag.now.graph
    (g.W.Write.contents c.args.writer.now) _ _ (search rules)
    (stands_new c.args.writer.now c.new-out.result n.writer n.nothing n.place n.no_fault)
    (rw c.graph.ensures.graph at c.stream_short_document.ensures) c.finish.result c.finish.ensures.sent
