use Rattle.daggy_json.specs.Weight.{WritesAs}
use Rattle.daggy_json.proofs.WrittenDocuments.{writes_document}
use Rattle.daggy_json.proofs.streaming.stream_document.Goals as goal

pub returns : goal.returns
returns g c =
    writes_document (WritesAs g.F.Fn c.args.fn_node.now) (WritesAs g.G.Fn c.args.fn_edge.now)
    (g.S.EdgeSource.graph c.args.store.now) c.stream_parts.ensures c.token.ensures c.stream_orders.ensures
    c.token-2.ensures
