use Rattle.daggy_json.specs.Weight.{WritesAs}
use Rattle.daggy_json.proofs.WrittenDocuments.{writes_without_orders}
use Rattle.daggy_json.proofs.streaming.stream_without_orders.Goals as goal

pub returns : goal.returns
returns g c =
    writes_without_orders (WritesAs g.F.Fn c.args.fn_node.now) (WritesAs g.G.Fn c.args.fn_edge.now)
    (g.S.EdgeSource.graph c.args.store.now) c.stream_parts.ensures c.token.ensures
