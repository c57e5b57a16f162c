use Rattle.daggy_json.specs.Weight.{WritesAs}
use Rattle.daggy_json.proofs.WrittenDocuments.{writes_parts}
use Rattle.daggy_json.proofs.streaming.stream_parts.Goals as goal

pub returns : goal.returns
returns g c =
    writes_parts (WritesAs g.F.Fn c.args.fn_node.now) (WritesAs g.G.Fn c.args.fn_edge.now)
    (g.S.EdgeSource.graph c.args.store.now) c.token.ensures c.token-2.ensures c.token-3.ensures c.token-4.ensures
    c.stream_entries.ensures c.token-5.ensures c.stream_holes.ensures c.token-6.ensures c.stream_weights.ensures
