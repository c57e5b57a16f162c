use Rattle.daggy_base.specs.Graph.{out_list, in_list}
use Rattle.daggy_json.specs.Document.{wholes}
use Rattle.daggy_json.proofs.WrittenTokens.{writes_pair}
use Rattle.daggy_json.proofs.streaming.stream_row.Goals as goal

pub returns : goal.returns
returns g c =
    let graph = g.S.EdgeSource.graph c.args.store.now in
    let n = g.Ix.IndexType.number c.args.n in
    writes_pair (wholes (out_list graph n)) (wholes (in_list graph n)) c.begin_array.ensures c.stream_list.ensures
    c.stream_list-2.ensures c.token.ensures
