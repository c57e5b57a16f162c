use Rattle.std.proofs.Common.{[], ◌∷◌}
use Rattle.json.specs.Token.{null}
use Rattle.daggy_base.specs.Graph.{edge_at, ends_of}
use Rattle.daggy_json.specs.Weight.{WritesAs}
use Rattle.daggy_json.specs.Passing.{HasFailed, Encodes}
use Rattle.daggy_json.proofs.ValueTokens.{null_tokens}
use Rattle.daggy_json.proofs.WrittenTokens.{none_mapped, writes_entry, writes_vacant, writes_weight}
use Rattle.daggy_json.proofs.streaming.stream_entry.Goals as goal

pub returns-in_default : goal.returns-in_default
returns-in_default g c =
    let slot = edge_at (g.S.EdgeSource.graph c.args.store.now) (g.Ix.IndexType.number c.args.e) in
    writes_vacant (Encodes (WritesAs g.G.Fn c.args.fn_edge.now) (HasFailed c.token.new.self)) slot
    (none_mapped ends_of slot c.in_default.ensures) (null ∷ [], null_tokens, c.token.ensures)

pub returns : goal.returns
returns g c =
    let slot = edge_at (g.S.EdgeSource.graph c.args.store.now) (g.Ix.IndexType.number c.args.e) in
    writes_entry g.Ix.IndexType.number (WritesAs g.G.Fn c.args.fn_edge.now) slot (record {
      ends = c.in-Some.ends;
      ends_are = c.in-Some.ensures;
      parent = c.index.ensures.value;
      child = c.index-2.ensures.value;
      weight_is = c.in-Some-edge_weight.ensures;
    }) c.begin_array.ensures c.whole.ensures c.whole-2.ensures
    (writes_weight g.G.Fn c.args.fn_edge.now c.in-Some-edge_weight.weight c.fn_edge.result c.fn_edge.ensures
    c.write_weight.ensures) c.token-2.ensures
