use Rattle.std.proofs.Common.{Option, List, take, subst, arith}
use Rattle.json.specs.Token.{Token}
use Rattle.daggy_base.specs.Graph.{Edge, edge_bound, slot}
use Rattle.daggy_json.specs.Document.{IsEntry}
use Rattle.daggy_json.specs.Weight.{WritesAs}
use Rattle.daggy_json.specs.Passing.{HasFailed, Writes, AreTokensOfA, Encodes}
use Rattle.daggy_json.proofs.NumberedSlots.{slots_pass}
use Rattle.daggy_json.proofs.Parts.{below_length, at_bound}
use Rattle.daggy_json.proofs.TokenTrees.{Each}
use Rattle.daggy_json.proofs.WrittenTokens.{entries_later, writes_more, writes_array_of_values}
use Rattle.daggy_json.proofs.streaming.stream_entries.Goals as goal

pub new-requires : goal.new-requires
new-requires g c =
    omega (
      arith,
      below_length (g.S.EdgeSource.graph c.args.store.now).edges _ _ c.edge_bound-bound.ensures c.edges-test.true,
      c.invariant.ensures.well_formed.few_edges,
    )

pub edges-preserved : goal.edges-preserved
edges-preserved g c =
    let slots = (g.S.EdgeSource.graph c.args.store.now).edges in
    let edge_as = WritesAs g.G.Fn c.args.fn_edge.now in
    let Is = λ (o : Option (Edge g.row.S-EdgeWeight.Denot)) (us : List Token).
    AreTokensOfA (IsEntry (Encodes edge_as (HasFailed c.stream_entry.new.out)) o) us in
    let low = below_length slots _ _ c.edge_bound-bound.ensures c.edges-test.true in
    let so_far = entries_later edge_as (take c.edges.i slots) c.stream_entry.ensures.2.stays c.edges.invariant.written in
    let here = subst (λ k. Writes g.W.Write.contents c.edges.out c.stream_entry.new.out (Is (slot slots k)))
    c.new.ensures.number c.stream_entry.ensures in
    record {
      within = omega (arith, c.edges-test.true);
      written = writes_more Is (take c.edges.i slots) (slot slots c.edges.i) (slots_pass c.edges.i slots low) so_far here;
    }

pub returns : goal.returns
returns g c =
    let graph = g.S.EdgeSource.graph c.args.store.now in
    let edge_as = WritesAs g.G.Fn c.args.fn_edge.now in
    let Is = λ (o : Option (Edge g.row.S-EdgeWeight.Denot)) (us : List Token).
    AreTokensOfA (IsEntry (Encodes edge_as (HasFailed c.edges.out)) o) us in
    let end = at_bound _ _ _ c.edges.invariant.within c.edges-test.false c.edge_bound-bound.ensures in
    let written = subst (λ k. Writes g.W.Write.contents c.begin_array.new.self c.edges.out (Each Is (take k graph.edges)))
    end c.edges.invariant.written in
    writes_array_of_values (IsEntry (Encodes edge_as (HasFailed c.token.new.self)))
    (take (edge_bound graph) graph.edges) c.begin_array.ensures
    (entries_later edge_as (take (edge_bound graph) graph.edges) c.token.ensures.stays written) c.token.ensures
