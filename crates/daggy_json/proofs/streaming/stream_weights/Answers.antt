use Rattle.std.specs.Option.{option_copied}
use Rattle.std.proofs.Common.{List, map, take, ap, sym, subst, ◌∙◌, arith}
use Rattle.json.specs.Token.{Token}
use Rattle.daggy_base.specs.Graph.{slot}
use Rattle.daggy_base.specs.Iterating.{numbered, node_weights}
use Rattle.daggy_json.specs.Weight.{WritesAs}
use Rattle.daggy_json.specs.Passing.{HasFailed, Writes, AreTokensOfA, Encodes}
use Rattle.daggy_json.proofs.NumberedSlots.{contents_pass, numbered_skips, numbered_bounded}
use Rattle.daggy_json.proofs.Parts.{below_length, at_bound}
use Rattle.daggy_json.proofs.TokenTrees.{Each}
use Rattle.daggy_json.proofs.WrittenTokens.{weights_later, writes_more, writes_weight, writes_array_of_values}
use Rattle.daggy_json.proofs.streaming.stream_weights.Goals as goal
use Rattle.daggy_json.proofs.streaming.stream_weights.Goals.{in-Some, in_default}

pub new-requires : goal.new-requires
new-requires g c =
    omega (
      arith,
      below_length (g.S.EdgeSource.graph c.args.store.now).nodes _ _ c.node_bound-bound.ensures.value c.nodes-test.true,
      c.node_bound-bound.ensures.well_formed.few_nodes,
    )

pub nodes-preserved : goal.nodes-preserved
nodes-preserved g c =
    let slots = (g.S.EdgeSource.graph c.args.store.now).nodes in
    let node_as = WritesAs g.F.Fn c.args.fn_node.now in
    let before = map (λ p. p.1) (numbered 0 (take c.nodes.i slots)) in
    record {
      within = omega (arith, c.nodes-test.true);
      written = elim c.match-node_weight.branch [
        | in-Some w ↦
            let Is = λ (x : g.row.S-NodeWeight.Denot) (us : List Token).
            AreTokensOfA (Encodes node_as (HasFailed w.write_weight.new.out) x) us in
            let x = w.in-Some.weight.now in
            let some = ap (slot slots) (sym c.new.ensures.number) ∙ sym w.in-Some.ensures in
            let so_far = weights_later node_as before w.write_weight.ensures.2.stays c.nodes.invariant.written in
            let here = writes_weight g.F.Fn c.args.fn_node.now w.in-Some.weight w.fn_node.result w.fn_node.ensures
            w.write_weight.ensures in
            rw w.out-is (writes_more Is before x (contents_pass c.nodes.i slots x some) so_far here)
        | in_default w ↦
            let none = ap (slot slots) (sym c.new.ensures.number)
            ∙ sym (sym (ap option_copied w.in_default.is) ∙ c.node_weight.ensures) in
            rw (w.out-is, numbered_skips c.nodes.i slots none) c.nodes.invariant.written
      ];
    }

pub returns : goal.returns
returns g c =
    let graph = g.S.EdgeSource.graph c.args.store.now in
    let node_as = WritesAs g.F.Fn c.args.fn_node.now in
    let Is = λ (x : g.row.S-NodeWeight.Denot) (us : List Token).
    AreTokensOfA (Encodes node_as (HasFailed c.nodes.out) x) us in
    let end = at_bound _ _ _ c.nodes.invariant.within c.nodes-test.false c.node_bound-bound.ensures.value in
    let all = ap (λ k. map (λ p. p.1) (numbered 0 (take k graph.nodes))) end
    ∙ ap (map (λ p. p.1)) (numbered_bounded 0 graph.nodes) in
    let written = subst (λ l. Writes g.W.Write.contents c.begin_array.new.self c.nodes.out (Each Is l)) all
    c.nodes.invariant.written in
    writes_array_of_values (Encodes node_as (HasFailed c.token.new.self)) (node_weights graph) c.begin_array.ensures
    (weights_later node_as (node_weights graph) c.token.ensures.stays written) c.token.ensures
