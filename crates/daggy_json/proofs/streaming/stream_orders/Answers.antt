use Rattle.std.proofs.Common.{ℕ, ◌+◌, List, map, take, ap, sym, subst, ◌∙◌, arith}
use Rattle.std.proofs.lemmas.Bool.{false≢true}
use Rattle.json.specs.Token.{Token}
use Rattle.daggy_base.proofs.PathsWithNode.{bound_low}
use Rattle.daggy_base.specs.Iterating.{numbered, node_identifiers}
use Rattle.daggy_json.specs.Document.{row_of}
use Rattle.daggy_json.specs.Passing.{Writes, AreTokensOf}
use Rattle.daggy_json.proofs.NumberedSlots.{numbers_pass, numbered_skips, numbered_bounded}
use Rattle.daggy_json.proofs.Parts.{slot_some, below_length, at_bound}
use Rattle.daggy_json.proofs.TokenTrees.{Each}
use Rattle.daggy_json.proofs.WrittenTokens.{slot_filled, slot_vacant, writes_more, writes_array_of}
use Rattle.daggy_json.proofs.streaming.stream_orders.Goals as goal
use Rattle.daggy_json.proofs.streaming.stream_orders.Goals.{then-contains_node, else-contains_node}

pub touch_nodes-requires : goal.touch_nodes-requires
touch_nodes-requires g c =
    omega (
      arith,
      c.min.ensures,
      bound_low (g.S.EdgeSource.graph c.args.store.now).nodes,
      c.node_bound-bound.ensures.value,
      c.node_bound-bound.ensures.well_formed.few_nodes,
    )

pub new-n-requires : goal.new-n-requires
new-n-requires g c =
    omega (
      arith,
      below_length (g.S.EdgeSource.graph c.args.store.now).nodes _ _ c.node_bound-bound.ensures.value c.nodes-test.true,
      c.node_bound-bound.ensures.well_formed.few_nodes,
    )

pub nodes-preserved : goal.nodes-preserved
nodes-preserved g c =
    let graph = g.S.EdgeSource.graph c.args.store.now in
    let slots = graph.nodes in
    let Is = λ (n : ℕ) (us : List Token). AreTokensOf (row_of graph n) us in
    let before = map (λ p. p.0) (numbered 0 (take c.nodes.i slots)) in
    let later = map (λ p. p.0) (numbered 0 (take (c.nodes.i + 1) slots)) in
    let so_far = c.nodes.invariant.written in
    record {
      within = omega (arith, c.nodes-test.true);
      written = elim c.if-contains_node.branch [
        | then-contains_node w ↦
            let some = slot_some _ (slot_filled slots c.new-n.ensures.number (c.contains_node.ensures.exists.0 w.if-contains_node.true)) in
            let here = subst (λ n. Writes g.W.Write.contents c.nodes.out w.stream_row.new.out (Is n))
            c.new-n.ensures.number w.stream_row.ensures in
            subst (λ o. Writes g.W.Write.contents c.begin_array.new.self o (Each Is later)) (sym w.out-is)
            (writes_more Is before c.nodes.i (numbers_pass c.nodes.i slots some.0 some.1) so_far here)
        | else-contains_node w ↦
            let none = slot_vacant slots c.new-n.ensures.number
            (λ h. false≢true (sym w.if-contains_node.false ∙ c.contains_node.ensures.exists.1 h)) in
            subst (λ o. Writes g.W.Write.contents c.begin_array.new.self o (Each Is later)) (sym w.out-is)
            (subst (λ l. Writes g.W.Write.contents c.begin_array.new.self c.nodes.out (Each Is (map (λ p. p.0) l)))
            (sym (numbered_skips c.nodes.i slots none)) so_far)
      ];
    }

pub returns : goal.returns
returns g c =
    let graph = g.S.EdgeSource.graph c.args.store.now in
    let Is = λ (n : ℕ) (us : List Token). AreTokensOf (row_of graph n) us in
    let end = at_bound _ _ _ c.nodes.invariant.within c.nodes-test.false c.node_bound-bound.ensures.value in
    let all = ap (λ k. numbered 0 (take k graph.nodes)) end ∙ numbered_bounded 0 graph.nodes in
    writes_array_of (row_of graph) (node_identifiers graph) c.begin_array.ensures
    (subst (λ l. Writes g.W.Write.contents c.begin_array.new.self c.nodes.out (Each Is (map (λ p. p.0) l))) all
    c.nodes.invariant.written) c.token.ensures
