use Rattle.std.proofs.Common.{ℕ, ◌+◌, is_some, List, take, ap, sym, subst, ◌∙◌, arith}
use Rattle.std.proofs.lemmas.Bool.{false≢true}
use Rattle.json.specs.Token.{Token}
use Rattle.daggy_json.specs.Document.{whole, vacant_from, holes_of}
use Rattle.daggy_json.specs.Passing.{Writes, AreTokensOf}
use Rattle.daggy_json.proofs.NumberedSlots.{vacant_passes, vacant_skips}
use Rattle.daggy_json.proofs.Parts.{below_length, at_bound}
use Rattle.daggy_json.proofs.TokenTrees.{Each}
use Rattle.daggy_json.proofs.WrittenTokens.{slot_filled, slot_vacant, writes_more, writes_array_of}
use Rattle.daggy_json.proofs.streaming.stream_holes.Goals as goal
use Rattle.daggy_json.proofs.streaming.stream_holes.Goals.{then-not-contains_node, else-not-contains_node}

abbrev IsHole : ℕ → List Token → Type 0
IsHole n us = AreTokensOf (whole n) us

pub new-requires : goal.new-requires
new-requires g c =
    omega (
      arith,
      below_length (g.S.EdgeSource.graph c.args.store.now).nodes _ _ c.node_bound-bound.ensures.value c.nodes-test.true,
      c.node_bound-bound.ensures.well_formed.few_nodes,
    )

pub nodes-preserved : goal.nodes-preserved
nodes-preserved g c =
    let slots = (g.S.EdgeSource.graph c.args.store.now).nodes in
    let low = below_length slots _ _ c.node_bound-bound.ensures.value c.nodes-test.true in
    let so_far = c.nodes.invariant.written in
    let before = vacant_from 0 (take c.nodes.i slots) in
    let later = vacant_from 0 (take (c.nodes.i + 1) slots) in
    record {
      within = omega (arith, c.nodes-test.true);
      written = elim c.if-not-contains_node.branch [
        | then-not-contains_node w ↦
            let none = slot_vacant slots c.new.ensures.number
            (λ h. false≢true (sym w.if-not-contains_node.true ∙ c.contains_node.ensures.exists.1 h)) in
            subst (λ o. Writes g.W.Write.contents c.begin_array.new.self o (Each IsHole later)) (sym w.out-is)
            (writes_more IsHole before c.nodes.i (vacant_passes c.nodes.i slots low (ap is_some none)) so_far
            w.whole.ensures)
        | else-not-contains_node w ↦
            let some = slot_filled slots c.new.ensures.number (c.contains_node.ensures.exists.0 w.if-not-contains_node.false) in
            subst (λ o. Writes g.W.Write.contents c.begin_array.new.self o (Each IsHole later)) (sym w.out-is)
            (subst (λ l. Writes g.W.Write.contents c.begin_array.new.self c.nodes.out (Each IsHole l))
            (sym (vacant_skips c.nodes.i slots some)) so_far)
      ];
    }

pub returns : goal.returns
returns g c =
    let graph = g.S.EdgeSource.graph c.args.store.now in
    let end = at_bound _ _ _ c.nodes.invariant.within c.nodes-test.false c.node_bound-bound.ensures.value in
    writes_array_of whole (holes_of graph) c.begin_array.ensures
    (subst (λ k. Writes g.W.Write.contents c.begin_array.new.self c.nodes.out (Each IsHole (vacant_from 0 (take k graph.nodes))))
    end c.nodes.invariant.written) c.token.ensures
