use Rattle.std.proofs.Common.{sym, ap, ◌∙◌, arith}
use Rattle.std.proofs.lemmas.Bool.{false≢true}
use Rattle.daggy_json.proofs.Parts.{below_length, hole_more, hole_kept}
use Rattle.daggy_json.proofs.writing.write_holes.Goals as goal
use Rattle.daggy_json.proofs.writing.write_holes.Goals.{then-not-contains_node+in_ok-push, else-not-contains_node}

pub new-requires : goal.new-requires
new-requires g c =
    omega (
      arith,
      below_length (g.S.EdgeSource.graph c.args.store.now).nodes _ _ c.node_bound-bound.ensures.value c.nodes-test.true,
      c.node_bound-bound.ensures.well_formed.few_nodes,
    )

pub nodes-preserved : goal.nodes-preserved
nodes-preserved g c =
    let slots = (g.S.EdgeSource.graph c.args.store.now).nodes in
    let low = below_length slots _ _ c.node_bound-bound.ensures.value c.nodes-test.true in
    record {
      within = omega (arith, c.nodes-test.true);
      written = elim c.if-not-contains_node.branch [
        | then-not-contains_node+in_ok-push w ↦
            hole_more slots c.new.ensures.number _ _ c.nodes.invariant.written low
            (λ h. false≢true (sym w.if-not-contains_node.true ∙ c.contains_node.ensures.exists.1 h)) w.from.ensures
            (ap (λ v. v.items) w.holes-is ∙ w.in_ok-push.ensures.items)
        | else-not-contains_node w ↦
            hole_kept slots c.new.ensures.number _ _ c.nodes.invariant.written
            (c.contains_node.ensures.exists.0 w.if-not-contains_node.false) (ap (λ v. v.items) w.holes-is)
      ];
    }
