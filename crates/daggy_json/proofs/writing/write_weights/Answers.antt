use Rattle.std.specs.Option.{option_copied}
use Rattle.std.proofs.Common.{sym, ap, ◌∙◌, arith}
use Rattle.daggy_json.proofs.Parts.{writes_as, below_length, weight_more, weight_kept, at_bound, weights_whole}
use Rattle.daggy_json.proofs.writing.write_weights.Goals as goal
use Rattle.daggy_json.proofs.writing.write_weights.Goals.{in-Some+in_ok-fn_node+in_ok-push, in_default}

pub new-requires : goal.new-requires
new-requires g c =
    omega (
      arith,
      below_length (g.S.EdgeSource.graph c.args.store.now).nodes _ _ c.node_bound-bound.ensures.value c.nodes-test.true,
      c.node_bound-bound.ensures.well_formed.few_nodes,
    )

pub nodes-preserved : goal.nodes-preserved
nodes-preserved g c =
    let slots = (g.S.EdgeSource.graph c.args.store.now).nodes in
    record {
      within = omega (arith, c.nodes-test.true);
      written = elim c.match-node_weight.branch [
        | in-Some+in_ok-fn_node+in_ok-push w ↦ (
            weight_more slots c.new.ensures.number _ _ w.in_ok-fn_node.field-0 c.nodes.invariant.written
            w.in-Some.weight.now w.in-Some.ensures (writes_as _ _ w.in-Some.weight _ w.in_ok-fn_node.ensures)
            (ap (λ v. v.items) w.weights-is ∙ w.in_ok-push.ensures.items)
            )
        | in_default w ↦
            weight_kept slots c.new.ensures.number _ c.nodes.invariant.written
            (sym (ap option_copied w.in_default.is) ∙ c.node_weight.ensures) (ap (λ v. v.items) w.weights-is)
      ];
    }

pub returns : goal.returns
returns g c =
    weights_whole (g.S.EdgeSource.graph c.args.store.now).nodes _ _ _
    (at_bound _ _ _ c.nodes.invariant.within c.nodes-test.false c.node_bound-bound.ensures.value)
    c.nodes.invariant.written
