use Rattle.std.proofs.Common.{is_some, sym, ap, ◌∙◌, arith}
use Rattle.std.proofs.lemmas.Bool.{false≢true}
use Rattle.daggy_base.specs.Graph.{slot}
use Rattle.daggy_json.proofs.Parts.{slot_some, below_length, row_more, row_kept, at_bound, rows_whole}
use Rattle.daggy_json.proofs.writing.write_orders.Goals as goal
use Rattle.daggy_json.proofs.writing.write_orders.Goals.{then-contains_node+in_ok-write_row+in_ok-push}
use Rattle.daggy_json.proofs.writing.write_orders.Goals.{else-contains_node}

pub new-n-requires : goal.new-n-requires
new-n-requires g c =
    omega (
      arith,
      below_length (g.S.EdgeSource.graph c.args.store.now).nodes _ _ c.node_bound-bound.ensures.value c.nodes-test.true,
      c.node_bound-bound.ensures.well_formed.few_nodes,
    )

pub nodes-preserved : goal.nodes-preserved
nodes-preserved g c =
    let slots = (g.S.EdgeSource.graph c.args.store.now).nodes in
    record {
      within = omega (arith, c.nodes-test.true);
      written = elim c.if-contains_node.branch [
        | then-contains_node+in_ok-write_row+in_ok-push w ↦ (
            let some =
            slot_some _ (ap (λ k. is_some (slot slots k)) (sym c.new-n.ensures.number)
            ∙ c.contains_node.ensures.exists.0 w.if-contains_node.true) in
            row_more slots c.new-n.ensures.number _ _ w.in_ok-write_row.field-0 c.nodes.invariant.written some.0
            some.1 w.in_ok-write_row.ensures (ap (λ v. v.items) w.rows-is ∙ w.in_ok-push.ensures.items)
            )
        | else-contains_node w ↦
            row_kept slots c.new-n.ensures.number _ c.nodes.invariant.written
            (λ h. false≢true (sym w.if-contains_node.false ∙ c.contains_node.ensures.exists.1 h))
            (ap (λ v. v.items) w.rows-is)
      ];
    }

pub returns : goal.returns
returns g c =
    rows_whole (g.S.EdgeSource.graph c.args.store.now).nodes _ _ _
    (at_bound _ _ _ c.nodes.invariant.within c.nodes-test.false c.node_bound-bound.ensures.value)
    c.nodes.invariant.written
