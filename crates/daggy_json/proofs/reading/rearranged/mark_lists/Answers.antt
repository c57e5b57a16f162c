use Rattle.std.proofs.Common.{◌≡◌, length, map, sym, ◌∙◌, arith, rules}
use Rattle.std.proofs.lemmas.Bool.{false≢true, eqb-true, eq-eqb}
use Rattle.std.proofs.lemmas.List.{length-map}
use Rattle.daggy_base.specs.Orders.{numbers_of}
use Rattle.daggy_json.specs.Found.{chosen}
use Rattle.daggy_json.proofs.MarkedLists.{lists_skipped, lists_passed, lists_wrong, lists_whole, read_twice}
use Rattle.daggy_json.proofs.MarkedLists.{same_read}
use Rattle.daggy_json.proofs.reading.rearranged.mark_lists.Goals as goal
use Rattle.daggy_json.proofs.reading.rearranged.mark_lists.Goals.{then-passed-len-via-then-passed-len}
use Rattle.daggy_json.proofs.reading.rearranged.mark_lists.Goals.{
  then-passed-len-via-else-passed-len+then-not-mark_list,
}
use Rattle.daggy_json.proofs.reading.rearranged.mark_lists.Goals.{then-is_some+else-passed-len+else-not-mark_list}
use Rattle.daggy_json.proofs.reading.rearranged.mark_lists.Goals.{else-is_some}

pub returns-then-passed-len-clause-decided : goal.returns-then-passed-len-clause-decided
returns-then-passed-len-clause-decided g c =
    let rows = c.args.rows.now.items in
    let long : length (map (chosen c.args.dir) (map (numbers_of g.Ix.IndexType.number) rows)) ≡ length rows =
    length-map (map (numbers_of g.Ix.IndexType.number) rows) (chosen c.args.dir)
    ∙ length-map rows (numbers_of g.Ix.IndexType.number) in (
      λ t. absurd (false≢true t),
      λ h.
          absurd (lists_wrong c.loop-n.invariant (search rules) c.index.result.now c.index.ensures
          (sym c.is_some.ensures ∙ c.if-is_some.true) (λ more l is marked. elim c.then-passed-len.branch [
            | then-passed-len-via-then-passed-len w ↦
                absurd (omega (arith, more, long, w.if-passed-len.true, c.len.ensures))
            | then-passed-len-via-else-passed-len+then-not-mark_list w ↦ (
                let here =
                read_twice (numbers_of g.Ix.IndexType.number) (chosen c.args.dir) rows c.loop-n.passed
                w.index-else-passed-len.result.now (map g.Ix.IndexType.number w.list_of.result.now.items)
                w.index-else-passed-len.ensures w.list_of.ensures in
                false≢true (sym w.if-not-mark_list.true
                ∙ w.mark_list.ensures.decided.1 (rw (same_read _ c.loop-n.passed _ _ more is here) at marked))
                )
          ]) h),
    )

pub loop-n-preserved : goal.loop-n-preserved
loop-n-preserved g c =
    let rows = c.args.rows.now.items in
    let long : length (map (chosen c.args.dir) (map (numbers_of g.Ix.IndexType.number) rows)) ≡ length rows =
    length-map (map (numbers_of g.Ix.IndexType.number) rows) (chosen c.args.dir)
    ∙ length-map rows (numbers_of g.Ix.IndexType.number) in
    elim c.if-is_some.branch [
      | then-is_some+else-passed-len+else-not-mark_list w ↦
          lists_passed c.loop-n.invariant (search rules) c.index.ensures
          (sym c.is_some.ensures ∙ w.if-is_some.true) (omega (arith, long, w.if-passed-len.false, w.len.ensures))
          (read_twice (numbers_of g.Ix.IndexType.number) (chosen c.args.dir) rows c.loop-n.passed
          w.index-else-passed-len.result.now _ w.index-else-passed-len.ensures w.list_of.ensures)
          (w.mark_list.ensures.decided.0 w.if-not-mark_list.false) w.passed-is
          (w.marks-is ∙ w.mark_list.ensures.marked w.if-not-mark_list.false)
      | else-is_some w ↦
          lists_skipped c.loop-n.invariant (search rules) c.index.result.now c.index.ensures
          (sym c.is_some.ensures ∙ w.if-is_some.false) _ _ w.passed-is w.marks-is
    ]

pub returns-clause-decided : goal.returns-clause-decided
returns-clause-decided g c =
    let rows = c.args.rows.now.items in
    let long : length (map (chosen c.args.dir) (map (numbers_of g.Ix.IndexType.number) rows)) ≡ length rows =
    length-map (map (numbers_of g.Ix.IndexType.number) rows) (chosen c.args.dir)
    ∙ length-map rows (numbers_of g.Ix.IndexType.number) in
    let whole = lists_whole c.loop-n.invariant (search rules) in
    let size : c.len-2.result ≡ length rows = search rules in (
      λ t. (whole.0 (eqb-true _ _ t ∙ (size ∙ sym long))).0,
      λ h. eq-eqb _ _ (whole.1 h ∙ (long ∙ sym size)),
    )
