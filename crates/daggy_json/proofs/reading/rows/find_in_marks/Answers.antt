use Rattle.std.proofs.Common.{◌<◌, length, refl, sym, ◌∙◌, arith, rules}
use Rattle.std.proofs.lemmas.Bool.{false≢true}
use Rattle.std.proofs.lemmas.List.{length-map}
use Rattle.serde_json.specs.View.{view}
use Rattle.daggy_base.specs.FromSlots.{edges_by}
use Rattle.daggy_json.proofs.MarkedLists.{read_mapped}
use Rattle.daggy_json.proofs.WrongRows.{no_rows, none_below, occupied, vacant, rows_low, rows_few, rows_passed, rows_skipped}
use Rattle.daggy_json.proofs.WrongRows.{row_wrong, rows_whole, below_passed, below_skipped, lists_from_edges}
use Rattle.daggy_json.proofs.WrongRows.{edges_from_lists}
use Rattle.daggy_json.proofs.reading.rows.find_in_marks.Goals as goal
use Rattle.daggy_json.proofs.reading.rows.find_in_marks.Goals.{then-is_some+in_ok-has_lists+else-not-branch}
use Rattle.daggy_json.proofs.reading.rows.find_in_marks.Goals.{else-is_some}

pub loop-n-init : goal.loop-n-init
loop-n-init g c = record {
  rows = no_rows _ _;
  out = none_below _ _ c.requires.out_none;
  into = none_below _ _ c.requires.in_none;
  out_long = refl;
  in_long = refl;
}

pub index-value-requires : goal.index-value-requires
index-value-requires g c =
    let nodes = c.args.nodes.now.items in
    let x = occupied nodes c.loop-n.n c.index.result.now (search rules) c.index.ensures
    (sym c.is_some.ensures ∙ c.if-is_some.true) in
    omega (
      arith,
      rows_low c.loop-n.invariant.rows x.0 x.1 (length-map c.args.list.now.items view ∙ (search rules ∙ c.requires.long)),
      length-map c.args.list.now.items view,
    )

pub returns-then-not-branch : goal.returns-then-not-branch
returns-then-not-branch g c =
    let nodes = c.args.nodes.now.items in
    let edges = edges_by g.Ix.IndexType.number c.args.edges.now.items in
    let low : c.loop-n.n < length nodes = search rules in
    let x = occupied nodes c.loop-n.n c.index.result.now low c.index.ensures
    (sym c.is_some.ensures ∙ c.if-is_some.true) in
    let v = c.index-value.result.now in
    row_wrong c.loop-n.invariant.rows x.0 x.1 (view v)
    (rows_low c.loop-n.invariant.rows x.0 x.1 (length-map c.args.list.now.items view ∙ (search rules ∙ c.requires.long)))
    (read_mapped view c.args.list.now.items c.loop-n.passed v (view v) c.index-value.ensures refl)
    (λ has. false≢true (sym c.if-not-branch.true
    ∙ c.in_ok-has_lists.ensures.decided.1 (edges_from_lists nodes edges c.loop-n.n (view v) low has)))

pub overflow_add-passed : goal.overflow_add-passed
overflow_add-passed g c = omega (arith, rows_few c.loop-n.invariant.rows, c.loop-n-test.true)

pub loop-n-preserved : goal.loop-n-preserved
loop-n-preserved g c =
    let nodes = c.args.nodes.now.items in
    let edges = edges_by g.Ix.IndexType.number c.args.edges.now.items in
    let low : c.loop-n.n < length nodes = search rules in
    elim c.if-is_some.branch [
      | then-is_some+in_ok-has_lists+else-not-branch w ↦ (
          let x = occupied nodes c.loop-n.n c.index.result.now low c.index.ensures
          (sym c.is_some.ensures ∙ w.if-is_some.true) in
          let v = w.index-value.result.now in
          let here =
          rows_low c.loop-n.invariant.rows x.0 x.1 (length-map c.args.list.now.items view ∙ (search rules ∙ c.requires.long)) in
          record {
            rows =
                rows_passed c.loop-n.invariant.rows x.0 x.1 (view v) here
                (read_mapped view c.args.list.now.items c.loop-n.passed v (view v) w.index-value.ensures refl)
                (lists_from_edges nodes edges c.loop-n.n (view v) low (w.in_ok-has_lists.ensures.decided.0 w.if-not-branch.false))
                _ w.passed-is;
            out = below_passed c.loop-n.invariant.out _ _ w.out_marks-is (w.in_ok-has_lists.ensures.out_marked w.if-not-branch.false);
            into = below_passed c.loop-n.invariant.into _ _ w.in_marks-is (w.in_ok-has_lists.ensures.in_marked w.if-not-branch.false);
            out_long = c.if-is_some.auto.out_marks ∙ c.loop-n.invariant.out_long;
            in_long = c.if-is_some.auto.in_marks ∙ c.loop-n.invariant.in_long;
          }
          )
      | else-is_some w ↦
          record {
            rows =
                rows_skipped c.loop-n.invariant.rows (vacant nodes c.loop-n.n c.index.result.now low c.index.ensures
                (sym c.is_some.ensures ∙ w.if-is_some.false)) _ w.passed-is;
            out = below_skipped c.loop-n.invariant.out _ w.out_marks-is;
            into = below_skipped c.loop-n.invariant.into _ w.in_marks-is;
            out_long = c.if-is_some.auto.out_marks ∙ c.loop-n.invariant.out_long;
            in_long = c.if-is_some.auto.in_marks ∙ c.loop-n.invariant.in_long;
          }
    ]

pub returns : goal.returns
returns g c =
    rows_whole c.loop-n.invariant.rows (search rules)
    (length-map c.args.list.now.items view ∙ (search rules ∙ c.requires.long))
