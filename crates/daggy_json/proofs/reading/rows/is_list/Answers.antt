use Rattle.std.proofs.Common.{◌≡◌, ℕ, ◌<◌, ◌≤◌, true, length, map, arith, rules}
use Rattle.std.specs.Option.{option_map}
use Rattle.std.proofs.lemmas.Bool.{eqb-true}
use Rattle.std.proofs.lemmas.List.{length-map}
use Rattle.daggy_base.specs.FromSlots.{has_end, edges_by}
use Rattle.daggy_json.specs.Found.{edge_of}
use Rattle.daggy_json.proofs.RearrangedLists.{end_below}
use Rattle.daggy_json.proofs.NodeLists.{list_marked, list_counted, list_marks, marks_only}
use Rattle.daggy_json.proofs.reading.rows.is_list.Goals as goal

pub returns-then-len-count-clause-decided : goal.returns-then-len-count-clause-decided
returns-then-len-count-clause-decided g c =
    let edges = edges_by g.Ix.IndexType.number c.args.edges.now.items in
    let k = length c.args.edges.now.items in
    let passes = has_end c.args.dir edges c.args.n in
    let list = map g.Ix.IndexType.number c.args.list.now.items in
    let below : (e : ℕ) → passes e ≡ true → e < k = λ e h.
    omega (
      arith,
      end_below c.args.dir edges c.args.n e h,
      length-map c.args.edges.now.items (option_map (edge_of g.Ix.IndexType.number)),
    ) in
    let fits : k ≤ length c.args.marks.now = search rules in
    let size : c.len.result ≡ length c.args.list.now.items = search rules in (
      λ t.
          list_marked passes k c.args.marks.now list below fits (c.mark_list.ensures.decided.0 t) (omega (
            arith,
            size,
            length-map c.args.list.now.items g.Ix.IndexType.number,
            c.if-len-count.true,
            c.requires.count,
          )),
      λ h. c.mark_list.ensures.decided.1 (list_marks passes k c.args.marks.now list below fits c.requires.fresh h),
    )

pub returns-then-len-count-clause-marked : goal.returns-then-len-count-clause-marked
returns-then-len-count-clause-marked g c = λ t.
    marks_only (has_end c.args.dir (edges_by g.Ix.IndexType.number c.args.edges.now.items) c.args.n) c.args.marks.now
    (map g.Ix.IndexType.number c.args.list.now.items) _ (c.mark_list.ensures.decided.0 t) (c.mark_list.ensures.marked t)

pub returns-else-len-count-clause-decided : goal.returns-else-len-count-clause-decided
returns-else-len-count-clause-decided g c =
    let edges = edges_by g.Ix.IndexType.number c.args.edges.now.items in
    let k = length c.args.edges.now.items in
    let passes = has_end c.args.dir edges c.args.n in
    let list = map g.Ix.IndexType.number c.args.list.now.items in
    let below : (e : ℕ) → passes e ≡ true → e < k = λ e h.
    omega (
      arith,
      end_below c.args.dir edges c.args.n e h,
      length-map c.args.edges.now.items (option_map (edge_of g.Ix.IndexType.number)),
    ) in
    let fits : k ≤ length c.args.marks.now = search rules in
    let size : c.len.result ≡ length c.args.list.now.items = search rules in (
      λ t. absurd (c.if-len-count.false (eqb-true _ _ t)),
      λ h.
          absurd (c.if-len-count.false (omega (
            arith,
            size,
            length-map c.args.list.now.items g.Ix.IndexType.number,
            list_counted passes k c.args.marks.now list below fits h,
            c.requires.count,
          ))),
    )
