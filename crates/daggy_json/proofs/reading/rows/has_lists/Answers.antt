use Rattle.std.proofs.Common.{◌≡◌, Some, None, length, sym, ap, ◌∙◌, rules}
use Rattle.std.specs.Option.{option_map}
use Rattle.std.proofs.lemmas.Bool.{false≢true}
use Rattle.std.proofs.lemmas.List.{length-map}
use Rattle.serde_json.specs.View.{view}
use Rattle.daggy_base.specs.Orders.{numbers_of}
use Rattle.daggy_base.specs.FromSlots.{edges_by}
use Rattle.daggy_json.specs.Found.{edge_of, row_in}
use Rattle.daggy_json.proofs.WrongRows.{no_lists, lists_both, lists_apart}
use Rattle.daggy_json.proofs.reading.rows.has_lists.Goals as goal
use Rattle.daggy_json.proofs.reading.rows.has_lists.Goals.{then-is_list, else-is_list}

pub returns-in_default-clause-decided : goal.returns-in_default-clause-decided
returns-in_default-clause-decided g c =
    let edges = edges_by g.Ix.IndexType.number c.args.edges.now.items in
    let long : c.len.result ≡ length edges =
    search rules ∙ sym (length-map c.args.edges.now.items (option_map (edge_of g.Ix.IndexType.number))) in
    let none : row_in c.len.result (view c.args.value.now) ≡ None =
    sym c.in_ok-row.ensures ∙ ap (option_map (numbers_of g.Ix.IndexType.number)) c.in_default.is in (
      λ t. absurd (false≢true t),
      λ h. absurd (no_lists edges c.len.result c.args.n (view c.args.value.now) long none h),
    )

pub returns-clause-decided : goal.returns-clause-decided
returns-clause-decided g c =
    let edges = edges_by g.Ix.IndexType.number c.args.edges.now.items in
    let d = view c.args.value.now in
    let r = numbers_of g.Ix.IndexType.number c.in-Some.row in
    let k = length c.args.edges.now.items in
    let long : k ≡ length edges = sym (length-map c.args.edges.now.items (option_map (edge_of g.Ix.IndexType.number))) in
    let read : row_in c.len.result d ≡ Some r =
    sym c.in_ok-row.ensures ∙ ap (option_map (numbers_of g.Ix.IndexType.number)) c.in-Some.is in
    elim c.if-is_list.branch [
      | then-is_list w ↦ (
        λ t.
            lists_both edges k c.len.result c.args.n d r long read (c.is_list.ensures.decided.0 w.if-is_list.true)
            (w.is_list-then-is_list.ensures.decided.0 (sym w.result-is ∙ t)),
        λ h.
            w.result-is
            ∙ w.is_list-then-is_list.ensures.decided.1 (lists_apart edges k c.len.result c.args.n d r long read h).1,
      )
      | else-is_list w ↦ (
        λ t. absurd (false≢true (sym w.if-is_list.false ∙ (sym w.result-is ∙ t))),
        λ h.
            absurd (false≢true (sym w.if-is_list.false
            ∙ c.is_list.ensures.decided.1 (lists_apart edges k c.len.result c.args.n d r long read h).0)),
      )
    ]
