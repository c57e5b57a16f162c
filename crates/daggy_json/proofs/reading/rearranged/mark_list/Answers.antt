use Rattle.std.proofs.Common.{◌<◌, length, map, sym, ◌∙◌, arith}
use Rattle.std.specs.Option.{option_map}
use Rattle.std.proofs.lemmas.Bool.{false≢true}
use Rattle.std.proofs.lemmas.List.{length-map}
use Rattle.daggy_json.specs.Found.{edge_of}
use Rattle.daggy_json.proofs.MarkedLists.{marked_on, marked_wrong, read_mapped}
use Rattle.daggy_json.proofs.RearrangedLists.{end_below}
use Rattle.daggy_json.proofs.reading.rearranged.mark_list.Goals as goal
use Rattle.daggy_json.proofs.reading.rearranged.mark_list.Goals.{then-not-is_at-via-then-not-is_at}
use Rattle.daggy_json.proofs.reading.rearranged.mark_list.Goals.{then-not-is_at-via-else-not-is_at+then-is_marked}

pub returns-then-not-is_at-clause-decided : goal.returns-then-not-is_at-clause-decided
returns-then-not-is_at-clause-decided g c =
    let low : c.loop-e.e-index < length (map g.Ix.IndexType.number c.args.list.now.items) =
    omega (arith, length-map c.args.list.now.items g.Ix.IndexType.number, c.deref-e-items.ensures.len) in (
      λ t. absurd (false≢true t),
      λ h.
          absurd (marked_wrong c.loop-e.invariant low c.index-i.result
          (read_mapped g.Ix.IndexType.number c.args.list.now.items c.loop-e.e-index c.e-item.result _
          (rw c.deref-e-items.ensures.value at c.e-item.is) c.index-i.ensures.value)
          (λ q. elim c.then-not-is_at.branch [
            | then-not-is_at-via-then-not-is_at w ↦ false≢true (sym w.if-not-is_at.true ∙ (c.is_at.ensures ∙ q.0))
            | then-not-is_at-via-else-not-is_at+then-is_marked w ↦
                false≢true (sym q.1 ∙ (sym w.is_marked.ensures ∙ w.if-is_marked.true))
          ]) h),
    )

pub mark-requires : goal.mark-requires
mark-requires g c =
    omega (
      arith,
      end_below c.args.dir (map (option_map (edge_of g.Ix.IndexType.number)) c.args.edges.now.items) c.args.n
          c.index-i.result (sym c.is_at.ensures ∙ c.if-not-is_at.false),
      length-map c.args.edges.now.items (option_map (edge_of g.Ix.IndexType.number)),
      c.loop-e.invariant.kept,
      c.requires.fits,
    )

pub loop-e-preserved : goal.loop-e-preserved
loop-e-preserved g c =
    let low : c.loop-e.e-index < length (map g.Ix.IndexType.number c.args.list.now.items) =
    omega (arith, length-map c.args.list.now.items g.Ix.IndexType.number, c.deref-e-items.ensures.len) in
    marked_on c.loop-e.invariant low c.index-i.result (read_mapped g.Ix.IndexType.number c.args.list.now.items
    c.loop-e.e-index c.e-item.result _ (rw c.deref-e-items.ensures.value at c.e-item.is) c.index-i.ensures.value)
    (sym c.is_at.ensures ∙ c.if-not-is_at.false) (sym c.is_marked.ensures ∙ c.if-is_marked.false) _ c.mark.ensures
