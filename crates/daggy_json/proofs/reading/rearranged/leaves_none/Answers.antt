use Rattle.std.proofs.Common.{◌≡◌, true, false, inl, inr, is_some, get_or, map, sym, ap, ◌∙◌, arith, rules}
use Rattle.std.specs.Option.{option_map}
use Rattle.std.proofs.lemmas.Bool.{false≢true, cases_lt}
use Rattle.std.proofs.lemmas.List.{length-map}
use Rattle.daggy_base.specs.Graph.{slot}
use Rattle.daggy_json.specs.Found.{edge_of}
use Rattle.daggy_json.proofs.MarkedLists.{slot_mapped, slot_within}
use Rattle.daggy_json.proofs.reading.rearranged.leaves_none.Goals as goal
use Rattle.daggy_json.proofs.reading.rearranged.leaves_none.Goals.{else-is_some-via-then-is_some+else-not-is_marked}
use Rattle.daggy_json.proofs.reading.rearranged.leaves_none.Goals.{else-is_some-via-else-is_some}

pub loop-e-preserved : goal.loop-e-preserved
loop-e-preserved g c =
    λ k low s. elim (cases_lt k c.loop-e.e) [
      | inl before ↦ c.loop-e.invariant k before s
      | inr over ↦ (
          let same : k ≡ c.loop-e.e = omega arith in
          let edges = map (option_map (edge_of g.Ix.IndexType.number)) c.args.edges.now.items in
          let here : is_some c.index.result.now ≡ true =
          sym (slot_mapped (edge_of g.Ix.IndexType.number) c.args.edges.now.items c.loop-e.e c.index.result.now
          (search rules) c.index.ensures)
          ∙ (ap (λ z. is_some (slot edges z)) (sym same) ∙ s) in
          ap (λ z. get_or c.args.marks.now z false) same ∙ elim c.else-is_some.branch [
            | else-is_some-via-then-is_some+else-not-is_marked w ↦ sym w.is_marked.ensures ∙ w.if-not-is_marked.false
            | else-is_some-via-else-is_some w ↦
                absurd (false≢true (sym w.if-is_some.false ∙ (c.is_some.ensures ∙ here)))
          ]
          )
    ]

pub returns : goal.returns
returns g c = (
  λ t e s. c.loop-e.invariant e (omega (
    arith,
    slot_within (map (option_map (edge_of g.Ix.IndexType.number)) c.args.edges.now.items) e s,
    length-map c.args.edges.now.items (option_map (edge_of g.Ix.IndexType.number)),
    c.loop-e-test.false,
    c.len-e-end.ensures,
  )) s,
  λ h. search rules,
)
