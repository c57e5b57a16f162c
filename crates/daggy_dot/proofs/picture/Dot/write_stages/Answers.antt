use Rattle.std.proofs.Common.{◌≡◌, ◌∙◌, ap, subst, sym, rules, ℕ, ◌+◌, ◌<◌, ◌++◌, take, length, map, arith, vec_items}
use Rattle.std.proofs.lemmas.List.{length-map}
use Rattle.std.proofs.Math.ListN.{get_or, get_or-map}
use Rattle.std.proofs.Output.{has_written_append, has_written_of_eq}
use Rattle.std.specs.List.{flat_map}
use Rattle.daggy_dot.specs.Picture.{rank_line}
use Rattle.daggy_dot.proofs.Ranks.{flat_map_take}
use Rattle.daggy_dot.proofs.picture.Dot.write_stages.Goals as goal

pub loop-stage-preserved : goal.loop-stage-preserved
loop-stage-preserved g c plain =
    let took = g.W.Write.write_str_gives in
    let line = rank_line g.Ix.IndexType.number c.args.self.now.graph in
    let stages = c.args.self.now.stages in
    let vecs = c.self.inside.stages.now in
    let stage = c.stage-item.result in
    let i = c.loop-stage.stage-index in
    let text = λ (k : ℕ). flat_map line (take k stages) in
    let seen : map vec_items vecs ≡ stages = λ j. (c.self.view_is j).stages in
    let low : i < length stages = subst (λ xs. i < length xs) seen (omega (arith, length-map vecs vec_items, c.loop-stage-test.true)) in
    let at : vec_items stage ≡ get_or stages i (vec_items stage) =
    ap vec_items c.stage-item.is ∙ sym (get_or-map vec_items vecs i stage) ∙ ap (λ xs. get_or xs i (vec_items stage)) seen in
    let next : text i ++ line c.as_slice.result.now ≡ text (i + 1) =
    ap (λ y. text i ++ line y) (c.as_slice.ensures.value ∙ at) ∙ flat_map_take line stages i (vec_items stage) low in
    has_written_of_eq took _ _ _ _ next (has_written_append took _ _ _ _ _ (c.loop-stage.invariant plain) (search rules))
