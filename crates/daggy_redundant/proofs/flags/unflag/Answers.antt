use Rattle.std.proofs.Common.{◌<◌, length, map, set, ap, ◌∙◌, arith, inl, inr, length-set, get_or}
use Rattle.std.proofs.lemmas.List.{map-set, length-map, get_or-set_same, get_or-set_other}
use Rattle.std.proofs.lemmas.Bool.{cases_eq}
use Rattle.daggy_redundant.proofs.flags.unflag.Goals as goal

pub places-preserved : goal.places-preserved
places-preserved g c =
    let number = g.Ix.IndexType.number in
    let end = g.Ix.IndexType.greatest in
    let flags = c.places.flags in
    let i = c.places.i in
    let written = map-set number flags i c.end.result ∙ ap (λ z. set (map number flags) i z) c.end.ensures.number in
    let low : i < length (map number flags) = omega (arith, c.places-test.true, length-map flags number) in
    record {
      same_length = length-set flags i c.end.result ∙ c.places.invariant.same_length;
      ended = λ j lt. ap (λ z. get_or z j end) written ∙ elim (cases_eq j i) [
        | inl here ↦
            ap (λ z. get_or (set (map number flags) i end) z end) here
            ∙ get_or-set_same (map number flags) i end end low
        | inr other ↦
            get_or-set_other (map number flags) i j end end other
            ∙ c.places.invariant.ended j (omega (arith, lt, other))
      ];
    }
