use Rattle.std.proofs.Common.{◌≡◌, ◌≢◌, ◌+◌, ◌<◌, ℕ, List, length, map, set, get_or, sym, ap, subst, ◌∙◌, arith}
use Rattle.std.proofs.lemmas.List.{map-set, length-map, get_or-map}
use Rattle.daggy_redundant.proofs.GatheredFlags.{Gathering, gather_passed, gather_put}
use Rattle.daggy_redundant.proofs.flags.collect_flags.Goals as goal
use Rattle.daggy_redundant.proofs.flags.collect_flags.Goals.{then-index-end, else-index-end}

pub places-preserved : goal.places-preserved
places-preserved g c =
    let number = g.Ix.IndexType.number in
    let end = g.Ix.IndexType.greatest in
    let flags = c.places.flags in
    let i = c.places.i in
    let inv = c.places.invariant in
    let low : i < length flags = omega (arith, c.places-test.true, inv.sized, c.requires.within) in
    let at : get_or (map number flags) i end ≡ number c.index-flags-i.result =
    get_or-map number flags i c.index-flags-i.result end low ∙ ap number (sym c.index-flags-i.is) in
    let moved = inv.gathered in
    let Kept : List ℕ → ℕ → Type 0 = λ z len. Gathering end (map number c.args.flags.now) z len (i + 1) in
    let sized : length c.if-index-end.flags ≡ length c.args.flags.now = c.if-index-end.auto.flags ∙ inv.sized in
    elim c.if-index-end.branch [
      | then-index-end w ↦ (
          let other : number c.index-flags-i.result ≢ end = λ e.
          w.if-index-end.true
          (c.index.ensures.value ∙ e ∙ sym c.end.ensures.number ∙ sym c.index-end.ensures.value) in
          let written : map number c.if-index-end.flags ≡ set (map number flags) c.places.len i =
          ap (map number) w.flags-is ∙ map-set number flags c.places.len w.new.result
          ∙ ap (λ z. set (map number flags) c.places.len z) w.new.ensures.number in
          let put = gather_put moved (omega (arith, low, length-map flags number)) (λ e. other (sym at ∙ e)) in
          let P : List ℕ → Type 0 = λ z. Kept z (c.places.len + 1) in
          let Q : ℕ → Type 0 = λ z. Kept (map number c.if-index-end.flags) z in
          record {
            within = omega (arith, c.places-test.true);
            sized = sized;
            gathered = subst Q (sym w.len-is) (subst P (sym written) put);
          }
          )
      | else-index-end w ↦ (
          let is : number c.index-flags-i.result ≡ end =
          sym c.index.ensures.value ∙ w.if-index-end.false ∙ c.index-end.ensures.value ∙ c.end.ensures.number in
          let passed = gather_passed moved (at ∙ is) in
          let P : List ℕ → Type 0 = λ z. Kept z c.places.len in
          let Q : ℕ → Type 0 = λ z. Kept (map number c.if-index-end.flags) z in
          record {
            within = omega (arith, c.places-test.true);
            sized = sized;
            gathered = subst Q (sym w.len-is) (subst P (sym (ap (map number) w.flags-is)) passed);
          }
          )
    ]
