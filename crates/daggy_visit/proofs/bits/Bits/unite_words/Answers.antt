use Rattle.std.proofs.Common.{◌≡◌, ◌∙◌, ℕ, List, length, ap, subst, arith}
use Rattle.std.proofs.lemmas.List.{with_items_is}
use Rattle.daggy_visit.specs.United.{AreUnited}
use Rattle.daggy_base.proofs.Flags.{length-flags}
use Rattle.daggy_visit.proofs.UnitedWords.{united_flags}
use Rattle.daggy_visit.proofs.bits.Bits.unite_words.Goals as goal

pub unite-requires-clause-to : goal.unite-requires-clause-to
unite-requires-clause-to c =
    omega (
      arith,
      c.requires.to,
      c.self.invariant,
      ap length c.self.view_is,
      length-flags c.self.inside.words.items c.self.inside.len,
      c.as_mut_slice.ensures.len,
    )

pub unite-requires-clause-from : goal.unite-requires-clause-from
unite-requires-clause-from c =
    omega (
      arith,
      c.requires.from,
      c.self.invariant,
      ap length c.self.view_is,
      length-flags c.self.inside.words.items c.self.inside.len,
      c.as_mut_slice.ensures.len,
    )

pub returns-clause-united : goal.returns-clause-united
returns-clause-united c i =
    let sized : length c.args.self.now ≡ c.self.inside.len =
    omega (arith, ap length c.self.view_is, length-flags c.self.inside.words.items c.self.inside.len) in
    let P : List ℕ → Type 0 = λ z. AreUnited z c.unite.new.words c.args.to c.args.from c.args.count in
    let made = with_items_is c.self.inside.words c.unite.new.words
    (c.unite.ensures.sized ∙ c.as_mut_slice.ensures.len) in
    rw (← c.self.view_is, made)
    (united_flags c.self.inside.len (subst P c.as_mut_slice.ensures.value c.unite.ensures)
    (omega (arith, sized, c.requires.to)) (omega (arith, sized, c.requires.from)) i)
