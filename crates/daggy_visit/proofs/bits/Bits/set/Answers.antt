use Rattle.std.proofs.Common.{◌<◌, false, true, not, length, get_or, set, ap, ◌∙◌, arith}
use Rattle.daggy_base.proofs.Flags.{length-flags, flag_read, flag_set, tests_clear}
use Rattle.daggy_visit.proofs.bits.Bits.set.Goals as goal

pub index-word-requires : goal.index-word-requires
index-word-requires c =
    omega (
      arith,
      c.requires,
      c.self.invariant,
      ap length c.self.view_is,
      length-flags c.self.inside.words.items c.self.inside.len,
    )

pub index_mut-requires : goal.index_mut-requires
index_mut-requires c =
    omega (
      arith,
      c.requires,
      c.self.invariant,
      ap length c.self.view_is,
      length-flags c.self.inside.words.items c.self.inside.len,
    )

pub returns-clause-clear : goal.returns-clause-clear
returns-clause-clear c =
    let within : c.args.i < c.self.inside.len =
    omega (arith, c.requires, ap length c.self.view_is, length-flags c.self.inside.words.items c.self.inside.len) in
    tests_clear c.index-word.result.now _
    ∙ ap not (flag_read c.self.inside.words.items c.self.inside.len c.args.i c.index-word.result.now within
    (omega (arith, c.self.invariant, c.self.inside.words.ok.0)) c.index-word.ensures
    ∙ ap (λ z. get_or z c.args.i false) c.self.view_is)

pub returns-clause-after : goal.returns-clause-after
returns-clause-after c =
    let within : c.args.i < c.self.inside.len =
    omega (arith, c.requires, ap length c.self.view_is, length-flags c.self.inside.words.items c.self.inside.len) in
    flag_set c.self.inside.words.items c.self.inside.len c.args.i c.index-word.result.now within
    (omega (arith, c.self.invariant, c.self.inside.words.ok.0)) c.index-word.ensures
    ∙ ap (λ z. set z c.args.i true) c.self.view_is
