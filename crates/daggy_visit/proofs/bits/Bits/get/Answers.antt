use Rattle.std.proofs.Common.{◌<◌, false, length, get_or, ap, ◌∙◌, arith}
use Rattle.daggy_base.proofs.Flags.{length-flags, flag_read, tests_set}
use Rattle.daggy_visit.proofs.bits.Bits.get.Goals as goal

pub index-requires : goal.index-requires
index-requires c =
    omega (
      arith,
      c.requires,
      c.self.invariant,
      ap length c.self.view_is,
      length-flags c.self.inside.words.items c.self.inside.len,
    )

pub returns : goal.returns
returns c =
    let within : c.args.i < c.self.inside.len =
    omega (arith, c.requires, ap length c.self.view_is, length-flags c.self.inside.words.items c.self.inside.len) in
    tests_set c.index.result.now _
    ∙ flag_read c.self.inside.words.items c.self.inside.len c.args.i c.index.result.now within
    (omega (arith, c.self.invariant, c.self.inside.words.ok.0)) c.index.ensures
    ∙ ap (λ z. get_or z c.args.i false) c.self.view_is
