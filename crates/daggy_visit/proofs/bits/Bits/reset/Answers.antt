use Rattle.std.proofs.Common.{length, ap, ◌∙◌, arith}
use Rattle.daggy_base.specs.Bits.{flags}
use Rattle.daggy_base.proofs.Flags.{length-flags, flags_clear}
use Rattle.daggy_visit.proofs.bits.Bits.reset.Goals as goal

pub returns-in_err-resize-clause-succeeds : goal.returns-in_err-resize-clause-succeeds
returns-in_err-resize-clause-succeeds c = λ low.
    absurd (omega (
      arith,
      low,
      ap length c.self.view_is,
      length-flags c.self.inside.words.items c.self.inside.len,
      c.self.invariant,
      c.in_err-resize.ensures.full,
      c.div_ceil.ensures,
      c.self.inside.words.ok.1,
    ))

pub returns-clause-ok : goal.returns-clause-ok
returns-clause-ok c = ap (λ w. flags w c.args.len) (c.fill.ensures.items (λ y same. same)) ∙ flags_clear _ c.args.len
