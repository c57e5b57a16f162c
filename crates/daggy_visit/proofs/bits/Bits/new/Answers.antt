use Rattle.std.proofs.Common.{ap, ◌∙◌}
use Rattle.daggy_base.specs.Bits.{flags}
use Rattle.daggy_base.proofs.Flags.{flags_clear}
use Rattle.daggy_visit.proofs.bits.Bits.new.Goals as goal

pub returns : goal.returns
returns c =
    ap (λ w. flags w c.args.len) (c.in_ok-words.ensures.items_if_clones_equal (λ y same. same))
    ∙ flags_clear c.div_ceil.result c.args.len
