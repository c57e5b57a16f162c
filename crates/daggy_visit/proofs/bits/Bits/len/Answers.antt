use Rattle.std.proofs.Common.{length, sym, ap, ◌∙◌}
use Rattle.daggy_base.proofs.Flags.{length-flags}
use Rattle.daggy_visit.proofs.bits.Bits.len.Goals as goal

pub returns : goal.returns
returns c = sym (length-flags c.self.inside.words.items c.self.inside.len) ∙ ap length c.self.view_is
