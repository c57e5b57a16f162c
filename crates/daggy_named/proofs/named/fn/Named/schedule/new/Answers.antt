use Rattle.std.proofs.Common.{sym, ap, ◌∙◌}
use Rattle.std.specs.Option.{option_copied}
use Rattle.daggy_named.proofs.named.fn.Named.schedule.new.Goals as goal

pub returns : goal.returns
returns g c = (c.unwrap.result, sym c.key_of.ensures ∙ ap option_copied c.unwrap.ensures, c.duration.ensures)
