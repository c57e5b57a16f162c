use Rattle.std.proofs.Common.{rules}
use Rattle.daggy_formats.proofs.Escaping.{displays_escaped}
use Rattle.daggy_formats.proofs.escaper.write_escaped.Goals as goal

pub returns : goal.returns
returns g c =
    displays_escaped g.X.Escape.escaped_char g.W.Write.write_str_gives _ c.write-result.new.self _ _ _ (λ same. search rules) c.write-result.ensures.writes
