use Rattle.std.proofs.Common.{rules}
use Rattle.daggy_dot.proofs.Quoting.{displays_quoted}
use Rattle.daggy_dot.proofs.escapes.write_quoted.Goals as goal

pub returns : goal.returns
returns g c =
    displays_quoted g.W.Write.write_str_gives _ c.write-result.new.self (search rules) _ _ _ (λ same. search rules)
    c.write-result.ensures.writes
