use Rattle.dagbench_lines.proofs.Cuts.{cut_around, none_around}
use Rattle.dagbench_lines.proofs.words.split_at_byte.Goals as goal

pub returns-in-Some : goal.returns-in-Some
returns-in-Some c =
    cut_around _ c.in-Some.ensures.0.before c.in-Some.ensures.0.high c.in-Some.ensures.1
    c.split_at.ensures.front c.split_at.ensures.back

pub returns-in-None : goal.returns-in-None
returns-in-None c = none_around _ _ c.in-None.ensures
