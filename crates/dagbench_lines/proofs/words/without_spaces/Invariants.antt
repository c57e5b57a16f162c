use Rattle.std.proofs.Common.{◌≡◌, length}
use Rattle.dagbench_lines.specs.Cutting.{words_of}
use Rattle.dagbench_lines.proofs.words.without_spaces.Given as goal

abbrev pub invariant-spaces : goal.invariant-spaces
invariant-spaces l = words_of l.rest ≡ words_of l.line

abbrev pub decreases-spaces : goal.decreases-spaces
decreases-spaces l = length l.rest
