use Rattle.std.proofs.Common.{length}
use Rattle.answers.proofs.questions.write_simple_paths.Given as goal

abbrev pub decreases-paths : goal.decreases-paths
decreases-paths g l = length l.paths
