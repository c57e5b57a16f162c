use Rattle.example_model.proofs.Reductions.{shortcuts_reduced, shortcuts_reduced_again}
use Rattle.example_model.proofs.definitions.reducing.the_reduction_of_five_nodes.Goals as goal

pub returns-clause-before : goal.returns-clause-before
returns-clause-before c = shortcuts_reduced

pub returns-clause-again : goal.returns-clause-again
returns-clause-again c = shortcuts_reduced_again
