use Rattle.example_model.proofs.Reductions.{from_the_middle, from_nowhere, from_the_top}
use Rattle.example_model.proofs.definitions.reducing.edges_above_the_roots_stay.Goals as goal

pub returns-clause-from_the_middle : goal.returns-clause-from_the_middle
returns-clause-from_the_middle c = from_the_middle

pub returns-clause-from_nowhere : goal.returns-clause-from_nowhere
returns-clause-from_nowhere c = from_nowhere

pub returns-clause-from_the_top : goal.returns-clause-from_the_top
returns-clause-from_the_top c = from_the_top
