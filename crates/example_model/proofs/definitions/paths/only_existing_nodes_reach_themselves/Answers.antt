use Rattle.example_model.proofs.Paths.{one_reaches_itself, nothing_reaches_none, missing_reaches_none}
use Rattle.example_model.proofs.definitions.paths.only_existing_nodes_reach_themselves.Goals as goal

pub returns-clause-existing : goal.returns-clause-existing
returns-clause-existing c = one_reaches_itself

pub returns-clause-none : goal.returns-clause-none
returns-clause-none c = nothing_reaches_none

pub returns-clause-missing : goal.returns-clause-missing
returns-clause-missing c = missing_reaches_none
