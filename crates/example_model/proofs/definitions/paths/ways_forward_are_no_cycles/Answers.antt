use Rattle.example_model.proofs.Paths.{fan_is_acyclic, shortcuts_are_acyclic}
use Rattle.example_model.proofs.definitions.paths.ways_forward_are_no_cycles.Goals as goal

pub returns-clause-fan : goal.returns-clause-fan
returns-clause-fan c = fan_is_acyclic

pub returns-clause-shortcuts : goal.returns-clause-shortcuts
returns-clause-shortcuts c = shortcuts_are_acyclic
