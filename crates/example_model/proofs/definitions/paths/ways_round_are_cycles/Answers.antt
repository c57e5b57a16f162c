use Rattle.example_model.proofs.Paths.{self_loop_is_cyclic, ring_is_cyclic}
use Rattle.example_model.proofs.definitions.paths.ways_round_are_cycles.Goals as goal

pub returns-clause-self_loop : goal.returns-clause-self_loop
returns-clause-self_loop c = self_loop_is_cyclic

pub returns-clause-ring : goal.returns-clause-ring
returns-clause-ring c = ring_is_cyclic
