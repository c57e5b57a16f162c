use Rattle.example_model.proofs.Paths.{fan_with_a_loop_is_cyclic, fan_with_a_way_back_is_cyclic}
use Rattle.example_model.proofs.definitions.paths.an_edge_closes_a_cycle.Goals as goal

pub returns-clause-to_itself : goal.returns-clause-to_itself
returns-clause-to_itself c = fan_with_a_loop_is_cyclic

pub returns-clause-back : goal.returns-clause-back
returns-clause-back c = fan_with_a_way_back_is_cyclic
