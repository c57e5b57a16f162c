use Rattle.example_model.proofs.Paths.{chain_reaches_its_end, ring_reaches_round, chain_reaches_no_start}
use Rattle.example_model.proofs.Paths.{siblings_reach_not}
use Rattle.example_model.proofs.definitions.paths.paths_lead_along_edges.Goals as goal

pub returns-clause-along : goal.returns-clause-along
returns-clause-along c = chain_reaches_its_end

pub returns-clause-round : goal.returns-clause-round
returns-clause-round c = ring_reaches_round

pub returns-clause-against : goal.returns-clause-against
returns-clause-against c = chain_reaches_no_start

pub returns-clause-across : goal.returns-clause-across
returns-clause-across c = siblings_reach_not
