use Rattle.example_model.proofs.Reductions.{doubled_step_reduced}
use Rattle.example_model.proofs.definitions.reducing.parallel_edges_stay.Goals as goal

pub returns : goal.returns
returns c = doubled_step_reduced
