use Rattle.example_model.proofs.Reductions.{first_covers, end_is_not_covered}
use Rattle.example_model.proofs.definitions.reducing.nothing_stands_between_a_cover.Goals as goal

pub returns-clause-covers : goal.returns-clause-covers
returns-clause-covers c = first_covers

pub returns-clause-not : goal.returns-clause-not
returns-clause-not c = end_is_not_covered
