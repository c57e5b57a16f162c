use Rattle.daggy_condensation.proofs.folding.weight_from.Goals as goal

pub returns-then-at-begin-clause-none : goal.returns-then-at-begin-clause-none
returns-then-at-begin-clause-none g c = c.requires c.args.at c.if-at-begin.true
