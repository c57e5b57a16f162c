use Rattle.daggy_redundant.proofs.roots.enter_below.Goals as goal

pub returns-clause-below : goal.returns-clause-below
returns-clause-below g c = rw c.lay_aside.ensures.aside c.queue_below-len.ensures.below
