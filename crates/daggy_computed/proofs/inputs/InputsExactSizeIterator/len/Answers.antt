use Rattle.std.proofs.Common.{◌∙◌, ap, sym, length}
use Rattle.daggy_computed.proofs.Listed.{count_values}
use Rattle.daggy_computed.proofs.inputs.InputsExactSizeIterator.len.Goals as goal

pub returns-clause-value : goal.returns-clause-value
returns-clause-value g c =
    sym (count_values c.self.inside.entries.now c.self.inside.parents.now c.self.invariant) ∙ ap length c.self.view_is
