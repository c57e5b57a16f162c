use Rattle.std.proofs.Common.{ap, map, ◌∙◌}
use Rattle.daggy_computed.proofs.computed.Computed.changed.Goals as goal

pub returns : goal.returns
returns g c = ap (map g.Ix.IndexType.number) c.as_slice.ensures.value ∙ ap (λ z. z.changed) c.self.view_is
