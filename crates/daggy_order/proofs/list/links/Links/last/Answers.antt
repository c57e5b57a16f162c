use Rattle.std.proofs.Common.{◌∙◌, ap}
use Rattle.daggy_order.specs.Links.{Listed}
use Rattle.daggy_order.proofs.LinkedNodes.{last_is}
use Rattle.daggy_order.proofs.list.links.Links.last.Goals as goal

pub returns : goal.returns
returns g c =
    λ ns n is. last_is c.self.invariant ns n (ap (λ (z : Listed). z.nodes) c.self.view_is ∙ is)
