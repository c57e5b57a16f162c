use Rattle.std.proofs.Common.{◌∙◌, ap}
use Rattle.daggy_order.specs.Links.{Stored}
use Rattle.daggy_order.proofs.list.LabeledList.last.Goals as goal

pub returns : goal.returns
returns g c = λ ns n is. c.last.ensures ns n (ap (λ (z : Stored). z.nodes) c.self.view_is ∙ is)
