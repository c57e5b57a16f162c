use Rattle.std.proofs.Common.{◌∙◌, ap}
use Rattle.daggy_base.specs.Cursor.{first_of}
use Rattle.daggy_order.specs.Links.{Stored}
use Rattle.daggy_order.proofs.list.LabeledList.first.Goals as goal

pub returns : goal.returns
returns g c = c.first.ensures ∙ ap (λ (z : Stored). first_of g.Ix.IndexType.greatest z.nodes) c.self.view_is
