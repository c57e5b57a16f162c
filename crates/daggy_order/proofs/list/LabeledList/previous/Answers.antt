use Rattle.std.proofs.Common.{◌∙◌, sym, ap, subst}
use Rattle.std.specs.List.{Contains}
use Rattle.daggy_order.specs.Links.{Stored}
use Rattle.daggy_order.proofs.list.LabeledList.previous.Goals as goal

pub previous-requires : goal.previous-requires
previous-requires g c =
    let P : Stored → Type 0 = λ z. Contains z.nodes c.args.n in
    subst P (sym c.self.view_is) c.requires

pub returns : goal.returns
returns g c =
    λ ns ms m is. c.previous.ensures.some ns ms m (ap (λ (z : Stored). z.nodes) c.self.view_is ∙ is)
