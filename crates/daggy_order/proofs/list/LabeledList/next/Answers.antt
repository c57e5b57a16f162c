use Rattle.std.proofs.Common.{◌∙◌, sym, ap, subst}
use Rattle.std.specs.List.{Contains}
use Rattle.daggy_order.specs.Links.{Stored}
use Rattle.daggy_order.proofs.list.LabeledList.next.Goals as goal

pub next-requires : goal.next-requires
next-requires g c =
    let P : Stored → Type 0 = λ z. Contains z.nodes c.args.n in
    subst P (sym c.self.view_is) c.requires

pub returns : goal.returns
returns g c =
    λ ns ms is. c.next.ensures ns ms (ap (λ (z : Stored). z.nodes) c.self.view_is ∙ is)
