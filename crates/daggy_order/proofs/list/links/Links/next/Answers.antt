use Rattle.std.proofs.Common.{◌<◌, ◌∙◌, ap, arith, length}
use Rattle.daggy_order.specs.Links.{Listed}
use Rattle.daggy_order.proofs.Items.{next_read}
use Rattle.daggy_order.proofs.LinkedNodes.{next_is}
use Rattle.daggy_order.proofs.NodeItems.{is_held, item_low}
use Rattle.daggy_order.proofs.list.links.Links.next.Given.{Over}
use Rattle.daggy_order.proofs.list.links.Links.next.Goals.{After-index}
use Rattle.daggy_order.proofs.list.links.Links.next.Goals as goal

-- there is an item for the node
low : (g : Over) (c : After-index g) → c.index.result < length c.self.inside.items.items
low g c =
    let held = is_held (ap (λ (z : Listed). z.nodes) c.self.view_is) c.requires in
    omega (arith, c.index.ensures.value, item_low c.self.inside.items.items c.self.invariant held)

pub index-requires-2 : goal.index-requires-2
index-requires-2 g c =
    omega (arith, low g (goal.at.index-requires-2 g c).After-index, c.self.inside.items.ok.0)

pub returns : goal.returns
returns g c =
    λ ns ms is.
    next_read c.self.inside.items.items c.index-2.ensures c.index.ensures.value (low g (goal.at.returns g c).After-index)
    g.Ix.IndexType.greatest
    ∙ next_is c.self.invariant ns c.args.n ms (ap (λ (z : Listed). z.nodes) c.self.view_is ∙ is)
