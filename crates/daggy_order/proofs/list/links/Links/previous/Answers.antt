use Rattle.std.proofs.Common.{◌<◌, ◌∙◌, ap, arith, length}
use Rattle.daggy_order.specs.Links.{Listed}
use Rattle.daggy_order.proofs.Items.{previous_read}
use Rattle.daggy_order.proofs.LinkedNodes.{previous_none, previous_is}
use Rattle.daggy_order.proofs.NodeItems.{is_held, item_low}
use Rattle.daggy_order.proofs.list.links.Links.previous.Given.{Over}
use Rattle.daggy_order.proofs.list.links.Links.previous.Goals.{After-index}
use Rattle.daggy_order.proofs.list.links.Links.previous.Goals as goal

-- there is an item for the node
low : (g : Over) (c : After-index g) → c.index.result < length c.self.inside.items.items
low g c =
    let held = is_held (ap (λ (z : Listed). z.nodes) c.self.view_is) c.requires in
    omega (arith, c.index.ensures.value, item_low c.self.inside.items.items c.self.invariant held)

pub index-requires-2 : goal.index-requires-2
index-requires-2 g c =
    omega (arith, low g (goal.at.index-requires-2 g c).After-index, c.self.inside.items.ok.0)

pub returns-clause-none : goal.returns-clause-none
returns-clause-none g c =
    let here = low g (goal.at.returns-clause-none g c).After-index in
    λ ms is.
    previous_read c.self.inside.items.items c.index-2.ensures c.index.ensures.value here g.Ix.IndexType.greatest
    ∙ previous_none c.self.invariant c.args.n ms (ap (λ (z : Listed). z.nodes) c.self.view_is ∙ is)

pub returns-clause-some : goal.returns-clause-some
returns-clause-some g c =
    let here = low g (goal.at.returns-clause-some g c).After-index in
    λ ns ms k is.
    previous_read c.self.inside.items.items c.index-2.ensures c.index.ensures.value here g.Ix.IndexType.greatest
    ∙ previous_is c.self.invariant ns k c.args.n ms (ap (λ (z : Listed). z.nodes) c.self.view_is ∙ is)
