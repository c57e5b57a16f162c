use Rattle.std.proofs.Common.{◌≤◌, false, length, map, take, get_or, arith}
use Rattle.daggy_base.proofs.OutEdgesRead.{below_bound}
use Rattle.daggy_base.proofs.PathsWithNode.{bound_low}
use Rattle.daggy_reduction.proofs.PlacedNodes.{listed_below, all_placed, placed_front, front_elsewhere, order_short, order_few}
use Rattle.daggy_reduction.proofs.PlacedNodes.{filter_spans}
use Rattle.daggy_reduction.specs.Blocks.{IsPlaced}
use Rattle.daggy_reduction.proofs.placed.list_below.Given.{Over}
use Rattle.daggy_reduction.proofs.placed.list_below.Goals.{After-list_entered}
use Rattle.daggy_reduction.proofs.placed.list_below.Goals as goal

pub list_entered-requires-clause-low : goal.list_entered-requires-clause-low
list_entered-requires-clause-low g c n m =
    let graph = g.S.EdgeSource.graph c.args.source.now in
    omega (
      arith,
      below_bound graph.nodes n ((c.requires.ordered.exact n).0 m),
      c.requires.fits,
      c.queue_below.ensures.kept.size_is,
    )

pub list_entered-requires-clause-fits : goal.list_entered-requires-clause-fits
list_entered-requires-clause-fits g c =
    omega (
      arith,
      order_short c.args.order.now c.requires.ordered,
      c.requires.fits,
      c.queue_below.ensures.kept.size_is,
    )

pub list_entered-requires-clause-real : goal.list_entered-requires-clause-real
list_entered-requires-clause-real g c =
    omega (
      arith,
      order_short c.args.order.now c.requires.ordered,
      bound_low (g.S.EdgeSource.graph c.args.source.now).nodes,
      c.requires.well_formed.few_nodes,
    )

pub returns-clause-below : goal.returns-clause-below
returns-clause-below g c =
    rw c.list_entered.ensures.listed
    (listed_below c.requires.well_formed c.args.order.now c.requires.ordered
    (map g.Ix.IndexType.number c.args.roots.now) (λ n. get_or c.queue_below.new.work.entered n false)
    c.queue_below.ensures.entered)

placed : (g : Over) (c : After-list_entered g)
    → IsPlaced (g.S.EdgeSource.graph c.args.source.now)
    (take c.list_entered.result c.list_entered.new.work.nodes) c.list_entered.new.work.cursors
placed g c =
    let count = c.list_entered.result in
    let work = c.list_entered.new.work in
    let order = c.args.order.now in
    let within : count ≤ length work.nodes = omega (
      arith,
      order_short order c.requires.ordered,
      c.requires.fits,
      c.list_entered.ensures.within,
      c.list_entered.ensures.kept.nodes_are,
      c.queue_below.ensures.kept.size_is,
    ) in
    all_placed c.requires.well_formed order c.requires.ordered
    (map g.Ix.IndexType.number c.args.roots.now) (λ n. get_or c.queue_below.new.work.entered n false)
    c.queue_below.ensures.entered (take count work.nodes) work.cursors c.list_entered.ensures.listed
    (placed_front work.nodes work.cursors count within c.list_entered.ensures.placed)
    (front_elsewhere order work.nodes work.cursors count within c.list_entered.ensures.elsewhere)

pub returns-clause-placed : goal.returns-clause-placed
returns-clause-placed g c = placed g (goal.at.returns-clause-placed g c).After-list_entered

pub returns-clause-near : goal.returns-clause-near
returns-clause-near g c =
    filter_spans (λ n. get_or c.queue_below.new.work.entered n false) c.requires.ordered c.list_entered.ensures.listed
    (placed g (goal.at.returns-clause-near g c).After-list_entered)

pub returns-clause-few : goal.returns-clause-few
returns-clause-few g c =
    omega (arith, c.list_entered.ensures.within, order_few c.args.order.now c.requires.ordered)

pub returns-clause-low : goal.returns-clause-low
returns-clause-low g c =
    omega (arith, c.list_entered.ensures.within, order_short c.args.order.now c.requires.ordered)
