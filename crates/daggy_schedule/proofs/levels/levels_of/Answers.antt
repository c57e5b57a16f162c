use Rattle.std.proofs.Common.{◌≡◌, ◌∙◌, ◌+◌, ◌-◌, ◌<◌, ◌++◌, ◌∷◌, length, get_or, map, take, drop, ap, arith}
use Rattle.std.proofs.Common.{rules, set}
use Rattle.daggy_base.specs.Graph.{HasNode, node_bound}
use Rattle.daggy_base.specs.WellFormed.{IsWellFormed}
use Rattle.daggy_base.proofs.OutEdgesRead.{below_bound}
use Rattle.daggy_schedule.specs.Passes.{IsGreatestBelow}
use Rattle.daggy_schedule.proofs.Late.{parted_order, behind_node, order_exists}
use Rattle.daggy_schedule.proofs.Elsewhere.{set_elsewhere}
use Rattle.daggy_schedule.proofs.LongestPaths.{AreLevelled, level_one, level_too_long, all_levelled}
use Rattle.daggy_schedule.proofs.levels.levels_of.Given.{Over}
use Rattle.daggy_schedule.proofs.levels.levels_of.Goals.{After-index-i, After-greatest_below-below}
use Rattle.daggy_schedule.proofs.levels.levels_of.Goals as goal

formed : (g : Over) (c : After-index-i g) → IsWellFormed g.Ix.IndexType.greatest c.args.dag.now.graph
formed g c = rw (← c.graph-store.ensures.graph) c.node_bound.ensures.well_formed

-- the place of the node in the order
within : (g : Over) (c : After-index-i g) → c.nodes.k - 1 < length c.args.order.now
within g c = omega (arith, c.nodes-test.true, c.nodes.invariant.within)

split : (g : Over) (c : After-index-i g) → (let order = map g.Ix.IndexType.number c.args.order.now in
    order ≡ take (c.nodes.k - 1) order ++ g.Ix.IndexType.number c.index-order-k.result ∷ drop (c.nodes.k - 1 + 1) order)
split g c =
    parted_order g.Ix.IndexType.number c.args.order.now (c.nodes.k - 1) c.index-order-k.result (within g c) c.index-order-k.is

exists : (g : Over) (c : After-index-i g) → HasNode c.args.dag.now.graph (g.Ix.IndexType.number c.index-order-k.result)
exists g c = order_exists (formed g c) c.requires.ordered _ _ _ (split g c)

low : (g : Over) (c : After-index-i g) → c.index-i.result < node_bound c.args.dag.now.graph
low g c = omega (arith, below_bound c.args.dag.now.graph.nodes _ (exists g c), c.index-i.ensures.value)

levelled : (g : Over) (c : After-index-i g) → AreLevelled c.args.dag.now.graph c.args.durations.now c.nodes.levels.items
    (drop (c.nodes.k - 1 + 1) (map g.Ix.IndexType.number c.args.order.now))
levelled g c =
    let one : c.nodes.k - 1 + 1 ≡ c.nodes.k = omega (arith, c.nodes-test.true) in rw one c.nodes.invariant.levelled

below : (g : Over) (c : After-greatest_below-below g) → IsGreatestBelow c.args.dag.now.graph c.nodes.levels.items
    (g.Ix.IndexType.number c.index-order-k.result) c.greatest_below-below.result
below g c = rw (← c.as_slice.ensures.value, ← c.graph-store.ensures.graph) c.greatest_below-below.ensures

duration : (g : Over) (c : After-greatest_below-below g) → get_or c.args.durations.now c.index-i.result 0
    ≡ get_or c.args.durations.now (g.Ix.IndexType.number c.index-order-k.result) 0
duration g c = ap (λ z. get_or c.args.durations.now z 0) c.index-i.ensures.value

pub offset_bounds-durations-i : goal.offset_bounds-durations-i
offset_bounds-durations-i g c =
    let at = (goal.at.offset_bounds-durations-i g c).After-index-i in
    let h : c.index-i.result < length c.args.durations.now = omega (arith, low g at, c.requires.durations) in
    search rules

pub bounds-durations-i : goal.bounds-durations-i
bounds-durations-i g c =
    let at = (goal.at.bounds-durations-i g c).After-index-i in
    omega (arith, low g at, c.requires.durations)

pub returns-in_default-clause-overflow : goal.returns-in_default-clause-overflow
returns-in_default-clause-overflow g c _ =
    let at = (goal.at.returns-in_default-clause-overflow g c).After-greatest_below-below in
    let start = (goal.at.returns-in_default-clause-overflow g c).After-index-i in
    level_too_long (formed g start) c.requires.ordered _ _ _ (split g start) c.args.durations.now c.nodes.levels.items
    (levelled g start) (below g at) (omega (arith, c.in_default.ensures, duration g at))

pub index_mut-requires : goal.index_mut-requires
index_mut-requires g c =
    let at = (goal.at.index_mut-requires g c).After-index-i in
    omega (arith, low g at, c.nodes.invariant.sized)

pub nodes-preserved : goal.nodes-preserved
nodes-preserved g c =
    let at = (goal.at.nodes-preserved g c).After-greatest_below-below in
    let start = (goal.at.nodes-preserved g c).After-index-i in
    let n = g.Ix.IndexType.number c.index-order-k.result in
    let s = c.nodes.invariant in
    let levels = c.nodes.levels.items in
    let now = set levels c.index-i.result c.in-Some.level in
    let level : c.in-Some.level ≡ c.greatest_below-below.result + get_or c.args.durations.now n 0 =
    omega (arith, c.in-Some.ensures.1, duration g at) in
    let is : now ≡ set levels n (c.greatest_below-below.result + get_or c.args.durations.now n 0) =
    ap (λ z. set levels z c.in-Some.level) c.index-i.ensures.value ∙ ap (λ z. set levels n z) level in
    let more = level_one (formed g start) c.requires.ordered _ _ _ (split g start) c.args.durations.now levels
    (levelled g start) (below g at) now
    (omega (arith, low g start, s.sized, c.nodes.levels.ok.0, c.index-i.ensures.value)) is in
    record {
      sized = s.sized;
      within = omega (arith, s.within);
      elsewhere = set_elsewhere c.args.dag.now.graph levels now n _ (exists g start) s.elsewhere is;
      levelled =
          rw (behind_node g.Ix.IndexType.number c.args.order.now (c.nodes.k - 1) c.index-order-k.result (within g start)
          c.index-order-k.is) more;
    }

pub returns-clause-longest : goal.returns-clause-longest
returns-clause-longest g c =
    let none : c.nodes.k ≡ 0 = omega (arith, c.nodes-test.false) in
    all_levelled c.requires.ordered c.args.durations.now c.nodes.levels.items (rw none at c.nodes.invariant.levelled)
