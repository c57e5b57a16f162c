use Rattle.std.proofs.Common.{arith, refl, rules}
use Rattle.example_callers.proofs.ClearedWeights.{cleared_starts, cleared_within, cleared_more, cleared_ends}
use Rattle.example_callers.proofs.cursors.clear_weights.Goals as goal

pub each-init : goal.each-init
each-init g c =
    let shown = c.node_count-compact.ensures in
    let weights = c.node_weights_mut-weights.ensures in
    (refl, cleared_starts _ _ _ _ weights.same weights.start shown.dag.well_formed (shown.compact refl))

pub each-smaller : goal.each-smaller
each-smaller g c =
    let within = cleared_within _ _ _ c.each.invariant.1 _ c.in-Some.ensures.value in
    omega (arith, within)

pub each-preserved : goal.each-preserved
each-preserved g c = (c.each.invariant.0, cleared_more _ _ _ c.each.invariant.1 _ c.in-Some.ensures.value)

pub returns : goal.returns
returns g c =
    let done = cleared_ends _ _ _ c.each.invariant.1 c.in_default.ensures.value in
    search (rules, done)
