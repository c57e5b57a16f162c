use Rattle.std.proofs.Common.{◌≡◌, ◌+◌, ◌<◌, ◌≤◌, length, refl, ◌∙◌, arith}
use Rattle.daggy_reduction.specs.Blocks.{HasBit}
use Rattle.daggy_reduction.proofs.PassedArcs.{bits_start, bits_on, bits_done, reached_passes}
use Rattle.daggy_reduction.proofs.PassedArcs.{found_start, found_on, found_done}
use Rattle.daggy_reduction.proofs.block.reach_from.Goals as goal

pub arcs-init : goal.arcs-init
arcs-init g c =
    record {
      direct =
          bits_start c.args.arcs.now c.args.segment c.args.block.low c.args.block.high
          (λ i p. p ≡ c.args.block.low + i) 512 c.requires.none_direct;
      indirect =
          bits_start c.args.arcs.now c.args.segment c.args.block.low c.args.block.high
          (λ i p. (p < c.args.block.high) × HasBit c.args.rows.now p i) 512 c.requires.none_indirect;
      beyond =
          found_start c.args.arcs.now c.args.segment (λ p. c.args.block.high ≤ p) _
          (λ past. omega (arith, past, c.requires.some, c.requires.none_beyond));
      same = refl;
      counted = omega arith;
    }

pub reach_over-requires-clause-passed_on : goal.reach_over-requires-clause-passed_on
reach_over-requires-clause-passed_on g c =
    let x = c.index-arcs-k.result in
    let place : c.index.result ≡ x.place = c.index.ensures.value ∙ c.look-place.ensures.place in
    reached_passes c.args.arcs.now c.args.segment c.arcs.k x c.arcs.auto.k
    (omega (arith, c.arcs-test.true, c.requires.inside)) c.index-arcs-k.is c.args.block.low c.args.block.high
    c.index.result place c.args.rows.now c.arcs.reached.indirect c.arcs-test.true
    c.requires.passed_on c.arcs.invariant.indirect

pub arcs-preserved : goal.arcs-preserved
arcs-preserved g c =
    let x = c.index-arcs-k.result in
    let place : c.index.result ≡ x.place = c.index.ensures.value ∙ c.look-place.ensures.place in
    let from = c.arcs.auto.k in
    let till : c.arcs.k < length c.args.arcs.now = omega (arith, c.arcs-test.true, c.requires.inside) in
    record {
      direct =
          bits_on c.args.arcs.now c.args.segment c.arcs.k x from till c.index-arcs-k.is c.args.block.low
          c.args.block.high c.index.result place (λ i p. p ≡ c.args.block.low + i) c.arcs.reached.direct
          c.reach_over.new.reached.direct c.arcs.invariant.direct c.reach_over.ensures.direct;
      indirect =
          bits_on c.args.arcs.now c.args.segment c.arcs.k x from till c.index-arcs-k.is c.args.block.low
          c.args.block.high c.index.result place
          (λ i p. (p < c.args.block.high) × HasBit c.args.rows.now p i) c.arcs.reached.indirect
          c.reach_over.new.reached.indirect c.arcs.invariant.indirect c.reach_over.ensures.indirect;
      beyond =
          found_on c.args.arcs.now c.args.segment c.arcs.k x from till c.index-arcs-k.is c.index.result place
          (λ p. c.args.block.high ≤ p) _ _ c.arcs.invariant.beyond c.reach_over.ensures.beyond;
      same = c.look-place.ensures.same ∙ c.arcs.invariant.same;
      counted = omega (arith, c.look-place.ensures.counted, c.arcs.invariant.counted, from);
    }

pub returns-clause-direct : goal.returns-clause-direct
returns-clause-direct g c =
    bits_done c.args.arcs.now c.args.segment c.arcs.k (omega (arith, c.arcs-test.false, c.arcs.auto.k-end, c.requires.ordered))
    c.args.block.low c.args.block.high (λ i p. p ≡ c.args.block.low + i) c.arcs.reached.direct
    c.arcs.invariant.direct

pub returns-clause-indirect : goal.returns-clause-indirect
returns-clause-indirect g c =
    bits_done c.args.arcs.now c.args.segment c.arcs.k (omega (arith, c.arcs-test.false, c.arcs.auto.k-end, c.requires.ordered))
    c.args.block.low c.args.block.high (λ i p. (p < c.args.block.high) × HasBit c.args.rows.now p i) c.arcs.reached.indirect
    c.arcs.invariant.indirect

pub returns-clause-beyond : goal.returns-clause-beyond
returns-clause-beyond g c =
    found_done c.args.arcs.now c.args.segment c.arcs.k (omega (arith, c.arcs-test.false, c.arcs.auto.k-end, c.requires.ordered))
    (λ p. c.args.block.high ≤ p) _ c.arcs.invariant.beyond

pub returns-clause-counted : goal.returns-clause-counted
returns-clause-counted g c =
    omega (arith, c.arcs.invariant.counted, c.arcs-test.false, c.arcs.auto.k-end, c.requires.ordered)
