use Rattle.std.proofs.Common.{◌≡◌, ◌+◌, ◌-◌, ◌<◌, ◌≤◌, ◌↔◌}
use Rattle.daggy_reduction.specs.Blocks.{HasBits, HasBit, HasArcTo}
use Rattle.daggy_reduction.proofs.PassedArcs.{front}
use Rattle.daggy_reduction.proofs.block.reach_from.Given as goal

abbrev pub invariant-arcs : goal.invariant-arcs
invariant-arcs g l =
    record {
      direct : HasBits l.fn.block.low l.fn.block.high
          (λ i. HasArcTo l.fn.arcs (front l.fn.segment l.k) (λ p. p ≡ l.fn.block.low + i)) l.reached.direct;
      indirect : HasBits l.fn.block.low l.fn.block.high
          (λ i. HasArcTo l.fn.arcs (front l.fn.segment l.k) (λ p. (p < l.fn.block.high) × HasBit l.fn.rows p i))
          l.reached.indirect;
      beyond : (l.fn.block.high ≤ l.reached.beyond)
          ↔ HasArcTo l.fn.arcs (front l.fn.segment l.k) (λ p. l.fn.block.high ≤ p);
      same : g.S.EdgeSource.graph l.source ≡ g.S.EdgeSource.graph l.fn.source;
      counted : g.S.EdgeSource.looks l.source ≡ g.S.EdgeSource.looks l.fn.source + (l.k - l.fn.segment.begin);
    }
