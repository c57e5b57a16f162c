use Rattle.std.proofs.Common.{◌<◌, ◌≤◌, map, length, sym, subst, arith, Contains}
use Rattle.std.proofs.lemmas.List.{take_all}
use Rattle.daggy_computed.specs.Cells.{IsStaleAt}
use Rattle.daggy_computed.proofs.Ancestry.{listed_number, one_more_listed}
use Rattle.daggy_computed.proofs.slots.none_stale.Goals as goal

pub returns-then-is_stale : goal.returns-then-is_stale
returns-then-is_stale g c =
    let number = g.Ix.IndexType.number in
    let nodes = c.args.queue.now.nodes in
    let low : c.nodes.i < length nodes = omega (arith, c.nodes-test.true, c.len-i-end.ensures) in (
      λ t. absurd cc,
      λ h. absurd (h (number c.get.result) (listed_number number nodes c.nodes.i c.get.result low c.get.ensures)
          (subst (IsStaleAt c.args.entries.now) c.index.ensures.value (c.is_stale.ensures.0 cc))),
    )

pub nodes-preserved : goal.nodes-preserved
nodes-preserved g c =
    let number = g.Ix.IndexType.number in
    let nodes = c.args.queue.now.nodes in
    let low : c.nodes.i < length nodes = omega (arith, c.nodes-test.true, c.len-i-end.ensures) in
    one_more_listed number nodes c.nodes.i c.get.result (IsStaleAt c.args.entries.now) low c.get.ensures c.nodes.invariant
    (λ s. (let t = c.is_stale.ensures.1 (subst (IsStaleAt c.args.entries.now) (sym c.index.ensures.value) s) in cc))

pub returns : goal.returns
returns g c =
    let number = g.Ix.IndexType.number in
    let nodes = c.args.queue.now.nodes in
    let past : length nodes ≤ c.nodes.i = omega (arith, c.nodes-test.false, c.len-i-end.ensures) in (
      λ t m k s. c.nodes.invariant m (subst (λ z. Contains (map number z) m) (sym (take_all c.nodes.i nodes past)) k) s,
      λ h. cc,
    )
