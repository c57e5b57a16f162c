use Rattle.std.proofs.Common.{◌<◌, ◌≤◌, length, arith}
use Rattle.daggy_cells.proofs.EndsRenamed.{reassigning_done, reassigning_code}
use Rattle.daggy_cells.proofs.links.reassign.Goals as goal

pub returns-then-i-len : goal.returns-then-i-len
returns-then-i-len g c =
    reassigning_done g.Ix.IndexType.greatest c.args.dir c.args.from c.args.to _ _ c.along.e c.along.invariant
    (omega (arith, c.if-i-len.true, c.len.ensures, c.index-i.ensures.value))

pub along-preserved : goal.along-preserved
along-preserved g c =
    let within : c.index-i.result < length c.along.edges.items = omega (arith, c.if-i-len.false, c.len.ensures) in
    let few : length c.along.edges.items ≤ g.Ix.IndexType.greatest =
    omega (arith, c.requires.few, c.along.invariant.long) in
    (reassigning_code _ _ _ _ c.along.invariant c.index-i.ensures.value within few
    c.index_mut-x.ensures.value c.set_endpoint.ensures c.next-e.ensures c.requires.differ).0

pub along-smaller : goal.along-smaller
along-smaller g c =
    let within : c.index-i.result < length c.along.edges.items = omega (arith, c.if-i-len.false, c.len.ensures) in
    let few : length c.along.edges.items ≤ g.Ix.IndexType.greatest =
    omega (arith, c.requires.few, c.along.invariant.long) in
    (reassigning_code _ _ _ _ c.along.invariant c.index-i.ensures.value within few
    c.index_mut-x.ensures.value c.set_endpoint.ensures c.next-e.ensures c.requires.differ).1
