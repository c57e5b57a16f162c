use Rattle.std.proofs.Common.{◌≡◌, ◌<◌, ◌∙◌, sym, ap, arith, length, map, get_or}
use Rattle.std.proofs.lemmas.List.{length-map, get_or-map}
use Rattle.std.proofs.lemmas.Bool.{false≢true}
use Rattle.daggy_redundant.proofs.QueuedRoots.{rooting_start, root_missing, root_low, root_room, root_entered}
use Rattle.daggy_redundant.proofs.QueuedRoots.{all_rooted}
use Rattle.daggy_redundant.proofs.roots.enter_roots.Goals.{then-contains_node, else-contains_node}
use Rattle.daggy_redundant.proofs.roots.enter_roots.Given.{Over}
use Rattle.daggy_redundant.proofs.roots.enter_roots.Goals.{In-roots, After-index-roots-k}
use Rattle.daggy_redundant.proofs.roots.enter_roots.Goals as goal

-- the root lies among the roots
within : (g : Over) (c : In-roots g) → c.roots.k < length (map g.Ix.IndexType.number c.args.roots.now)
within g c = omega (arith, c.roots-test.true, length-map c.args.roots.now g.Ix.IndexType.number)

-- and is what was read there
root_is : (g : Over) (c : After-index-roots-k g)
    → g.Ix.IndexType.number c.index-roots-k.result
    ≡ get_or (map g.Ix.IndexType.number c.args.roots.now) c.roots.k (g.Ix.IndexType.number c.index-roots-k.result)
root_is g c =
    let number = g.Ix.IndexType.number in
    ap number c.index-roots-k.is
    ∙ sym (get_or-map number c.args.roots.now c.roots.k c.index-roots-k.result (number c.index-roots-k.result)
    c.roots-test.true)

pub roots-init : goal.roots-init
roots-init g c =
    rooting_start (g.S.EdgeSource.graph c.args.source.now) (map g.Ix.IndexType.number c.args.roots.now)
    c.requires.fits c.requires.sized c.requires.cleared

pub enqueue-len-requires-clause-low : goal.enqueue-len-requires-clause-low
enqueue-len-requires-clause-low g c =
    let at = goal.at.enqueue-len-requires-clause-low g c in
    let root = g.Ix.IndexType.number c.index-roots-k.result in
    root_low c.roots.invariant (within g at.In-roots) root (root_is g at.After-index-roots-k)
    (c.if-contains_node.ensures.exists.0 cc)

pub enqueue-len-requires-clause-room : goal.enqueue-len-requires-clause-room
enqueue-len-requires-clause-room g c unseen =
    let at = goal.at.enqueue-len-requires-clause-room g c in
    let root = g.Ix.IndexType.number c.index-roots-k.result in
    root_room c.roots.invariant (within g at.In-roots) root (root_is g at.After-index-roots-k)
    (c.if-contains_node.ensures.exists.0 cc) unseen

pub roots-preserved : goal.roots-preserved
roots-preserved g c =
    let at = goal.at.roots-preserved g c in
    let root = g.Ix.IndexType.number c.index-roots-k.result in
    let s = c.roots.invariant in
    elim c.if-contains_node.branch [
      | then-contains_node w ↦
          rw (w.work-is, w.len-is)
          (root_entered s (within g at.In-roots) root (root_is g at.After-index-roots-k)
          (w.if-contains_node.ensures.exists.0 cc) w.enqueue-len.ensures.there w.enqueue-len.ensures.put)
      | else-contains_node w ↦
          rw (w.work-is, w.len-is)
          (root_missing s (within g at.In-roots) root (root_is g at.After-index-roots-k)
          (λ h. false≢true (w.if-contains_node.ensures.exists.1 h)))
    ]

pub returns-clause-queued : goal.returns-clause-queued
returns-clause-queued g c =
    (all_rooted c.roots.invariant
    (omega (arith, c.roots-test.false, length-map c.args.roots.now g.Ix.IndexType.number))).0

pub returns-clause-exact : goal.returns-clause-exact
returns-clause-exact g c =
    (all_rooted c.roots.invariant
    (omega (arith, c.roots-test.false, length-map c.args.roots.now g.Ix.IndexType.number))).1
