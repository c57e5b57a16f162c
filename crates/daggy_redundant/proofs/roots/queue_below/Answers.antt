use Rattle.std.proofs.Common.{map, take, ◌∙◌, arith, length-take-le}
use Rattle.daggy_redundant.proofs.QueuedRoots.{closure_below, closure_whole}
use Rattle.daggy_redundant.proofs.roots.queue_below.Goals as goal

-- the roots are all nodes, and so what they reach
pub returns-then-len-node_bound-clause-below : goal.returns-then-len-node_bound-clause-below
returns-then-len-node_bound-clause-below g c =
    let queue = take c.enter_roots-len.result c.enter_roots-len.new.work.nodes in
    closure_below (g.S.EdgeSource.graph c.args.source.now) (map g.Ix.IndexType.number c.args.roots.now) queue queue
    c.enter_roots-len.ensures.exact
    (closure_whole (g.S.EdgeSource.graph c.args.source.now) c.enter_roots-len.new.work.entered queue
    c.enter_roots-len.ensures.queued
    (length-take-le c.enter_roots-len.result c.enter_roots-len.new.work.nodes
    (omega (arith, c.enter_roots-len.ensures.within, c.enter_roots-len.ensures.kept.nodes_are, c.begin.ensures))
    ∙ c.if-len-node_bound.true ∙ c.node_bound.ensures.value))

pub returns-then-len-node_bound-clause-entered : goal.returns-then-len-node_bound-clause-entered
returns-then-len-node_bound-clause-entered g c n =
    let below = returns-then-len-node_bound-clause-below g c n in
    let marked = c.enter_roots-len.ensures.queued.marked n in
    (λ t. below.0 (marked.0 t), λ b. marked.1 (below.1 b))

pub returns-clause-below : goal.returns-clause-below
returns-clause-below g c =
    closure_below (g.S.EdgeSource.graph c.args.source.now) (map g.Ix.IndexType.number c.args.roots.now)
    (take c.enter_roots-len.result c.enter_roots-len.new.work.nodes) (take c.bfs.result c.bfs.new.work.nodes)
    c.enter_roots-len.ensures.exact c.bfs.ensures.closed

pub returns-clause-entered : goal.returns-clause-entered
returns-clause-entered g c n =
    let below = returns-clause-below g c n in
    let entered = c.bfs.ensures.entered n in
    (λ t. below.0 (entered.0 t), λ b. entered.1 (below.1 b))

pub returns-clause-visited : goal.returns-clause-visited
returns-clause-visited g c ns all =
    c.bfs.ensures.visited ns (λ n has. all n ((returns-clause-below g c n).0 has))
