use Rattle.std.proofs.Common.{◌≡◌, ◌-◌, ◌∙◌, get_or, take, ap, refl, arith, set}
use Rattle.daggy_base.proofs.Lists.{Contains-here}
use Rattle.daggy_order.proofs.WaitingNodes.{one_found, one_more_waits, two_found, two_wait, last_found}
use Rattle.daggy_order.proofs.order.search.put_waiting.Given.{Over}
use Rattle.daggy_order.proofs.order.search.put_waiting.Goals.{After-node-last}
use Rattle.daggy_order.proofs.order.search.put_waiting.Goals as goal

-- the last of those that waited, behind the new node
last_is : (g : Over) (c : After-node-last g)
    → c.node-last.result ≡ get_or (set (set c.args.work.now.nodes c.args.count c.node-read.result) c.args.tail c.args.node)
    (c.args.tail - 1) 0
last_is g c = c.node-last.ensures 0 ∙ ap (λ w. get_or w (c.args.tail - 1) 0) (rw (c.put_node-2.ensures, c.put_node.ensures) refl)

pub label-requires : goal.label-requires
label-requires g c =
    omega (arith, c.index.ensures.value, c.requires.placed c.args.node (Contains-here c.args.node (take c.args.count c.args.work.now.nodes)))

pub label-requires-then-head-tail : goal.label-requires-then-head-tail
label-requires-then-head-tail g c =
    let found =
    last_found c.args.work.now.nodes c.args.head c.args.tail c.args.count c.requires.head c.requires.tail c.requires.room
    c.node-read.result c.args.node (c.node-read.ensures 0) c.if-head-tail.true {last = c.node-last.result} (last_is g (goal.at.label-requires-then-head-tail g c).After-node-last) in
    omega (arith, c.index-then-head-tail.ensures.value, c.requires.placed c.node-last.result found)

pub returns-then-label-clause-found : goal.returns-then-label-clause-found
returns-then-label-clause-found g c =
    let at = goal.at.returns-then-label-clause-found g c in
    rw (c.put_node-then-label-2.ensures, c.put_node-then-label.ensures, c.put_node-2.ensures, c.put_node.ensures)
    (two_found c.args.work.now.nodes c.args.head c.args.tail c.args.count c.requires.head c.requires.tail c.requires.room
    c.node-read.result c.args.node (c.node-read.ensures 0) c.if-head-tail.true (last_is g at.After-node-last))

pub returns-then-label-clause-waiting : goal.returns-then-label-clause-waiting
returns-then-label-clause-waiting g c =
    let at = goal.at.returns-then-label-clause-waiting g c in
    rw (c.put_node-then-label-2.ensures, c.put_node-then-label.ensures, c.put_node-2.ensures, c.put_node.ensures)
    (two_wait c.args.work.now.nodes c.args.head c.args.tail c.args.count c.requires.head c.requires.tail c.requires.room
    c.node-read.result c.args.node (c.node-read.ensures 0) c.if-head-tail.true (last_is g at.After-node-last))

pub returns-else-label-clause-found : goal.returns-else-label-clause-found
returns-else-label-clause-found g c =
    rw (c.put_node-2.ensures, c.put_node.ensures) (one_found c.args.work.now.nodes c.args.head c.args.tail c.args.count
    c.requires.head c.requires.tail c.requires.room c.node-read.result c.args.node (c.node-read.ensures 0))

pub returns-else-label-clause-waiting : goal.returns-else-label-clause-waiting
returns-else-label-clause-waiting g c =
    rw (c.put_node-2.ensures, c.put_node.ensures) (one_more_waits c.args.work.now.nodes c.args.head c.args.tail c.args.count
    c.requires.head c.requires.tail c.requires.room c.node-read.result c.args.node (c.node-read.ensures 0))

pub returns-else-count-lt-LARGE-clause-found : goal.returns-else-count-lt-LARGE-clause-found
returns-else-count-lt-LARGE-clause-found g c =
    rw (c.put_node-2.ensures, c.put_node.ensures) (one_found c.args.work.now.nodes c.args.head c.args.tail c.args.count
    c.requires.head c.requires.tail c.requires.room c.node-read.result c.args.node (c.node-read.ensures 0))

pub returns-else-count-lt-LARGE-clause-waiting : goal.returns-else-count-lt-LARGE-clause-waiting
returns-else-count-lt-LARGE-clause-waiting g c =
    rw (c.put_node-2.ensures, c.put_node.ensures) (one_more_waits c.args.work.now.nodes c.args.head c.args.tail c.args.count
    c.requires.head c.requires.tail c.requires.room c.node-read.result c.args.node (c.node-read.ensures 0))
