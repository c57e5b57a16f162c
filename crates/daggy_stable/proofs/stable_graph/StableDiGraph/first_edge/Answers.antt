use Rattle.std.proofs.Common.{◌<◌, ◌≤◌, length, not, ap, ◌∙◌, arith}
use Rattle.daggy_stable.proofs.Stores.{node_read, node_beyond, first_listed, none_listed}
use Rattle.daggy_stable.proofs.ListSearches.{none_from, some_from}
use Rattle.daggy_stable.proofs.stable_graph.StableDiGraph.first_edge.Goals as goal

pub returns-then-is_none : goal.returns-then-is_none
returns-then-is_none g c =
    let nodes = c.self.inside.nodes.items in
    let n = g.Ix.IndexType.number c.args.n in
    let x = c.in-Some.x.now in
    let reads = rw c.index.ensures.value at (rw c.deref.ensures.value at c.in-Some.ensures.lookup.1) in
    let within : n < length nodes =
    omega (arith, c.in-Some.ensures.lookup.3.0, ap length c.deref.ensures.value, c.index.ensures.value) in
    let none = none_from x.weight (c.is_none.ensures ∙ ap not c.if-is_none.true) in
    rw (← c.self.view_is) (c.end.ensures.number
    ∙ none_listed c.self.invariant c.args.dir n (node_read c.self.invariant n x within reads ∙ none))

pub returns-else-is_none : goal.returns-else-is_none
returns-else-is_none g c =
    let nodes = c.self.inside.nodes.items in
    let n = g.Ix.IndexType.number c.args.n in
    let x = c.in-Some.x.now in
    let reads = rw c.index.ensures.value at (rw c.deref.ensures.value at c.in-Some.ensures.lookup.1) in
    let within : n < length nodes =
    omega (arith, c.in-Some.ensures.lookup.3.0, ap length c.deref.ensures.value, c.index.ensures.value) in
    let some = some_from x.weight (c.is_none.ensures ∙ ap not c.if-is_none.false) in
    rw (← c.self.view_is) (c.edge.ensures.value ∙ c.first.ensures
    ∙ first_listed c.self.invariant c.args.dir n x some.0 within reads some.1)

pub returns-in-None : goal.returns-in-None
returns-in-None g c =
    let n = g.Ix.IndexType.number c.args.n in
    let past : length c.self.inside.nodes.items ≤ n =
    omega (arith, c.in-None.ensures.lookup.3, ap length c.deref.ensures.value, c.index.ensures.value) in
    rw (← c.self.view_is)
    (c.end-in-None.ensures.number ∙ none_listed c.self.invariant c.args.dir n (node_beyond c.self.invariant n past))
