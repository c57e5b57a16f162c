use Rattle.daggy_stable.proofs.Stores.{some_is, edge_within, look_shown}
use Rattle.std.proofs.Common.{◌+◌, arith, ap, ◌∙◌}
use Rattle.daggy_stable.proofs.stable_graph.source.StableDiGraphEdgeSource.look.Goals as goal

pub returns-clause-gives : goal.returns-clause-gives
returns-clause-gives g c =
    let e = g.Ix.IndexType.number c.args.e in
    let has = rw (← c.self.view_is) at c.requires in
    let x = c.index-x.result.now in
    let reads = rw c.index.ensures.value at c.index-x.ensures in
    rw (← c.self.view_is) (look_shown c.self.invariant e _ _ x has reads (c.node.ensures.value ∙ c.endpoint-child.ensures)
    (c.edge.ensures.value ∙ c.next-next.ensures))

pub index-x-requires : goal.index-x-requires
index-x-requires g c =
    let found = some_is _ (rw (← c.self.view_is) at c.requires) in
    let within = edge_within c.self.invariant _ found.0 found.1 in
    omega (arith, within, c.index.ensures.value)

pub invariant_of-self : goal.invariant_of-self
invariant_of-self g c = c.self.invariant

pub returns-clause-same : goal.returns-clause-same
returns-clause-same g c = ap (λ s. s.graph) c.self.view_is

pub returns-clause-counted : goal.returns-clause-counted
returns-clause-counted g c = c.take.ensures ∙ ap (λ s. s.looks + 1) c.self.view_is
