use Rattle.std.proofs.Common.{arith, ap, ◌∙◌}
use Rattle.daggy_base.specs.Graph.{edge_at}
use Rattle.daggy_base.specs.Cursor.{cursor_after}
use Rattle.daggy_stable.proofs.Stores.{some_is, edge_within, cursor_shown}
use Rattle.daggy_stable.proofs.stable_graph.StableDiGraph.next_edge.Goals as goal

pub returns : goal.returns
returns g c =
    let e = g.Ix.IndexType.number c.args.e in
    let found = some_is _ (rw (← c.self.view_is) at c.requires) in
    let reads = rw c.index.ensures.value at c.index-x.ensures in
    c.edge.ensures.value ∙ c.next.ensures
    ∙ cursor_shown c.self.invariant c.args.dir e found.0 c.index-x.result.now found.1
    (edge_within c.self.invariant e found.0 found.1) reads
    ∙ ap (λ s. cursor_after c.args.dir g.Ix.IndexType.greatest s.graph e (edge_at s.graph e)) c.self.view_is

pub index-x-requires : goal.index-x-requires
index-x-requires g c =
    let found = some_is _ (rw (← c.self.view_is) at c.requires) in
    let within = edge_within c.self.invariant _ found.0 found.1 in
    omega (arith, within, c.index.ensures.value)
