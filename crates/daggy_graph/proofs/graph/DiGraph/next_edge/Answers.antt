use Rattle.std.proofs.Common.{ap, ◌∙◌}
use Rattle.daggy_base.specs.Graph.{edge_at}
use Rattle.daggy_base.specs.Cursor.{cursor_after}
use Rattle.daggy_base.proofs.MappedSlots.{slot_within}
use Rattle.daggy_graph.proofs.WellFormedLemmas.{cursor_shown}
use Rattle.daggy_graph.proofs.graph.DiGraph.next_edge.Goals as goal

pub returns : goal.returns
returns g c =
    let edges = c.self.inside.edges.items in
    let end = g.Ix.IndexType.greatest in
    let e = g.Ix.IndexType.number c.args.e in
    let within =
    slot_within (λ z. record { parent = z.parent; child = z.child; weight = z.weight }) edges e
    (rw (← c.self.view_is) at c.requires) in
    let reads = rw c.index.ensures.value at c.index-x.ensures in
    c.edge.ensures.value ∙ c.next.ensures
    ∙ cursor_shown end c.self.inside.nodes.items edges c.args.dir c.self.invariant e c.index-x.result.now within reads
    ∙ ap (λ s. cursor_after c.args.dir end s.graph e (edge_at s.graph e)) c.self.view_is
