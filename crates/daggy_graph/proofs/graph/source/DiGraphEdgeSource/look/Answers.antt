use Rattle.std.proofs.Common.{◌+◌, arith, ap, ◌∙◌}
use Rattle.daggy_cells.specs.Fields.{plain}
use Rattle.daggy_base.proofs.MappedSlots.{slot_within}
use Rattle.daggy_graph.proofs.WellFormedLemmas.{look_shown}
use Rattle.daggy_graph.proofs.graph.source.DiGraphEdgeSource.look.Goals as goal

pub returns-clause-gives : goal.returns-clause-gives
returns-clause-gives g c =
    let edges = c.self.inside.edges.items in
    let e = g.Ix.IndexType.number c.args.e in
    let within = slot_within plain edges e (rw (← c.self.view_is) at c.requires) in
    let reads = rw c.index.ensures.value at c.index-x.ensures in
    rw (← c.self.view_is) (look_shown g.Ix.IndexType.greatest c.self.inside.nodes.items edges c.self.invariant e
    c.index-x.result.now within reads c.target.ensures c.next_edge.ensures)

pub index-x-requires : goal.index-x-requires
index-x-requires g c =
    let within = slot_within plain c.self.inside.edges.items _ (rw (← c.self.view_is) at c.requires) in
    omega (arith, within, c.index.ensures.value)

pub invariant_of-self : goal.invariant_of-self
invariant_of-self g c = c.self.invariant

pub returns-clause-same : goal.returns-clause-same
returns-clause-same g c = ap (λ s. s.graph) c.self.view_is

pub returns-clause-counted : goal.returns-clause-counted
returns-clause-counted g c = c.take.ensures ∙ ap (λ s. s.looks + 1) c.self.view_is
