use Rattle.std.proofs.Common.{◌↔◌, map, sym, subst, ap, arith}
use Rattle.daggy_base.specs.Graph.{Graph, HasNode, pair_of}
use Rattle.daggy_base.specs.Path.{AreJoined}
use Rattle.daggy_cycles.specs.WithPairs.{AreJoinedWith}
use Rattle.daggy_cycles.proofs.GatheredEdges.{make_graph}
use Rattle.daggy_cycles.proofs.with_edges.shape_with_edges.Goals as goal

pub from_slots-requires : goal.from_slots-requires
from_slots-requires g c =
    let nodes = c.in_ok-nodes.nodes in
    let slots = c.in_ok-slots.slots in
    make_graph _ nodes.items slots.items (map (pair_of g.Ix.IndexType.number) c.args.edges.now) _
    c.in_ok-nodes.ensures c.in_ok-slots.ensures (omega (arith, nodes.ok.0, nodes.small)) (omega (arith, slots.ok.0, slots.small))

pub returns-clause-nodes : goal.returns-clause-nodes
returns-clause-nodes g c n =
    let P : Graph _ _ → Type 0 = λ z. HasNode z n ↔ HasNode (g.S.EdgeSource.graph c.args.store.now) n in
    subst P (sym (ap (λ z. z.graph) c.in_ok-shape.ensures)) (c.in_ok-nodes.ensures n)

pub returns-clause-edges : goal.returns-clause-edges
returns-clause-edges g c u v =
    let P : Graph _ _ → Type 0 = λ z. AreJoined z u v
    ↔ AreJoinedWith (g.S.EdgeSource.graph c.args.store.now) (map (pair_of g.Ix.IndexType.number) c.args.edges.now) u v in
    subst P (sym (ap (λ z. z.graph) c.in_ok-shape.ensures)) (c.in_ok-slots.ensures u v)
