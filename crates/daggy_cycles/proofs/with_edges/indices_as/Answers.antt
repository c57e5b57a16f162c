use Rattle.std.proofs.Common.{◌≤◌, ◌∙◌, map, sym, subst, ap}
use Rattle.daggy_cycles.proofs.GatheredEdges.{held, taken_more}
use Rattle.daggy_cycles.proofs.with_edges.indices_as.Goals as goal

pub new-requires : goal.new-requires
new-requires g c =
    let number = g.Jx.IndexType.number in
    let here = c.requires (number c.index-nodes-k.result)
    (held number c.args.nodes.now c.nodes.k c.index-nodes-k.result c.nodes-test.true c.index-nodes-k.is) in
    subst (λ z. z ≤ g.Ix.IndexType.greatest) (sym c.index.ensures.value) here

pub nodes-preserved : goal.nodes-preserved
nodes-preserved g c =
    ap (λ z. map g.Ix.IndexType.number z) c.in_ok-push.ensures.items
    ∙ taken_more g.Jx.IndexType.number g.Ix.IndexType.number c.nodes.indices.items c.args.nodes.now c.nodes.k
    c.index-nodes-k.result c.new.result c.nodes-test.true c.index-nodes-k.is
    (c.new.ensures.number ∙ c.index.ensures.value) c.nodes.invariant
