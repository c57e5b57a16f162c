use Rattle.std.proofs.Common.{[], ◌∷◌, ◌++◌, map, take, ap, sym, ◌∙◌, arith}
use Rattle.std.proofs.lemmas.List.{map-append, take_more}
use Rattle.daggy_reduction.proofs.affected.front_nodes.Goals as goal

pub nodes-preserved : goal.nodes-preserved
nodes-preserved g c =
    let number = g.Ix.IndexType.number in
    let queue = c.args.work.now.nodes in
    let n = c.node-in-nodes.result in
    ap (map number) c.in_ok-push.ensures.items
    ∙ map-append number c.nodes.found.items (n ∷ [])
    ∙ ap (λ z. z ++ number n ∷ []) c.nodes.invariant
    ∙ ap (λ z. take c.nodes.i queue ++ z ∷ []) (c.node-in-nodes.ensures.value ∙ c.node.ensures c.node.result)
    ∙ sym (take_more queue c.nodes.i c.node.result (omega (arith, c.requires, c.nodes-test.true)))
