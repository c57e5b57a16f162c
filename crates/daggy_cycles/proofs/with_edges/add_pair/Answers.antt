use Rattle.std.proofs.Common.{◌↔◌, ◌⊎◌, ◌∙◌, List, Option, sym, subst}
use Rattle.daggy_cycles.specs.Linking.{IsLinked, IsPair}
use Rattle.daggy_cycles.proofs.GatheredEdges.{pair_added}
use Rattle.daggy_cycles.proofs.with_edges.add_pair.Goals as goal

pub returns-in_ok-push : goal.returns-in_ok-push
returns-in_ok-push g c u v =
    let graph = g.S.EdgeSource.graph c.args.store.now in
    let a = g.Ix.IndexType.number c.args.a in
    let b = g.Ix.IndexType.number c.args.b in
    let old = c.args.slots.now.items in
    let P : List (Option _) → Type 0 = λ z. IsLinked g.Jx.IndexType.number z u v
    ↔ (IsLinked g.Jx.IndexType.number old u v ⊎ IsPair graph a b u v) in
    subst P (sym c.in_ok-push.ensures.items)
    (pair_added g.Jx.IndexType.number old (c.new.result, c.new-then-contains_node-2.result, tt) graph a b u v
    (c.new.ensures.number ∙ c.index.ensures.value)
    (c.new-then-contains_node-2.ensures.number ∙ c.index-then-contains_node-2.ensures.value)
    (c.contains_node.ensures.exists.0 c.if-contains_node.true)
    (c.contains_node-then-contains_node.ensures.exists.0 c.if-contains_node-2.true))
