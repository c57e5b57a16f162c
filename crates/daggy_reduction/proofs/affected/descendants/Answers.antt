use Rattle.std.proofs.Common.{map}
use Rattle.std.proofs.lemmas.Result.{IfOk-weaker}
use Rattle.daggy_base.specs.Reduction.{IsBelow}
use Rattle.daggy_reduction.specs.Descendants.{IsSortedPart, IsDescendantOfAny}
use Rattle.daggy_reduction.proofs.AffectedNodes.{below_children, child_exists, part_same}
use Rattle.daggy_reduction.proofs.affected.descendants.Goals as goal

pub returns-clause-found : goal.returns-clause-found
returns-clause-found g c =
    let number = g.Ix.IndexType.number in
    let graph = g.S.EdgeSource.graph c.args.source.now in
    let given = map number c.args.nodes.now in
    let children = map number c.in_ok-children.children.items in
    let order = c.args.order.now in
    IfOk-weaker c.affected.result (λ found. IsSortedPart order (IsBelow graph children) (map number found.items))
    (λ found. IsSortedPart order (IsDescendantOfAny graph given) (map number found.items))
    (λ found s. part_same (below_children graph given children c.in_ok-children.ensures.exact
    (child_exists g.Ix.IndexType.greatest graph c.node_bound-bound.ensures.well_formed given)) s)
    (rw (← c.as_slice.ensures.value, ← c.children_of.ensures.same) c.affected.ensures.found)
