use Rattle.std.proofs.Common.{map}
use Rattle.std.proofs.lemmas.Result.{IfOk-weaker}
use Rattle.daggy_paths.proofs.SameStates.{same_graph}
use Rattle.daggy_reduction.specs.Descendants.{IsDescendantOfAny, IsSortedPart, IsOrderOfPart}
use Rattle.daggy_reduction.proofs.OrderedParts.{order_of_part, descends_exists}
use Rattle.daggy_paths.proofs.paths.Paths.descendants.Goals as goal

pub returns-clause-found : goal.returns-clause-found
returns-clause-found g c =
    let number = g.Ix.IndexType.number in
    let given = map number c.args.nodes.now in
    let order = c.self.inside.order in
    let graph = c.self.inside.forward.graph in
    rw (← same_graph c.self.view_is)
    (IfOk-weaker c.descendants.result (λ found. IsSortedPart order (IsDescendantOfAny graph given) (map number found.items))
    (λ found. IsOrderOfPart graph (IsDescendantOfAny graph given) (map number found.items)) (λ found s.
    order_of_part graph order c.self.invariant.0 (descends_exists graph given) (map number found.items) s)
    c.descendants.ensures.found)
