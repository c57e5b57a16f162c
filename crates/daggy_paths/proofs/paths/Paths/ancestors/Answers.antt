use Rattle.std.proofs.Common.{map, ap, subst, arith}
use Rattle.std.proofs.lemmas.Result.{IfOk-weaker}
use Rattle.std.specs.Prelude.{IfOk}
use Rattle.daggy_base.specs.Graph.{edge_count}
use Rattle.daggy_base.specs.Ordered.{edges_from}
use Rattle.daggy_search.specs.Reversed.{reversed}
use Rattle.daggy_paths.proofs.SameStates.{same_graph, same_looks}
use Rattle.daggy_reduction.specs.Descendants.{IsDescendantOfAny, IsAncestorOfAny, IsSortedPart, IsOrderOfPart}
use Rattle.daggy_reduction.proofs.AffectedNodes.{part_same}
use Rattle.daggy_reduction.proofs.OrderedParts.{order_of_part, joined_exist, ancestors_turned, ancestor_exists}
use Rattle.daggy_reduction.proofs.OrderedParts.{edges_turned, count_turned}
use Rattle.daggy_paths.proofs.paths.Paths.ancestors.Goals as goal

pub returns-clause-found : goal.returns-clause-found
returns-clause-found g c =
    let number = g.Ix.IndexType.number in
    let given = map number c.args.nodes.now in
    let order = c.self.inside.order in
    let graph = c.self.inside.forward.graph in
    let exist = joined_exist g.Ix.IndexType.greatest graph c.node_bound-bound.ensures.well_formed in
    let found = subst (λ z. IfOk c.descendants.result (λ found.
    IsSortedPart order (IsDescendantOfAny z given) (map number found.items))) c.self.invariant.2
    c.descendants.ensures.found in
    rw (← same_graph c.self.view_is)
    (IfOk-weaker c.descendants.result (λ found.
    IsSortedPart order (IsDescendantOfAny (reversed graph) given) (map number found.items))
    (λ found. IsOrderOfPart graph (IsAncestorOfAny graph given) (map number found.items)) (λ found s.
    order_of_part graph order c.self.invariant.0 (ancestor_exists graph exist given) (map number found.items)
    (part_same (ancestors_turned graph exist given) s))
    found)

pub returns-clause-counted : goal.returns-clause-counted
returns-clause-counted g c =
    let given = map g.Ix.IndexType.number c.args.nodes.now in
    let graph = c.self.inside.forward.graph in
    rw (← same_graph c.self.view_is) (omega (
      arith,
      c.descendants.ensures.counted,
      ap (λ z. edges_from z given) c.self.invariant.2,
      edges_turned graph given,
      ap edge_count c.self.invariant.2,
      count_turned graph,
      same_looks c.self.view_is,
    ))

pub returns-clause-visited : goal.returns-clause-visited
returns-clause-visited g c =
    let number = g.Ix.IndexType.number in
    let given = map number c.args.nodes.now in
    let graph = c.self.inside.forward.graph in
    rw (← same_graph c.self.view_is) (IfOk-weaker c.descendants.result _ _ (λ found paid.
    let at = map number found.items in omega (
      arith,
      paid,
      ap (λ z. edges_from z given) c.self.invariant.2,
      edges_turned graph given,
      ap (λ z. edges_from z at) c.self.invariant.2,
      edges_turned graph at,
      same_looks c.self.view_is,
    )) c.descendants.ensures.visited)
