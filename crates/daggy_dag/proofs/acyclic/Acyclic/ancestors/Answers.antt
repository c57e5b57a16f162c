use Rattle.std.proofs.Common.{◌≡◌, ℕ, ◌+◌, ◌≤◌, map, sym, ap, subst, ◌∙◌, arith}
use Rattle.std.proofs.lemmas.Result.{IfOk-weaker}
use Rattle.std.specs.Prelude.{IfOk}
use Rattle.daggy_base.specs.Graph.{edge_count}
use Rattle.daggy_base.specs.Ordered.{edges_from}
use Rattle.daggy_base.specs.WellFormed.{IsWellFormed}
use Rattle.daggy_guard.proofs.GuardedChange.{same_graph, same_looks}
use Rattle.daggy_search.specs.Reversed.{reversed}
use Rattle.daggy_reduction.specs.Descendants.{IsDescendantOfAny, IsAncestorOfAny, IsSortedPart, IsOrderOfPart}
use Rattle.daggy_reduction.specs.Descendants.{edges_into}
use Rattle.daggy_reduction.proofs.AffectedNodes.{part_same}
use Rattle.daggy_reduction.proofs.OrderedParts.{order_of_part, joined_exist, ancestors_turned, ancestor_exists}
use Rattle.daggy_reduction.proofs.OrderedParts.{edges_turned, count_turned}
use Rattle.daggy_dag.proofs.acyclic.Acyclic.ancestors.Given.{Over}
use Rattle.daggy_dag.proofs.acyclic.Acyclic.ancestors.Goals.{After-count_looks}
use Rattle.daggy_dag.proofs.acyclic.Acyclic.ancestors.Goals as goal

pub returns-clause-found : goal.returns-clause-found
returns-clause-found g c =
    let number = g.Ix.IndexType.number in
    let given = map number c.args.nodes.now in
    let order = c.self-inside.inside.0.0.order in
    let graph = g.S.EdgeSource.graph c.self-inside.inside.0.0.store in
    let back = reversed graph in
    let end = g.Ix.IndexType.greatest in
    let whole = ap (λ i. i.guarded) c.self-inside.view_is in
    let w = subst (λ z. IsWellFormed end z) (sym (same_graph whole)) c.invariant.ensures.dag.well_formed in
    let exist = joined_exist end graph w in
    let found = subst (λ z. IfOk c.descendants-found.result (λ found.
    IsSortedPart order (IsDescendantOfAny z given) (map number found.items))) (ap (λ s. s.graph) c.new-reversed.ensures)
    c.descendants-found.ensures.found in
    rw (← same_graph (whole ∙ c.self.view_is))
    (IfOk-weaker c.descendants-found.result (λ found. IsSortedPart order (IsDescendantOfAny back given) (map number found.items))
    (λ found. IsOrderOfPart graph (IsAncestorOfAny graph given) (map number found.items)) (λ found s.
    order_of_part graph order c.self-inside.invariant.0 (ancestor_exists graph exist given) (map number found.items)
    (part_same (ancestors_turned graph exist given) s))
    found)

-- what the search in the reversed graph took
taken : (g : Over) (c : After-count_looks g) {more turned : ℕ} → turned ≡ more
    → c.descendants-found.new.source.looks
    ≤ c.new-reversed.result.looks
    + (edges_from c.new-reversed.result.graph (map g.Ix.IndexType.number c.args.nodes.now) + turned)
    → g.S.EdgeSource.looks c.count_looks.new.self
    ≤ c.args.self.now.looks + (edges_into c.args.self.now.graph (map g.Ix.IndexType.number c.args.nodes.now) + more)
taken g c {more} {turned} is paid =
    let given = map g.Ix.IndexType.number c.args.nodes.now in
    let graph = g.S.EdgeSource.graph c.self-inside.inside.0.0.store in
    let view = ap (λ i. i.guarded) c.self-inside.view_is ∙ c.self.view_is in
    rw (← same_graph view) (omega (
      arith,
      rw c.new-reversed.ensures at paid,
      c.into_looks-looks.ensures,
      c.count_looks.ensures.counted,
      edges_turned graph given,
      is,
      same_looks view,
    ))

pub returns-clause-counted : goal.returns-clause-counted
returns-clause-counted g c =
    let graph = g.S.EdgeSource.graph c.self-inside.inside.0.0.store in
    let view = ap (λ i. i.guarded) c.self-inside.view_is ∙ c.self.view_is in
    let is : edge_count c.new-reversed.result.graph ≡ edge_count c.args.self.now.graph =
    ap (λ s. edge_count s.graph) c.new-reversed.ensures ∙ count_turned graph ∙ ap edge_count (same_graph view) in
    taken g (goal.at.returns-clause-counted g c).After-count_looks is c.descendants-found.ensures.counted

pub returns-clause-visited : goal.returns-clause-visited
returns-clause-visited g c =
    let number = g.Ix.IndexType.number in
    let graph = g.S.EdgeSource.graph c.self-inside.inside.0.0.store in
    let view = ap (λ i. i.guarded) c.self-inside.view_is ∙ c.self.view_is in
    IfOk-weaker c.descendants-found.result _ _ (λ found paid.
    let at = map number found.items in
    let is : edges_from c.new-reversed.result.graph at ≡ edges_into c.args.self.now.graph at =
    ap (λ s. edges_from s.graph at) c.new-reversed.ensures ∙ edges_turned graph at
    ∙ ap (λ z. edges_into z at) (same_graph view) in
    taken g (goal.at.returns-clause-visited g c).After-count_looks is paid) c.descendants-found.ensures.visited
