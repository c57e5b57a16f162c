use Rattle.std.proofs.Common.{◌≡◌, ◌∙◌, ℕ, Ok, map, ap, sym, subst}
use Rattle.std.specs.Option.{IfSome}
use Rattle.daggy_base.specs.Graph.{HasNode}
use Rattle.daggy_base.specs.Path.{Reaches}
use Rattle.daggy_order.specs.Paths.{IsShortestPath}
use Rattle.daggy_named.specs.Asked.{AreKeysOf}
use Rattle.daggy_named.proofs.Depended.{for_nodes, from_nodes}
use Rattle.daggy_named.proofs.NamedNodes.{each_number, shortest_exists}
use Rattle.daggy_named.proofs.named.Named.path.Given.{Over}
use Rattle.daggy_named.proofs.named.Named.path.Goals.{After-as_slice}
use Rattle.daggy_named.proofs.named.Named.path.Goals as goal

-- the path that was found, in the graph of the dag
shortest : (g : Over) (c : After-as_slice g)
    → IsShortestPath c.args.self.now.graph (g.Ix.IndexType.number c.in-Some.from)
    (g.Ix.IndexType.number c.in-Some-index_of.to) (map g.Ix.IndexType.number c.in-Some-2.nodes.items)
shortest g c =
    let number = g.Ix.IndexType.number in
    let u = number c.in-Some.from in
    let v = number c.in-Some-index_of.to in
    let same : c.in_ok-paths.paths.graph ≡ c.args.self.now.graph =
    ap (λ z. z.graph) c.in_ok-paths.ensures ∙ ap (λ z. z.graph) c.self.view_is in
    subst (λ z. IsShortestPath z u v (map number c.in-Some-2.nodes.items)) same
    (subst (λ o. IfSome o (λ path. IsShortestPath c.in_ok-paths.paths.graph u v (map number path.items))) c.in-Some-2.is
    c.in_ok-nodes.ensures.path)

pub returns-in_default-2-clause-none : goal.returns-in_default-2-clause-none
returns-in_default-2-clause-none g c at =
    let s = c.args.self.now in
    let a = g.Q.Equivalent.equivalent c.args.a in
    let b = g.Q.Equivalent.equivalent c.args.b in
    let u = g.Ix.IndexType.number c.in-Some.from in
    let v = g.Ix.IndexType.number c.in-Some-index_of.to in
    let P : ℕ → ℕ → Type 0 = λ u v. Reaches s.graph u v in
    let same : c.in_ok-paths.paths.graph ≡ s.graph =
    ap (λ z. z.graph) c.in_ok-paths.ensures ∙ ap (λ z. z.graph) c.self.view_is in
    c.in_ok-nodes.ensures.none.0 (ap Ok c.in_default-2.is) (subst (λ z. Reaches z u v) (sym same)
    (from_nodes a b s.keys P c.in-Some.ensures.found c.in-Some-index_of.ensures.found at))

pub keys_of-requires : goal.keys_of-requires
keys_of-requires g c =
    let number = g.Ix.IndexType.number in
    let graph = c.args.self.now.graph in
    rw c.as_slice.ensures.value (each_number (HasNode graph) number c.in-Some-2.nodes.items
    (shortest_exists graph _ _ _ (shortest g (goal.at.keys_of-requires g c).After-as_slice)))

pub returns-clause-path : goal.returns-clause-path
returns-clause-path g c =
    let s = c.args.self.now in
    let a = g.Q.Equivalent.equivalent c.args.a in
    let b = g.Q.Equivalent.equivalent c.args.b in
    let found = map (λ k. k.now) c.in_ok-keys_of.field-0.items in
    let P : ℕ → ℕ → Type 0 = λ u v. AreKeysOf s.keys (IsShortestPath s.graph u v) found in
    for_nodes a b s.keys P c.in-Some.ensures.found c.in-Some-index_of.ensures.found (
      map g.Ix.IndexType.number c.in-Some-2.nodes.items,
      rw (← c.as_slice.ensures.value) c.in_ok-keys_of.ensures,
      shortest g (goal.at.returns-clause-path g c).After-as_slice,
    )
