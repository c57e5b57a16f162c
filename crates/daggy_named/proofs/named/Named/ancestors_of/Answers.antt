use Rattle.std.proofs.Common.{◌≡◌, ◌∙◌, ◌∷◌, [], map, ap, sym, subst}
use Rattle.daggy_base.specs.Graph.{HasNode}
use Rattle.daggy_reduction.proofs.OrderedParts.{joined_exist}
use Rattle.daggy_reduction.specs.Descendants.{IsDescendantOf, IsAncestorOfAny, IsOrderOfPart}
use Rattle.daggy_named.proofs.NamedNodes.{each_number, order_to_one, part_exists}
use Rattle.daggy_named.proofs.named.Named.ancestors_of.Given.{Over}
use Rattle.daggy_named.proofs.named.Named.ancestors_of.Goals.{In_ok-nodes}
use Rattle.daggy_named.proofs.named.Named.ancestors_of.Goals as goal

-- what was found, in the graph of the dag
part : (g : Over) (c : In_ok-nodes g)
    → IsOrderOfPart c.args.self.now.graph (λ m. IsDescendantOf c.args.self.now.graph m (g.Ix.IndexType.number c.in-Some.n))
    (map g.Ix.IndexType.number c.in_ok-nodes.nodes.items)
part g c =
    let number = g.Ix.IndexType.number in
    let at = map number c.in_ok-nodes.nodes.items in
    let paths = c.in_ok-paths.paths in
    let given : map number c.as_slice.result.now ≡ number c.in-Some.n ∷ [] =
    ap (map number) c.as_slice.ensures.value ∙ c.in_ok-given.ensures in
    let same : paths.graph ≡ c.args.self.now.graph =
    ap (λ z. z.graph) c.in_ok-paths.ensures ∙ ap (λ z. z.graph) c.self.view_is in
    order_to_one c.args.self.now.graph (number c.in-Some.n)
    (subst (λ z. IsOrderOfPart z (IsAncestorOfAny z (number c.in-Some.n ∷ [])) at) same
    (subst (λ xs. IsOrderOfPart paths.graph (IsAncestorOfAny paths.graph xs) at) given c.in_ok-nodes.ensures.found))

pub keys_of-requires : goal.keys_of-requires
keys_of-requires g c =
    let graph = c.args.self.now.graph in
    let nodes = map g.Ix.IndexType.number c.in_ok-nodes.nodes.items in
    rw c.as_slice-2.ensures.value (each_number (HasNode graph) g.Ix.IndexType.number c.in_ok-nodes.nodes.items
    (part_exists graph nodes (λ m d. (joined_exist g.Ix.IndexType.greatest graph c.node_count-count.ensures.dag.well_formed m d.0 d.1).0) (part g (goal.at.keys_of-requires g c).In_ok-nodes)))

pub returns-clause-found : goal.returns-clause-found
returns-clause-found g c = (
  g.Ix.IndexType.number c.in-Some.n,
  sym c.in-Some.ensures.found,
  (
    map g.Ix.IndexType.number c.in_ok-nodes.nodes.items,
    rw (← c.as_slice-2.ensures.value) c.in_ok-keys_of.ensures,
    part g (goal.at.returns-clause-found g c).In_ok-nodes,
  ),
)
