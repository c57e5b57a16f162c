use Rattle.std.proofs.Common.{◌≡◌, ◌++◌, ◌∷◌, [], ◌↔◌, ◌∙◌, ℕ, List, Contains, map, sym, ap, subst}
use Rattle.std.proofs.lemmas.Bool.{false≢true}
use Rattle.std.proofs.lemmas.List.{map-append}
use Rattle.daggy_base.specs.Graph.{Graph}
use Rattle.daggy_base.specs.Path.{Reaches}
use Rattle.daggy_reduction.specs.Descendants.{IsAncestorOfAny}
use Rattle.daggy_operators.proofs.CommonAncestors.{reaching, none_reach}
use Rattle.daggy_operators.proofs.common.nodes_reaching.Goals as goal

pub returns-then-not-contains_node : goal.returns-then-not-contains_node
returns-then-not-contains_node g c n =
    let graph = c.args.dag.now.graph in
    let P : List _ → Type 0 = λ z. Contains (map g.Ix.IndexType.number z) n ↔ Reaches graph n (g.Ix.IndexType.number c.args.a) in
    subst P (sym c.new.ensures.items)
    (none_reach graph c.node_count-count.ensures.dag.well_formed.parents (g.Ix.IndexType.number c.args.a) n
    (λ has. absurd (false≢true (sym c.if-not-contains_node.true ∙ c.contains_node.ensures.1 has))))

pub returns : goal.returns
returns g c n =
    let graph = c.args.dag.now.graph in
    let number = g.Ix.IndexType.number in
    let a = number c.args.a in
    let found = map number c.in_ok-nodes.nodes.items in
    let given : map number c.as_slice.result.now ≡ a ∷ [] =
    ap (λ z. map number z) (c.as_slice.ensures.value ∙ c.in_ok-push.ensures.items ∙ ap (λ z. z ++ c.args.a ∷ []) c.new-given.ensures.items) in
    let At : Graph _ _ → Type 0 = λ z. (m : ℕ) → Contains found m ↔ IsAncestorOfAny z (map number c.as_slice.result.now) m in
    let Of : List ℕ → Type 0 = λ z. (m : ℕ) → Contains found m ↔ IsAncestorOfAny graph z m in
    let exact : Of (a ∷ []) =
    subst Of given (subst At (ap (λ z. z.graph) c.in_ok-paths.ensures) c.in_ok-nodes.ensures.found.exact) in
    let is : map number c.push-2.new.self.items ≡ found ++ a ∷ [] =
    ap (λ z. map number z) c.in_ok-push-2.ensures.items ∙ map-append number c.in_ok-nodes.nodes.items (c.args.a ∷ []) in
    let P : List ℕ → Type 0 = λ z. Contains z n ↔ Reaches graph n a in
    subst P (sym is) (reaching graph c.node_count-count.ensures.dag.well_formed.parents a found
    (c.contains_node.ensures.0 c.if-not-contains_node.false) exact n)
