use Rattle.std.proofs.Common.{◌≡◌, ◌++◌, ◌∷◌, [], map, sym, ap, subst, ◌∙◌}
use Rattle.std.proofs.lemmas.List.{map-append}
use Rattle.daggy_reduction.specs.Descendants.{IsAncestorOfAny, IsOrderOfPart}
use Rattle.daggy_computed.proofs.Ancestry.{Needs, needed_part}
use Rattle.daggy_computed.proofs.needed.needed_nodes.Goals as goal

pub returns-clause-found : goal.returns-clause-found
returns-clause-found g c =
    let number = g.Ix.IndexType.number in
    let n = c.args.n in
    let graph = c.args.dag.now.graph in
    let order = c.order-order.result.now in
    let above = c.in_ok-nodes.nodes.items in
    let given : map number c.as_slice.result.now ≡ number n ∷ [] =
    ap (map number) (c.as_slice.ensures.value ∙ (c.in_ok-push.ensures.items ∙ ap (λ z. z ++ n ∷ []) c.new-only.ensures.items)) in
    let part : IsOrderOfPart graph (IsAncestorOfAny graph (number n ∷ [])) (map number above) =
    subst (λ z. IsOrderOfPart graph (IsAncestorOfAny graph z) (map number above)) given c.in_ok-nodes.ensures.found in
    subst (IsOrderOfPart graph (Needs graph order c.order-order.ensures (number n)))
    (sym (ap (map number) c.in_ok-push-2.ensures.items ∙ map-append number above (n ∷ [])))
    (needed_part graph order c.order-order.ensures (number n) (map number above) part)
