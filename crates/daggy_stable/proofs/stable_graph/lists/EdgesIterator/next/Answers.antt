use Rattle.std.proofs.Common.{◌≡◌, ◌∷◌, ◌<◌, Some, IsSome, length, get_or, sym, ap, subst, ◌∙◌, arith, rules}
use Rattle.daggy_cells.specs.Referring.{referred}
use Rattle.daggy_stable.specs.Rest.{numbered_edge, edges_left}
use Rattle.daggy_stable.specs.Stored.{plain_edge}
use Rattle.daggy_stable.proofs.RestOfList.{left_past, weight_there, IsOnFullList-step, left_step}
use Rattle.daggy_stable.proofs.stable_graph.lists.EdgesIterator.next.Goals as goal

pub returns-then-i-self-clause-steps : goal.returns-then-i-self-clause-steps
returns-then-i-self-clause-steps g c =
    let none =
    sym c.self.view_is
    ∙ left_past c.self.inside.dir c.self.inside.edges.now c.self.inside.next
    (omega (arith, c.if-i-self.true, c.index-i.ensures.value)) in
    (none, none)

pub reference-requires : goal.reference-requires
reference-requires g c =
    let within : c.self.inside.next < length c.self.inside.edges.now =
    omega (arith, c.if-i-self.false, c.index-i.ensures.value) in
    let reads = rw c.index-i.ensures.value at c.index-self-i.is in
    subst (λ x. IsSome x.weight) c.index-self-i.is (weight_there c.self.inside.dir c.self.inside.edges.now
    g.Ix.IndexType.greatest c.self.inside.next c.index-self-i.result within reads c.self.invariant)

pub invariant_of-self : goal.invariant_of-self
invariant_of-self g c =
    let within : c.self.inside.next < length c.self.inside.edges.now =
    omega (arith, c.if-i-self.false, c.index-i.ensures.value) in
    let reads = rw c.index-i.ensures.value at c.index-self-i.is in
    let next = rw (← c.index-self-i.is) at c.next-self-inside.ensures in
    rw next (IsOnFullList-step c.self.inside.dir c.self.inside.edges.now g.Ix.IndexType.greatest c.self.inside.next
    c.index-self-i.result within reads c.self.invariant)

pub returns-clause-steps : goal.returns-clause-steps
returns-clause-steps g c =
    let within : c.self.inside.next < length c.self.inside.edges.now =
    omega (arith, c.if-i-self.false, c.index-i.ensures.value) in
    let reads = rw c.index-i.ensures.value at c.index-self-i.is in
    let next = rw (← c.index-self-i.is) at c.next-self-inside.ensures in
    let at : numbered_edge c.self.inside.next (plain_edge c.index-self-i.result)
    ≡ Some (referred g.Ix.IndexType.number c.reference.result) =
    ap (λ x. numbered_edge c.self.inside.next (plain_edge x)) c.index-self-i.is
    ∙ ap (λ i. numbered_edge i (plain_edge (get_or c.self.inside.edges.now c.index-i.result c.index-self-i.result)))
    (sym c.edge.ensures.value)
    ∙ c.reference.ensures in
    sym c.self.view_is
    ∙ left_step c.self.inside.dir c.self.inside.edges.now g.Ix.IndexType.greatest c.self.inside.next
    c.index-self-i.result within reads c.self.invariant (referred g.Ix.IndexType.number c.reference.result) at
    ∙ ap
    (λ n. referred g.Ix.IndexType.number c.reference.result ∷ edges_left c.self.inside.dir c.self.inside.edges.now n)
    (sym next)

pub returns-clause-goes : goal.returns-clause-goes
returns-clause-goes g c = let steps = returns-clause-steps g c in search (rules, steps)
