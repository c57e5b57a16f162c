use Rattle.std.proofs.Common.{◌∷◌, ◌<◌, length, sym, ap, ◌∙◌, arith, rules}
use Rattle.daggy_cells.specs.Raw.{raw_next}
use Rattle.daggy_cells.specs.Referring.{referred}
use Rattle.daggy_cells.specs.Fields.{plain}
use Rattle.daggy_cells.specs.Rest.{edges_left}
use Rattle.daggy_cells.proofs.RestLemmas.{edges_past, IsOnList-step, at_index, edges_step}
use Rattle.daggy_graph.proofs.graph.lists.EdgesIterator.next.Goals as goal

pub returns-then-i-self-clause-steps : goal.returns-then-i-self-clause-steps
returns-then-i-self-clause-steps g c =
    let none =
    sym c.self.view_is
    ∙ edges_past g.Ix.IndexType.greatest c.self.inside.dir c.self.inside.edges.now c.self.inside.next
    (omega (arith, c.if-i-self.true, c.index-i.ensures.value)) in
    (none, none)

pub invariant_of-self : goal.invariant_of-self
invariant_of-self g c =
    let within : c.self.inside.next < length c.self.inside.edges.now =
    omega (arith, c.if-i-self.false, c.index-i.ensures.value) in
    let reads = rw c.index-i.ensures.value at c.index-self-i.is in
    let next = rw (← c.index-self-i.is) at c.next-self-inside.ensures in
    rw next (IsOnList-step _ _ _ _ c.index-self-i.result within reads c.self.invariant)

pub returns-clause-steps : goal.returns-clause-steps
returns-clause-steps g c =
    let within : c.self.inside.next < length c.self.inside.edges.now =
    omega (arith, c.if-i-self.false, c.index-i.ensures.value) in
    let reads = rw c.index-i.ensures.value at c.index-self-i.is in
    let next = rw (← c.index-self-i.is) at c.next-self-inside.ensures in
    let rest = edges_left c.self.inside.dir c.self.inside.edges.now in
    sym c.self.view_is
    ∙ edges_step g.Ix.IndexType.greatest c.self.inside.dir c.self.inside.edges.now c.self.inside.next
    c.index-self-i.result within reads c.self.invariant
    ∙ ap (λ x. at_index c.self.inside.next (plain x) ∷ rest (raw_next c.self.inside.dir c.index-self-i.result))
    c.index-self-i.is
    ∙ ap (λ p. p ∷ rest (raw_next c.self.inside.dir c.index-self-i.result)) (sym c.reference.ensures)
    ∙ ap (λ n. referred g.Ix.IndexType.number c.reference.result ∷ rest n) (sym next)

pub returns-clause-goes : goal.returns-clause-goes
returns-clause-goes g c = let steps = returns-clause-steps g c in search (rules, steps)
