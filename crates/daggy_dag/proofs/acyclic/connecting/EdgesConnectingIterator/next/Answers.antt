use Rattle.std.proofs.Common.{rules, ◌≡◌, ◌∷◌, length, sym, ap, ◌∙◌, arith}
use Rattle.daggy_base.specs.declared.index.Direction.TheVariants.{Outgoing}
use Rattle.daggy_base.specs.Graph.{edge_at}
use Rattle.daggy_cells.specs.Referring.{referred}
use Rattle.daggy_base.specs.Cursor.{cursor_after}
use Rattle.daggy_dag.specs.Connecting.{connecting_from}
use Rattle.daggy_dag.specs.Walks.{rest_of_walk}
use Rattle.daggy_dag.proofs.ConnectingEdges.{edge_there, weight_there, same_edge, taken, passed, walked}
use Rattle.daggy_dag.proofs.acyclic.connecting.EdgesConnectingIterator.next.Goals as goal

pub returns-then-index-clause-steps : goal.returns-then-index-clause-steps
returns-then-index-clause-steps g c =
    let number = g.Ix.IndexType.number in
    let end = g.Ix.IndexType.greatest in
    let from = c.self.inside in
    let at = c.along.self-inside in
    let graph = g.S.EdgeSource.graph from.store.now in
    let e = number at.next in
    let v = number from.child in
    let next = number c.next_edge-self-inside.result in
    let same : g.S.EdgeSource.graph at.store.now ≡ graph = ap (λ s. g.S.EdgeSource.graph s.now) c.along.invariant.store in
    let (x, here, parent, child) = edge_there same e (number c.in-Some.ends.0, number c.in-Some.ends.1) c.in-Some.ensures in
    let next_is = c.next_edge-self-inside.ensures ∙ ap (λ z. cursor_after Outgoing end z e (edge_at z e)) same in
    let leads : x.child ≡ v =
    sym child ∙ (sym c.index.ensures.value ∙ (c.if-index.true ∙ (c.index-in-Some.ensures.value
    ∙ ap number c.along.invariant.child))) in
    let weight = weight_there same e x here c.in_ok-weight.weight.now c.in_ok-weight.ensures in
    sym c.self.view_is
    ∙ (c.along.invariant.same
    ∙ (taken end graph c.invariant.ensures.well_formed v e x here next next_is leads
    ∙ (ap (λ z. (e, z) ∷ connecting_from graph next v) (same_edge x _ _ _ parent child weight)
    ∙ (ap (λ z. z ∷ connecting_from graph next v) (sym c.from_parts.ensures)
    ∙ ap (λ l. referred number c.from_parts.result ∷ l)
    (ap (λ s. connecting_from (g.S.EdgeSource.graph s.now) next v) (sym c.along.invariant.store)
    ∙ ap (λ k. connecting_from (g.S.EdgeSource.graph at.store.now) next (number k)) (sym c.along.invariant.child))))))

pub returns-then-index-clause-goes : goal.returns-then-index-clause-goes
returns-then-index-clause-goes g c = let steps = returns-then-index-clause-steps g c in search (rules, steps)

pub along-smaller : goal.along-smaller
along-smaller g c =
    let number = g.Ix.IndexType.number in
    let end = g.Ix.IndexType.greatest in
    let at = c.along.self-inside in
    let graph = g.S.EdgeSource.graph c.self.inside.store.now in
    let e = number at.next in
    let next = number c.next_edge-self-inside.result in
    let same : g.S.EdgeSource.graph at.store.now ≡ graph = ap (λ s. g.S.EdgeSource.graph s.now) c.along.invariant.store in
    let (x, here, parent, child) = edge_there same e (number c.in-Some.ends.0, number c.in-Some.ends.1) c.in-Some.ensures in
    let next_is = c.next_edge-self-inside.ensures ∙ ap (λ z. cursor_after Outgoing end z e (edge_at z e)) same in
    let step = walked end graph c.invariant.ensures.well_formed (number c.self.inside.child) e x here next next_is in
    omega (
      arith,
      ap length step,
      ap (λ z. length (rest_of_walk Outgoing z e)) same,
      ap (λ z. length (rest_of_walk Outgoing z next)) same,
    )

pub along-preserved : goal.along-preserved
along-preserved g c =
    let number = g.Ix.IndexType.number in
    let end = g.Ix.IndexType.greatest in
    let at = c.along.self-inside in
    let graph = g.S.EdgeSource.graph c.self.inside.store.now in
    let e = number at.next in
    let v = number c.self.inside.child in
    let next = number c.next_edge-self-inside.result in
    let same : g.S.EdgeSource.graph at.store.now ≡ graph = ap (λ s. g.S.EdgeSource.graph s.now) c.along.invariant.store in
    let (x, here, parent, child) = edge_there same e (number c.in-Some.ends.0, number c.in-Some.ends.1) c.in-Some.ensures in
    let next_is = c.next_edge-self-inside.ensures ∙ ap (λ z. cursor_after Outgoing end z e (edge_at z e)) same in
    record {
      store = c.along.invariant.store;
      child = c.along.invariant.child;
      same = c.along.invariant.same ∙ passed end graph c.invariant.ensures.well_formed v e x here next next_is (λ h.
          c.if-index.false (c.index.ensures.value ∙ (child ∙ (h ∙ (ap number (sym c.along.invariant.child)
          ∙ sym c.index-in-Some.ensures.value)))));
    }
