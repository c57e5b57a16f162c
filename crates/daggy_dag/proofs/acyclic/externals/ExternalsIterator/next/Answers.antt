use Rattle.std.proofs.Common.{rules, ◌≡◌, ◌<◌, ◌+◌, ◌∷◌, length, true, false, sym, ap, ◌∙◌, arith}
use Rattle.daggy_base.specs.Externals.{is_external, externals_from}
use Rattle.daggy_dag.proofs.Externals.{taken, passed}
use Rattle.daggy_dag.proofs.acyclic.externals.ExternalsIterator.next.Goals as goal

pub returns-then-is_external-clause-steps : goal.returns-then-is_external-clause-steps
returns-then-is_external-clause-steps g c =
    let from = c.self.inside in
    let at = c.along.self-inside in
    let graph = g.S.EdgeSource.graph from.store.now in
    let store = c.along.invariant.store in
    let direction = c.along.invariant.direction in
    let number = c.new-n.ensures.number in
    let test = c.if-is_external.ensures in
    let within : at.next < length graph.nodes = omega (arith, c.along-test.true, c.node_slots-slots.ensures) in
    let is : is_external from.direction graph at.next ≡ true = cc in
    let moved : externals_from from.direction graph (at.next + 1)
    ≡ externals_from at.direction (g.S.EdgeSource.graph at.store.now) (at.next + 1) =
    cc in
    sym c.self.view_is
    ∙ c.along.invariant.same
    ∙ taken from.direction graph at.next within is
    ∙ ap (λ k. k ∷ externals_from from.direction graph (at.next + 1)) (sym number)
    ∙ ap (λ rest. g.Ix.IndexType.number c.new-n.result ∷ rest) moved

pub returns-then-is_external-clause-goes : goal.returns-then-is_external-clause-goes
returns-then-is_external-clause-goes g c = let steps = returns-then-is_external-clause-steps g c in
    search (rules, steps)

pub along-preserved : goal.along-preserved
along-preserved g c =
    let from = c.self.inside in
    let at = c.along.self-inside in
    let graph = g.S.EdgeSource.graph from.store.now in
    let store = c.along.invariant.store in
    let direction = c.along.invariant.direction in
    let number = c.new-n.ensures.number in
    let test = c.if-is_external.ensures in
    let within : at.next < length graph.nodes = omega (arith, c.along-test.true, c.node_slots-slots.ensures) in
    let isnt : is_external from.direction graph at.next ≡ false = cc in
    record {
      store = store;
      direction = direction;
      same = c.along.invariant.same ∙ passed from.direction graph at.next within isnt;
    }
