use Rattle.std.proofs.Common.{◌∷◌, map, inl, inr, arith, sym, subst, ◌∙◌}
use Rattle.std.specs.List.Sorted.{IsPermutation}
use Rattle.std.proofs.lemmas.List.Sorted.{IsPermutation-map, Contains-permutation, length_permutation}
use Rattle.daggy_base.proofs.Lists.{Contains-cases}
use Rattle.daggy_computed.specs.Cells.{IsStaleAt}
use Rattle.daggy_computed.proofs.Heaped.{heap_least}
use Rattle.daggy_computed.proofs.refreshing.first_stale.Goals as goal

pub returns-then-is_stale-clause-first : goal.returns-then-is_stale-clause-first
returns-then-is_stale-clause-first g c = λ m s.
    let some = c.in-Some.ensures.some in
    heap_least g.Ix.IndexType.number c.args.order.now c.nodes.queue.nodes c.in-Some.n some.0 some.1 c.nodes.invariant.heap m
    (c.nodes.invariant.waits m s)

pub nodes-smaller : goal.nodes-smaller
nodes-smaller g c =
    let n = c.in-Some.n in
    let old = c.nodes.queue.nodes in
    let now = c.pop.new.self.nodes in
    let moved = subst (λ z. IsPermutation old (z ∷ now)) (sym c.in-Some.ensures.some.1) (c.pop.ensures.taken n) in
    omega (arith, length_permutation old (n ∷ now) moved)

pub nodes-preserved : goal.nodes-preserved
nodes-preserved g c =
    let number = g.Ix.IndexType.number in
    let n = c.in-Some.n in
    let old = c.nodes.queue.nodes in
    let now = c.pop.new.self.nodes in
    let moved = subst (λ z. IsPermutation old (z ∷ now)) (sym c.in-Some.ensures.some.1) (c.pop.ensures.taken n) in
    record {
      heap = c.pop.ensures.heap;
      waits = λ m s. elim (Contains-cases (number n) m (map number now)
          (Contains-permutation (map number old) (map number (n ∷ now)) m (IsPermutation-map number old (n ∷ now) moved)
          (c.nodes.invariant.waits m s))) [
            | inl here ↦ (
                let t : IsStaleAt c.args.entries.now c.index.result =
                subst (IsStaleAt c.args.entries.now) (sym here ∙ sym c.index.ensures.value) s in
                let on = c.is_stale.ensures.1 t in
                absurd cc
                )
            | inr rest ↦ rest
          ];
      slots = c.pop.ensures.slots ∙ c.nodes.invariant.slots;
    }
