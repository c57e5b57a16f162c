use Rattle.std.proofs.Common.{ℕ, List, length, sym, ap, subst, ◌∙◌, arith}
use Rattle.daggy_base.specs.Ordered.{IsOrderOf}
use Rattle.daggy_guard.proofs.GuardedChange.{same_graph}
use Rattle.daggy_dag.proofs.acyclic.Acyclic.copied_parts.Goals as goal

pub returns-clause-ordered : goal.returns-clause-ordered
returns-clause-ordered g c =
    let graph = g.S.EdgeSource.graph c.self-inside.inside.0.0.store in
    let P : List ℕ → Type 0 = λ z. IsOrderOf graph z in
    rw (← same_graph (ap (λ i. i.guarded) c.self-inside.view_is ∙ c.self.view_is))
    (subst P (sym {A = List ℕ} c.in_ok-order.ensures) c.self-inside.invariant.0)

pub returns-clause-fits : goal.returns-clause-fits
returns-clause-fits g c =
    omega (
      arith,
      ap (λ h. length h.nodes) (same_graph (ap (λ i. i.guarded) c.self-inside.view_is ∙ c.self.view_is)),
      c.node_slots.ensures,
      c.in_ok-scratch.ensures,
    )
