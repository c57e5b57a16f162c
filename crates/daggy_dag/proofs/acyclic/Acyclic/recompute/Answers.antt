use Rattle.std.proofs.Common.{ℕ, List, subst, Contains}
use Rattle.daggy_order.proofs.OrderLaws.{acyclic_from_order}
use Rattle.daggy_dag.proofs.Recomputed.{recomputed_kept}
use Rattle.daggy_dag.proofs.acyclic.Acyclic.recompute.Goals.{After-recompute_nodes}
use Rattle.daggy_dag.proofs.acyclic.Acyclic.recompute.Goals as goal

pub invariant_of-self-inside : goal.invariant_of-self-inside
invariant_of-self-inside g c =
    recomputed_kept g.S.EdgeSource.graph g.Ix.IndexType.of (goal.F-post g) c.args.f _ _ _ _ _ c.self-inside.invariant (λ n has.
    let P : List ℕ → Type 0 = λ z. Contains z n in
    (c.self-inside.invariant.0.exact n).0 (subst P c.nodes.ensures.rest has)) c.recompute_nodes.ensures.written

pub returns-clause-acyclic : goal.returns-clause-acyclic
returns-clause-acyclic g c = acyclic_from_order c.self-inside.inside.0.0.order (invariant_of-self-inside g (goal.at.returns-clause-acyclic g c).After-recompute_nodes).0
