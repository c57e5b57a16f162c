use Rattle.std.proofs.Common.{sym, subst, ◌∙◌}
use Rattle.std.proofs.lemmas.Bool.{false≢true}
use Rattle.daggy_base.specs.WellFormed.{IsWellFormed}
use Rattle.daggy_base.proofs.PathEnds.{path_begins, reached_exists}
use Rattle.daggy_guard.proofs.GuardedChange.{same_graph}
use Rattle.daggy_dag.proofs.Found.{none_found}
use Rattle.daggy_dag.proofs.acyclic.Acyclic.try_update_edge.Goals.{then-not-contains_node-via-then-not-contains_node}
use Rattle.daggy_dag.proofs.acyclic.Acyclic.try_update_edge.Goals.{
  then-not-contains_node-via-else-not-contains_node+then-not-contains_node-2,
}
use Rattle.daggy_dag.proofs.acyclic.Acyclic.try_update_edge.Goals as goal

pub returns-then-not-contains_node-clause-cycle : goal.returns-then-not-contains_node-clause-cycle
returns-then-not-contains_node-clause-cycle g c = (
  λ h. absurd cc,
  λ p.
      let graph = c.args.self.now.graph in
      elim c.then-not-contains_node.branch [
        | then-not-contains_node-via-then-not-contains_node w ↦
            absurd (false≢true (sym w.if-not-contains_node.true
            ∙ c.contains_node.ensures.1 (reached_exists graph _ _ p.0)))
        | then-not-contains_node-via-else-not-contains_node+then-not-contains_node-2 w ↦
            absurd (false≢true (sym w.if-not-contains_node-2.true
            ∙ w.contains_node-else-not-contains_node.ensures.1 (path_begins graph _ p.0.0 p.0.1)))
      ],
)

pub returns-then-not-contains_node-clause-replaced : goal.returns-then-not-contains_node-clause-replaced
returns-then-not-contains_node-clause-replaced g c =
    let end = g.Ix.IndexType.greatest in
    let w = subst (λ z. IsWellFormed end z) (same_graph c.self.view_is) c.invariant.ensures.dag.well_formed in
    none_found c.args.self.now.graph _ _ _ w (λ a b.
    elim c.then-not-contains_node.branch [
      | then-not-contains_node-via-then-not-contains_node v ↦
          absurd (false≢true (sym v.if-not-contains_node.true ∙ c.contains_node.ensures.1 a))
      | then-not-contains_node-via-else-not-contains_node+then-not-contains_node-2 v ↦
          absurd (false≢true (sym v.if-not-contains_node-2.true
          ∙ v.contains_node-else-not-contains_node.ensures.1 b))
    ])
