use Rattle.std.proofs.Common.{sym, ◌∙◌}
use Rattle.std.proofs.lemmas.Bool.{false≢true}
use Rattle.daggy_base.proofs.PathEnds.{path_begins, reached_exists}
use Rattle.daggy_dag.proofs.acyclic.Acyclic.try_add_edge.Goals.{then-not-contains_node-via-then-not-contains_node}
use Rattle.daggy_dag.proofs.acyclic.Acyclic.try_add_edge.Goals.{
  then-not-contains_node-via-else-not-contains_node+then-not-contains_node-2,
}
use Rattle.daggy_dag.proofs.acyclic.Acyclic.try_add_edge.Goals as goal

pub returns-then-not-contains_node-clause-cycle : goal.returns-then-not-contains_node-clause-cycle
returns-then-not-contains_node-clause-cycle g c = (
  λ h. absurd cc,
  λ p.
      let graph = c.args.self.now.graph in
      elim c.then-not-contains_node.branch [
        | then-not-contains_node-via-then-not-contains_node w ↦
            absurd (false≢true (sym w.if-not-contains_node.true
            ∙ c.contains_node.ensures.1 (reached_exists graph _ _ p.0)))
        | then-not-contains_node-via-else-not-contains_node+then-not-contains_node-2 w ↦
            absurd (false≢true (sym w.if-not-contains_node-2.true
            ∙ w.contains_node-else-not-contains_node.ensures.1 (path_begins graph _ p.0.0 p.0.1)))
      ],
)
