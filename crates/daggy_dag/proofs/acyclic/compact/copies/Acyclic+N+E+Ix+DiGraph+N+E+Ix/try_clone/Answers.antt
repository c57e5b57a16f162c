use Rattle.daggy_base.proofs.Copies.{copies_same}
use Rattle.daggy_dag.proofs.Mapped.{copies_acyclic}
use Rattle.daggy_dag.proofs.acyclic.compact.copies.Acyclic+N+E+Ix+DiGraph+N+E+Ix.try_clone.Goals as goal

pub returns-clause-same_if_clones_equal : goal.returns-clause-same_if_clones_equal
returns-clause-same_if_clones_equal g c =
    copies_same g.N.Clone.is_clone g.E.Clone.is_clone c.args.self.now c.clone.result _ c.clone.ensures.cases

pub returns-clause-acyclic : goal.returns-clause-acyclic
returns-clause-acyclic g c =
    copies_acyclic g.N.Clone.is_clone g.E.Clone.is_clone c.args.self.now c.clone.result _ c.clone.ensures.cases
    c.node_count-acyclic.ensures.dag.acyclic
